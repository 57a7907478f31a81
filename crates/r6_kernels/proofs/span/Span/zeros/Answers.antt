use Rattle.std.proofs.Common.{◌+◌}
use Rattle.r6_kernels.proofs.span.Span.zeros.Goals as goal

pub returns : goal.returns
returns c at = record { near = c.splat.ensures at; far = c.splat-2.ensures (at + 128) }
