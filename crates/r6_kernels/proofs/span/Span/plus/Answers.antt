use Rattle.std.proofs.Common.{◌+◌}
use Rattle.r6_kernels.proofs.span.Span.plus.Goals as goal

pub returns : goal.returns
returns c at f g self other = record {
  near = c.plus.ensures at f g self.near other.near;
  far = c.plus-2.ensures (at + 128) f g self.far other.far;
}
