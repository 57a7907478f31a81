use Rattle.std.proofs.Common.{◌∙◌, length, ap}
use Rattle.r6_waiters.specs.Line.{entries_of}
use Rattle.r6_waiters.proofs.waiters.Waiters.len.Goals as goal

pub returns : goal.returns
returns g c = c.self.invariant.counted ∙ ap (λ v. length (entries_of v)) c.self.view_is
