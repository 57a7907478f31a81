use Rattle.std.proofs.Common.{◌==◌}
use Rattle.r6_waiters.specs.Line.{entries_of}
use Rattle.r6_core.specs.Inside.{anything}
use Rattle.r6_core.proofs.Scanned.{IsScanned, count_for}
use Rattle.r6_core.proofs.state.State.start_unknown.Given as goal

abbrev pub invariant-loop-room : goal.invariant-loop-room
invariant-loop-room l = IsScanned l.fn.self l.self

abbrev pub decreases-loop-room : goal.decreases-loop-room
decreases-loop-room l = count_for (λ cause. cause == anything) (entries_of l.self.waiting)
