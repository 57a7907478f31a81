use Rattle.r6_waiters.specs.Line.{entries_of}
use Rattle.r6_core.proofs.LetGo.{IsSorting, is_sorted_by}
use Rattle.r6_core.proofs.Scanned.{count_for}
use Rattle.r6_core.proofs.state.State.start_behind.Given as goal

abbrev pub invariant-loop-cause : goal.invariant-loop-cause
invariant-loop-cause l = IsSorting l.frame l.fn.self l.self

abbrev pub decreases-loop-cause : goal.decreases-loop-cause
decreases-loop-cause l = count_for (is_sorted_by l.frame) (entries_of l.self.waiting)
