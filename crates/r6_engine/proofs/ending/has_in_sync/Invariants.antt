use Rattle.std.proofs.Common.{ℕ, ◌<◌}
use Rattle.r6_engine.specs.Ending.{IsKept}
use Rattle.r6_engine.proofs.ending.has_in_sync.Given as goal

abbrev pub invariant-loop-slot : goal.invariant-loop-slot
invariant-loop-slot l = (other : ℕ) → other < l.slot → IsKept other l.snapshot l.core
