use Rattle.std.proofs.Common.{ℕ, ◌<◌}
use Rattle.r6_health.specs.Registers.{state_at}
use Rattle.r6_shard.specs.New.{IsNew}
use Rattle.r6_engine.proofs.ending.has_any_new.Given as goal

abbrev pub invariant-loop-slot : goal.invariant-loop-slot
invariant-loop-slot l =
    (other generation : ℕ) → other < l.slot → IsNew (state_at l.fn.snapshot other) generation → ⊥
