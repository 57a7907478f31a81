use Rattle.std.proofs.Common.{◌≡◌, ℕ, ◌<◌}
use Rattle.r6_health.specs.declared.slots.SlotState.TheVariants.{InSync}
use Rattle.r6_health.specs.Registers.{state_at}
use Rattle.r6_shard.proofs.shard.has_other.Given as goal

abbrev pub invariant-loop-slot : goal.invariant-loop-slot
invariant-loop-slot l = (other : ℕ) → other < l.slot → state_at l.fn.snapshot other ≡ InSync 0
