use Rattle.std.proofs.Common.{◌≡◌, ℕ, ◌<◌, true}
use Rattle.r6_health.specs.Registers.{state_at}
use Rattle.r6_health.specs.Slots.{is_in_sync}
use Rattle.r6_shard.proofs.shard.has_out.Given as goal

abbrev pub invariant-loop-slot : goal.invariant-loop-slot
invariant-loop-slot l = (other : ℕ) → other < l.slot → is_in_sync (state_at l.fn.snapshot other) ≡ true
