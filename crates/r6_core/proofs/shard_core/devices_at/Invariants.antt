use Rattle.std.proofs.Common.{◌≡◌, ◌<◌, ◌≤◌, ℕ, length}
use Rattle.r6_world.specs.Registers.{InSync, status_of}
use Rattle.r6_world.specs.Worlds.{slot_at_start}
use Rattle.r6_core.specs.Shards.{devices_state}
use Rattle.r6_world.specs.ShardStates.{Missing}
use Rattle.r6_core.proofs.shard_core.devices_at.Given as goal

abbrev pub invariant-loop-slot : goal.invariant-loop-slot
invariant-loop-slot l =
    record {
      beyond : 0 < l.slot → (slot : ℕ) → 32 ≤ slot → status_of l.snapshot slot ≡ InSync 0;
      many : length l.devices ≡ 32;
      made : (slot : ℕ) → slot < l.slot → devices_state l.devices slot ≡ slot_at_start (status_of l.snapshot slot);
      ahead : (slot : ℕ) → l.slot ≤ slot → slot < 32 → devices_state l.devices slot ≡ Missing;
    }
