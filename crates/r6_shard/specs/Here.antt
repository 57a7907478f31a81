-- That the parts which a shard uses are here, whatever they promise (this project's own).
use Rattle.std.specs.Prelude.{◌≡◌, ℕ, ◌<◌, List, true}
use Rattle.r6_world.specs.Registers.{Snapshot, is_in_sync, status_of}
use Rattle.r6_core.specs.Shards.{CoreView, world_shard}
use Rattle.r6_shard.specs.declared.performs.Performs.{Ghosts}
use Rattle.r6_shard.specs.declared.shard.Shard.{Shard}
use Rattle.r6_shard.specs.Uses.{UsesOnly}
use Rattle.r6_shard.specs.Performing.{IsHere}

-- the part of each device of this slot is here that the shard uses, or has given a command
abbrev pub HasUsed : (labels : List (ℕ × ℕ)) → (slot : ℕ) → CoreView → Type 0
HasUsed labels slot core = UsesOnly core.shape.slots (IsHere labels slot) slot (world_shard core)

-- it was so, and is so
abbrev pub StaysHere : {P : Type 0} {g : Ghosts P} → (old new : Shard P g) → Type 0
StaysHere {g = g} old new =
    (slot : ℕ) → HasUsed (g.performer old.parts).labels slot old.core
    → HasUsed (g.performer new.parts).labels slot new.core

-- at the start: unless the slot is lost, the part of its first device is here
abbrev pub BeginsHere : (labels : List (ℕ × ℕ)) → (slots : ℕ) → Snapshot → (slot : ℕ) → Type 0
BeginsHere labels slots snapshot slot =
    slot < slots → is_in_sync (status_of snapshot slot) ≡ true → IsHere labels slot 0
