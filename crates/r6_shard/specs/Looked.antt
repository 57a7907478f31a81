-- What a shard knows by its last look at the register (this project's own).
use Rattle.std.specs.Prelude.{◌≡◌, ◌≢◌, ℕ, ◌<◌, ◌≤◌, ◌⊎◌}
use Rattle.r6_health.specs.declared.history.View.{View}
use Rattle.r6_health.specs.Histories.{held}
use Rattle.r6_world.specs.Registers.{Snapshot, Status, ShardSet, InSync, Lost, Rebuilding, Replacing, status_of}
use Rattle.r6_course.specs.Ends.{IsInUse}
use Rattle.r6_core.specs.Shards.{CoreView, world_shard}
use Rattle.r6_shard.specs.Uses.{UsesOnly}

-- the register as a pass saw it last
abbrev pub seen_by : View → Snapshot
seen_by v = held v.start v.seen

-- the slot has a device of this generation
abbrev pub HasDevice : Status → ℕ → Type 0
HasDevice (InSync current) generation = generation ≡ current
HasDevice Lost generation = ⊥
HasDevice (Rebuilding current reported) generation = generation ≡ current
HasDevice (Replacing old new reported) generation = (generation ≡ old) ⊎ (generation ≡ new)

-- each device has generation 0, or one that was given
abbrev pub IsNumbered : Snapshot → Type 0
IsNumbered snapshot =
    (slot generation : ℕ) → HasDevice (status_of snapshot slot) generation → generation ≤ snapshot.attaches

-- The shard saw that the array failed if the register had failed when it looked last; of a slot that was lost then it
-- uses no device, of one that was rebuilt then none but the new one, of one that was replaced then none but the old one
-- and the new one, and of one in sync none but that one, once a device had been attached; and it uses no device, and
-- has given none a command, that was attached since
pub record KnowsLast (core : CoreView) (last : Snapshot) : Type 0 where
  pub failed : (world_shard core).saw_failed ≡ last.failed
  pub lost : (slot : ℕ) → slot < core.shape.slots → status_of last slot ≡ Lost
      → (generation : ℕ) → IsInUse ((world_shard core).slot slot) generation → ⊥
  pub rebuilt : (slot : ℕ) → slot < core.shape.slots → (new : ℕ) (reported : ShardSet)
      → status_of last slot ≡ Rebuilding new reported
      → (generation : ℕ) → IsInUse ((world_shard core).slot slot) generation → generation ≡ new
  pub replaced : (slot : ℕ) → slot < core.shape.slots → (old new : ℕ) (reported : ShardSet)
      → status_of last slot ≡ Replacing old new reported
      → (generation : ℕ) → IsInUse ((world_shard core).slot slot) generation → generation ≢ new → generation ≡ old
  pub in_sync : (slot : ℕ) → slot < core.shape.slots → (current : ℕ) → status_of last slot ≡ InSync current
      → 0 < last.attaches
      → (generation : ℕ) → IsInUse ((world_shard core).slot slot) generation → generation ≡ current
  pub used : (slot : ℕ) → UsesOnly core.shape.slots (λ generation. generation ≤ last.attaches) slot (world_shard core)
