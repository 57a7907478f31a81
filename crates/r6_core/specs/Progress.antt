-- How far the rebuild of a slot is in a shard.
use Rattle.std.specs.Prelude.{◌≡◌, ◌⊎◌, ℕ, ◌<◌, ◌≤◌, Bool, true, false}
use Rattle.r6_world.specs.Layouts.{IsRowOf}
use Rattle.r6_world.specs.ShardStates.{SlotState, Synced, Missing, Building, Doubled, Paired, IsBuiltOn}
use Rattle.r6_core.specs.Shards.{CoreView, core_layout, world_shard}

-- the slot has a new device, and this is the first row of the shard that isn't rebuilt there
pub record IsFirstUnbuilt (core : CoreView) (slot row : ℕ) : Type 0 where
  pub generation : ℕ
  pub built : ℕ → Bool
  pub device : IsBuiltOn ((world_shard core).slot slot) generation built
  pub own : IsRowOf (core_layout core) core.shard row
  pub unbuilt : built row ≡ false
  pub before : (earlier : ℕ) → IsRowOf (core_layout core) core.shard earlier → earlier < row → built earlier ≡ true

-- it has none, or every row is
abbrev pub HasNoNew : SlotState → Type 0
HasNoNew (Synced generation) = Unit {0}
HasNoNew Missing = Unit {0}
HasNoNew (Building generation built) = ⊥
HasNoNew (Doubled old new built) = ⊥
HasNoNew (Paired old new) = Unit {0}

-- there is no such slot, or it has no new device
abbrev pub IsNotRebuilt : CoreView → (slot : ℕ) → Type 0
IsNotRebuilt core slot = (core.shape.slots ≤ slot) ⊎ HasNoNew ((world_shard core).slot slot)
