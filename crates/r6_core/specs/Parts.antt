-- What a shard has of the devices that a look finds in a slot.
use Rattle.std.specs.Prelude.{◌≡◌, ℕ, ◌<◌, Bool, true, false}
use Rattle.r6_world.specs.Changes as changes
use Rattle.r6_world.specs.ShardStates.{has_device}
use Rattle.r6_world.specs.Registers.{Snapshot, Status, status_of}
use Rattle.r6_world.specs.Changes.{Adopt, adopted, after, differs}
use Rattle.r6_frames.specs.declared.slots.Device.{Device}
use Rattle.r6_frames.specs.Calls.{KeepsDirects}
use Rattle.r6_frames.specs.Slots.{IsRebuiltOn, IsWholeIn, state_of, states_of}
use Rattle.r6_frames.specs.Rebuilt.{is_rebuilt}
use Rattle.r6_core.specs.declared.look.Part.{Part}
use Rattle.r6_core.specs.declared.look.Part.TheVariants as part
use Rattle.r6_core.specs.declared.state.State.{State}
use Rattle.r6_core.specs.Order.{Agrees}
use Rattle.r6_core.specs.Shards.{core_of, layout_in, state_of as shard_of}
use Rattle.r6_world.specs.Steps.{TakesOver, Through}
use Rattle.r6_core.specs.Inside.{IsSound, SameFrames}

-- as the world has it
abbrev pub part_as : Part → changes.Part
part_as part.Nothing = changes.Nothing
part_as (part.Rows rebuilt) = changes.Some_rows (is_rebuilt rebuilt)
part_as part.Whole = changes.Whole

-- the shard has this of the device
abbrev pub HasPart : Device → (generation : ℕ) → Part → Type 0
HasPart device generation part.Nothing = has_device (state_of device) generation ≡ false
HasPart device generation (part.Rows rebuilt) = IsRebuiltOn device generation rebuilt
HasPart device generation part.Whole = IsWholeIn device generation

-- the register has something else of the slot than the shard, which takes it over; nothing else changes
pub record Adopts (old : State) (slot : ℕ) (status : Status) (new : State) : Type 0 where
  pub sound : IsSound new
  pub other : differs (states_of old.frames.slots slot) status ≡ true
  pub is : shard_of new ≡ after (layout_in old) (shard_of old) (Adopt slot status)
  pub same : SameFrames old new
  pub directs : KeepsDirects old.frames new.frames
  pub rest : new ≡ record old { frames = new.frames }

-- or it has the same
abbrev pub AdoptsIf : (is_other : Bool) → State → (slot : ℕ) → Status → State → Type 0
AdoptsIf true old slot status new = Adopts old slot status new
AdoptsIf false old slot status new =
    (new ≡ old) × (differs (states_of old.frames.slots slot) status ≡ false)
    × (adopted (states_of old.frames.slots slot) status ≡ states_of old.frames.slots slot)

-- a look sees something else of a slot than the shard has, or of none
abbrev pub DiffersIf : (differs : Bool) → State → Snapshot → Type 0
DiffersIf true s seen = Agrees (core_of s) seen → ⊥
DiffersIf false s seen = Agrees (core_of s) seen

-- the look takes over what it saw of each slot
pub record AdoptsAll (old : State) (seen : Snapshot) (new : State) : Type 0 where
  pub sound : IsSound new
  pub takes : Through (layout_in old) old.frames.shard (TakesOver seen) (shard_of old) (shard_of new)
  pub slots : (slot : ℕ) → slot < old.frames.geometry.slots
      → states_of new.frames.slots slot ≡ adopted (states_of old.frames.slots slot) (status_of seen slot)
  pub same : SameFrames old new
  pub directs : KeepsDirects old.frames new.frames
  pub rest : new ≡ record old { frames = new.frames }
