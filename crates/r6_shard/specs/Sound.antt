-- Slots whose devices fail no command: a shard names none of them (md(4): a device is failed where it answers a command
-- by an error; the promises are this project's own).
use Rattle.std.specs.Prelude.{◌≡◌, ◌≢◌, ℕ, ◌+◌, ◌<◌, ◌≤◌, Bool, true, false, List, All, length, None, slice_index_or}
use Rattle.r6_dev.specs.Promises.{Promise, FailsNone}
use Rattle.r6_dev.specs.Memory.{Memory, promised_by}
use Rattle.r6_layout.specs.Shape.{Shape, IsShape}
use Rattle.r6_layout.specs.Layout.{first_row}
use Rattle.r6_world.specs.Geometries.{layout_of}
use Rattle.r6_world.specs.Layouts.{IsRowOf}
use Rattle.r6_world.specs.Registers.{Snapshot, is_in_sync, status_of}
use Rattle.r6_core.specs.Shards.{CoreView, world_shard}
use Rattle.r6_exchange.specs.declared.task.Part.{Part}
use Rattle.r6_shard.specs.declared.performs.Performs.{Ghosts}
use Rattle.r6_shard.specs.declared.shard.Shard.{Shard}
use Rattle.r6_shard.specs.Parts.{part_of}
use Rattle.r6_shard.specs.Performing.{Performer, HasPart}
use Rattle.r6_shard.specs.Uses.{UsesOnly}

-- the parts of this slot fail no command of this shard: none to its rows, with a block
abbrev pub PartsFailNone : Performer → Shape → (number slot : ℕ) → Type 0
PartsFailNone performer shape number slot =
    (generation : ℕ) → HasPart performer.tells slot generation
    → FailsNone (performer.promised slot generation) (IsRowOf (layout_of shape) number) shape.block

-- A slot of this shard of an array is sound: its parts are served to the last command, and fail none of the shard, the
-- part of each device is there that the shard uses or has given a command, and the slot is not named
pub record IsSound (performer : Performer) (shape : Shape) (number slot : ℕ) (core : CoreView) (named : List Bool)
    : Type 0 where
  pub shape_is : core.shape ≡ shape
  pub place : core.shard ≡ number
  pub steady : performer.steady slot ≡ true
  pub parts : PartsFailNone performer shape number slot
  pub here : UsesOnly shape.slots (HasPart performer.tells slot) slot (world_shard core)
  pub unnamed : slice_index_or named slot false ≡ false

abbrev pub IsSoundIn : {P : Type 0} {g : Ghosts P} → Shape → (number slot : ℕ) → Shard P g → Type 0
IsSoundIn {g = g} shape number slot shard =
    IsSound (g.performer shard.parts) shape number slot shard.core shard.named

-- each sound slot stays sound
abbrev pub StaysSound : {P : Type 0} {g : Ghosts P} → (old new : Shard P g) → Type 0
StaysSound old new =
    (shape : Shape) (number slot : ℕ) → IsSoundIn shape number slot old → IsSoundIn shape number slot new

-- at the start: unless the slot is lost, the part of its first device is there
pub record BeginsSound (performer : Performer) (shape : Shape) (number : ℕ) (snapshot : Snapshot) (slot : ℕ)
    : Type 0 where
  pub steady : performer.steady slot ≡ true
  pub parts : PartsFailNone performer shape number slot
  pub here : slot < shape.slots → is_in_sync (status_of snapshot slot) ≡ true → HasPart performer.tells slot 0

-- ---- parts in a list

-- the device fails no command of this shard
abbrev pub DeviceFailsNone : {D : Type 0} → (D → Promise) → Shape → (number : ℕ) → D → Type 0
DeviceFailsNone promised shape number device =
    FailsNone (promised device) (IsRowOf (layout_of shape) number) shape.block

-- at the start: of the parts of this slot each fails no command of the shard, and unless the slot is lost, that of its
-- first device is there
pub record StartsSound {D : Type 0} (promised : D → Promise) (shape : Shape) (number : ℕ) (snapshot : Snapshot)
    (slot : ℕ) (parts : List (Part D)) : Type 0 where
  pub each : All (λ part. part.slot ≡ slot → DeviceFailsNone promised shape number part.device) parts
  pub first : slot < shape.slots → is_in_sync (status_of snapshot slot) ≡ true → part_of parts slot 0 ≢ None

-- a part is taken in: each sound slot stays sound, that of the part if its device fails no command of the shard
abbrev pub TakesSound : {P D : Type 0} {g : Ghosts P} → (D → Promise) → Part D → (old new : Shard P g) → Type 0
TakesSound promised part old new =
    (shape : Shape) (number slot : ℕ) → (part.slot ≡ slot → DeviceFailsNone promised shape number part.device)
    → IsSoundIn shape number slot old → IsSoundIn shape number slot new

-- a device in memory that has all rows of a shard, in blocks of the array's length, fails none of its commands
abbrev pub MemoryLaw : Type 0
MemoryLaw =
    (shape : Shape) → IsShape shape → (number : ℕ) (m : Memory) → m.first ≤ first_row shape number
    → first_row shape (number + 1) ≤ m.first + length m.blocks → m.block ≡ shape.block
    → DeviceFailsNone promised_by shape number m
