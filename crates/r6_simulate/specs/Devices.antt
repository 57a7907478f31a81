-- What the devices of an array in memory do. This is the project's own.
use Rattle.std.specs.Prelude.{◌≡◌, ℕ, ◌==◌, ◌&&◌, ◌<◌, ◌++◌, List, [], ◌∷◌, length, map, replicate, slice_index_or, slice_set, Bool, true, false, Option, None, Some, Result, Ok, Err}
use Rattle.std.specs.List.{position, range_with_len}
use Rattle.r6_dev.specs.History.{Block, Entry, Reads, Writes, Answers}
use Rattle.r6_dev.specs.Memory.{Memory, Serves, told_by}
use Rattle.r6_health.specs.declared.refusal.Refusal.{Refusal}
use Rattle.r6_layout.specs.Shape.{Shape}
use Rattle.r6_core.specs.declared.Command.{Command}
use Rattle.r6_core.specs.declared.CommandKind.{CommandKind}
use Rattle.r6_core.specs.declared.CommandKind.TheVariants.{Read, Write}
use Rattle.r6_simulate.specs.declared.devices.Attached.{Attached}
use Rattle.r6_simulate.specs.declared.devices.Devices.{Devices}

-- what stands in a list at a place
abbrev pub IsAt : {A : Type 0} → List A → (place : ℕ) → A → Type 0
IsAt items place item = (place < length items) × (item ≡ slice_index_or items place item)

-- the rows and the length of a block that all devices have stay as they are
abbrev pub SameRows : Devices → Devices → Type 0
SameRows old new = (new.rows ≡ old.rows) × (new.blocks ≡ old.blocks)

-- and so do the devices
abbrev pub KeepsDevices : Devices → Devices → Type 0
KeepsDevices old new = (new.attached.items ≡ old.attached.items) × SameRows old new

-- ---- devices that come

-- a device of which every byte is this one
abbrev pub device_of : (rows block byte : ℕ) → Memory
device_of rows block byte = record { first = 0; block = block; blocks = replicate rows (replicate block byte) }

abbrev pub coming : Devices → (slot generation byte : ℕ) → Attached
coming devices slot generation byte =
    record { slot = slot; generation = generation; device = device_of devices.rows devices.blocks.len byte }

-- one more device, behind those that came before
pub record Adds (slot generation byte : ℕ) (old new : Devices) : Type 0 where
  pub attached : new.attached.items ≡ old.attached.items ++ coming old slot generation byte ∷ []
  pub rows : SameRows old new

-- as the register answers an attach; a refusal brings none
abbrev pub AddsAs : (slot : ℕ) → Result ℕ Refusal → (byte : ℕ) → (old new : Devices) → Type 0
AddsAs slot (Ok generation) byte old new = Adds slot generation byte old new
AddsAs slot (Err refusal) byte old new = new ≡ old

-- the device that a slot has at the beginning
abbrev pub first_device : Shape → (slot : ℕ) → Attached
first_device shape slot = record { slot = slot; generation = 0; device = device_of shape.rows shape.block 0 }

-- the devices at the beginning: one in each slot
pub record AreFirst (shape : Shape) (devices : Devices) : Type 0 where
  pub attached : devices.attached.items ≡ map (first_device shape) (range_with_len 0 shape.slots)
  pub rows : devices.rows ≡ shape.rows
  pub block : devices.blocks.len ≡ shape.block

-- ---- commands

-- where the device stands that a slot has or had with a generation
abbrev pub place_of : (slot generation : ℕ) → List Attached → Option ℕ
place_of slot generation attached = position (λ a. (a.slot == slot) && (a.generation == generation)) attached

-- a command, as the device has it: its block is read or written
abbrev pub entry_of : CommandKind → (row : ℕ) → Block → Entry
entry_of Read row block = Reads row block
entry_of Write row block = Writes row block

-- the device that a command names performs it, and no other device changes
pub record PerformsOn (old : Devices) (command : Command) (new : Devices) (done : Command) : Type 0 where
  pub place : ℕ
  pub named : place_of command.slot command.generation old.attached.items ≡ Some place
  pub before : Attached
  pub there : IsAt old.attached.items place before
  pub after : Memory
  pub answers : Answers (told_by before.device) (entry_of command.kind command.row done.buffer) (told_by after)
  pub others : new.attached.items ≡ slice_set old.attached.items place (record before { device = after })
  pub rows : SameRows old new
  pub same : done ≡ record command { buffer = done.buffer }
  pub written : command.kind ≡ Write → done.buffer ≡ command.buffer

-- the device has the command's row, in blocks of its length
abbrev pub ServesCommand : Memory → Command → Type 0
ServesCommand device command = Serves device command.row × (length command.buffer ≡ device.block)

-- a device performs a command, or doesn't serve it, and nothing changes
abbrev pub MayPerformOn : (performed : Bool) → (before : Memory) → Command → (after : Memory) → Command → Type 0
MayPerformOn true before command after done =
    Answers (told_by before) (entry_of command.kind command.row done.buffer) (told_by after)
    × (done ≡ record command { buffer = done.buffer }) × (command.kind ≡ Write → done.buffer ≡ command.buffer)
MayPerformOn false before command after done =
    (ServesCommand before command → ⊥) × (after ≡ before) × (done ≡ command)

-- the device that a command names, if there is one at a place, doesn't serve it
abbrev pub LacksAt : List Attached → Command → Option ℕ → Type 0
LacksAt attached command None = Unit {0}
LacksAt attached command (Some place) =
    (named : Attached) × IsAt attached place named × (ServesCommand named.device command → ⊥)

abbrev pub LacksDevice : Devices → Command → Type 0
LacksDevice devices command = let attached = devices.attached.items in
    LacksAt attached command (place_of command.slot command.generation attached)

-- it performs the command, or there is none that serves it, and nothing changes
abbrev pub MayPerform : (performed : Bool) → (old : Devices) → Command → (new : Devices) → Command → Type 0
MayPerform true old command new done = PerformsOn old command new done
MayPerform false old command new done = LacksDevice old command × KeepsDevices old new × (done ≡ command)
