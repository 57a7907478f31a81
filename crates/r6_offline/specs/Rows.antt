-- The rows of an array, read from its parts.
use Rattle.std.specs.Prelude.{◌≡◌, ◌≢◌, ℕ, ◌<◌, Bool, true, false, List, length, is_some, slice_index_or, slice_set}
use Rattle.r6_layout.specs.Shape.{Shape}
use Rattle.r6_layout.specs.Layout.{shard_of, slot_at, position_at}
use Rattle.r6_recover.specs.Known.{IsKnown}
use Rattle.r6_recover.specs.Rows.{block_at}
use Rattle.r6_dev.specs.History.{Block}
use Rattle.r6_dev.specs.declared.fault.Fault.TheVariants.{WriteFault}
use Rattle.r6_offline.specs.Parts.{Parts, Devices, AllTell, OnlyRead, part_number}
use Rattle.r6_offline.specs.declared.row.RowReader.{RowReader}
use Rattle.r6_offline.specs.declared.row.SlotFault.{SlotFault}

-- the reader has room for a row of the array
pub record Fits (shape : Shape) (reader : RowReader) : Type 0 where
  pub count : length reader.blocks ≡ shape.slots
  pub long : (position : ℕ) → position < shape.slots → length (block_at reader.blocks position) ≡ shape.block
  pub block : length reader.block ≡ shape.block

-- the blocks of a row, in row order
pub record IsRow (shape : Shape) (device : Devices) (row : ℕ) (blocks : List Block) : Type 0 where
  pub count : length blocks ≡ shape.slots
  pub each : (position : ℕ) → position < shape.slots
      → block_at blocks position ≡ device (slot_at shape row position) row

-- the block of one slot was read into its place of the row, if its part is there
pub record SlotRead (shape : Shape) (old new : Parts) (row slot : ℕ) (there : Bool) (before after : List Block)
    : Type 0 where
  pub only_read : OnlyRead old new
  pub gives : there ≡ true → (device : Devices) → AllTell shape old device
      → block_at after (position_at shape row slot) ≡ device slot row
  pub is_there : there ≡ is_some (old (part_number shape (shard_of shape row) slot))
  pub others : (position : ℕ) → position ≢ position_at shape row slot
      → block_at after position ≡ block_at before position

-- the known positions, with one more whose block is there
abbrev pub marked : List Bool → ℕ → Bool → List Bool
marked known position true = slice_set known position true
marked known position false = known

-- all parts of a row that are there were read: the blocks at the known positions are theirs
pub record RowRead (shape : Shape) (old new : Parts) (row : ℕ) (known : List Bool) (blocks : List Block) : Type 0 where
  pub only_read : OnlyRead old new
  pub gives :
      (device : Devices) → AllTell shape old device
      → (position : ℕ) → position < shape.slots → IsKnown known position
      → block_at blocks position ≡ device (slot_at shape row position) row
  pub is_there :
      (position : ℕ) → position < shape.slots
      → slice_index_or known position false
      ≡ is_some (old (part_number shape (shard_of shape row) (slot_at shape row position)))

-- a part that is there answered a fault to the read of a row
pub record ReadFails (shape : Shape) (parts : Parts) (row : ℕ) (fault : SlotFault) : Type 0 where
  pub within : fault.slot < shape.slots
  pub is_there : is_some (parts (part_number shape (shard_of shape row) fault.slot)) ≡ true
  pub of_read : fault.fault ≢ WriteFault

-- some part of a row isn't there; all of them are
abbrev pub HasAbsent : Shape → Parts → ℕ → Type 0
HasAbsent shape parts row =
    (slot : ℕ) × (slot < shape.slots) × (is_some (parts (part_number shape (shard_of shape row) slot)) ≡ false)

abbrev pub AreThere : Shape → Parts → ℕ → Type 0
AreThere shape parts row =
    (slot : ℕ) → slot < shape.slots → is_some (parts (part_number shape (shard_of shape row) slot)) ≡ true
