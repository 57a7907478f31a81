-- Rows of one chunk that are read at once.
use Rattle.std.specs.Prelude.{◌≡◌, ℕ, ◌+◌, ◌*◌, ◌%◌, ◌<◌, ◌≤◌, List, length, Bool, true, is_some}
use Rattle.r6_layout.specs.Shape.{Shape}
use Rattle.r6_layout.specs.Layout.{shard_of, slot_at}
use Rattle.r6_recover.specs.Known.{IsKnown}
use Rattle.r6_recover.specs.Rows.{block_at}
use Rattle.r6_dev.specs.History.{AreTogether, Block}
use Rattle.r6_offline.specs.Parts.{Parts, Devices, AllTell, TellsRows, part_number}
use Rattle.r6_offline.specs.declared.long_row.LongRow.{LongRow}
use Rattle.r6_offline.specs.declared.stretch.Stretch.{Stretch}

-- for each position there is room for its blocks of all rows of the stretch, put together
pub record FitsRows (shape : Shape) (stretch : Stretch) : Type 0 where
  pub count : length stretch.blocks.items ≡ shape.slots
  pub long : (position : ℕ) → position < shape.slots
      → length (block_at stretch.blocks.items position) ≡ stretch.rows * shape.block
  pub bytes : length stretch.bytes.items ≡ stretch.rows * shape.block

-- so many rows, this one and those that follow, stand in one chunk
abbrev pub AreOfOneChunk : Shape → (row count : ℕ) → Type 0
AreOfOneChunk shape row count = row % shape.chunk + count ≤ shape.chunk

-- rows were read at once from a part
pub record PartRowsRead (parts : Parts) (number row count : ℕ) (bytes : List ℕ) : Type 0 where
  pub is_there : is_some (parts number) ≡ true
  pub gives : (first end : ℕ) (blocks : ℕ → Block) → first ≤ row → row + count ≤ end
      → TellsRows first end blocks (parts number) → AreTogether blocks row count bytes

-- the blocks of so many rows at one position were read at once from the part of its slot
pub record PositionRead (shape : Shape) (parts : Parts) (row count position : ℕ) (bytes : List ℕ) : Type 0 where
  pub is_there : is_some (parts (part_number shape (shard_of shape row) (slot_at shape row position))) ≡ true
  pub gives : (device : Devices) → AllTell shape parts device
      → AreTogether (device (slot_at shape row position)) row count bytes

-- and those at the first so many positions
abbrev pub PositionsRead : Shape → Parts → (row count positions : ℕ) → List Block → Type 0
PositionsRead shape parts row count positions blocks =
    (position : ℕ) → position < positions → PositionRead shape parts row count position (block_at blocks position)

-- of the positions that are known the blocks of so many rows were read at once
abbrev pub PositionsKnown : Shape → Parts → (row count : ℕ) → (known : List Bool) → List Block → Type 0
PositionsKnown shape parts row count known blocks =
    (position : ℕ) → IsKnown known position → PositionRead shape parts row count position (block_at blocks position)

-- there is room for a stretch as one row, and no more rows are restored than it has
pub record FitsLongRow (shape : Shape) (row : LongRow) : Type 0 where
  pub count : length row.blocks ≡ shape.slots
  pub long : (position : ℕ) → position < shape.slots → length (block_at row.blocks position) ≡ row.rows * shape.block
  pub bytes : length row.bytes.items ≡ row.rows * shape.block
  pub block : length row.block ≡ row.rows * shape.block
  pub end : row.end ≤ row.first_row + row.rows
