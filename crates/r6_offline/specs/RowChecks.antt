-- Rows that are read, and then classified.
use Rattle.std.specs.Prelude.{◌≡◌, ℕ, ◌+◌, ◌<◌, ◌≤◌, true, false, List, length, Some, None, IfSome, slice_index_or}
use Rattle.r6_layout.specs.Shape.{Shape}
use Rattle.r6_recover.specs.Classes.{HasClass}
use Rattle.r6_recover.specs.declared.class.RowClass.{RowClass}
use Rattle.r6_offline.specs.Parts.{Parts, Devices, AllTell, OnlyRead}
use Rattle.r6_offline.specs.Rows.{AreThere, Fits, HasAbsent, IsRow, ReadFails}
use Rattle.r6_offline.specs.declared.batch.BatchRead.{BatchRead}
use Rattle.r6_offline.specs.declared.row_check.RowCheck.{RowCheck}

-- a row was read whole, or nothing of it, as some part of it isn't there
pub record IsRead (shape : Shape) (parts : Parts) (row : ℕ) (check : RowCheck) : Type 0 where
  pub there : check.is_whole ≡ true → AreThere shape parts row
  pub absent : check.is_whole ≡ false → HasAbsent shape parts row
  pub gives : check.is_whole ≡ true → (device : Devices) → AllTell shape parts device
      → IsRow shape device row check.reader.blocks

-- the row that was read has its class, and stays
pub record IsClassified (old new : RowCheck) : Type 0 where
  pub reader : new.reader ≡ old.reader
  pub skipped : old.is_whole ≡ false → new.finding ≡ None
  pub found : old.is_whole ≡ true → (class : RowClass) × (new.finding ≡ Some class) × HasClass old.reader.blocks class

-- ---- many rows, each in its place

abbrev pub AllFit : Shape → List RowCheck → Type 0
AllFit shape batch = (k : ℕ) (other : RowCheck) → k < length batch → Fits shape (slice_index_or batch k other).reader

-- room for one row at least
pub record HasRoom (shape : Shape) (batch : List RowCheck) : Type 0 where
  pub some : 0 < length batch
  pub room : AllFit shape batch

-- so many rows, from one on
abbrev pub AreRead : Shape → Parts → (row count : ℕ) → List RowCheck → Type 0
AreRead shape parts row count batch =
    (k : ℕ) (other : RowCheck) → k < count → IsRead shape parts (row + k) (slice_index_or batch k other)

pub record AreClassified (old new : List RowCheck) : Type 0 where
  pub count : length new ≡ length old
  pub each : (k : ℕ) (other : RowCheck) → k < length old
      → IsClassified (slice_index_or old k other) (slice_index_or new k other)

-- Of so many rows, from one on, those before the first fault were read, each into its place
pub record IsBatchRead (shape : Shape) (old new : Parts) (row count : ℕ) (before after : List RowCheck)
    (read : BatchRead) : Type 0 where
  pub places : length after ≡ length before
  pub room : AllFit shape after
  pub rows : read.rows ≤ count
  pub all : read.fault ≡ None → read.rows ≡ count
  pub fails : IfSome read.fault (λ fault. (read.rows < count) × ReadFails shape old (row + read.rows) fault)
  pub only_read : read.fault ≡ None → OnlyRead old new
  pub are_read : AreRead shape old row read.rows after
