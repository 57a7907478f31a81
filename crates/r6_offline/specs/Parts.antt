-- The parts of an array's devices, and what they tell of its rows.
use Rattle.std.specs.Prelude.{◌≡◌, ℕ, ◌+◌, ◌*◌, ◌<◌, ◌≤◌, ◌==◌, Bool, true, false, List, Option, Some, None, is_some, not, option_map, slice_index_or, ⊤}
use Rattle.std.specs.List.{list_any}
use Rattle.r6_dev.specs.History.{Block, Telling}
use Rattle.r6_layout.specs.Shape.{Shape}
use Rattle.r6_layout.specs.Layout.{first_row}

-- what each part tells, by its number; none for one that isn't there
abbrev pub Parts : Type 0
Parts = ℕ → Option Telling

abbrev pub parts_of : {D : Type 0} → (D → Telling) → List (Option D) → Parts
parts_of told parts number = option_map told (slice_index_or parts number None)

-- what a device tells that tells nothing, as one on a file
abbrev pub tells_nothing : {D : Type 0} → D → Telling
tells_nothing device = None

-- the number of the part of a shard and a slot
abbrev pub part_number : Shape → (shard slot : ℕ) → ℕ
part_number shape shard slot = shard * shape.slots + slot

-- whether a slot is one of these
abbrev pub is_lost : (lost : List ℕ) → (slot : ℕ) → Bool
is_lost lost slot = list_any (λ each. each == slot) lost

-- the parts that are there are those of the slots that aren't lost
abbrev pub AreThoseNotLost : Shape → (lost : List ℕ) → Parts → Type 0
AreThoseNotLost shape lost parts =
    (shard slot : ℕ) → shard < shape.shards → slot < shape.slots
    → is_some (parts (part_number shape shard slot)) ≡ not (is_lost lost slot)

-- of a slot no part is there; some part is
abbrev pub IsAbsent : Shape → (slot : ℕ) → Parts → Type 0
IsAbsent shape slot parts = (shard : ℕ) → shard < shape.shards → is_some (parts (part_number shape shard slot)) ≡ false

abbrev pub IsThere : Shape → (slot : ℕ) → Parts → Type 0
IsThere shape slot parts =
    (shard : ℕ) × (shard < shape.shards) × (is_some (parts (part_number shape shard slot)) ≡ true)

-- the blocks of the devices, by slot and row
abbrev pub Devices : Type 0
Devices = ℕ → ℕ → Block

-- a part tells these blocks, of the rows from the first on, below the end. A part that isn't there tells what one
-- likes
abbrev pub TellsRows : (first end : ℕ) → (ℕ → Block) → Option Telling → Type 0
TellsRows first end blocks None = ⊤
TellsRows first end blocks (Some None) = ⊥
TellsRows first end blocks (Some (Some told)) = (row : ℕ) → first ≤ row → row < end → told row ≡ blocks row

-- each part that is there tells the blocks of its device, of the rows of its shard
abbrev pub AllTell : Shape → Parts → Devices → Type 0
AllTell shape parts device =
    (shard slot : ℕ) → shard < shape.shards → slot < shape.slots
    → TellsRows (first_row shape shard) (first_row shape (shard + 1)) (device slot)
    (parts (part_number shape shard slot))

-- what was done to the parts changed no block: each tells what it told, and the same are there
pub record OnlyRead (old new : Parts) : Type 0 where
  pub tells : (number first end : ℕ) (blocks : ℕ → Block) → TellsRows first end blocks (old number)
      → TellsRows first end blocks (new number)
  pub there : (number : ℕ) → is_some (new number) ≡ is_some (old number)

-- a row was read from a part, or the part isn't there
pub record PartRead (old new : Parts) (number row : ℕ) (there : Bool) (block : Block) : Type 0 where
  pub only_read : OnlyRead old new
  pub gives : there ≡ true → (first end : ℕ) (blocks : ℕ → Block) → first ≤ row → row < end
      → TellsRows first end blocks (old number) → block ≡ blocks row
  pub is_there : there ≡ is_some (old number)
