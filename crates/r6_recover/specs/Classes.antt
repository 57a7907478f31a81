-- The class of a row, by how its P and Q differ from those of its data (H. Peter Anvin, "The mathematics of RAID-6",
-- its section on single disk corruption).
use Rattle.std.specs.Prelude.{◌≡◌, ◌≢◌, ℕ, ◌+◌, ◌-◌, ◌<◌, ◌≤◌, List, length, slice_set}
use Rattle.std.specs.List.{All}
use Rattle.r6_field.specs.Field.{power, generator}
use Rattle.r6_kernels.specs.Blocks.{IsBlock, block_sum, scale, p_of, q_of}
use Rattle.r6_recover.specs.Rows.{block_at, block_length, data_of, IsFullRow}
use Rattle.r6_recover.specs.declared.class.RowClass.{RowClass}
use Rattle.r6_recover.specs.declared.class.RowClass.TheVariants.{Consistent, WrongP, WrongQ, WrongData, Many}

-- P*: the stored P and the P of the data, added
abbrev pub p_difference : List (List ℕ) → List ℕ
p_difference row = block_sum (p_of (block_length row) (data_of row)) (block_at row (length row - 2))

-- Q*: the stored Q and the Q of the data, added
abbrev pub q_difference : List (List ℕ) → List ℕ
q_difference row = block_sum (q_of (block_length row) (data_of row)) (block_at row (length row - 2 + 1))

abbrev pub IsZero : List ℕ → Type 0
IsZero block = All (λ byte. byte ≡ 0) block

-- Q* = g^z P*, as a wrong data block z makes them
abbrev pub IsWrongAt : List (List ℕ) → ℕ → Type 0
IsWrongAt row z = q_difference row ≡ scale (power generator z) (p_difference row)

abbrev pub HasClass : List (List ℕ) → RowClass → Type 0
HasClass row Consistent = IsZero (p_difference row) × IsZero (q_difference row)
HasClass row WrongP = (¬ IsZero (p_difference row)) × IsZero (q_difference row)
HasClass row WrongQ = IsZero (p_difference row) × (¬ IsZero (q_difference row))
HasClass row (WrongData z) =
    (¬ IsZero (p_difference row)) × (¬ IsZero (q_difference row)) × (z < length row - 2) × IsWrongAt row z
HasClass row Many =
    (¬ IsZero (p_difference row)) × (¬ IsZero (q_difference row)) × ((z : ℕ) → z < length row - 2 → ¬ IsWrongAt row z)

-- the class says that the block at this position of a row of m data blocks is wrong
abbrev pub NamesPosition : ℕ → ℕ → RowClass → Type 0
NamesPosition m position Consistent = ⊥
NamesPosition m position WrongP = position ≡ m
NamesPosition m position WrongQ = position ≡ m + 1
NamesPosition m position (WrongData z) = (position ≡ z) × (z < m)
NamesPosition m position Many = ⊥

-- if the row is a full one in which just one block was replaced by another, the class names its position
abbrev pub NamesWrongBlock : List (List ℕ) → RowClass → Type 0
NamesWrongBlock row class =
    (m len position : ℕ) (full : List (List ℕ)) (block : List ℕ) → m ≤ 255 → IsFullRow m len full → IsBlock len block
    → position < m + 2 → block ≢ block_at full position → row ≡ slice_set full position block
    → NamesPosition m position class
