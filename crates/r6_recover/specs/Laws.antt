-- What holds of full rows and of classes, as statements that the laws' contracts name.
use Rattle.std.specs.Prelude.{◌≡◌, ◌≢◌, ◌↔◌, ℕ, ◌+◌, ◌<◌, ◌≤◌, List, length, slice_set, take}
use Rattle.std.specs.List.{All}
use Rattle.r6_kernels.specs.Blocks.{IsBlock}
use Rattle.r6_recover.specs.Rows.{block_at, block_length, data_of, pieces_of, IsFull, IsFullRow, MeetsEquations, row_of, changed_row, AgreeBut}
use Rattle.r6_recover.specs.Classes.{HasClass}
use Rattle.r6_recover.specs.declared.class.RowClass.{RowClass}
use Rattle.r6_recover.specs.declared.class.RowClass.TheVariants.{Consistent, WrongP, WrongQ, WrongData}

-- full rows are the rows that meet both equations, and they are the rows of lists of data blocks
pub record FullRowsAreRowsOfData : Type 0 where
  pub by_equations : (m len : ℕ) (row : List (List ℕ)) → IsFullRow m len row ↔ MeetsEquations m len row
  pub row_of_data : (len : ℕ) (data_blocks : List (List ℕ)) → All (IsBlock len) data_blocks
      → IsFull len (row_of len data_blocks) × (data_of (row_of len data_blocks) ≡ data_blocks)
  pub of_its_data : (len : ℕ) (row : List (List ℕ)) → IsFull len row → row ≡ row_of len (data_of row)

-- two full rows that agree at all positions but two, whichever these are, are equal
abbrev pub TwoBlocksAreDetermined : Type 0
TwoBlocksAreDetermined =
    (m len : ℕ) (row other : List (List ℕ)) → m ≤ 255 → IsFullRow m len row → IsFullRow m len other → (x y : ℕ)
    → AgreeBut x y row other → row ≡ other

-- a full row after one data block has changed, and P and Q with it, is the row of the changed data
abbrev pub ChangeIsAdded : Type 0
ChangeIsAdded =
    (m len index : ℕ) (row : List (List ℕ)) (block : List ℕ) → IsFullRow m len row → IsBlock len block → index < m
    → changed_row m index block row ≡ row_of len (slice_set (take m row) index block)

-- where one block of a full row was replaced by another, the class of the row names its position
pub record WrongBlockIsNamed : Type 0 where
  pub of_data : (m len : ℕ) (full : List (List ℕ)) (block : List ℕ) → m ≤ 255 → IsFullRow m len full
      → IsBlock len block
      → (z : ℕ) → z < m → block ≢ block_at full z → HasClass (slice_set full z block) (WrongData z)
  pub of_p : (m len : ℕ) (full : List (List ℕ)) (block : List ℕ) → m ≤ 255 → IsFullRow m len full → IsBlock len block
      → block ≢ block_at full m → HasClass (slice_set full m block) WrongP
  pub of_q : (m len : ℕ) (full : List (List ℕ)) (block : List ℕ) → m ≤ 255 → IsFullRow m len full → IsBlock len block
      → block ≢ block_at full (m + 1) → HasClass (slice_set full (m + 1) block) WrongQ

-- a row has no two classes, so that no two data blocks can be named
abbrev pub ClassIsUnique : Type 0
ClassIsUnique =
    (m len : ℕ) (row : List (List ℕ)) → m ≤ 255 → length row ≡ m + 2 → All (IsBlock len) row → (class other : RowClass)
    → HasClass row class → HasClass row other → class ≡ other

-- a row is consistent exactly if it is full
abbrev pub FullRowsAreConsistent : Type 0
FullRowsAreConsistent =
    (m len : ℕ) (row : List (List ℕ)) → length row ≡ m + 2 → All (IsBlock len) row
    → HasClass row Consistent ↔ IsFull len row

-- of a consistent row, the pieces of its blocks, all from one place on, are a consistent row
abbrev pub PiecesAreConsistent : Type 0
PiecesAreConsistent =
    (at len : ℕ) (row : List (List ℕ)) → 2 ≤ length row → at + len ≤ block_length row → HasClass row Consistent
    → HasClass (pieces_of at len row) Consistent
