-- Rows: data blocks with the parities P and Q (H. Peter Anvin, "The mathematics of RAID-6", its sections on the two
-- syndromes and on recovery). A row is the list of its blocks in row order: the data D0, D1, .., then P, then Q.
use Rattle.std.specs.Prelude.{◌≡◌, ◌≢◌, ℕ, ◌+◌, ◌-◌, List, [], ◌∷◌, ◌++◌, length, map, take, slice_index_or, slice_set}
use Rattle.std.specs.List.{All}
use Rattle.r6_field.specs.Field.{power, generator}
use Rattle.r6_kernels.specs.Blocks.{IsBlock, block_sum, piece, scale, p_of, q_of}

-- the block at a position of a row
abbrev pub block_at : List (List ℕ) → ℕ → List ℕ
block_at row position = slice_index_or row position []

-- the number of bytes of each block of a row
abbrev pub block_length : List (List ℕ) → ℕ
block_length row = length (block_at row 0)

-- len bytes of each block of a row, all from one place on
abbrev pub pieces_of : (at len : ℕ) → List (List ℕ) → List (List ℕ)
pieces_of at len row = map (piece at len) row

-- a row's data: all of its blocks but the last two
abbrev pub data_of : List (List ℕ) → List (List ℕ)
data_of row = take (length row - 2) row

-- the row of these data: the data, P, Q
abbrev pub row_of : ℕ → List (List ℕ) → List (List ℕ)
row_of len data_blocks = data_blocks ++ p_of len data_blocks ∷ q_of len data_blocks ∷ []

-- a full row: every block has len bytes, and P and Q are those of the data
pub record IsFull (len : ℕ) (row : List (List ℕ)) : Type 0 where
  pub sized : All (IsBlock len) row
  pub parities : row_of len (data_of row) ≡ row

-- a full row of m data blocks
pub record IsFullRow (m len : ℕ) (row : List (List ℕ)) : Type 0 where
  pub count : length row ≡ m + 2
  pub full : IsFull len row

-- both equations, block by block: P is the sum of the m data blocks, and Q their weighted sum
pub record MeetsEquations (m len : ℕ) (row : List (List ℕ)) : Type 0 where
  pub count : length row ≡ m + 2
  pub sized : All (IsBlock len) row
  pub p : block_at row m ≡ p_of len (take m row)
  pub q : block_at row (m + 1) ≡ q_of len (take m row)

-- a row of m data blocks after one of them has changed: what changes is added to P, and g^index times that to Q
abbrev pub changed_row : ℕ → ℕ → List ℕ → List (List ℕ) → List (List ℕ)
changed_row m index block row =
    let change = block_sum (block_at row index) block in
    slice_set (slice_set (slice_set row index block) m (block_sum (block_at row m) change)) (m + 1)
    (block_sum (block_at row (m + 1)) (scale (power generator index) change))

-- two rows have the same blocks at all positions but x and y
abbrev pub AgreeBut : ℕ → ℕ → List (List ℕ) → List (List ℕ) → Type 0
AgreeBut x y row other = (position : ℕ) → position ≢ x → position ≢ y → block_at row position ≡ block_at other position

-- the data after these blocks are written, each at its index
abbrev pub written : List (ℕ × List ℕ) → List (List ℕ) → List (List ℕ)
written [] data_blocks = data_blocks
written (entry ∷ rest) data_blocks = slice_set (written rest data_blocks) entry.0 entry.1
