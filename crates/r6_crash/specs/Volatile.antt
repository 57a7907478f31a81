-- A replay over a volatile cache: one row of one device, whose writes come in the order in which their batches stand in
-- the journal (this project's own). A batch leaves the journal, the oldest first, once its writes were performed and
-- the device was synced after that.
use Rattle.std.specs.Prelude.{◌≡◌, ℕ, ◌≤◌, List, [], ◌∷◌, ◌++◌, length, drop, slice_index_or}
use Rattle.r6_layout.specs.PlainArray.{Block}

-- the last of these blocks, or the one before them
abbrev pub last_or : Block → List Block → Block
last_or before [] = before
last_or before (b ∷ rest) = last_or b rest

-- A crash leaves what stood there at some moment since so many of the writes were performed: the first block, or that
-- of a write, is numbered by how many were performed then
abbrev pub MayLeave : (first : Block) → (history : List Block) → (synced : ℕ) → Block → Type 0
MayLeave first history synced left =
    (i : ℕ) × (synced ≤ i) × (i ≤ length history) × (left ≡ slice_index_or (first ∷ history) i first)

-- The row was written so, in this order, since the array's start, the device was synced after so many of these writes,
-- and others are out, which stand in the journal and weren't performed. Of all these the first ones have left the
-- journal, none before the sync. Whatever the cache has lost, the replay of the others leaves what would stand there if
-- nothing were lost and all that is out had been performed
abbrev pub VolatileLaw : Type 0
VolatileLaw =
    (first : Block) (history out : List Block) (retired synced : ℕ) → retired ≤ synced → synced ≤ length history
    → (left : Block) → MayLeave first history synced left
    → last_or left (drop retired (history ++ out)) ≡ last_or first (history ++ out)
