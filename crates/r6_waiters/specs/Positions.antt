-- Which positions a set has: position i is bit i % 64 of word i / 64.
use Rattle.std.specs.Prelude.{◌≡◌, ◌<◌, ◌≤◌, ◌/◌, ◌%◌, ◌==◌, ℕ, Bool, true, false, List, slice_index}
use Rattle.std.specs.Int.{bit_at}

-- the position is in the set
abbrev pub has : List ℕ → ℕ → Bool
has set position = bit_at (slice_index set (position / 64)) (position % 64) == 1

-- the set has no position
abbrev pub HasNone : List ℕ → Type 0
HasNone set = (position : ℕ) → has set position ≡ false

-- the position is the lowest in the set
abbrev pub IsLowest : List ℕ → ℕ → Type 0
IsLowest set position = (has set position ≡ true) × ((lower : ℕ) → lower < position → has set lower ≡ false)

-- the set has no position from this one on
abbrev pub HasNoneFrom : List ℕ → (from : ℕ) → Type 0
HasNoneFrom set from = (position : ℕ) → from ≤ position → has set position ≡ false

-- the position is the lowest in the set from this one on
abbrev pub IsLowestFrom : List ℕ → (from position : ℕ) → Type 0
IsLowestFrom set from position =
    (from ≤ position) × (has set position ≡ true)
    × ((lower : ℕ) → from ≤ lower → lower < position → has set lower ≡ false)
