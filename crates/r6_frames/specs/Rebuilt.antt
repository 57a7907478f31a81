-- The rows of a shard that are rebuilt on a new device.
use Rattle.std.specs.Prelude.{◌≡◌, ◌⊎◌, ℕ, ◌+◌, ◌<◌, ◌≤◌, nat_le, nat_lt, ◌==◌, ◌&&◌, not, if◌then◌else◌, Bool, [], ◌∷◌, length, slice_index}
use Rattle.std.specs.List.{list_any}
use Rattle.r6_frames.specs.declared.rebuilt.RebuiltRows.{RebuiltRows}

-- the row of this number, from 0 to 7, among those that are rebuilt next
abbrev pub next_row : RebuiltRows → ℕ → ℕ
next_row r number = slice_index r.next number

abbrev pub is_rebuilt : RebuiltRows → ℕ → Bool
is_rebuilt r row = nat_le r.start row && (nat_lt row (next_row r 7) && not (list_any (λ next. next == row) r.next))

-- no row of the shard that has this first row
abbrev pub none_rebuilt : ℕ → RebuiltRows
none_rebuilt start =
    record {
      start = start;
      next =
          start ∷ (start + 1) ∷ (start + 2) ∷ (start + 3) ∷ (start + 4) ∷ (start + 5) ∷ (start + 6) ∷ (start + 7) ∷ [];
    }

-- the rows that are rebuilt next stand in order, and none behind the end is rebuilt
pub record AreNext (end : ℕ) (r : RebuiltRows) : Type 0 where
  pub count : length r.next ≡ 8
  pub ordered : (number : ℕ) → number < 7 → next_row r number < next_row r (number + 1)
  pub from : r.start ≤ next_row r 0
  pub upto : next_row r 0 ≤ end
  pub behind : (number : ℕ) → number < 7
      → (next_row r (number + 1) ≤ end) ⊎ (next_row r (number + 1) ≡ next_row r number + 1)

-- of a shard with these rows some are rebuilt, and not all
pub record IsRebuilt (first end : ℕ) (r : RebuiltRows) : Type 0 where
  pub start : r.start ≡ first
  pub next : AreNext end r
  pub some_left : next_row r 0 < end

-- the row is one of those that are rebuilt next
abbrev pub IsNext : RebuiltRows → (row : ℕ) → Type 0
IsNext r row = (number : ℕ) × (number < 8) × (next_row r number ≡ row)

-- the row that stands at the number once this row is rebuilt
abbrev pub next_without : RebuiltRows → (row number : ℕ) → ℕ
next_without r row number = if nat_lt (next_row r number) row then next_row r number else next_row r (number + 1)
