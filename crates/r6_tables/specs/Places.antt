-- The places of a table: each has the number of an entry, and its value unless it was taken out.
use Rattle.std.specs.Prelude.{◌≡◌, ℕ, zero, suc, ◌+◌, ◌≤◌, false, List, [], ◌∷◌, Option, Some, None, nat_eq, if◌then◌else◌}

abbrev pub Places : Type 0 → Type 0
Places X = List (ℕ × Option X)

abbrev pub with_entry : {X : Type 0} → ℕ → Option X → List (ℕ × X) → List (ℕ × X)
with_entry number None entries = entries
with_entry number (Some value) entries = (number, value) ∷ entries

-- the entries that are there
abbrev pub live : {X : Type 0} → Places X → List (ℕ × X)
live [] = []
live (place ∷ places) = with_entry place.0 place.1 (live places)

-- the value at a number
abbrev pub value_at : {X : Type 0} → ℕ → Places X → Option X
value_at number [] = None
value_at number (place ∷ places) = if nat_eq number place.0 then place.1 else value_at number places

-- another value at a number
abbrev pub with_value : {X : Type 0} → ℕ → Option X → Places X → Places X
with_value number value [] = []
with_value number value (place ∷ places) =
    if nat_eq number place.0 then (place.0, value) ∷ places else place ∷ with_value number value places

-- the numbers rise from low on, and stay below high
abbrev pub IsRising : {X : Type 0} → ℕ → ℕ → Places X → Type 0
IsRising low high [] = low ≤ high
IsRising low high (place ∷ places) = (low ≤ place.0) × IsRising (place.0 + 1) high places

-- the place of the number stands at the index
abbrev pub IsAt : {X : Type 0} → ℕ → Places X → ℕ → Type 0
IsAt number [] index = ⊥
IsAt number (place ∷ places) zero = place.0 ≡ number
IsAt number (place ∷ places) (suc index) = IsAt number places index

-- no place has the number
abbrev pub IsAbsent : {X : Type 0} → ℕ → Places X → Type 0
IsAbsent number [] = Unit {0}
IsAbsent number (place ∷ places) = (nat_eq number place.0 ≡ false) × IsAbsent number places
