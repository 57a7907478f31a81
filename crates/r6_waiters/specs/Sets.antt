-- What sets of positions, one for each cause, say of places: which entry waits for which cause.
use Rattle.std.specs.Prelude.{◌≡◌, ℕ, suc, ◌*◌, ◌<◌, ◌≤◌, ◌==◌, ◌&&◌, Bool, true, List, [], ◌∷◌, length, slice_index_or, Option, Some, None, is_some, if◌then◌else◌}
use Rattle.r6_waiters.specs.Positions.{has}

-- by position: the cause that an entry came for, and its value unless it was taken out
abbrev pub Places : Type 0 → Type 0
Places X = List (ℕ × Option X)

abbrev pub place_at : {X : Type 0} → Places X → ℕ → ℕ × Option X
place_at places position = slice_index_or places position (0, None)

-- an entry is at the position
abbrev pub is_there : {X : Type 0} → Places X → ℕ → Bool
is_there places position = is_some (place_at places position).1

-- the position is in the cause's set
abbrev pub is_marked : List (List ℕ) → ℕ → ℕ → Bool
is_marked sets cause position = has (slice_index_or sets cause []) position

-- the first cause that has the position in its set
abbrev pub cause_at : List (List ℕ) → ℕ → ℕ
cause_at [] position = 0
cause_at (set ∷ sets) position = if has set position then 0 else suc (cause_at sets position)

abbrev pub with_entry : {X : Type 0} → ℕ → Option X → List (ℕ × X) → List (ℕ × X)
with_entry cause None entries = entries
with_entry cause (Some value) entries = (cause, value) ∷ entries

-- the entries that are there, each with the cause of its position
abbrev pub waiting : {X : Type 0} → (ℕ → ℕ) → Places X → List (ℕ × X)
waiting cause_of [] = []
waiting cause_of (place ∷ places) = with_entry (cause_of 0) place.1 (waiting (λ i. cause_of (suc i)) places)

-- an entry's position is in the set of its cause, and in no other; no other position is in a set
pub record IsMarked {X : Type 0} (sets : List (List ℕ)) (places : Places X) (cause_of : ℕ → ℕ) : Type 0 where
  pub marks : (cause position : ℕ)
      → is_marked sets cause position ≡ (is_there places position && (cause_of position == cause))
  pub within : (position : ℕ) → is_there places position ≡ true → cause_of position < length sets

-- each set has room for the positions below a limit
abbrev pub HaveRoom : List (List ℕ) → ℕ → Type 0
HaveRoom sets limit = (cause : ℕ) → cause < length sets → limit ≤ 64 * length (slice_index_or sets cause [])

-- the sets are as many as others, and each has as much room
abbrev pub AreAsWide : List (List ℕ) → List (List ℕ) → Type 0
AreAsWide sets others =
    (length others ≡ length sets)
    × ((cause : ℕ) → length (slice_index_or others cause []) ≡ length (slice_index_or sets cause []))
