-- Room in each of the sets, and sets that have no position.
use Rattle.std.proofs.Common.{◌≡◌, inl, inr, ℕ, ◌*◌, ◌<◌, ◌≤◌, Bool, false, List, [], length, get_or, subst, sym, ap, Option, None, arith}
use Rattle.std.specs.Prelude.{◌&&◌, nat_lt, slice_index_or}
use Rattle.std.proofs.lemmas.Bool.{cases_Bool, le-ltb}
use Rattle.std.proofs.lemmas.List.{get_or_read}
use Rattle.r6_waiters.specs.Sets.{Places, place_at, is_marked, HaveRoom, AreAsWide}
use Rattle.r6_waiters.proofs.Marks.{mark-within}

-- a position below the limit is within each set
pub room-in : (start sets : List (List ℕ)) (old : List ℕ) (cause limit p : ℕ) → HaveRoom start limit → AreAsWide start sets → cause < length sets → old ≡ get_or sets cause old → p < limit → p < 64 * length old
room-in start sets old cause limit p room wide within is below =
    let read : length old ≡ length (slice_index_or sets cause []) = ap length (get_or_read sets cause old within is []) in
    let enough = room cause (subst (λ (n : ℕ). cause < n) wide.0 within) in
    omega (arith, below, enough, read, wide.1 cause)

pub room-less : (sets : List (List ℕ)) (many few : ℕ) → HaveRoom sets many → few ≤ many → HaveRoom sets few
room-less sets many few room fewer cause within = omega (arith, room cause within, fewer)

pub up-to : (i n : ℕ) → i < n → i ≤ n
up-to i n below = omega (arith, below)

-- the cause that stands at a place
pub cause-within : {X : Type 0} (places : Places X) (sets : List (List ℕ)) (place : ℕ × Option X) (p many : ℕ) → ((i : ℕ) → i < length places → (place_at places i).0 < many) → p < length places → place ≡ get_or places p place → length sets ≡ many → place.0 < length sets
cause-within {X} places sets place p many causes inside at long =
    let cause : place.0 ≡ (place_at places p).0 = ap (λ (q : ℕ × Option X). q.0) (get_or_read places p place inside at (0, None)) in
    omega (arith, causes p inside, cause, long)

-- a position that is in no set below their number is in none
pub unmarked : (sets : List (List ℕ)) (n i : ℕ) → length sets ≤ n → ((c : ℕ) → c < n → is_marked sets c i ≡ false) → (c : ℕ) → is_marked sets c i ≡ false
unmarked sets n i all none c =
    elim (cases_Bool (is_marked sets c i)) [
      | inl there ↦ let clear = none c (omega (arith, mark-within sets c i there, all)) in absurd (cc (there, clear))
      | inr clear ↦ clear
    ]

pub none-below : (b : Bool) (i : ℕ) → false ≡ (nat_lt i 0 && b)
none-below b i = sym (ap (λ (t : Bool). t && b) (le-ltb i 0 (omega arith)))
