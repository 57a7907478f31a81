-- What is found among places whose numbers rise, and what an edit of them does.
use Rattle.std.proofs.Common.{◌≡◌, ℕ, zero, suc, ◌+◌, ◌<◌, ◌≤◌, Bool, true, false, cond, List, [], ◌∷◌, ◌++◌, length, length-append, get_or, set, refl, sym, ap, ◌∙◌, Option, Some, None, is_some, Result, Ok, Err, IfOk, IfErr, arith}
use Rattle.std.specs.Prelude.{nat_eq, nat_lt}
use Rattle.std.specs.List.{IsDistinct, AllByRecursion, filter}
use Rattle.std.specs.List.Sorted.{IsSearchInRange, IsBinarySearchResult, IsNonDecreasingBy}
use Rattle.std.specs.Ordering.{nat_cmp, ordering_index}
use Rattle.std.specs.Map.{lookup, keys_of}
use Rattle.std.proofs.lemmas.Cmp.{ranked}
use Rattle.std.proofs.lemmas.Bool.Decides.{nat_tests}
use Rattle.std.proofs.lemmas.Map.Keys.{IsDistinct-cons}
use Rattle.r6_tables.proofs.Entries.{distinct-none}
use Rattle.r6_tables.specs.Places.{Places, live, with_entry, value_at, with_value, IsRising, IsAt, IsAbsent}

-- a number below all numbers has no place
pub absent_below : {X : Type 0} (n low high : ℕ) (places : Places X) → n < low → IsRising low high places → IsAbsent n places
absent_below n low high [] lt rising = tt
absent_below n low high (place ∷ places) lt rising =
    (grind (arith, nat_tests, rising.0), absent_below n (place.0 + 1) high places (omega (arith, rising.0)) rising.1)

-- nor has one from the end on
rising_end : {X : Type 0} (low high : ℕ) (places : Places X) → IsRising low high places → low ≤ high
rising_end low high [] rising = rising
rising_end low high (place ∷ places) rising = omega (arith, rising.0, rising_end (place.0 + 1) high places rising.1)

pub absent_from : {X : Type 0} (n low high : ℕ) (places : Places X) → high ≤ n → IsRising low high places → IsAbsent n places
absent_from n low high [] le rising = tt
absent_from n low high (place ∷ places) le rising =
    let past = rising_end (place.0 + 1) high places rising.1 in
    let other : nat_eq n place.0 ≡ false = grind (arith, nat_tests, past) in
    (other, absent_from n (place.0 + 1) high places le rising.1)

pub value-absent : {X : Type 0} (n : ℕ) (places : Places X) → IsAbsent n places → value_at n places ≡ None
value-absent n [] absent = refl
value-absent n (place ∷ places) absent = ap (λ (b : Bool). cond b place.1 (value_at n places)) absent.0 ∙ value-absent n places absent.1

-- a place stands within the list
pub at_within : {X : Type 0} (n : ℕ) (places : Places X) (i : ℕ) → IsAt n places i → i < length places
at_within n [] i at = absurd at
at_within n (place ∷ places) zero at = omega arith
at_within n (place ∷ places) (suc i) at = omega (arith, at_within n places i at)

-- its number
pub number-at : {X : Type 0} (n : ℕ) (places : Places X) (i : ℕ) (d : ℕ × Option X) → IsAt n places i → (get_or places i d).0 ≡ n
number-at n [] i d at = absurd at
number-at n (place ∷ places) zero d at = at
number-at n (place ∷ places) (suc i) d at = number-at n places i d at

pub at_of_number : {X : Type 0} (n : ℕ) (places : Places X) (i : ℕ) → i < length places → ((d : ℕ × Option X) → (get_or places i d).0 ≡ n) → IsAt n places i
at_of_number n [] i lt same = absurd (omega (arith, lt))
at_of_number n (place ∷ places) zero lt same = same place
at_of_number n (place ∷ places) (suc i) lt same = at_of_number n places i (omega (arith, lt)) same

-- the number of a later place is another one
above_first : {X : Type 0} (n low high : ℕ) (places : Places X) (i : ℕ) → IsRising low high places → IsAt n places i → low ≤ n
above_first n low high [] i rising at = absurd at
above_first n low high (place ∷ places) zero rising at = omega (arith, rising.0, at)
above_first n low high (place ∷ places) (suc i) rising at = omega (arith, rising.0, above_first n (place.0 + 1) high places i rising.1 at)

-- its value
pub value-at : {X : Type 0} (n low high : ℕ) (places : Places X) (i : ℕ) (d : ℕ × Option X) → IsRising low high places → IsAt n places i → value_at n places ≡ (get_or places i d).1
value-at n low high [] i d rising at = absurd at
value-at n low high (place ∷ places) zero d rising at =
    let here : nat_eq n place.0 ≡ true = grind (arith, nat_tests, at) in
    ap (λ (b : Bool). cond b place.1 (value_at n places)) here
value-at n low high (place ∷ places) (suc i) d rising at =
    let above = above_first n (place.0 + 1) high places i rising.1 at in
    let other : nat_eq n place.0 ≡ false = grind (arith, nat_tests, above) in
    ap (λ (b : Bool). cond b place.1 (value_at n places)) other
    ∙ value-at n (place.0 + 1) high places i d rising.1 at

-- another value at the index is another value at its number
pub with_value-at : {X : Type 0} (n low high : ℕ) (v : Option X) (places : Places X) (i : ℕ) → IsRising low high places → IsAt n places i → set places i (n, v) ≡ with_value n v places
with_value-at n low high v [] i rising at = absurd at
with_value-at n low high v (place ∷ places) zero rising at =
    let here : nat_eq n place.0 ≡ true = grind (arith, nat_tests, at) in
    ap (λ (m : ℕ). (m, v) ∷ places) (sym at)
    ∙ sym (ap (λ (b : Bool). cond b ((place.0, v) ∷ places) (place ∷ with_value n v places)) here)
with_value-at n low high v (place ∷ places) (suc i) rising at =
    let above = above_first n (place.0 + 1) high places i rising.1 at in
    let other : nat_eq n place.0 ≡ false = grind (arith, nat_tests, above) in
    ap (λ (rest : Places _). place ∷ rest) (with_value-at n (place.0 + 1) high v places i rising.1 at)
    ∙ sym (ap (λ (b : Bool). cond b ((place.0, v) ∷ places) (place ∷ with_value n v places)) other)

-- the numbers stay
pub rising-with_value : {X : Type 0} (n low high : ℕ) (v : Option X) (places : Places X) → IsRising low high places → IsRising low high (with_value n v places)
rising-with_value n low high v [] rising = rising
rising-with_value n low high v (place ∷ places) rising =
    elim (nat_eq n place.0) as (λ b. IsRising low high (cond b ((place.0, v) ∷ places) (place ∷ with_value n v places))) [
      | true ↦ rising
      | false ↦ (rising.0, rising-with_value n (place.0 + 1) high v places rising.1)
    ]

-- a new place comes last
pub rising-pushed : {X : Type 0} (low high : ℕ) (v : Option X) (places : Places X) → IsRising low high places → IsRising low (high + 1) (places ++ (high, v) ∷ [])
rising-pushed low high v [] rising = (rising, omega arith)
rising-pushed low high v (place ∷ places) rising = (rising.0, rising-pushed (place.0 + 1) high v places rising.1)

pub live-pushed : {X : Type 0} (n : ℕ) (v : X) (places : Places X) → live (places ++ (n, Some v) ∷ []) ≡ live places ++ (n, v) ∷ []
live-pushed n v [] = refl
live-pushed n v (place ∷ places) = ap (with_entry place.0 place.1) (live-pushed n v places) ∙ moved place.1
  where
    moved : (o : Option _) → with_entry place.0 o (live places ++ (n, v) ∷ []) ≡ with_entry place.0 o (live places) ++ (n, v) ∷ []
    moved None = refl
    moved (Some w) = refl

pub length-pushed : {X : Type 0} (n : ℕ) (v : X) (places : Places X) → length (live (places ++ (n, Some v) ∷ [])) ≡ length (live places) + 1
length-pushed n v places = ap length (live-pushed n v places) ∙ length-append (live places) ((n, v) ∷ [])

-- the entries that are there, by number
lookup-skipped : {X : Type 0} (n : ℕ) (place : ℕ × Option X) (rest : List (ℕ × X)) → nat_eq n place.0 ≡ false
    → lookup (nat_eq n) (with_entry place.0 place.1 rest) ≡ lookup (nat_eq n) rest
lookup-skipped n (m, None) rest other = refl
lookup-skipped n (m, Some v) rest other = ap (λ (b : Bool). cond b (Some v) (lookup (nat_eq n) rest)) other

pub lookup-live-absent : {X : Type 0} (n : ℕ) (places : Places X) → IsAbsent n places → lookup (nat_eq n) (live places) ≡ None
lookup-live-absent n [] absent = refl
lookup-live-absent n (place ∷ places) absent = lookup-skipped n place (live places) absent.0 ∙ lookup-live-absent n places absent.1

lookup-first : {X : Type 0} (n : ℕ) (place : ℕ × Option X) (rest : List (ℕ × X)) → nat_eq n place.0 ≡ true → lookup (nat_eq n) rest ≡ None
    → lookup (nat_eq n) (with_entry place.0 place.1 rest) ≡ place.1
lookup-first n (m, None) rest same none = none
lookup-first n (m, Some v) rest same none = ap (λ (b : Bool). cond b (Some v) (lookup (nat_eq n) rest)) same

pub lookup-live : {X : Type 0} (n low high : ℕ) (places : Places X) → IsRising low high places → lookup (nat_eq n) (live places) ≡ value_at n places
lookup-live n low high [] rising = refl
lookup-live n low high (place ∷ places) rising =
    elim (nat_eq n place.0) as (λ b. nat_eq n place.0 ≡ b → lookup (nat_eq n) (with_entry place.0 place.1 (live places)) ≡ cond b place.1 (value_at n places)) [
      | true ↦ λ same.
          let same' : n ≡ place.0 = grind (arith, nat_tests, same) in
          lookup-first n place (live places) same (lookup-live-absent n places (absent_below n (place.0 + 1) high places (omega (arith, same')) rising.1))
      | false ↦ λ other. lookup-skipped n place (live places) other ∙ lookup-live n (place.0 + 1) high places rising.1
    ] refl

-- no number comes twice
all_above : {X : Type 0} (n low high : ℕ) (places : Places X) → n < low → IsRising low high places → AllByRecursion (λ y. nat_eq n y ≡ false) (keys_of (live places))
all_above n low high [] lt rising = tt
all_above n low high ((m, None) ∷ places) lt rising = all_above n (m + 1) high places (omega (arith, rising.0)) rising.1
all_above n low high ((m, Some v) ∷ places) lt rising =
    let other : nat_eq n m ≡ false = grind (arith, nat_tests, rising.0) in
    (other, all_above n (m + 1) high places (omega (arith, rising.0)) rising.1)

pub distinct-live : {X : Type 0} (low high : ℕ) (places : Places X) → IsRising low high places → IsDistinct nat_eq (keys_of (live places))
distinct-live low high [] rising = distinct-none
distinct-live low high ((m, None) ∷ places) rising = distinct-live (m + 1) high places rising.1
distinct-live low high ((m, Some v) ∷ places) rising =
    IsDistinct-cons nat_eq m (keys_of (live places)) (all_above m (m + 1) high places (omega arith) rising.1) (distinct-live (m + 1) high places rising.1)

-- what stands at each number once another value stands at one
value-changed_here : {X : Type 0} (q n : ℕ) (v : Option X) (place : ℕ × Option X) (places : Places X) → nat_eq n place.0 ≡ true
    → value_at q ((place.0, v) ∷ places) ≡ cond (nat_eq q n) v (value_at q (place ∷ places))
value-changed_here q n v place places same =
    let same' : n ≡ place.0 = grind (arith, nat_tests, same) in
    elim (nat_eq q n) as (λ b. nat_eq q n ≡ b → value_at q ((place.0, v) ∷ places) ≡ cond b v (value_at q (place ∷ places))) [
      | true ↦ λ here.
          let here' : nat_eq q place.0 ≡ true = grind (arith, nat_tests, here, same') in
          ap (λ (b : Bool). cond b v (value_at q places)) here'
      | false ↦ λ other.
          let other' : nat_eq q place.0 ≡ false = grind (arith, nat_tests, other, same') in
          ap (λ (b : Bool). cond b v (value_at q places)) other' ∙ sym (ap (λ (b : Bool). cond b place.1 (value_at q places)) other')
    ] refl

value-changed_later : {X : Type 0} (q n : ℕ) (v : Option X) (place : ℕ × Option X) (places : Places X) → nat_eq n place.0 ≡ false
    → value_at q (with_value n v places) ≡ cond (nat_eq q n) v (value_at q places)
    → value_at q (place ∷ with_value n v places) ≡ cond (nat_eq q n) v (value_at q (place ∷ places))
value-changed_later q n v place places other rest =
    elim (nat_eq q place.0) as (λ b. nat_eq q place.0 ≡ b → cond b place.1 (value_at q (with_value n v places)) ≡ cond (nat_eq q n) v (cond b place.1 (value_at q places))) [
      | true ↦ λ here.
          let apart : nat_eq q n ≡ false = grind (arith, nat_tests, here, other) in
          sym (ap (λ (b : Bool). cond b v place.1) apart)
      | false ↦ λ there. rest
    ] refl

pub value-with_value : {X : Type 0} (q n : ℕ) (v : Option X) (places : Places X) (i : ℕ) → IsAt n places i → value_at q (with_value n v places) ≡ cond (nat_eq q n) v (value_at q places)
value-with_value q n v [] i at = absurd at
value-with_value q n v (place ∷ places) zero at =
    let same : nat_eq n place.0 ≡ true = grind (arith, nat_tests, at) in
    ap (λ (b : Bool). value_at q (cond b ((place.0, v) ∷ places) (place ∷ with_value n v places))) same ∙ value-changed_here q n v place places same
value-with_value q n v (place ∷ places) (suc i) at =
    elim (nat_eq n place.0) as (λ b. nat_eq n place.0 ≡ b → value_at q (cond b ((place.0, v) ∷ places) (place ∷ with_value n v places)) ≡ cond (nat_eq q n) v (value_at q (place ∷ places))) [
      | true ↦ λ same. value-changed_here q n v place places same
      | false ↦ λ other. value-changed_later q n v place places other (value-with_value q n v places i at)
    ] refl

-- how many entries are there then
abbrev pub count : {X : Type 0} → Option X → ℕ
count None = 0
count (Some v) = 1

length-with_entry : {X : Type 0} (n : ℕ) (v : Option X) (entries : List (ℕ × X)) → length (with_entry n v entries) ≡ count v + length entries
length-with_entry n None entries = omega arith
length-with_entry n (Some v) entries = omega arith

length-changed_here : {X : Type 0} (n : ℕ) (v : Option X) (place : ℕ × Option X) (places : Places X) → nat_eq n place.0 ≡ true
    → length (live ((place.0, v) ∷ places)) + count (value_at n (place ∷ places)) ≡ length (live (place ∷ places)) + count v
length-changed_here n v place places same =
    let old = length-with_entry place.0 place.1 (live places) in
    let new = length-with_entry place.0 v (live places) in
    let here = ap (λ (b : Bool). count (cond b place.1 (value_at n places))) same in
    omega (arith, old, new, here)

length-changed_later : {X : Type 0} (n : ℕ) (v : Option X) (place : ℕ × Option X) (places : Places X) → nat_eq n place.0 ≡ false
    → length (live (with_value n v places)) + count (value_at n places) ≡ length (live places) + count v
    → length (live (place ∷ with_value n v places)) + count (value_at n (place ∷ places)) ≡ length (live (place ∷ places)) + count v
length-changed_later n v place places other rest =
    let old = length-with_entry place.0 place.1 (live places) in
    let new = length-with_entry place.0 place.1 (live (with_value n v places)) in
    let later = ap (λ (b : Bool). count (cond b place.1 (value_at n places))) other in
    omega (arith, old, new, later, rest)

pub length-with_value : {X : Type 0} (n : ℕ) (v : Option X) (places : Places X) (i : ℕ) → IsAt n places i
    → length (live (with_value n v places)) + count (value_at n places) ≡ length (live places) + count v
length-with_value n v [] i at = absurd at
length-with_value n v (place ∷ places) zero at =
    let same : nat_eq n place.0 ≡ true = grind (arith, nat_tests, at) in
    ap (λ (b : Bool). length (live (cond b ((place.0, v) ∷ places) (place ∷ with_value n v places))) + count (value_at n (place ∷ places))) same
    ∙ length-changed_here n v place places same
length-with_value n v (place ∷ places) (suc i) at =
    elim (nat_eq n place.0) as (λ b. nat_eq n place.0 ≡ b → length (live (cond b ((place.0, v) ∷ places) (place ∷ with_value n v places))) + count (value_at n (place ∷ places)) ≡ length (live (place ∷ places)) + count v) [
      | true ↦ λ same. length-changed_here n v place places same
      | false ↦ λ other. length-changed_later n v place places other (length-with_value n v places i at)
    ] refl

-- the numbers rise along the list
number_from : {X : Type 0} (low high : ℕ) (places : Places X) (j : ℕ) (d : ℕ × Option X) → IsRising low high places → j < length places → low ≤ (get_or places j d).0
number_from low high [] j d rising within = absurd (omega (arith, within))
number_from low high (place ∷ places) zero d rising within = rising.0
number_from low high (place ∷ places) (suc j) d rising within = omega (arith, rising.0, number_from (place.0 + 1) high places j d rising.1 (omega (arith, within)))

numbers_rise : {X : Type 0} (low high : ℕ) (places : Places X) (i j : ℕ) (d : ℕ × Option X) → IsRising low high places → i ≤ j → j < length places
    → (get_or places i d).0 ≤ (get_or places j d).0
numbers_rise low high [] i j d rising le within = absurd (omega (arith, within))
numbers_rise low high (place ∷ places) zero zero d rising le within = omega arith
numbers_rise low high (place ∷ places) zero (suc j) d rising le within = omega (arith, number_from (place.0 + 1) high places j d rising.1 (omega (arith, within)))
numbers_rise low high (place ∷ places) (suc i) zero d rising le within = absurd (omega (arith, le))
numbers_rise low high (place ∷ places) (suc i) (suc j) d rising le within = numbers_rise (place.0 + 1) high places i j d rising.1 (omega (arith, le)) (omega (arith, within))

comparisons_rise : {X : Type 0} (n low high : ℕ) (places : Places X) → IsRising low high places → IsNonDecreasingBy (λ place. ordering_index (nat_cmp place.0 n)) places
comparisons_rise n low high places rising i j d le within =
    let rise = numbers_rise low high places i j d rising le within in
    grind (arith, nat_tests, rise)

absent_of_others : {X : Type 0} (n : ℕ) (places : Places X) → ((j : ℕ) (d : ℕ × Option X) → j < length places → nat_eq n (get_or places j d).0 ≡ false) → IsAbsent n places
absent_of_others n [] others = tt
absent_of_others n (place ∷ places) others = (others 0 place (omega arith), absent_of_others n places (λ j d within. others (suc j) d (omega (arith, within))))

-- a binary search finds the place of a number
pub searched : {X : Type 0} (n low high : ℕ) (places : Places X) (r : Result ℕ ℕ) → IsRising low high places → IsSearchInRange r (length places)
    → IsBinarySearchResult (λ place. nat_cmp place.0 n) places r
    → record { at : IfOk r (IsAt n places); absent : IfErr r (λ i. IsAbsent n places) }
searched n low high places (Ok i) rising within equal =
    record { at = at_of_number n places i within (λ d. ranked _ n _ (sym (equal d))); absent = tt }
searched n low high places (Err i) rising within parted = record {
  at = tt;
  absent = absent_of_others n places (λ j d below.
      let split = parted (comparisons_rise n low high places rising) in
      elim (nat_lt j i) as (λ b. nat_lt j i ≡ b → nat_eq n (get_or places j d).0 ≡ false) [
        | true ↦ λ before.
            let less = ranked _ n _ (sym (split.0 j d (omega arith) (grind (arith, nat_tests, before)))) in
            grind (arith, nat_tests, less)
        | false ↦ λ from.
            let more = ranked _ n _ (sym (split.1 j d (grind (arith, nat_tests, from)) below)) in
            grind (arith, nat_tests, more)
      ] refl);
}

-- what a sweep leaves: the places of the entries that are there
abbrev pub has_value : {X : Type 0} → ℕ × Option X → Bool
has_value place = is_some place.1

pub live-swept : {X : Type 0} (places : Places X) → live (filter has_value places) ≡ live places
live-swept [] = refl
live-swept ((m, None) ∷ places) = live-swept places
live-swept ((m, Some v) ∷ places) = ap (λ (rest : List (ℕ × _)). (m, v) ∷ rest) (live-swept places)

pub length-swept : {X : Type 0} (places : Places X) → length (filter has_value places) ≡ length (live places)
length-swept [] = refl
length-swept ((m, None) ∷ places) = length-swept places
length-swept ((m, Some v) ∷ places) = omega (arith, length-swept places)

rising-lower : {X : Type 0} (lower low high : ℕ) (places : Places X) → lower ≤ low → IsRising low high places → IsRising lower high places
rising-lower lower low high [] le rising = omega (arith, rising)
rising-lower lower low high (place ∷ places) le rising = (omega (arith, rising.0), rising.1)

pub rising-swept : {X : Type 0} (low high : ℕ) (places : Places X) → IsRising low high places → IsRising low high (filter has_value places)
rising-swept low high [] rising = rising
rising-swept low high ((m, None) ∷ places) rising = rising-lower low (m + 1) high (filter has_value places) (omega (arith, rising.0)) (rising-swept (m + 1) high places rising.1)
rising-swept low high ((m, Some v) ∷ places) rising = (rising.0, rising-swept (m + 1) high places rising.1)
