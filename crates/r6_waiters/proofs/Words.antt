-- What a write of a word does to a set of positions.
use Rattle.std.proofs.Common.{min, ◌≡◌, inl, inr, ℕ, ◌+◌, ◌-◌, ◌*◌, ◌/◌, ◌%◌, ◌^◌, ◌<◌, ◌≤◌, Bool, true, false, bit_and, bit_or, w64, List, length, get_or, set, refl, sym, ap, ◌∙◌, arith}
use Rattle.std.specs.Prelude.{◌==◌, ◌&&◌, ◌||◌, nat_le, sum, if◌then◌else◌}
use Rattle.std.specs.Int.{bit_at, trailing_zeros}
use Rattle.std.proofs.lemmas.Bool.{le-leb, lt-leb, leb-true, and_parts, cases_eq, cases_lt, eq-eqb, ne_eqb}
use Rattle.std.proofs.lemmas.List.{get_or-set_same, get_or-set_other, get_or_past}
use Rattle.std.proofs.lemmas.List.Sums.{sum_by-set}
use Rattle.std.proofs.lemmas.Nat.Bits.{bit_at_and, bit_at_mask_below, bit_at_mask_inside, ones_shl, bit_at-lt, bit_at-zero, bit_at-trailing_zeros}
use Rattle.r6_bits.specs.Words.{is_set}
use Rattle.r6_bits.proofs.Words.{set-or, set-with, set-without, less-without}
use Rattle.r6_waiters.specs.Positions.{has, HasNone, IsLowest, IsLowestFrom}

-- of two positions of one word
same_word : (q k : ℕ) → q / 64 ≡ k / 64 → (q % 64 == k % 64) ≡ (q == k)
same_word q k same =
    elim (cases_eq q k) [
      | inl one ↦ ap (λ (n : ℕ). n % 64 == k % 64) one ∙ eq-eqb (k % 64) (k % 64) refl ∙ sym (eq-eqb q k one)
      | inr two ↦ ne_eqb (q % 64) (k % 64) (λ e. two (omega arith)) ∙ sym (ne_eqb q k two)
    ]

other_word : (q k : ℕ) → (q / 64 ≡ k / 64 → ⊥) → (q == k) ≡ false
other_word q k other = ne_eqb q k (λ e. other (ap (λ (n : ℕ). n / 64) e))

-- another word at one place
has-set : (words : List ℕ) (w word q : ℕ) → w < length words → q / 64 ≡ w → has (set words w word) q ≡ is_set word (q % 64)
has-set words w word q within here = rw here (ap (λ (n : ℕ). is_set n (q % 64)) (get_or-set_same words w word 0 within))

has-set_other : (words : List ℕ) (w word q : ℕ) → (q / 64 ≡ w → ⊥) → has (set words w word) q ≡ has words q
has-set_other words w word q other = ap (λ (n : ℕ). is_set n (q % 64)) (get_or-set_other words w (q / 64) word 0 other)

pub has-inserted : (words : List ℕ) (k old q : ℕ) → old ≡ get_or words (k / 64) 0 → k < 64 * length words
    → has (set words (k / 64) (bit_or old (1 * 2 ^ (k % 64) % 18446744073709551616))) q ≡ (if q == k then true else has words q)
has-inserted words k old q is within =
    let word = bit_or old (1 * 2 ^ (k % 64) % 18446744073709551616) in
    elim (cases_eq (q / 64) (k / 64)) [
      | inl here ↦
          has-set words (k / 64) word q (omega arith) here
          ∙ set-with w64 old (k % 64) (q % 64) (omega arith)
          ∙ ap (λ (b : Bool). if b then true else is_set old (q % 64)) (same_word q k here)
          ∙ ap (λ (n : ℕ). if q == k then true else is_set n (q % 64)) (is ∙ ap (λ (w : ℕ). get_or words w 0) (sym here))
      | inr other ↦ has-set_other words (k / 64) word q other ∙ sym (ap (λ (b : Bool). if b then true else has words q) (other_word q k other))
    ]

pub has-removed : (words : List ℕ) (k old q : ℕ) → old ≡ get_or words (k / 64) 0 → k < 64 * length words
    → has (set words (k / 64) (bit_and old (18446744073709551615 - 1 * 2 ^ (k % 64) % 18446744073709551616))) q ≡ (if q == k then false else has words q)
has-removed words k old q is within =
    let word = bit_and old (18446744073709551615 - 1 * 2 ^ (k % 64) % 18446744073709551616) in
    elim (cases_eq (q / 64) (k / 64)) [
      | inl here ↦
          has-set words (k / 64) word q (omega arith) here
          ∙ set-without w64 old (k % 64) (q % 64) (omega arith) (omega arith)
          ∙ ap (λ (b : Bool). if b then false else is_set old (q % 64)) (same_word q k here)
          ∙ ap (λ (n : ℕ). if q == k then false else is_set n (q % 64)) (is ∙ ap (λ (w : ℕ). get_or words w 0) (sym here))
      | inr other ↦ has-set_other words (k / 64) word q other ∙ sym (ap (λ (b : Bool). if b then false else has words q) (other_word q k other))
    ]

-- a position that is in the set is within its room
pub has-within : (words : List ℕ) (k : ℕ) → has words k ≡ true → k < 64 * length words
has-within words k there =
    elim (cases_lt (k / 64) (length words)) [
      | inl within ↦ omega arith
      | inr past ↦
          let none : has words k ≡ false = ap (λ (n : ℕ). is_set n (k % 64)) (get_or_past words (k / 64) 0 past) ∙ ap (λ (n : ℕ). n == 1) (bit_at-zero (k % 64)) in
          absurd (cc)
    ]

pub sum-removed : (words : List ℕ) (k old : ℕ) → old ≡ get_or words (k / 64) 0 → has words k ≡ true
    → sum (set words (k / 64) (bit_and old (18446744073709551615 - 1 * 2 ^ (k % 64) % 18446744073709551616))) < sum words
sum-removed words k old is there =
    let within = has-within words k there in
    let word = bit_and old (18446744073709551615 - 1 * 2 ^ (k % 64) % 18446744073709551616) in
    let set_there : is_set old (k % 64) ≡ true = ap (λ (n : ℕ). is_set n (k % 64)) is ∙ there in
    let fewer = less-without w64 old (k % 64) (omega arith) set_there in
    let sums = sum_by-set (λ (n : ℕ). n) words (k / 64) word 0 (omega arith) in
    omega (arith, fewer, sums, is)

-- the lowest bit of the first word that is not 0
pub lowest-found : (words : List ℕ) (w word : ℕ) → word ≡ get_or words w 0 → (word ≡ 0 → ⊥) → word < 2 ^ 64 → ((k : ℕ) → k < w → get_or words k 0 ≡ 0)
    → IsLowest words (64 * w + trailing_zeros w64 word)
lowest-found words w word is some small before =
    let found = bit_at-trailing_zeros w64 word (omega arith) small in
    let zeros = trailing_zeros w64 word in
    let bound : zeros < 64 = found.0 in
    let at_word : (64 * w + zeros) / 64 ≡ w = omega (arith, bound) in
    let at_bit : (64 * w + zeros) % 64 ≡ zeros = omega (arith, bound) in
    let here : has words (64 * w + zeros) ≡ true =
    rw (at_word, at_bit) (ap (λ (n : ℕ). is_set n zeros) (sym is) ∙ ap (λ (n : ℕ). n == 1) found.1) in (
      here,
      λ lower below.
          elim (cases_eq (lower / 64) w) [
            | inl same ↦
                ap (λ (v : ℕ). is_set (get_or words v 0) (lower % 64)) same
                ∙ ap (λ (n : ℕ). is_set n (lower % 64)) (sym is)
                ∙ ap (λ (n : ℕ). n == 1) (found.2 (lower % 64) (omega (arith, bound)))
            | inr other ↦ ap (λ (n : ℕ). is_set n (lower % 64)) (before (lower / 64) (omega (arith, bound))) ∙ ap (λ (n : ℕ). n == 1) (bit_at-zero (lower % 64))
          ],
    )

-- a set whose words are 0 is empty
pub none-of_zeros : (words : List ℕ) → ((k : ℕ) → k < length words → get_or words k 0 ≡ 0) → HasNone words
none-of_zeros words zeros position =
    let word : get_or words (position / 64) 0 ≡ 0 =
    elim (cases_lt (position / 64) (length words)) [ inl within ↦ zeros (position / 64) within | inr past ↦ get_or_past words (position / 64) 0 past ] in
    ap (λ (n : ℕ). is_set n (position % 64)) word ∙ ap (λ (n : ℕ). n == 1) (bit_at-zero (position % 64))

-- a set that took the words of another
pub has-taken : (words more taken : List ℕ) (n : ℕ) → length words ≤ n → length more ≡ length words → length taken ≡ length words
    → ((k : ℕ) → k < n → get_or taken k 0 ≡ bit_or (get_or words k 0) (get_or more k 0)) → (i : ℕ) → has taken i ≡ (has words i || has more i)
has-taken words more taken n long other_as_long as_long each i =
    elim (cases_lt (i / 64) (length words)) [
      | inl within ↦ ap (λ (m : ℕ). is_set m (i % 64)) (each (i / 64) (omega arith)) ∙ set-or (get_or words (i / 64) 0) (get_or more (i / 64) 0) (i % 64)
      | inr past ↦
          let none : is_set 0 (i % 64) ≡ false = ap (λ (m : ℕ). m == 1) (bit_at-zero (i % 64)) in
          let of = λ (l : List ℕ) (past : length l ≤ i / 64). ap (λ (m : ℕ). is_set m (i % 64)) (get_or_past l (i / 64) 0 past) ∙ none in
          of taken (omega arith) ∙ sym (ap (λ (b : Bool). b || has more i) (of words past) ∙ of more (omega arith))
    ]

-- ---- the positions from one on

min_none : (b : ℕ) → (min b 0 == 1) ≡ false
min_none b = grind arith

min_same : (b : ℕ) → b < 2 → (min b 1 == 1) ≡ (b == 1)
min_same b small = grind arith

-- the bits of its word
pub part-from : (word index from i : ℕ) → index ≡ from / 64 → i < 64
    → is_set (bit_and word (18446744073709551615 * 2 ^ (from % 64) % 18446744073709551616)) i ≡ (nat_le from (64 * index + i) && is_set word i)
part-from word index from i here within =
    let k = from % 64 in
    let small : k ≤ 64 = omega arith in
    ap (λ (n : ℕ). is_set (bit_and word n) i) (ones_shl 64 k small)
    ∙ ap (λ (n : ℕ). n == 1) (bit_at_and word (2 ^ 64 - 2 ^ k) i)
    ∙ elim (cases_lt i k) [
      | inl below ↦
          ap (λ (n : ℕ). min (bit_at word i) n == 1) (bit_at_mask_below k 64 i below)
          ∙ min_none (bit_at word i)
          ∙ sym (ap (λ (b : Bool). b && is_set word i) (lt-leb from (64 * index + i) (omega (arith, here))))
      | inr past ↦
          ap (λ (n : ℕ). min (bit_at word i) n == 1) (bit_at_mask_inside k 64 i past within)
          ∙ min_same (bit_at word i) (bit_at-lt word i)
          ∙ sym (ap (λ (b : Bool). b && is_set word i) (le-leb from (64 * index + i) (omega (arith, here))))
    ]

at_part : (words : List ℕ) (index from word part q : ℕ) → word ≡ get_or words index 0 → ((i : ℕ) → i < 64 → is_set part i ≡ (nat_le from (64 * index + i) && is_set word i)) → from ≤ q → q / 64 ≡ index
    → has words q ≡ is_set part (q % 64)
at_part words index from word part q is bits past here =
    ap (λ (n : ℕ). is_set (get_or words n 0) (q % 64)) here
    ∙ ap (λ (n : ℕ). is_set n (q % 64)) (sym is)
    ∙ sym (bits (q % 64) (omega arith) ∙ ap (λ (b : Bool). b && is_set word (q % 64)) (le-leb from (64 * index + q % 64) (omega arith)))

pub lowest_from-found : (words : List ℕ) (index from word part : ℕ) → word ≡ get_or words index 0 → ((i : ℕ) → i < 64 → is_set part i ≡ (nat_le from (64 * index + i) && is_set word i)) → (part ≡ 0 → ⊥) → part < 2 ^ 64
    → ((q : ℕ) → from ≤ q → q / 64 < index → has words q ≡ false) → IsLowestFrom words from (64 * index + trailing_zeros w64 part)
lowest_from-found words index from word part is bits some small before =
    let found = bit_at-trailing_zeros w64 part (omega arith) small in
    let zeros = trailing_zeros w64 part in
    let bound : zeros < 64 = found.0 in
    let there : is_set part zeros ≡ true = ap (λ (n : ℕ). n == 1) found.1 in
    let past : from ≤ 64 * index + zeros = leb-true from (64 * index + zeros) (and_parts (nat_le from (64 * index + zeros)) (is_set word zeros) (sym (bits zeros bound) ∙ there)).0 in
    let at_word : (64 * index + zeros) / 64 ≡ index = omega (arith, bound) in
    let at_bit : (64 * index + zeros) % 64 ≡ zeros = omega (arith, bound) in (
      past,
      at_part words index from word part (64 * index + zeros) is bits past at_word ∙ ap (λ (n : ℕ). is_set part n) at_bit ∙ there,
      λ lower above below.
          elim (cases_eq (lower / 64) index) [
            | inl same ↦ at_part words index from word part lower is bits above same ∙ ap (λ (n : ℕ). n == 1) (found.2 (lower % 64) (omega (arith, bound)))
            | inr other ↦ before lower above (omega (arith, bound))
          ],
    )
