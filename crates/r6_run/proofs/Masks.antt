-- The slots that are lost, a bit each.
use Rattle.std.proofs.Common.{◌≡◌, ◌∙◌, ℕ, zero, suc, ◌+◌, ◌-◌, ◌*◌, ◌^◌, ◌<◌, ◌≤◌, ◌==◌, ◌||◌, Bool, true, false, cond, List, [], ◌∷◌, length, map, count_ones, refl, ap, sym, subst, arith}
use Rattle.std.specs.List.{range_with_len}
use Rattle.std.proofs.Math.Nat.{pow-le-pow_right, two-pow-succ}
use Rattle.std.proofs.lemmas.Bool.Decides.{nat_tests}
use Rattle.std.proofs.lemmas.Simd.{ones-mask_l, ones-mask_l_cons}
use lib.Lanes.{mask_l}
use Rattle.r6_offline.specs.Parts.{is_lost}
use Rattle.r6_run.specs.Arrays.{mask_from, mask_of}

worth_below : (b : Bool) → cond b 1 0 ≤ 1
worth_below true = omega arith
worth_below false = omega arith

pub mask_within : (lost : List ℕ) (slot count : ℕ) → mask_from lost slot count < 2 ^ count
mask_within lost slot zero = omega arith
mask_within lost slot (suc count) =
    let rest = mask_within lost (slot + 1) count in
    let bit = worth_below (is_lost lost slot) in
    let more = two-pow-succ count in
    omega (arith, rest, bit, more)

as_bits : (lost : List ℕ) (slot count : ℕ) → mask_from lost slot count ≡ mask_l (map (is_lost lost) (range_with_len slot count))
as_bits lost slot zero = refl
as_bits lost slot (suc count) = elim (is_lost lost slot) as (λ b. 2 * mask_from lost (slot + 1) count + cond b 1 0 ≡ mask_l (b ∷ map (is_lost lost) (range_with_len (slot + 1) count))) [
  | true ↦ let rest = as_bits lost (slot + 1) count in omega (arith, rest)
  | false ↦ let rest = as_bits lost (slot + 1) count in omega (arith, rest)
]

-- how many of so many slots from one on are of a kind
abbrev count_in : (ℕ → Bool) → (slot count : ℕ) → ℕ
count_in p slot zero = 0
count_in p slot (suc count) = cond (p slot) 1 0 + count_in p (slot + 1) count

ones_of : (lost : List ℕ) (slot count : ℕ) → count_ones (mask_from lost slot count) ≡ count_in (is_lost lost) slot count
ones_of lost slot zero = ones-mask_l (is_lost lost) []
ones_of lost slot (suc count) =
    ap count_ones (as_bits lost slot (suc count)) ∙ ones-mask_l_cons (is_lost lost slot) (map (is_lost lost) (range_with_len (slot + 1) count))
    ∙ ap (λ ones. cond (is_lost lost slot) 1 0 + ones) (sym (ap count_ones (as_bits lost (slot + 1) count)) ∙ ones_of lost (slot + 1) count)

-- one of two kinds
count_either : (p q : ℕ → Bool) (slot count : ℕ) → count_in (λ x. p x || q x) slot count ≤ count_in p slot count + count_in q slot count
count_either p q slot zero = omega arith
count_either p q slot (suc count) =
    let rest = count_either p q (slot + 1) count in
    elim (p slot) as (λ b. cond (b || q slot) 1 0 + count_in (λ x. p x || q x) (slot + 1) count ≤ (cond b 1 0 + count_in p (slot + 1) count) + (cond (q slot) 1 0 + count_in q (slot + 1) count)) [
      | true ↦ omega (arith, rest)
      | false ↦ omega (arith, rest)
    ]

count_past : (a slot count : ℕ) → a < slot → count_in (λ x. a == x) slot count ≡ 0
count_past a slot zero past = refl
count_past a slot (suc count) past =
    let rest = count_past a (slot + 1) count (omega (arith, past)) in
    let other : (a == slot) ≡ false = grind (arith, nat_tests, past) in
    subst (λ b. cond b 1 0 + count_in (λ x. a == x) (slot + 1) count ≡ 0) (sym other) (omega (arith, rest))

count_once : (a slot count : ℕ) → count_in (λ x. a == x) slot count ≤ 1
count_once a slot zero = omega arith
count_once a slot (suc count) = elim (a == slot) as (λ b. (a == slot) ≡ b → cond b 1 0 + count_in (λ x. a == x) (slot + 1) count ≤ 1) [
  | true ↦ λ same. let here : a ≡ slot = grind (arith, nat_tests, same) in
      let rest = count_past a (slot + 1) count (omega (arith, here)) in omega (arith, rest)
  | false ↦ λ other. let rest = count_once a (slot + 1) count in omega (arith, rest)
] refl

count_none : (slot count : ℕ) → count_in (λ x. false) slot count ≡ 0
count_none slot zero = refl
count_none slot (suc count) = let rest = count_none (slot + 1) count in omega (arith, rest)

count_lost : (lost : List ℕ) (slot count : ℕ) → count_in (is_lost lost) slot count ≤ length lost
count_lost [] slot count = let none = count_none slot count in omega (arith, none)
count_lost (a ∷ lost) slot count =
    let both = count_either (λ x. a == x) (is_lost lost) slot count in
    let once = count_once a slot count in
    let rest = count_lost lost slot count in
    omega (arith, both, once, rest)

pub mask_few : (lost : List ℕ) (slots : ℕ) → length lost ≤ 2 → count_ones (mask_of slots lost) ≤ 2
mask_few lost slots few =
    let ones = ones_of lost 0 slots in
    let all = count_lost lost 0 slots in
    omega (arith, ones, all, few)

-- it fits 32 bits
pub mask_fits : (lost : List ℕ) (slot count : ℕ) → count < 32 → 2 * mask_from lost slot count + 1 < 2 ^ 32
mask_fits lost slot count few =
    let within = mask_within lost slot count in
    let most : 2 ^ count ≤ 2 ^ 31 = pow-le-pow_right {n = 2} (omega arith) {i = count} {j = 31} (omega (arith, few)) in
    omega (arith, within, most)

-- past the first slot all were counted
pub mask_whole : (lost : List ℕ) (slots passed mask : ℕ) → slots ≤ passed → passed ≤ slots → mask ≡ mask_from lost (slots - passed) passed → mask ≡ mask_of slots lost
mask_whole lost slots passed mask past end is =
    let same : passed ≡ slots = omega (arith, past, end) in
    let none : slots - slots ≡ 0 = omega arith in
    is ∙ ap (λ all. mask_from lost (slots - all) all) same ∙ ap (λ slot. mask_from lost slot slots) none

-- of slots and losses that are these
pub mask_same : (mask slots count : ℕ) (lost held : List ℕ) → mask ≡ mask_of slots lost → slots ≡ count → lost ≡ held → mask ≡ mask_of count held
mask_same mask slots count lost held is of_slots of_lost = is ∙ ap (λ n. mask_of n lost) of_slots ∙ ap (mask_of count) of_lost
