-- Sets of numbers in a word of any width, when one number is put in or taken out.
use Rattle.std.proofs.Common.{◌≡◌, inl, inr, ℕ, zero, suc, ◌-◌, ◌*◌, ◌%◌, ◌^◌, ◌<◌, Bool, true, false, not, max, bit_and, bit_or, refl, sym, ap, subst, ◌∙◌, arith}
use Rattle.std.specs.Prelude.{◌==◌, ◌||◌, if◌then◌else◌}
use Rattle.std.specs.Int.{Width, bit_at, bit_not}
use mir.Val.{bits}
use Rattle.std.proofs.lemmas.Bool.{cases_eq, cases_lt, eq-eqb, ne_eqb}
use Rattle.std.proofs.lemmas.Nat.{and_le_l}
use Rattle.std.proofs.lemmas.Nat.Bits.{bit_at_or, bit_at-lt, bit_at_not, bit_at_set_same, bit_at_set_other, bit_at_clear_same, bit_at_clear_other}
use Rattle.r6_bits.specs.Words.{is_set, IsWithBit}

either_set : (a b : ℕ) → a < 2 → b < 2 → (max a b == 1) ≡ ((a == 1) || (b == 1))
either_set a b h g = grind arith

-- the numbers of both
pub set-or : (a b i : ℕ) → is_set (bit_or a b) i ≡ (is_set a i || is_set b i)
set-or a b i = ap (λ (n : ℕ). n == 1) (bit_at_or a b i) ∙ either_set (bit_at a i) (bit_at b i) (bit_at-lt a i) (bit_at-lt b i)

pub set-with : (w : Width) (a k i : ℕ) → k < bits w → is_set (bit_or a (1 * 2 ^ k % 2 ^ bits w)) i ≡ (if i == k then true else is_set a i)
set-with w a k i within =
    elim (cases_eq i k) [
      | inl same ↦ rw (eq-eqb i k same, same) (ap (λ (n : ℕ). n == 1) (bit_at_set_same w a k within))
      | inr other ↦ rw (ne_eqb i k other) (ap (λ (n : ℕ). n == 1) (bit_at_set_other w a k within i other))
    ]

pub set-without : (w : Width) (a k i : ℕ) → k < bits w → i < bits w → is_set (bit_and a (bit_not w (1 * 2 ^ k % 2 ^ bits w))) i ≡ (if i == k then false else is_set a i)
set-without w a k i within inside =
    elim (cases_eq i k) [
      | inl same ↦ rw (eq-eqb i k same, same) (ap (λ (n : ℕ). n == 1) (bit_at_clear_same w a k within))
      | inr other ↦ rw (ne_eqb i k other) (ap (λ (n : ℕ). n == 1) (bit_at_clear_other w a k within i inside other))
    ]

-- the word is less without a number that it has
pub less-without : (w : Width) (a k : ℕ) → k < bits w → is_set a k ≡ true → bit_and a (bit_not w (1 * 2 ^ k % 2 ^ bits w)) < a
less-without w a k within is =
    let left = bit_and a (bit_not w (1 * 2 ^ k % 2 ^ bits w)) in
    let most = and_le_l a (bit_not w (1 * 2 ^ k % 2 ^ bits w)) in
    let gone : is_set left k ≡ false = set-without w a k k within within ∙ ap (λ (b : Bool). if b then false else is_set a k) (eq-eqb k k refl) in
    elim (cases_lt left a) [
      | inl less ↦ less
      | inr not_less ↦
          let same : left ≡ a = omega (arith, most, not_less) in
          let both : false ≡ true = sym gone ∙ ap (λ (n : ℕ). is_set n k) same ∙ is in absurd (cc)
    ]

other_digit : (d : ℕ) → d < 2 → (1 - d == 1) ≡ not (d == 1)
other_digit zero few = refl
other_digit (suc zero) few = refl
other_digit (suc (suc d)) few = absurd (omega arith)

-- all numbers that the set doesn't have
pub set-not : (w : Width) (a i : ℕ) → a < 2 ^ bits w → i < bits w → is_set (bit_not w a) i ≡ not (is_set a i)
set-not w a i fits inside = ap (λ (n : ℕ). n == 1) (bit_at_not w a i fits inside) ∙ other_digit _ (bit_at-lt a i)

-- it holds of all numbers that are out of the set
abbrev pub AllOut : ℕ → (ℕ → Type 0) → Type 0
AllOut set P = (i : ℕ) → i < 64 → is_set set i ≡ false → P i

-- one more is out
pub out_more : (P : ℕ → Type 0) (old number new : ℕ) → IsWithBit old number false new → AllOut old P → P number → AllOut new P
out_more P old number new without before here i inside out =
    elim (cases_eq i number) [
      | inl e ↦ subst P (sym e) here
      | inr ne ↦ before i inside (ap (λ (b : Bool). if b then false else is_set old i) (sym (ne_eqb i number ne)) ∙ sym (without i inside) ∙ out)
    ]
