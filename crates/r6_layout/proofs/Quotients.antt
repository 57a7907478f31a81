-- A multiplication by the inverse of a number, and a shift, divide by the number.
use Rattle.std.proofs.Common.{◌≡◌, ◌≤◌, ◌<◌, ◌+◌, ◌-◌, ◌*◌, ◌/◌, ◌%◌, ◌^◌, ℕ, Bool, suc, zero, true, eqb, get_or, refl, arith, ap}
use Rattle.std.proofs.Math.Nat.{div-add-mod, div-eq_of_lt-le, mul-le-mul_left, mul-le-mul_right}
use Rattle.std.proofs.lemmas.Bool.{agree_below, agree_below_at}
use Rattle.std.proofs.lemmas.Bool.Decides.{Decides-eqb}
use Rattle.std.proofs.lemmas.Nat.{mod_below}
use Rattle.r6_layout.specs.Division.{inverse_of}
use Rattle.r6_layout.specs.declared.division.TheConstants.{INVERSES}

is_inverse : ℕ → Bool
is_inverse k = eqb (get_or INVERSES (suc k) 0) (inverse_of (suc k))

all_inverses : agree_below is_inverse (λ k. true) 128 ≡ true
unfolding is_inverse
all_inverses = refl

inverse_after : (k : ℕ) → k < 128 → get_or INVERSES (suc k) 0 ≡ inverse_of (suc k)
unfolding is_inverse
inverse_after k below = (Decides-eqb (get_or INVERSES (suc k) 0) (inverse_of (suc k))).0 (agree_below_at is_inverse (λ k. true) 128 k all_inverses below)

pub inverse_at : (k : ℕ) → 1 ≤ k → k ≤ 128 → get_or INVERSES k 0 ≡ inverse_of k
inverse_at zero some most = absurd (omega (arith, some))
inverse_at (suc k) some most = inverse_after k (omega (arith, most))

module _ (number divisor : ℕ) (some : 1 ≤ divisor) (most : divisor ≤ 128) (below : number < 2 ^ 29) where
  abbrev inverse : ℕ
  inverse = inverse_of divisor

  abbrev quotient : ℕ
  quotient = number / divisor

  abbrev rest : ℕ
  rest = (2 ^ 36 - 1) % divisor

  whole : divisor * inverse + rest ≡ 2 ^ 36 - 1
  whole = div-add-mod (2 ^ 36 - 1) divisor

  rest_below : rest < divisor
  rest_below = mod_below (2 ^ 36 - 1) divisor some

  parts : divisor * quotient + number % divisor ≡ number
  parts = div-add-mod number divisor

  inverse_is_large : 2 ^ 29 ≤ inverse + 1
  inverse_is_large = let most_of : divisor * inverse ≤ 128 * inverse = mul-le-mul_right inverse most in omega (arith, whole, rest_below, most)

  lower : quotient * 2 ^ 36 ≤ (number + 1) * inverse
  lower =
      let begun : (divisor * quotient + 1) * inverse ≤ (number + 1) * inverse = mul-le-mul_right inverse (omega (arith, parts)) in
      let each : quotient * (divisor * inverse + rest) ≡ quotient * (2 ^ 36 - 1) = ap (λ (n : ℕ). quotient * n) whole in
      let rests : quotient * (rest + 1) ≤ quotient * divisor = mul-le-mul_left quotient (omega (arith, rest_below)) in
      omega (arith, parts, inverse_is_large, below)

  upper : (number + 1) * inverse < (quotient + 1) * 2 ^ 36
  upper =
      let within : number + 1 ≤ divisor * (quotient + 1) = omega (arith, parts, mod_below number divisor some) in
      let all : (number + 1) * inverse ≤ divisor * (quotient + 1) * inverse = mul-le-mul_right inverse within in
      let each : (quotient + 1) * (divisor * inverse + rest) ≡ (quotient + 1) * (2 ^ 36 - 1) = ap (λ (n : ℕ). (quotient + 1) * n) whole in
      omega arith

  pub quotient_by_inverse : (number + 1) * inverse_of divisor / 2 ^ 36 ≡ number / divisor
  quotient_by_inverse = div-eq_of_lt-le {k = quotient} (2 ^ 36) lower upper
