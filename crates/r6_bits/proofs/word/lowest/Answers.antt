use Rattle.std.proofs.Common.{◌∙◌, ℕ, ap, w64, arith}
use Rattle.std.specs.Prelude.{◌==◌}
use Rattle.std.proofs.lemmas.Nat.Bits.{bit_at-trailing_zeros, bit_at-zero}
use Rattle.r6_bits.specs.Words.{is_set}
use Rattle.r6_bits.proofs.word.lowest.Goals as goal

pub returns-then-bits-eq0 : goal.returns-then-bits-eq0
returns-then-bits-eq0 c i inside = ap (λ (bits : ℕ). is_set bits i) c.if-bits-eq0.true ∙ ap (λ (n : ℕ). n == 1) (bit_at-zero i)

pub returns : goal.returns
returns c =
    let found = bit_at-trailing_zeros w64 c.args.bits (omega (arith, c.if-bits-eq0.false)) (omega arith) in
    (found.0, ap (λ (n : ℕ). n == 1) found.1, λ i below. ap (λ (n : ℕ). n == 1) (found.2 i below))
