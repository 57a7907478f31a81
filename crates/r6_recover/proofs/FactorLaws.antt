-- The two factors solve the two equations.
use Rattle.std.proofs.Common.{◌≡◌, ◌≢◌, ℕ, ◌+◌, ◌-◌, ◌<◌, bit_xor, refl, sym, ap, ◌∙◌, arith}
use Rattle.std.specs.Int.Bits.{xor_self, xor_lt}
use Rattle.r6_field.specs.Field.{product, power, generator}
use Rattle.r6_field.proofs.Computed.{order_of_generator}
use Rattle.r6_field.proofs.Xor.{same_from_xor}
use Rattle.r6_field.proofs.Distributive.{product-xor_right}
use Rattle.r6_field.proofs.FieldLaws.{product-lt, product_assoc, product_comm, one-product, product-one, product_cancel_left, power-add, power_of_generator-lt, same_exponent, product-opposite_powers}
use Rattle.r6_recover.specs.Factors.{AreFactors}

power-zero : power generator 0 ≡ 1
unfolding power
power-zero = refl

-- g^d + 1 is not 0 where d is no multiple of the order
pub denominator-nonzero : (d : ℕ) → 0 < d → d < 255 → bit_xor (power generator d) 1 ≢ 0
denominator-nonzero d low high none =
    let same : d ≡ 0 = same_exponent d 0 high (omega arith) (same_from_xor (power generator d) 1 none ∙ sym power-zero) in
    omega arith

-- A + B g^x = 1
pub factors_at_first : (x y a b : ℕ) → x < y → y < 255 → AreFactors x y a b → bit_xor a (product b (power generator x)) ≡ 1
factors_at_first x y a b order below factors =
    let ratio : ℕ = power generator (y - x) in
    let denominator : ℕ = bit_xor ratio 1 in
    let gx : ℕ = power generator x in
    let gx_byte : gx < 256 = power_of_generator-lt x in
    let back_byte : power generator (255 - x) < 256 = power_of_generator-lt (255 - x) in
    let byte : denominator < 256 = xor_lt 8 ratio 1 (power_of_generator-lt (y - x)) (omega arith) in
    let sum_byte : bit_xor a (product b gx) < 256 = xor_lt 8 a (product b gx) factors.of_p.byte (product-lt b gx factors.of_q.byte gx_byte) in
    let opposite : product denominator (product b gx) ≡ 1 =
    sym (product_assoc denominator b gx byte factors.of_q.byte gx_byte)
    ∙ ap (λ (n : ℕ). product n gx) factors.of_q.times
    ∙ product_comm (power generator (255 - x)) gx back_byte gx_byte
    ∙ product-opposite_powers x (omega arith) in
    let equal : product denominator (bit_xor a (product b gx)) ≡ product denominator 1 =
    product-xor_right denominator a (product b gx)
    ∙ ap (λ (n : ℕ). bit_xor n (product denominator (product b gx))) factors.of_p.times
    ∙ ap (bit_xor ratio) opposite
    ∙ sym (product-one denominator byte) in
    product_cancel_left denominator (bit_xor a (product b gx)) 1 byte sum_byte (omega arith)
    (denominator-nonzero (y - x) (omega arith) (omega arith)) equal

-- A + B g^y = 0
pub factors_at_second : (x y a b : ℕ) → x < y → y < 255 → AreFactors x y a b → bit_xor a (product b (power generator y)) ≡ 0
factors_at_second x y a b order below factors =
    let ratio : ℕ = power generator (y - x) in
    let denominator : ℕ = bit_xor ratio 1 in
    let gy : ℕ = power generator y in
    let gy_byte : gy < 256 = power_of_generator-lt y in
    let byte : denominator < 256 = xor_lt 8 ratio 1 (power_of_generator-lt (y - x)) (omega arith) in
    let turned : (255 - x) + y ≡ 255 + (y - x) = omega arith in
    let forward : product denominator (product b gy) ≡ ratio =
    sym (product_assoc denominator b gy byte factors.of_q.byte gy_byte)
    ∙ ap (λ (n : ℕ). product n gy) factors.of_q.times
    ∙ sym (power-add generator (255 - x) y (omega arith))
    ∙ ap (power generator) turned
    ∙ power-add generator 255 (y - x) (omega arith)
    ∙ ap (λ (n : ℕ). product n ratio) order_of_generator
    ∙ one-product ratio (power_of_generator-lt (y - x)) in
    let same : a ≡ product b gy =
    product_cancel_left denominator a (product b gy) byte factors.of_p.byte (product-lt b gy factors.of_q.byte gy_byte)
    (denominator-nonzero (y - x) (omega arith) (omega arith)) (factors.of_p.times ∙ sym forward) in
    ap (λ (n : ℕ). bit_xor n (product b gy)) same ∙ xor_self (product b gy)
