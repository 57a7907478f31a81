-- Lost data blocks, from P and Q and what the other data add to them.
use Rattle.std.proofs.Common.{◌≡◌, ◌≢◌, ℕ, ◌-◌, ◌<◌, List, [], length, get_or, sym, ap, subst, ◌∙◌, arith}
use Rattle.std.specs.List.{All}
use Rattle.std.proofs.lemmas.List.{get_or-set_other, length-set}
use Rattle.std.proofs.lemmas.List.Elements.{All-get_or, All-set}
use Rattle.r6_field.specs.Field.{product, power, generator}
use Rattle.r6_field.proofs.FieldLaws.{power_of_generator-lt, product_comm, product-opposite_powers}
use Rattle.r6_kernels.specs.Blocks.{IsBlock, zeros, block_sum, scale, p_of, q_of, without}
use Rattle.r6_kernels.proofs.BlockLaws.{block_sum_comm, block_sum_assoc, block_sum_medial, block_sum-zeros, block_sum_twice, scale-block_sum, xor-scale, scale-scale, one-scale, zero-scale, IsBlock-zeros, IsBlock-block_sum, IsBlock-scale}
use Rattle.r6_kernels.proofs.ParityLaws.{IsBlock-p_of, IsBlock-q_of, p_of-set, q_of-set}
use Rattle.r6_recover.specs.Factors.{AreFactors}
use Rattle.r6_recover.proofs.FactorLaws.{factors_at_first, factors_at_second}

-- two blocks from their sum and their sum as Q weighs it
pub first_of_two : (len x y a b : ℕ) (first second : List ℕ) → x < y → y < 255 → AreFactors x y a b → IsBlock len first → IsBlock len second
    → block_sum (scale a (block_sum first second)) (scale b (block_sum (scale (power generator x) first) (scale (power generator y) second))) ≡ first
first_of_two len x y a b first second order below factors hf hs =
    let gx : ℕ = power generator x in
    let gy : ℕ = power generator y in
    let bx : ℕ = product b gx in
    let by : ℕ = product b gy in
    let weighed : scale b (block_sum (scale gx first) (scale gy second)) ≡ block_sum (scale bx first) (scale by second) =
    scale-block_sum b (scale gx first) (scale gy second)
    ∙ ap (λ (block : List ℕ). block_sum block (scale b (scale gy second))) (scale-scale b gx first factors.of_q.byte (power_of_generator-lt x) hf.bytes)
    ∙ ap (block_sum (scale bx first)) (scale-scale b gy second factors.of_q.byte (power_of_generator-lt y) hs.bytes) in
    let one : block_sum (scale a first) (scale bx first) ≡ first =
    sym (xor-scale a bx first) ∙ ap (λ (c : ℕ). scale c first) (factors_at_first x y a b order below factors) ∙ one-scale first hf.bytes in
    let none : block_sum (scale a second) (scale by second) ≡ zeros len =
    sym (xor-scale a by second) ∙ ap (λ (c : ℕ). scale c second) (factors_at_second x y a b order below factors) ∙ zero-scale second ∙ ap zeros hs.length_is in
    ap (λ (block : List ℕ). block_sum block (scale b (block_sum (scale gx first) (scale gy second)))) (scale-block_sum a first second)
    ∙ ap (block_sum (block_sum (scale a first) (scale a second))) weighed
    ∙ block_sum_medial (scale a first) (scale a second) (scale bx first) (scale by second)
    ∙ ap (λ (block : List ℕ). block_sum block (block_sum (scale a second) (scale by second))) one
    ∙ ap (block_sum first) none
    ∙ block_sum-zeros len first hf.length_is

-- ---- what the data without one block, or without two, lack

pub All-without : (len x : ℕ) (data' : List (List ℕ)) → All (IsBlock len) data' → All (IsBlock len) (without len x data')
All-without len x data' all = All-set (IsBlock len) data' x (zeros len) (IsBlock-zeros len) all

-- P of the data without one block lacks that block
pub p_of-without : (len x : ℕ) (data' : List (List ℕ)) → All (IsBlock len) data' → x < length data'
    → p_of len (without len x data') ≡ block_sum (p_of len data') (get_or data' x [])
p_of-without len x data' all h =
    p_of-set len x data' (zeros len) all (IsBlock-zeros len) h
    ∙ ap (block_sum (p_of len data')) (block_sum-zeros len (get_or data' x []) (All-get_or (IsBlock len) data' x [] h all).length_is)

-- Q of the data without one block lacks the power of g times that block
pub q_of-without : (len x : ℕ) (data' : List (List ℕ)) → All (IsBlock len) data' → x < length data'
    → q_of len (without len x data') ≡ block_sum (q_of len data') (scale (power generator x) (get_or data' x []))
q_of-without len x data' all h =
    q_of-set len x data' (zeros len) all (IsBlock-zeros len) h
    ∙ ap (λ (block : List ℕ). block_sum (q_of len data') (scale (power generator x) block))
    (block_sum-zeros len (get_or data' x []) (All-get_or (IsBlock len) data' x [] h all).length_is)

-- the lost block is P and the sum of the others
pub block_from_p : (len x : ℕ) (data' : List (List ℕ)) → All (IsBlock len) data' → x < length data'
    → block_sum (p_of len (without len x data')) (p_of len data') ≡ get_or data' x []
block_from_p len x data' all h =
    let lost : List ℕ = get_or data' x [] in
    let lost_is : IsBlock len lost = All-get_or (IsBlock len) data' x [] h all in
    let p_is : IsBlock len (p_of len data') = IsBlock-p_of len data' all in
    ap (λ (sum : List ℕ). block_sum sum (p_of len data')) (p_of-without len x data' all h ∙ block_sum_comm (p_of len data') lost)
    ∙ block_sum_twice len lost (p_of len data') lost_is.length_is p_is.length_is

-- g^x times the lost block is Q and the weighed sum of the others
pub weighted_block_from_q : (len x : ℕ) (data' : List (List ℕ)) → All (IsBlock len) data' → x < length data'
    → block_sum (q_of len (without len x data')) (q_of len data') ≡ scale (power generator x) (get_or data' x [])
weighted_block_from_q len x data' all h =
    let lost : List ℕ = get_or data' x [] in
    let lost_is : IsBlock len (scale (power generator x) lost) = IsBlock-scale len (power generator x) lost (power_of_generator-lt x) (All-get_or (IsBlock len) data' x [] h all) in
    let q_is : IsBlock len (q_of len data') = IsBlock-q_of len data' all in
    ap (λ (sum : List ℕ). block_sum sum (q_of len data')) (q_of-without len x data' all h ∙ block_sum_comm (q_of len data') (scale (power generator x) lost))
    ∙ block_sum_twice len (scale (power generator x) lost) (q_of len data') lost_is.length_is q_is.length_is

-- the lost block is g^(-x) times that
pub block_from_q : (len x : ℕ) (data' : List (List ℕ)) → x < 255 → All (IsBlock len) data' → x < length data'
    → scale (power generator (255 - x)) (block_sum (q_of len (without len x data')) (q_of len data')) ≡ get_or data' x []
block_from_q len x data' below all h =
    let lost : List ℕ = get_or data' x [] in
    let lost_is : IsBlock len lost = All-get_or (IsBlock len) data' x [] h all in
    let gx : ℕ = power generator x in
    let back : ℕ = power generator (255 - x) in
    let back_byte : back < 256 = power_of_generator-lt (255 - x) in
    let gx_byte : gx < 256 = power_of_generator-lt x in
    ap (scale back) (weighted_block_from_q len x data' all h)
    ∙ scale-scale back gx lost back_byte gx_byte lost_is.bytes
    ∙ ap (λ (c : ℕ). scale c lost) (product_comm back gx back_byte gx_byte ∙ product-opposite_powers x below)
    ∙ one-scale lost lost_is.bytes

-- P and the sum of all data but two add up to those two
pub two_from_p : (len x y : ℕ) (data' : List (List ℕ)) → x ≢ y → All (IsBlock len) data' → x < length data' → y < length data'
    → block_sum (p_of len (without len y (without len x data'))) (p_of len data') ≡ block_sum (get_or data' x []) (get_or data' y [])
two_from_p len x y data' apart all hx hy =
    let one : List (List ℕ) = without len x data' in
    let p : List ℕ = p_of len data' in
    let first : List ℕ = get_or data' x [] in
    let second : List ℕ = get_or data' y [] in
    let first_is : IsBlock len first = All-get_or (IsBlock len) data' x [] hx all in
    let second_is : IsBlock len second = All-get_or (IsBlock len) data' y [] hy all in
    let p_is : IsBlock len p = IsBlock-p_of len data' all in
    let both_is : IsBlock len (block_sum first second) = IsBlock-block_sum len first second first_is second_is in
    let turned : y ≢ x = λ e. apart (sym e) in
    let kept : get_or one y [] ≡ second = get_or-set_other data' x y (zeros len) [] turned in
    let hy' : y < length one = subst (λ (n : ℕ). y < n) (sym (length-set data' x (zeros len))) hy in
    ap (λ (sum : List ℕ). block_sum sum p)
    (p_of-without len y one (All-without len x data' all) hy'
    ∙ ap (block_sum (p_of len one)) kept
    ∙ ap (λ (sum : List ℕ). block_sum sum second) (p_of-without len x data' all hx)
    ∙ block_sum_assoc p first second
    ∙ block_sum_comm p (block_sum first second))
    ∙ block_sum_twice len (block_sum first second) p both_is.length_is p_is.length_is

-- Q and the weighed sum of all data but two add up to those two, weighed
pub two_from_q : (len x y : ℕ) (data' : List (List ℕ)) → x ≢ y → All (IsBlock len) data' → x < length data' → y < length data'
    → block_sum (q_of len (without len y (without len x data'))) (q_of len data')
    ≡ block_sum (scale (power generator x) (get_or data' x [])) (scale (power generator y) (get_or data' y []))
two_from_q len x y data' apart all hx hy =
    let one : List (List ℕ) = without len x data' in
    let q : List ℕ = q_of len data' in
    let first : List ℕ = scale (power generator x) (get_or data' x []) in
    let second : List ℕ = scale (power generator y) (get_or data' y []) in
    let first_is : IsBlock len first = IsBlock-scale len (power generator x) (get_or data' x []) (power_of_generator-lt x) (All-get_or (IsBlock len) data' x [] hx all) in
    let second_is : IsBlock len second = IsBlock-scale len (power generator y) (get_or data' y []) (power_of_generator-lt y) (All-get_or (IsBlock len) data' y [] hy all) in
    let q_is : IsBlock len q = IsBlock-q_of len data' all in
    let both_is : IsBlock len (block_sum first second) = IsBlock-block_sum len first second first_is second_is in
    let turned : y ≢ x = λ e. apart (sym e) in
    let kept : get_or one y [] ≡ get_or data' y [] = get_or-set_other data' x y (zeros len) [] turned in
    let hy' : y < length one = subst (λ (n : ℕ). y < n) (sym (length-set data' x (zeros len))) hy in
    ap (λ (sum : List ℕ). block_sum sum q)
    (q_of-without len y one (All-without len x data' all) hy'
    ∙ ap (λ (block : List ℕ). block_sum (q_of len one) (scale (power generator y) block)) kept
    ∙ ap (λ (sum : List ℕ). block_sum sum second) (q_of-without len x data' all hx)
    ∙ block_sum_assoc q first second
    ∙ block_sum_comm q (block_sum first second))
    ∙ block_sum_twice len (block_sum first second) q both_is.length_is q_is.length_is

-- two lost data blocks: Dx = A(P + Pxy) + B(Q + Qxy)
pub block_from_both : (len x y a b : ℕ) (data' : List (List ℕ)) → x < y → y < 255 → AreFactors x y a b → All (IsBlock len) data' → y < length data'
    → block_sum
    (scale a (block_sum (p_of len (without len y (without len x data'))) (p_of len data')))
    (scale b (block_sum (q_of len (without len y (without len x data'))) (q_of len data')))
    ≡ get_or data' x []
block_from_both len x y a b data' order below factors all hy =
    let hx : x < length data' = omega arith in
    let apart : x ≢ y = omega arith in
    let first : List ℕ = get_or data' x [] in
    let second : List ℕ = get_or data' y [] in
    (λ i. block_sum (scale a (two_from_p len x y data' apart all hx hy i)) (scale b (two_from_q len x y data' apart all hx hy i)))
    ∙ first_of_two len x y a b first second order below factors
    (All-get_or (IsBlock len) data' x [] hx all) (All-get_or (IsBlock len) data' y [] hy all)

-- and then Dy = (P + Pxy) + Dx
pub second_from_p : (len x y : ℕ) (data' : List (List ℕ)) → x ≢ y → All (IsBlock len) data' → x < length data' → y < length data'
    → block_sum (block_sum (p_of len (without len y (without len x data'))) (p_of len data')) (get_or data' x []) ≡ get_or data' y []
second_from_p len x y data' apart all hx hy =
    let first : List ℕ = get_or data' x [] in
    let second : List ℕ = get_or data' y [] in
    ap (λ (sum : List ℕ). block_sum sum first) (two_from_p len x y data' apart all hx hy ∙ block_sum_comm first second)
    ∙ block_sum_twice len second first (All-get_or (IsBlock len) data' y [] hy all).length_is (All-get_or (IsBlock len) data' x [] hx all).length_is

-- P is the sum of the other data and the lost block
pub p_from_block : (len x : ℕ) (data' : List (List ℕ)) → All (IsBlock len) data' → x < length data'
    → block_sum (p_of len (without len x data')) (get_or data' x []) ≡ p_of len data'
p_from_block len x data' all h =
    let lost : List ℕ = get_or data' x [] in
    ap (λ (sum : List ℕ). block_sum sum lost) (p_of-without len x data' all h)
    ∙ block_sum_twice len (p_of len data') lost (IsBlock-p_of len data' all).length_is (All-get_or (IsBlock len) data' x [] h all).length_is
