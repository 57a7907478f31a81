-- Sums, multiples and parities of blocks go byte by byte: a piece of each is that of the pieces.
use Rattle.std.proofs.Common.{◌≡◌, ℕ, zero, suc, ◌+◌, ◌-◌, ◌≤◌, List, [], ◌∷◌, map, take, drop, bit_xor, refl, sym, ap, ◌∙◌, arith}
use Rattle.std.proofs.lemmas.List.{drop-replicate, take-replicate}
use Rattle.r6_field.specs.Field.{product, power, generator}
use Rattle.r6_kernels.specs.Blocks.{block_sum, piece, p_of, q_of, scale, total, weighted, zeros}

block_sum-nil : (a : List ℕ) → block_sum a [] ≡ []
unfolding block_sum
block_sum-nil [] = refl
block_sum-nil (x ∷ a) = refl

drop-block_sum : (n : ℕ) (a b : List ℕ) → drop n (block_sum a b) ≡ block_sum (drop n a) (drop n b)
unfolding block_sum
drop-block_sum zero a b = refl
drop-block_sum (suc n) [] b = refl
drop-block_sum (suc n) (x ∷ a) [] = sym (block_sum-nil (drop n a))
drop-block_sum (suc n) (x ∷ a) (y ∷ b) = drop-block_sum n a b

take-block_sum : (n : ℕ) (a b : List ℕ) → take n (block_sum a b) ≡ block_sum (take n a) (take n b)
unfolding block_sum
take-block_sum zero a b = refl
take-block_sum (suc n) [] b = refl
take-block_sum (suc n) (x ∷ a) [] = refl
take-block_sum (suc n) (x ∷ a) (y ∷ b) = ap (λ (rest : List ℕ). bit_xor x y ∷ rest) (take-block_sum n a b)

drop-scale : (n c : ℕ) (a : List ℕ) → drop n (scale c a) ≡ scale c (drop n a)
unfolding scale
drop-scale zero c a = refl
drop-scale (suc n) c [] = refl
drop-scale (suc n) c (x ∷ a) = drop-scale n c a

take-scale : (n c : ℕ) (a : List ℕ) → take n (scale c a) ≡ scale c (take n a)
unfolding scale
take-scale zero c a = refl
take-scale (suc n) c [] = refl
take-scale (suc n) c (x ∷ a) = ap (λ (rest : List ℕ). product c x ∷ rest) (take-scale n c a)

pub piece-block_sum : (at len : ℕ) (a b : List ℕ) → piece at len (block_sum a b) ≡ block_sum (piece at len a) (piece at len b)
piece-block_sum at len a b = ap (take len) (drop-block_sum at a b) ∙ take-block_sum len (drop at a) (drop at b)

piece-scale : (at len c : ℕ) (a : List ℕ) → piece at len (scale c a) ≡ scale c (piece at len a)
piece-scale at len c a = ap (take len) (drop-scale at c a) ∙ take-scale len c (drop at a)

piece-zeros : (at len whole : ℕ) → at + len ≤ whole → piece at len (zeros whole) ≡ zeros len
piece-zeros at len whole within = ap (take len) (drop-replicate at whole 0) ∙ take-replicate len (whole - at) 0 (omega (arith, within))

piece-total : (at len whole : ℕ) (blocks : List (List ℕ)) → at + len ≤ whole
    → piece at len (total whole blocks) ≡ total len (map (piece at len) blocks)
unfolding total
piece-total at len whole [] within = piece-zeros at len whole within
piece-total at len whole (block ∷ blocks) within =
    piece-block_sum at len block (total whole blocks) ∙ ap (block_sum (piece at len block)) (piece-total at len whole blocks within)

pieces-weighted : (at len i : ℕ) (blocks : List (List ℕ)) → map (piece at len) (weighted i blocks) ≡ weighted i (map (piece at len) blocks)
unfolding weighted
pieces-weighted at len i [] = refl
pieces-weighted at len i (block ∷ blocks) = λ j. piece-scale at len (power generator i) block j ∷ pieces-weighted at len (suc i) blocks j

pub piece-p : (at len whole : ℕ) (blocks : List (List ℕ)) → at + len ≤ whole
    → piece at len (p_of whole blocks) ≡ p_of len (map (piece at len) blocks)
piece-p at len whole blocks within = piece-total at len whole blocks within

pub piece-q : (at len whole : ℕ) (blocks : List (List ℕ)) → at + len ≤ whole
    → piece at len (q_of whole blocks) ≡ q_of len (map (piece at len) blocks)
piece-q at len whole blocks within =
    piece-total at len whole (weighted 0 blocks) within ∙ ap (total len) (pieces-weighted at len 0 blocks)
