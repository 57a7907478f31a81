-- The bytes of the differences of P and Q.
use Rattle.std.proofs.Common.{◌≡◌, ◌≢◌, ℕ, suc, ◌+◌, ◌-◌, ◌<◌, ◌≤◌, List, [], ◌∷◌, length, get_or, take, bit_xor, sym, ap, ◌∙◌, arith}
use Rattle.std.specs.List.{All}
use Rattle.std.proofs.lemmas.List.{length-replicate, get_or-replicate, ext_get_or}
use Rattle.std.proofs.lemmas.List.Elements.{All-nil, All-cons, All-head, All-tail, All-take, All-get_or, All-from_get_or}
use Rattle.r6_field.specs.Field.{product, power, generator}
use Rattle.r6_kernels.specs.Blocks.{scale, total, weighted, p_of, q_of}
use Rattle.r6_kernels.proofs.BlockLaws.{length-block_sum, length-scale}
use Rattle.r6_kernels.proofs.Loops.{get_or-block_sum, get_or-scale}
use Rattle.r6_kernels.proofs.ParityLaws.{p_of-none, q_of-none, p_of-more, q_of-more}
use Rattle.r6_recover.specs.Rows.{block_at, block_length}
use Rattle.r6_recover.specs.Classes.{p_difference, q_difference, IsZero, IsWrongAt}

pub length-total : (len : ℕ) (blocks : List (List ℕ)) → All (λ block. length block ≡ len) blocks → length (total len blocks) ≡ len
unfolding total
length-total len [] all = length-replicate len 0
length-total len (block ∷ blocks) all =
    length-block_sum len block (total len blocks) (All-head (λ block. length block ≡ len) block blocks all)
    (length-total len blocks (All-tail (λ block. length block ≡ len) block blocks all))

pub All_long-weighted : (len i : ℕ) (blocks : List (List ℕ)) → All (λ block. length block ≡ len) blocks → All (λ block. length block ≡ len) (weighted i blocks)
unfolding weighted
All_long-weighted len i [] all = All-nil (λ block. length block ≡ len)
All_long-weighted len i (block ∷ blocks) all =
    All-cons (λ block. length block ≡ len) (scale (power generator i) block) (weighted (suc i) blocks)
    (length-scale (power generator i) block ∙ All-head (λ block. length block ≡ len) block blocks all)
    (All_long-weighted len (suc i) blocks (All-tail (λ block. length block ≡ len) block blocks all))

-- ---- one byte of P and of Q of the data so far

module _ (len at : ℕ) (within : at < len) where
  pub p_byte-none : 0 ≡ get_or (p_of len []) at 0
  p_byte-none = sym (get_or-replicate len at 0 0 within) ∙ ap (λ (block : List ℕ). get_or block at 0) (p_of-none len)

  pub q_byte-none : 0 ≡ get_or (q_of len []) at 0
  q_byte-none = sym (get_or-replicate len at 0 0 within) ∙ ap (λ (block : List ℕ). get_or block at 0) (q_of-none len)

  pub p_byte-more : (i : ℕ) (blocks : List (List ℕ)) → All (λ block. length block ≡ len) blocks → i < length blocks
      → bit_xor (get_or (p_of len (take i blocks)) at 0) (get_or (get_or blocks i []) at 0) ≡ get_or (p_of len (take (i + 1) blocks)) at 0
  p_byte-more i blocks all h =
      let so_far : length (p_of len (take i blocks)) ≡ len = length-total len (take i blocks) (All-take (λ block. length block ≡ len) i blocks all) in
      let next : length (get_or blocks i []) ≡ len = All-get_or (λ block. length block ≡ len) blocks i [] h all in
      sym (get_or-block_sum (p_of len (take i blocks)) (get_or blocks i []) at (omega arith) (omega arith))
      ∙ ap (λ (block : List ℕ). get_or block at 0) (p_of-more len i blocks h)

  pub q_byte-more : (i : ℕ) (blocks : List (List ℕ)) → All (λ block. length block ≡ len) blocks → i < length blocks
      → bit_xor (get_or (q_of len (take i blocks)) at 0) (product (power generator i) (get_or (get_or blocks i []) at 0)) ≡ get_or (q_of len (take (i + 1) blocks)) at 0
  q_byte-more i blocks all h =
      let so_far : length (q_of len (take i blocks)) ≡ len =
      length-total len (weighted 0 (take i blocks)) (All_long-weighted len 0 (take i blocks) (All-take (λ block. length block ≡ len) i blocks all)) in
      let next : length (get_or blocks i []) ≡ len = All-get_or (λ block. length block ≡ len) blocks i [] h all in
      let scaled : length (scale (power generator i) (get_or blocks i [])) ≡ len = length-scale (power generator i) (get_or blocks i []) ∙ next in
      ap (bit_xor (get_or (q_of len (take i blocks)) at 0)) (sym (get_or-scale (power generator i) (get_or blocks i []) at (omega arith)))
      ∙ sym (get_or-block_sum (q_of len (take i blocks)) (scale (power generator i) (get_or blocks i [])) at (omega arith) (omega arith))
      ∙ ap (λ (block : List ℕ). get_or block at 0) (q_of-more len i blocks h)

-- ---- the differences

module _ (row : List (List ℕ)) (count : 2 ≤ length row) (long : All (λ block. length block ≡ block_length row) row) where
  data_long : All (λ block. length block ≡ block_length row) (take (length row - 2) row)
  data_long = All-take (λ block. length block ≡ block_length row) (length row - 2) row long

  p_long : length (p_of (block_length row) (take (length row - 2) row)) ≡ block_length row
  p_long = length-total (block_length row) (take (length row - 2) row) data_long

  q_long : length (q_of (block_length row) (take (length row - 2) row)) ≡ block_length row
  q_long = length-total (block_length row) (weighted 0 (take (length row - 2) row)) (All_long-weighted (block_length row) 0 (take (length row - 2) row) data_long)

  stored_p_long : length (block_at row (length row - 2)) ≡ block_length row
  stored_p_long = All-get_or (λ block. length block ≡ block_length row) row (length row - 2) [] (omega arith) long

  stored_q_long : length (block_at row (length row - 2 + 1)) ≡ block_length row
  stored_q_long = All-get_or (λ block. length block ≡ block_length row) row (length row - 2 + 1) [] (omega arith) long

  pub length-p_difference : length (p_difference row) ≡ block_length row
  length-p_difference = length-block_sum (block_length row) (p_of (block_length row) (take (length row - 2) row)) (block_at row (length row - 2)) p_long stored_p_long

  pub length-q_difference : length (q_difference row) ≡ block_length row
  length-q_difference = length-block_sum (block_length row) (q_of (block_length row) (take (length row - 2) row)) (block_at row (length row - 2 + 1)) q_long stored_q_long

  pub p_difference-at : (at : ℕ) → at < block_length row
      → get_or (p_difference row) at 0 ≡ bit_xor (get_or (p_of (block_length row) (take (length row - 2) row)) at 0) (get_or (block_at row (length row - 2)) at 0)
  p_difference-at at h = get_or-block_sum (p_of (block_length row) (take (length row - 2) row)) (block_at row (length row - 2)) at (omega (arith, p_long)) (omega (arith, stored_p_long))

  pub q_difference-at : (at : ℕ) → at < block_length row
      → get_or (q_difference row) at 0 ≡ bit_xor (get_or (q_of (block_length row) (take (length row - 2) row)) at 0) (get_or (block_at row (length row - 2 + 1)) at 0)
  q_difference-at at h = get_or-block_sum (q_of (block_length row) (take (length row - 2) row)) (block_at row (length row - 2 + 1)) at (omega (arith, q_long)) (omega (arith, stored_q_long))

  pub IsZero-p : ((k : ℕ) → k < block_length row → get_or (p_difference row) k 0 ≡ 0) → IsZero (p_difference row)
  IsZero-p each = All-from_get_or (λ byte. byte ≡ 0) (p_difference row) 0 (λ i h. each i (omega (arith, length-p_difference)))

  pub IsZero-q : ((k : ℕ) → k < block_length row → get_or (q_difference row) k 0 ≡ 0) → IsZero (q_difference row)
  IsZero-q each = All-from_get_or (λ byte. byte ≡ 0) (q_difference row) 0 (λ i h. each i (omega (arith, length-q_difference)))

  pub IsWrongAt-each : (z : ℕ) → ((k : ℕ) → k < block_length row → get_or (q_difference row) k 0 ≡ product (power generator z) (get_or (p_difference row) k 0)) → IsWrongAt row z
  IsWrongAt-each z each =
      let multiple_long : length (scale (power generator z) (p_difference row)) ≡ block_length row = length-scale (power generator z) (p_difference row) ∙ length-p_difference in
      ext_get_or 0 (q_difference row) (scale (power generator z) (p_difference row)) (length-q_difference ∙ sym multiple_long)
      (λ k h. each k (omega (arith, length-q_difference)) ∙ sym (get_or-scale (power generator z) (p_difference row) k (omega (arith, length-p_difference, length-q_difference))))

  pub not_IsWrongAt : (z k : ℕ) → k < block_length row → get_or (q_difference row) k 0 ≢ product (power generator z) (get_or (p_difference row) k 0) → IsWrongAt row z → ⊥
  not_IsWrongAt z k h ne is = ne (ap (λ (block : List ℕ). get_or block k 0) is ∙ get_or-scale (power generator z) (p_difference row) k (omega (arith, length-p_difference)))
