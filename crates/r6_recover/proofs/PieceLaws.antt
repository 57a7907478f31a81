-- Of a consistent row, the pieces of its blocks, all from one place on, are a consistent row.
use Rattle.std.proofs.Common.{◌≡◌, ℕ, ◌+◌, ◌-◌, ◌<◌, ◌≤◌, List, [], length, map, take, drop, sym, ap, subst, ◌∙◌, arith}
use Rattle.std.proofs.lemmas.List.{length-map, length-take-le, length-drop, take-map, get_or-map}
use Rattle.std.proofs.lemmas.List.Elements.{All-drop, All-take}
use Rattle.r6_kernels.specs.Blocks.{block_sum, piece, p_of, q_of}
use Rattle.r6_kernels.proofs.PieceLaws.{piece-block_sum, piece-p, piece-q}
use Rattle.r6_recover.specs.Rows.{block_at, block_length, data_of, pieces_of}
use Rattle.r6_recover.specs.Classes.{HasClass, IsZero, p_difference, q_difference}
use Rattle.r6_recover.specs.declared.class.RowClass.TheVariants.{Consistent}

module _ (at len : ℕ) (row : List (List ℕ)) (least : 2 ≤ length row) (within : at + len ≤ block_length row) where
  abbrev pieces : List (List ℕ)
  pieces = pieces_of at len row

  abbrev data_pieces : List (List ℕ)
  data_pieces = map (piece at len) (data_of row)

  length_is : block_length pieces ≡ len
  length_is =
      ap length (get_or-map (piece at len) row 0 [] [] (omega (arith, least)))
      ∙ length-take-le len (drop at (block_at row 0)) (omega (arith, within, length-drop at (block_at row 0)))

  data_are : data_of pieces ≡ data_pieces
  data_are = ap (λ (n : ℕ). take (n - 2) pieces) (length-map row (piece at len)) ∙ take-map (piece at len) (length row - 2) row

  stored : (place : ℕ → ℕ) → place (length row) < length row
      → block_at pieces (place (length pieces)) ≡ piece at len (block_at row (place (length row)))
  stored place inside =
      ap (λ (n : ℕ). block_at pieces (place n)) (length-map row (piece at len))
      ∙ get_or-map (piece at len) row (place (length row)) [] [] inside

  p_of_pieces : p_difference pieces ≡ piece at len (p_difference row)
  p_of_pieces =
      let stored_p = stored (λ (n : ℕ). n - 2) (omega (arith, least)) in
      ap (λ (n : ℕ). block_sum (p_of n (data_of pieces)) (block_at pieces (length pieces - 2))) length_is
      ∙ ap (λ (blocks : List (List ℕ)). block_sum (p_of len blocks) (block_at pieces (length pieces - 2))) data_are
      ∙ ap (block_sum (p_of len data_pieces)) stored_p
      ∙ ap (λ (p : List ℕ). block_sum p (piece at len (block_at row (length row - 2)))) (sym (piece-p at len (block_length row) (data_of row) within))
      ∙ sym (piece-block_sum at len (p_of (block_length row) (data_of row)) (block_at row (length row - 2)))

  q_of_pieces : q_difference pieces ≡ piece at len (q_difference row)
  q_of_pieces =
      let stored_q = stored (λ (n : ℕ). n - 2 + 1) (omega (arith, least)) in
      ap (λ (n : ℕ). block_sum (q_of n (data_of pieces)) (block_at pieces (length pieces - 2 + 1))) length_is
      ∙ ap (λ (blocks : List (List ℕ)). block_sum (q_of len blocks) (block_at pieces (length pieces - 2 + 1))) data_are
      ∙ ap (block_sum (q_of len data_pieces)) stored_q
      ∙ ap (λ (q : List ℕ). block_sum q (piece at len (block_at row (length row - 2 + 1)))) (sym (piece-q at len (block_length row) (data_of row) within))
      ∙ sym (piece-block_sum at len (q_of (block_length row) (data_of row)) (block_at row (length row - 2 + 1)))

  zero_piece : (block : List ℕ) → IsZero block → IsZero (piece at len block)
  zero_piece block zero = All-take (λ byte. byte ≡ 0) len (drop at block) (All-drop (λ byte. byte ≡ 0) at block zero)

  pub pieces_consistent : HasClass row Consistent → HasClass (pieces_of at len row) Consistent
  pieces_consistent is = (
    subst IsZero (sym p_of_pieces) (zero_piece (p_difference row) is.0),
    subst IsZero (sym q_of_pieces) (zero_piece (q_difference row) is.1),
  )
