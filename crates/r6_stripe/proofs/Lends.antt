-- A buffer is lent last: once one is, all reads are over, and stay so.
use Rattle.std.proofs.Common.{◌≡◌, inl, inr, true, ℕ, ◌≤◌, ◌<◌, List, [], length, get_or, set, sym, ◌∙◌, ap, subst, arith}
use Rattle.std.specs.Prelude.{count_by}
use Rattle.std.proofs.lemmas.List.{get_or-set_same, get_or-set_other, length-set}
use Rattle.std.proofs.lemmas.Bool.{cases_eq, cases_lt}
use Rattle.r6_stripe.specs.Holds.{Cell, cell_at, count_where, is_known}
use Rattle.r6_stripe.specs.Places.{cells_of, is_lent, no_place, reading_of}
use Rattle.r6_stripe.specs.Sound.{Each, IsPlaceOver, LendsLast}
use Rattle.r6_stripe.specs.declared.place.PositionState.{PositionState}
use Rattle.r6_stripe.proofs.Counts.{count_grows}
use Rattle.r6_stripe.proofs.Places.{any_default, cell_past, count-cells_of, known-blind, known_reading, length-cells_of}
use Rattle.r6_stripe.proofs.States.{Each-set, there}

abbrev pub known_places : List PositionState → ℕ
known_places places = count_by (λ place. is_known (reading_of place.read [])) places

pub known_cells : (places : List PositionState) (blocks : List (List ℕ)) → count_where (λ cell. is_known cell.reading) (cells_of places blocks) ≡ known_places places
known_cells places blocks = count-cells_of (λ cell. is_known cell.reading) known-blind places blocks

-- as many are known, where each that was known is
pub known_grow : (places later : List PositionState) → length later ≡ length places →
    ((j : ℕ) → j < length places → is_known (reading_of (get_or places j no_place).read []) ≡ true → is_known (reading_of (get_or later j no_place).read []) ≡ true) → known_places places ≤ known_places later
known_grow places later wide keeps =
    let was = known_cells places [] in
    let now = known_cells later [] in
    let grows = count_grows (λ cell. is_known cell.reading) (λ cell. is_known cell.reading) (cells_of places []) (cells_of later []) (length-cells_of later [] ∙ wide ∙ sym (length-cells_of places [])) at in
    omega (arith, was, now, grows)
  where
    at : (j : ℕ) → is_known (cell_at (cells_of places []) j).reading ≡ true → is_known (cell_at (cells_of later []) j).reading ≡ true
    at j known = elim (cases_lt j (length places)) [
      | inl below ↦ known_reading later [] j (omega (arith, below, wide)) ∙ keeps j below (sym (known_reading places [] j below) ∙ known)
      | inr past ↦ absurd (let e = sym (ap (λ (c : Cell). is_known c.reading) (cell_past places [] j past)) ∙ known in cc)
    ]

-- one place changes
module _ (places : List PositionState) (i : ℕ) (old new : PositionState) (inside : i < length places) (is : old ≡ get_or places i old) (knows : is_known (reading_of old.read []) ≡ true → is_known (reading_of new.read []) ≡ true)
    (over : IsPlaceOver old → IsPlaceOver new) where
  last_set : LendsLast places → LendsLast (set places i new)
  last_set last =
      let wide = length-set places i new in
      let grows = known_grow places (set places i new) wide knows_at in
      record {
        enough = omega (arith, last.enough, grows, wide);
        over = Each-set (λ k place. IsPlaceOver place) places i new last.over (over (there (λ k place. IsPlaceOver place) places i old inside is last.over));
      }
    where
      knows_at : (j : ℕ) → j < length places → is_known (reading_of (get_or places j no_place).read []) ≡ true → is_known (reading_of (get_or (set places i new) j no_place).read []) ≡ true
      knows_at j below = elim (cases_eq j i) [
        | inl same ↦ λ known.
            subst (λ (k : ℕ). is_known (reading_of (get_or (set places i new) k no_place).read []) ≡ true) (sym same)
            (ap (λ (p : PositionState). is_known (reading_of p.read [])) (get_or-set_same places i new no_place inside)
            ∙ knows (ap (λ (p : PositionState). is_known (reading_of p.read [])) (is ∙ any_default places i old no_place inside)
            ∙ subst (λ (k : ℕ). is_known (reading_of (get_or places k no_place).read []) ≡ true) same known))
        | inr other ↦ λ known. ap (λ (p : PositionState). is_known (reading_of p.read [])) (get_or-set_other places i j new no_place other) ∙ known
      ]

  pub lends_last_set : (is_lent new ≡ true → LendsLast places) → Each (λ position place. is_lent place ≡ true → LendsLast places) places →
      Each (λ position place. is_lent place ≡ true → LendsLast (set places i new)) (set places i new)
  lends_last_set lent lends =
      Each-set (λ k place. is_lent place ≡ true → LendsLast (set places i new)) places i new (λ k below is. last_set (lends k below is)) (λ is. last_set (lent is))
