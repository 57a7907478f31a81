-- A new device is in sync for the rows that are rebuilt on it.
use Rattle.std.proofs.Common.{◌≡◌, ℕ, zero, suc, ◌+◌, ◌-◌, ◌<◌, Bool, true, false, length, inl, inr, refl, sym, ap, ◌∙◌, arith}
use Rattle.std.specs.Prelude.{◌==◌, ◌&&◌, nat_le, nat_lt, not}
use Rattle.std.specs.List.{list_any}
use Rattle.std.proofs.lemmas.Bool.{cases_lt, eq-eqb, le-ltb, lt-leb}
use Rattle.std.proofs.lemmas.List.Folds.{list_any_at}
use Rattle.r6_frames.specs.declared.rebuilt.RebuiltRows.{RebuiltRows}
use Rattle.r6_frames.specs.Rebuilt.{IsRebuilt, is_rebuilt, next_row, none_rebuilt}

-- ---- the rows that are rebuilt next aren't rebuilt

none_of_three : (a b : Bool) → (a && (b && not true)) ≡ false
none_of_three true true = refl
none_of_three true false = refl
none_of_three false b = refl

-- none of the rows in the list is
pub next_unbuilt : (r : RebuiltRows) (number : ℕ) → number < length r.next → is_rebuilt r (next_row r number) ≡ false
next_unbuilt r number below =
    let row = next_row r number in
    let named = list_any_at (λ next. next == row) r.next number 0 below (eq-eqb row row refl) in
    ap (λ (b : Bool). nat_le r.start row && (nat_lt row (next_row r 7) && not b)) named ∙ none_of_three (nat_le r.start row) (nat_lt row (next_row r 7))

-- ---- no row is rebuilt

next_of_none : (start number : ℕ) → number < 8 → next_row (none_rebuilt start) number ≡ start + number
next_of_none start zero below = omega arith
next_of_none start (suc zero) below = omega arith
next_of_none start (suc (suc zero)) below = omega arith
next_of_none start (suc (suc (suc zero))) below = omega arith
next_of_none start (suc (suc (suc (suc zero)))) below = omega arith
next_of_none start (suc (suc (suc (suc (suc zero))))) below = omega arith
next_of_none start (suc (suc (suc (suc (suc (suc zero)))))) below = omega arith
next_of_none start (suc (suc (suc (suc (suc (suc (suc zero))))))) below = omega arith
next_of_none start (suc (suc (suc (suc (suc (suc (suc (suc n)))))))) below = absurd (omega arith)

and_false : (a : Bool) → (a && false) ≡ false
and_false true = refl
and_false false = refl

pub none_built : (start row : ℕ) → is_rebuilt (none_rebuilt start) row ≡ false
none_built start row =
    elim (cases_lt row start) [
      | inl before ↦ ap (λ (b : Bool). b && rest) (lt-leb start row before)
      | inr from ↦ elim (cases_lt row (start + 7)) [
        | inl inside ↦
            let number = row - start in
            let is : start + number ≡ row = omega arith in
            ap (is_rebuilt (none_rebuilt start)) (sym (next_of_none start number (omega arith) ∙ is)) ∙ next_unbuilt (none_rebuilt start) number (omega arith)
        | inr past ↦ ap (λ (b : Bool). nat_le start row && (b && named)) (le-ltb row (start + 7) past) ∙ and_false (nat_le start row)
      ]
    ]
  where
    named : Bool
    named = not (list_any (λ next. next == row) (none_rebuilt start).next)

    rest : Bool
    rest = nat_lt row (start + 7) && named

pub none_is : (first end : ℕ) → first < end → IsRebuilt first end (none_rebuilt first)
none_is first end some =
    record {
      start = refl;
      next = record {
        count = refl;
        ordered = λ number below.
            let here = next_of_none first number (omega arith) in
            let next = next_of_none first (number + 1) (omega arith) in
            omega arith;
        from = omega arith;
        upto = omega arith;
        behind = λ number below.
            let here = next_of_none first number (omega arith) in
            let next = next_of_none first (number + 1) (omega arith) in
            inr (omega arith);
      };
      some_left = some;
    }
