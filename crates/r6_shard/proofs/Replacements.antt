-- A register replaces one slot at most.
use Rattle.std.proofs.Common.{◌≡◌, ℕ, zero, suc, ◌≤◌, List, [], ◌∷◌, get_or, cond, Bool, true, false, refl, sym, ap, ◌∙◌, arith}
use Rattle.std.specs.List.{count_by}
use Rattle.std.proofs.lemmas.Bool.{false≢true}
use Rattle.std.proofs.lemmas.List.Sums.{sum_by-cons}
use Rattle.std.proofs.lemmas.Option.{unwrap_or-slice_get}
use Rattle.r6_health.specs.declared.history.HistoryEntry.{HistoryEntry}
use Rattle.r6_health.specs.Slots.{is_replacing}
use Rattle.r6_health.specs.Histories.{start_losing, held, IsLegal}
use Rattle.r6_health.proofs.Replacements.{one_replacement}
use Rattle.r6_world.specs.Registers.{InSync}
use Rattle.r6_shard.specs.Looking.{ReplacesOne}

-- of what passes in a list each counts
module _ {A : Type 0} (p : A → Bool) (d : A) (none : p d ≡ false) where
  abbrev counts : A → ℕ
  counts x = cond (p x) 1 0

  some-passes : (xs : List A) (i : ℕ) → p (get_or xs i d) ≡ true → 1 ≤ count_by p xs
  some-passes [] i e = absurd (false≢true (sym none ∙ e))
  some-passes (x ∷ xs) zero e =
      let all = sum_by-cons counts x xs in
      let own : counts x ≡ 1 = ap (λ b. cond b 1 0) e in
      omega arith
  some-passes (x ∷ xs) (suc i) e =
      let all = sum_by-cons counts x xs in
      let rest = some-passes xs i e in
      omega arith

  two-pass : (x : A) (xs : List A) (j : ℕ) → count_by p (x ∷ xs) ≤ 1 → p x ≡ true → p (get_or xs j d) ≡ true → ⊥
  two-pass x xs j few e e' =
      let all = sum_by-cons counts x xs in
      let own : counts x ≡ 1 = ap (λ b. cond b 1 0) e in
      let rest = some-passes xs j e' in
      omega arith

  one-passes : (xs : List A) (i j : ℕ) → count_by p xs ≤ 1 → p (get_or xs i d) ≡ true → p (get_or xs j d) ≡ true → i ≡ j
  one-passes [] i j few e e' = absurd (false≢true (sym none ∙ e))
  one-passes (x ∷ xs) zero zero few e e' = refl
  one-passes (x ∷ xs) zero (suc j) few e e' = absurd (two-pass x xs j few e e')
  one-passes (x ∷ xs) (suc i) zero few e e' = absurd (two-pass x xs i few e' e)
  one-passes (x ∷ xs) (suc i) (suc j) few e e' =
      let all = sum_by-cons counts x xs in
      ap suc (one-passes xs i j (omega arith) e e')

-- at every time
pub replaces-one : (slots shards lost : ℕ) (log : List HistoryEntry) → IsLegal (start_losing slots shards lost) log → ReplacesOne (held (start_losing slots shards lost) log)
replaces-one slots shards lost log legal count slot other below below' e e' =
    let states = (held (start_losing slots shards lost) log).slots in
    one-passes is_replacing (InSync 0) refl states slot other (one_replacement slots shards lost log legal)
    (ap is_replacing (sym (unwrap_or-slice_get states slot (InSync 0))) ∙ e)
    (ap is_replacing (sym (unwrap_or-slice_get states other (InSync 0))) ∙ e')
