-- None of the parts is lost.
use Rattle.std.proofs.Common.{◌≡◌, Bool, List, [], ◌∷◌, ◌++◌, length, inl, inr, sym, ap, subst, ◌∙◌, append-nil, append_assoc, IsPermutation, arith}
use Rattle.std.specs.Prelude.{not}
use Rattle.std.proofs.lemmas.Bool.{cases_Bool}
use Rattle.std.proofs.lemmas.List.Sorted.{IsPermutation-refl, IsPermutation-sym, IsPermutation-trans, IsPermutation-cons, IsPermutation-middle, IsPermutation-append_comm, IsPermutation-append_left, IsPermutation-append_right}
use Rattle.r6_exchange.specs.declared.task.Part.{Part}
use Rattle.r6_exchange.specs.declared.task.ServedPart.{ServedPart}
use Rattle.r6_exchange.specs.declared.worker.Worker.{Worker}
use Rattle.r6_engine.specs.joining.Crews.{all_parts, parts_where, parts_with, parts_with_all}
use Rattle.r6_engine.proofs.JoiningLemmas.Backs.{passes-test, fails-test}

-- those that pass a test and those that don't are all
pub all-sorted : {D : Type 0} (test : ServedPart D → Bool) (served : List (ServedPart D))
    → IsPermutation (all_parts served) (parts_where test served ++ parts_where (λ s. not (test s)) served)
all-sorted test [] = IsPermutation-refl []
all-sorted {D = D} test (s ∷ served) = elim (cases_Bool (test s)) [
  | inl yes' ↦
      subst (IsPermutation (s.part ∷ all_parts served))
      (sym (λ i. passes-test test s served yes' i ++ fails-test other s served (ap not yes') i))
      (IsPermutation-cons s.part (all_parts served) (parts_where test served ++ parts_where other served) (all-sorted test served))
  | inr no' ↦
      let own = parts_where test served in
      let others = parts_where other served in
      subst (IsPermutation (s.part ∷ all_parts served))
      (sym (λ i. fails-test test s served no' i ++ passes-test other s served (ap not no') i))
      (IsPermutation-trans (s.part ∷ all_parts served) (s.part ∷ (own ++ others)) (own ++ s.part ∷ others)
      (IsPermutation-cons s.part (all_parts served) (own ++ others) (all-sorted test served))
      (IsPermutation-sym (own ++ s.part ∷ others) (s.part ∷ (own ++ others)) (IsPermutation-middle own s.part others)))
]
  where
    other : ServedPart D → Bool
    other s = not (test s)

pub parts-of-last : {D : Type 0} (workers : List (Worker D)) (w : Worker D)
    → parts_with_all (workers ++ w ∷ []) ≡ parts_with_all workers ++ parts_with w
parts-of-last [] w = append-nil (parts_with w)
parts-of-last (v ∷ workers) w =
    ap (λ y. parts_with v ++ y) (parts-of-last workers w) ∙ sym (append_assoc (parts_with v) (parts_with_all workers) (parts_with w))

-- what one worker has is put to what has come back
module _ {X : Type 0} (rest all set-by parts others own strays : List X) (sorted : IsPermutation all (own ++ strays)) where
  left : IsPermutation ((all ++ set-by) ++ (parts ++ others)) (parts ++ (others ++ (own ++ (strays ++ set-by))))
  left =
      IsPermutation-trans ((all ++ set-by) ++ (parts ++ others)) (((own ++ strays) ++ set-by) ++ (parts ++ others))
      (parts ++ (others ++ (own ++ (strays ++ set-by))))
      (IsPermutation-append_left (parts ++ others) (all ++ set-by) ((own ++ strays) ++ set-by)
      (IsPermutation-append_left set-by all (own ++ strays) sorted))
      (subst (IsPermutation (((own ++ strays) ++ set-by) ++ (parts ++ others)))
      (append_assoc parts others ((own ++ strays) ++ set-by) ∙ ap (λ y. parts ++ (others ++ y)) (append_assoc own strays set-by))
      (IsPermutation-append_comm ((own ++ strays) ++ set-by) (parts ++ others)))

  between : IsPermutation (others ++ (own ++ (strays ++ set-by))) (own ++ (others ++ (strays ++ set-by)))
  between =
      subst (λ y. IsPermutation y (own ++ (others ++ (strays ++ set-by)))) (append_assoc others own (strays ++ set-by))
      (subst (IsPermutation ((others ++ own) ++ (strays ++ set-by))) (append_assoc own others (strays ++ set-by))
      (IsPermutation-append_left (strays ++ set-by) (others ++ own) (own ++ others) (IsPermutation-append_comm others own)))

  one-put : IsPermutation ((all ++ set-by) ++ (parts ++ others)) ((parts ++ own) ++ ((others ++ strays) ++ set-by))
  one-put =
      subst (IsPermutation ((all ++ set-by) ++ (parts ++ others)))
      (sym (append_assoc parts own ((others ++ strays) ++ set-by) ∙ ap (λ y. parts ++ (own ++ y)) (append_assoc others strays set-by)))
      (IsPermutation-trans ((all ++ set-by) ++ (parts ++ others)) (parts ++ (others ++ (own ++ (strays ++ set-by))))
      (parts ++ (own ++ (others ++ (strays ++ set-by)))) left
      (IsPermutation-append_right parts (others ++ (own ++ (strays ++ set-by))) (own ++ (others ++ (strays ++ set-by))) between))

  pub put-back : (first : List X) → IsPermutation first ((rest ++ (all ++ set-by)) ++ (parts ++ others))
      → IsPermutation first (rest ++ ((parts ++ own) ++ ((others ++ strays) ++ set-by)))
  put-back first x =
      IsPermutation-trans first ((rest ++ (all ++ set-by)) ++ (parts ++ others)) (rest ++ ((parts ++ own) ++ ((others ++ strays) ++ set-by))) x
      (subst (λ y. IsPermutation y (rest ++ ((parts ++ own) ++ ((others ++ strays) ++ set-by))))
      (sym (append_assoc rest (all ++ set-by) (parts ++ others)))
      (IsPermutation-append_right rest ((all ++ set-by) ++ (parts ++ others)) ((parts ++ own) ++ ((others ++ strays) ++ set-by)) one-put))

-- nothing has come back yet
pub none-back : {D : Type 0} (workers : List (Worker D)) (parts others : List (Part D)) → parts ≡ [] → others ≡ []
    → IsPermutation (parts_with_all workers) (parts_with_all workers ++ (parts ++ others))
none-back workers parts others e e' =
    subst (IsPermutation (parts_with_all workers)) (sym ((λ i. parts_with_all workers ++ (e i ++ e' i)) ∙ append-nil (parts_with_all workers)))
    (IsPermutation-refl (parts_with_all workers))

-- all has come back
pub all-back : {D : Type 0} (first : List (Part D)) (workers : List (Worker D)) (back : List (Part D)) → length workers ≡ 0
    → IsPermutation first (parts_with_all workers ++ back) → IsPermutation first back
all-back first [] back empty x = x
all-back first (w ∷ workers) back empty x = absurd (omega (arith, empty))
