-- The labels of parts: their slots and generations.
use Rattle.std.proofs.Common.{◌≡◌, ℕ, zero, suc, ◌+◌, ◌<◌, List, [], ◌∷◌, ◌++◌, length, get_or, append_assoc, append-nil, refl, sym, ap, subst, ◌∙◌, arith, true, Some, IsPermutation}
use Rattle.std.specs.Prelude.{slice_set, ◌==◌}
use Rattle.std.specs.List.{position}
use Rattle.std.proofs.lemmas.Bool.{and_parts, eqb-true}
use Rattle.std.proofs.lemmas.List.{length-append, length-map, map-append}
use Rattle.std.proofs.lemmas.List.Quantifiers.{position-Some}
use Rattle.std.proofs.lemmas.List.Sorted.{IsPermutation-refl, IsPermutation-trans, IsPermutation-append_comm, IsPermutation-append_left, IsPermutation-append_right, length_permutation}
use Rattle.r6_exchange.specs.declared.task.ServedPart.{ServedPart}
use Rattle.r6_exchange.specs.declared.task.WorkerTask.{WorkerTask}
use Rattle.r6_exchange.specs.declared.task.WorkerTask.TheVariants.{Perform, TakeUp, End}
use Rattle.r6_exchange.specs.Answering.{parts_in, label_of, labels_of, labels_in}
use Rattle.r6_exchange.specs.Parts.{is_of}

pub permuted-same : {X : Type 0} (xs xs' ys ys' : List X) → xs' ≡ xs → ys' ≡ ys → IsPermutation xs ys → IsPermutation xs' ys'
permuted-same xs xs' ys ys' e e' x = subst (λ z. IsPermutation z ys') (sym e) (subst (IsPermutation xs) (sym e') x)

module _ {D : Type 0} where
  -- ---- among tasks

  pub labels-more : (tasks more : List (WorkerTask D)) → labels_in (tasks ++ more) ≡ labels_in tasks ++ labels_in more
  labels-more [] more = refl
  labels-more (TakeUp served ∷ tasks) more = ap (λ y. label_of served ∷ y) (labels-more tasks more)
  labels-more (End ∷ tasks) more = labels-more tasks more
  labels-more (Perform c ∷ tasks) more = labels-more tasks more

  -- a task that is no part
  pub labels-same : (tasks : List (WorkerTask D)) (task : WorkerTask D) → labels_in (task ∷ []) ≡ [] → labels_in (tasks ++ task ∷ []) ≡ labels_in tasks
  labels-same tasks task none = labels-more tasks (task ∷ []) ∙ ap (λ y. labels_in tasks ++ y) none ∙ append-nil (labels_in tasks)

  pub labels-many : (tasks : List (WorkerTask D)) → length (labels_in tasks) ≡ parts_in tasks
  labels-many [] = refl
  labels-many (TakeUp served ∷ tasks) = omega (arith, labels-many tasks)
  labels-many (End ∷ tasks) = labels-many tasks
  labels-many (Perform c ∷ tasks) = labels-many tasks

  -- those of the tasks are as many as the parts
  pub as-many : (tasks : List (WorkerTask D)) (parts replaced : List (ServedPart D)) → IsPermutation (labels_in tasks) (labels_of parts ++ labels_of replaced)
      → length parts + length replaced ≡ parts_in tasks
  as-many tasks parts replaced x =
      let same = length_permutation (labels_in tasks) (labels_of parts ++ labels_of replaced) x in
      omega (arith, same, length-append (labels_of parts) (labels_of replaced), length-map parts label_of, length-map replaced label_of, labels-many tasks)

  -- ---- among parts

  -- in the place of a part stands one of its label
  pub labels-set : (parts : List (ServedPart D)) (at : ℕ) (before after : ServedPart D) → at < length parts → get_or parts at before ≡ before
      → label_of after ≡ label_of before → labels_of (slice_set parts at after) ≡ labels_of parts
  labels-set [] at before after below here same = absurd (omega arith)
  labels-set (served ∷ parts) zero before after below here same =
      ap (λ y. y ∷ labels_of parts) (same ∙ ap (λ (s : ServedPart D). label_of s) (sym here))
  labels-set (served ∷ parts) (suc at) before after below here same =
      ap (λ y. label_of served ∷ y) (labels-set parts at before after (omega arith) here same)

  label-there : (slot generation : ℕ) (served : ServedPart D) → is_of slot generation served ≡ true → label_of served ≡ (slot, generation)
  label-there slot generation served is =
      let p = and_parts (served.part.slot == slot) (served.part.generation == generation) is in
      let slots = eqb-true served.part.slot slot p.0 in
      let generations = eqb-true served.part.generation generation p.1 in
      λ i. (slots i, generations i)

  -- it takes the place of one of its label, which is set aside
  pub labels-replaced : (parts replaced : List (ServedPart D)) (at : ℕ) (earlier served : ServedPart D)
      → position (is_of served.part.slot served.part.generation) parts ≡ Some at → get_or parts at earlier ≡ earlier
      → IsPermutation ((labels_of parts ++ labels_of replaced) ++ label_of served ∷ [])
      (labels_of (slice_set parts at served) ++ labels_of (replaced ++ earlier ∷ []))
  labels-replaced parts replaced at earlier served place here =
      let s = served.part.slot in
      let g = served.part.generation in
      let p = position-Some (is_of s g) parts at earlier place in
      let same : label_of earlier ≡ label_of served = label-there s g earlier (ap (is_of s g) (sym here) ∙ p.1) in
      let more : labels_of (replaced ++ earlier ∷ []) ≡ labels_of replaced ++ label_of served ∷ [] =
      map-append label_of replaced (earlier ∷ []) ∙ ap (λ y. labels_of replaced ++ y ∷ []) same in
      subst (IsPermutation ((labels_of parts ++ labels_of replaced) ++ label_of served ∷ []))
      (append_assoc (labels_of parts) (labels_of replaced) (label_of served ∷ [])
      ∙ sym (λ i. labels-set parts at earlier served p.0 here (sym same) i ++ more i))
      (IsPermutation-refl ((labels_of parts ++ labels_of replaced) ++ label_of served ∷ []))

  -- it comes after the others
  pub labels-after : (parts replaced : List (ServedPart D)) (served : ServedPart D)
      → IsPermutation ((labels_of parts ++ labels_of replaced) ++ label_of served ∷ []) (labels_of (parts ++ served ∷ []) ++ labels_of replaced)
  labels-after parts replaced served =
      let own = labels_of parts in
      let others = labels_of replaced in
      let label = label_of served ∷ [] in
      permuted-same (own ++ (others ++ label)) ((own ++ others) ++ label) (own ++ (label ++ others)) (labels_of (parts ++ served ∷ []) ++ others)
      (append_assoc own others label)
      (ap (λ y. y ++ others) (map-append label_of parts (served ∷ [])) ∙ append_assoc own label others)
      (IsPermutation-append_right own (others ++ label) (label ++ others) (IsPermutation-append_comm others label))

  -- ---- what a worker has

  -- it took no part more
  pub labels-kept : (tasks : List (WorkerTask D)) (task : WorkerTask D) (taken : List (WorkerTask D)) (parts parts' replaced replaced' : List (ServedPart D))
      → labels_in (task ∷ []) ≡ [] → taken ≡ tasks ++ task ∷ [] → labels_of parts' ≡ labels_of parts → replaced' ≡ replaced
      → IsPermutation (labels_in tasks) (labels_of parts ++ labels_of replaced)
      → IsPermutation (labels_in taken) (labels_of parts' ++ labels_of replaced')
  labels-kept tasks task taken parts parts' replaced replaced' none is same same' x =
      permuted-same (labels_in tasks) (labels_in taken) (labels_of parts ++ labels_of replaced) (labels_of parts' ++ labels_of replaced')
      (ap labels_in is ∙ labels-same tasks task none) (λ i. same i ++ labels_of (same' i)) x

  -- it took one more
  pub labels-added : (tasks : List (WorkerTask D)) (served : ServedPart D) (taken : List (WorkerTask D)) (labels : List (ℕ × ℕ)) (labels' : List (ℕ × ℕ))
      → taken ≡ tasks ++ TakeUp served ∷ [] → IsPermutation (labels_in tasks) labels → IsPermutation (labels ++ label_of served ∷ []) labels'
      → IsPermutation (labels_in taken) labels'
  labels-added tasks served taken labels labels' is x more =
      permuted-same (labels_in tasks ++ label_of served ∷ []) (labels_in taken) labels' labels'
      (ap labels_in is ∙ labels-more tasks (TakeUp served ∷ [])) refl
      (IsPermutation-trans (labels_in tasks ++ label_of served ∷ []) (labels ++ label_of served ∷ []) labels'
      (IsPermutation-append_left (label_of served ∷ []) (labels_in tasks) labels x) more)
