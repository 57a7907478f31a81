-- No label of a part is lost.
use Rattle.std.proofs.Common.{◌≡◌, ℕ, suc, ◌+◌, ◌<◌, ◌≤◌, List, [], ◌∷◌, ◌++◌, length, arith, append-nil, refl, sym, ap, subst, ◌∙◌, IsPermutation}
use Rattle.std.specs.Prelude.{◌%◌, cond}
use Rattle.std.proofs.Math.Nat.{mod-lt}
use Rattle.std.proofs.lemmas.Bool.{eq-eqb, ne_eqb}
use Rattle.std.proofs.lemmas.List.{length-append, length-map, map-append}
use Rattle.std.proofs.lemmas.List.Sorted.{IsPermutation-refl, IsPermutation-sym, IsPermutation-trans, IsPermutation-cons, IsPermutation-middle, IsPermutation-append_left, IsPermutation-append_right, IsPermutation-map, length_permutation}
use Rattle.r6_exchange.specs.declared.task.Part.{Part}
use Rattle.r6_exchange.specs.declared.task.ServedPart.{ServedPart}
use Rattle.r6_exchange.specs.Answering.{labels_of as served_labels, label_of as served_label}
use Rattle.r6_exchange.proofs.Labels.{permuted-same}
use Rattle.r6_shard.specs.Parts.{label_of, labels_of}
use Rattle.r6_engine.specs.remote.Lines.{joined, labels_at}
use Rattle.r6_engine.proofs.RemoteLemmas.Commands.{Stand, joined-at, joined-same}
use Rattle.r6_engine.proofs.RemoteLemmas.Fresh.{joined-none}
use Rattle.r6_engine.specs.joining.Crews.{all_parts, is_own, own_parts, stray_parts}
use Rattle.r6_engine.proofs.JoiningLemmas.Whole.{all-sorted, put-back}

-- ---- each label is of a slot of one worker

module _ (workers : ℕ) (some : 1 ≤ workers) (label : ℕ × ℕ) (labels : List (ℕ × ℕ)) where
  own : labels_at workers (label.0 % workers) (label ∷ labels) ≡ label ∷ labels_at workers (label.0 % workers) labels
  own =
      ap (λ b. cond b (label ∷ labels_at workers (label.0 % workers) labels) (labels_at workers (label.0 % workers) labels))
      (eq-eqb (label.0 % workers) (label.0 % workers) refl)

  another : (j : ℕ) → (j ≡ label.0 % workers → ⊥) → labels_at workers j (label ∷ labels) ≡ labels_at workers j labels
  another j ne =
      ap (λ b. cond b (label ∷ labels_at workers j labels) (labels_at workers j labels)) (ne_eqb (label.0 % workers) j (λ e. ne (sym e)))

  one-labelled : IsPermutation labels (joined workers (λ j. labels_at workers j labels))
      → IsPermutation (label ∷ labels) (joined workers (λ j. labels_at workers j (label ∷ labels)))
  one-labelled x =
      let k = label.0 % workers in
      let stand : Stand workers k (λ j. labels_at workers j labels) (λ j. labels_at workers j (label ∷ labels)) =
      joined-at workers k (λ j. labels_at workers j labels) (λ j. labels_at workers j (label ∷ labels)) (mod-lt label.0 some) another in
      let rest = labels_at workers k labels ++ stand.after in
      IsPermutation-trans (label ∷ labels) (label ∷ (stand.before ++ rest)) (joined workers (λ j. labels_at workers j (label ∷ labels)))
      (IsPermutation-cons label labels (stand.before ++ rest) (subst (IsPermutation labels) stand.was x))
      (subst (IsPermutation (label ∷ (stand.before ++ rest))) (sym (stand.is ∙ ap (λ y. stand.before ++ (y ++ stand.after)) own))
      (IsPermutation-sym (stand.before ++ label ∷ rest) (label ∷ (stand.before ++ rest)) (IsPermutation-middle stand.before label rest)))

all-labelled : (workers : ℕ) → 1 ≤ workers → (labels : List (ℕ × ℕ)) → IsPermutation labels (joined workers (λ j. labels_at workers j labels))
all-labelled workers some [] = subst (IsPermutation []) (sym (joined-none workers)) (IsPermutation-refl [])
all-labelled workers some (label ∷ labels) = one-labelled workers some label labels (all-labelled workers some labels)

-- what the workers were sent, where nothing has come back yet
pub all-sent : {D : Type 0} (workers : ℕ) (labels : List (ℕ × ℕ)) (sent : ℕ → List (ℕ × ℕ)) (parts others : List (Part D)) → 1 ≤ workers
    → ((j : ℕ) → j < workers → sent j ≡ labels_at workers j labels) → parts ≡ [] → others ≡ []
    → IsPermutation labels (joined workers sent ++ (labels_of parts ++ labels_of others))
all-sent workers labels sent parts others some each none none' =
    subst (IsPermutation labels)
    (sym ((λ i. joined workers sent ++ (labels_of (none i) ++ labels_of (none' i))) ∙ append-nil (joined workers sent)
    ∙ joined-same workers (λ j. labels_at workers j labels) sent each))
    (all-labelled workers some labels)

-- ---- what one worker has is put to what has come back

served-labels : {D : Type 0} (served : List (ServedPart D)) → labels_of (all_parts served) ≡ served_labels served
served-labels [] = refl
served-labels (s ∷ served) = ap (λ y. served_label s ∷ y) (served-labels served)

module _ {D : Type 0} (workers worker n : ℕ) (sent : ℕ → List (ℕ × ℕ)) (came set-by : List (ServedPart D)) (parts others : List (Part D)) where
  own-ones : List (Part D)
  own-ones = own_parts workers worker came

  strays : List (Part D)
  strays = stray_parts workers worker came

  sorted : IsPermutation (served_labels came) (labels_of own-ones ++ labels_of strays)
  unfolding own-ones strays
  sorted =
      permuted-same (labels_of (all_parts came)) (served_labels came)
      (labels_of (own_parts workers worker came ++ stray_parts workers worker came))
      (labels_of (own_parts workers worker came) ++ labels_of (stray_parts workers worker came))
      (sym (served-labels came)) (sym (map-append label_of (own_parts workers worker came) (stray_parts workers worker came)))
      (IsPermutation-map label_of (all_parts came) (own_parts workers worker came ++ stray_parts workers worker came)
      (all-sorted (is_own workers worker) came))

  pub labels-back : (first : List (ℕ × ℕ)) → IsPermutation (sent n) (served_labels came ++ served_labels set-by)
      → IsPermutation first (joined (suc n) sent ++ (labels_of parts ++ labels_of others))
      → IsPermutation first (joined n sent ++ (labels_of (parts ++ own_parts workers worker came)
      ++ labels_of ((others ++ stray_parts workers worker came) ++ all_parts set-by)))
  unfolding own-ones strays
  labels-back first has x =
      let back = labels_of parts ++ labels_of others in
      let rest = joined n sent in
      let all = served_labels came ++ served_labels set-by in
      subst (λ y. IsPermutation first (rest ++ y))
      (sym (λ i. map-append label_of parts own-ones i
      ++ (map-append label_of (others ++ strays) (all_parts set-by) ∙ (λ j. map-append label_of others strays j ++ served-labels set-by j)) i))
      (put-back rest (served_labels came) (served_labels set-by) (labels_of parts) (labels_of others) (labels_of own-ones) (labels_of strays) sorted first
      (IsPermutation-trans first ((rest ++ sent n) ++ back) ((rest ++ all) ++ back) x
      (IsPermutation-append_left back (rest ++ sent n) (rest ++ all) (IsPermutation-append_right rest (sent n) all has))))

-- all has come back
pub all-labels : {D : Type 0} (n : ℕ) (labels : List (ℕ × ℕ)) (sent : ℕ → List (ℕ × ℕ)) (parts others : List (Part D)) → n ≡ 0
    → IsPermutation labels (joined n sent ++ (labels_of parts ++ labels_of others)) → IsPermutation labels (labels_of parts ++ labels_of others)
all-labels n labels sent parts others none x = subst (λ k. IsPermutation labels (joined k sent ++ (labels_of parts ++ labels_of others))) none x

-- the parts of one worker, and those that have come back, are no more than the labels
pub all-fit : {D : Type 0} (labels : List (ℕ × ℕ)) (sent : ℕ → List (ℕ × ℕ)) (workers n : ℕ) (parts others : List (Part D))
    (came set-by : List (ServedPart D)) → workers ≡ suc n → IsPermutation labels (joined workers sent ++ (labels_of parts ++ labels_of others))
    → IsPermutation (sent n) (served_labels came ++ served_labels set-by)
    → length parts + length others + (length came + length set-by) ≤ length labels
all-fit labels sent workers n parts others came set-by is x y =
    let all = length_permutation labels (joined (suc n) sent ++ (labels_of parts ++ labels_of others))
    (subst (λ m. IsPermutation labels (joined m sent ++ (labels_of parts ++ labels_of others))) is x) in
    let one = length_permutation (sent n) (served_labels came ++ served_labels set-by) y in
    let back = length-append (labels_of parts) (labels_of others) in
    let both = length-append (served_labels came) (served_labels set-by) in
    let first = length-append (joined n sent ++ sent n) (labels_of parts ++ labels_of others) in
    let before = length-append (joined n sent) (sent n) in
    let parts-long = length-map parts label_of in
    let others-long = length-map others label_of in
    let came-long = length-map came served_label in
    let set-by-long = length-map set-by served_label in
    omega (arith, all, one, back, both, first, before, parts-long, others-long, came-long, set-by-long)
