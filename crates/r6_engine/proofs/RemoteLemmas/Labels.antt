-- The labels of the parts that the workers were sent.
use Rattle.std.proofs.Common.{◌≡◌, ℕ, ◌≤◌, List, [], ◌∷◌, ◌++◌, length, append-nil, inl, inr, sym, ap, ◌∙◌, arith}
use Rattle.std.specs.Prelude.{◌%◌, ◌==◌, cond}
use Rattle.std.proofs.lemmas.Bool.{cases_eq, eq-eqb, ne_eqb}
use Rattle.std.proofs.lemmas.List.Elements.{filter-append}
use Rattle.std.proofs.lemmas.List.Sums.{length-filter, count_by-le-length}
use Rattle.r6_world.proofs.Tables.{put-same, put-other}
use Rattle.r6_exchange.specs.declared.task.ServedPart.{ServedPart}
use Rattle.r6_exchange.specs.declared.task.WorkerTask.{WorkerTask}
use Rattle.r6_exchange.specs.declared.task.WorkerTask.TheVariants.{TakeUp}
use Rattle.r6_exchange.specs.Answering.{parts_in, label_of, labels_in}
use Rattle.r6_exchange.proofs.Labels.{labels-more, labels-many}
use Rattle.r6_engine.specs.remote.Lines.{Lines, having_sent_to, labels_at}

module _ {D : Type 0} where
  -- no worker was sent more parts than there are labels
  pub few-parts : (tasks : List (WorkerTask D)) (workers worker : ℕ) (labels : List (ℕ × ℕ)) → labels_in tasks ≡ labels_at workers worker labels
      → parts_in tasks ≤ length labels
  few-parts tasks workers worker labels is =
      let many = ap length is in
      let counted = length-filter (λ (label : ℕ × ℕ). (label.0 % workers) == worker) labels in
      let most = count_by-le-length (λ (label : ℕ × ℕ). (label.0 % workers) == worker) labels in
      omega (arith, many, counted, most, labels-many tasks)

  -- what a worker was sent, as one part more is sent to the worker of its slot
  pub labelled-more : (lines : Lines D) (labels : List (ℕ × ℕ)) (served : ServedPart D)
      → ((worker : ℕ) → labels_in (lines.sent worker) ≡ labels_at lines.workers worker labels)
      → (worker : ℕ) → labels_in ((having_sent_to lines (served.part.slot % lines.workers) (TakeUp served)).sent worker)
      ≡ labels_at lines.workers worker (labels ++ label_of served ∷ [])
  labelled-more lines labels served was worker = elim (cases_eq worker k) [
    | inl same ↦
        ap labels_in (put-same lines.sent k more worker same) ∙ labels-more (lines.sent k) (TakeUp served ∷ [])
        ∙ ap (λ y. y ++ label_of served ∷ []) (ap (λ j. labels_in (lines.sent j)) (sym same) ∙ was worker)
        ∙ ap (λ y. labels_at lines.workers worker labels ++ y) (sym (own worker same)) ∙ sym (split worker)
    | inr ne ↦
        ap labels_in (put-other lines.sent k more worker ne) ∙ was worker ∙ sym (append-nil (labels_at lines.workers worker labels))
        ∙ ap (λ y. labels_at lines.workers worker labels ++ y) (sym (another worker ne)) ∙ sym (split worker)
  ]
    where
      k : ℕ
      k = served.part.slot % lines.workers

      more : List (WorkerTask D)
      more = lines.sent (served.part.slot % lines.workers) ++ TakeUp served ∷ []

      split : (j : ℕ) → labels_at lines.workers j (labels ++ label_of served ∷ [])
          ≡ labels_at lines.workers j labels ++ labels_at lines.workers j (label_of served ∷ [])
      split j = filter-append (λ (label : ℕ × ℕ). (label.0 % lines.workers) == j) labels (label_of served ∷ [])

      own : (j : ℕ) → j ≡ served.part.slot % lines.workers → labels_at lines.workers j (label_of served ∷ []) ≡ label_of served ∷ []
      own j same = ap (λ b. cond b (label_of served ∷ []) []) (eq-eqb (served.part.slot % lines.workers) j (sym same))

      another : (j : ℕ) → (j ≡ served.part.slot % lines.workers → ⊥) → labels_at lines.workers j (label_of served ∷ []) ≡ []
      another j ne = ap (λ b. cond b (label_of served ∷ []) []) (ne_eqb (served.part.slot % lines.workers) j (λ e. ne (sym e)))
