-- A shard's ends of the exchanges stay in order as it goes on.
use Rattle.std.proofs.Common.{◌≡◌, ℕ, suc, ◌<◌, List, [], ◌∷◌, ◌++◌, length, inl, inr, refl, sym, ap, ◌∙◌, arith, Option, Some, None}
use Rattle.std.specs.Prelude.{◌%◌}
use Rattle.std.specs.Option.{option_to_list}
use Rattle.std.proofs.lemmas.Bool.{cases_eq}
use Rattle.r6_dev.specs.History.{Telling}
use Rattle.r6_dev.specs.Promises.{Promise}
use Rattle.r6_world.proofs.Tables.{put-same, put-other}
use Rattle.r6_world.specs.declared.values.Command.{Command}
use Rattle.r6_exchange.specs.declared.task.WorkerTask.{WorkerTask}
use Rattle.r6_exchange.specs.declared.task.WorkerTask.TheVariants.{End}
use Rattle.r6_exchange.specs.Answering.{State, nothing, state_after, unanswered}
use Rattle.r6_exchange.proofs.Answering.{state-ended, unanswered-ended}
use Rattle.r6_engine.specs.remote.Lines.{Lines, having_sent_to, waiting, joined, all_out, under, known_in, telling_in, promise_of}
use Rattle.r6_engine.specs.remote.Remotes.{goes_on, performer_in, IsKept}

module _ {D : Type 0} where
  pub waiting-elsewhere : (lines : Lines D) (k : ℕ) (task : WorkerTask D) (j : ℕ) → (j ≡ k → ⊥)
      → waiting (having_sent_to lines k task) j ≡ waiting lines j
  waiting-elsewhere lines k task j ne =
      ap (λ y. unanswered y (lines.received j)) (put-other lines.sent k (lines.sent k ++ task ∷ []) j ne)

  pub waiting-here : (lines : Lines D) (k : ℕ) (task : WorkerTask D)
      → waiting (having_sent_to lines k task) k ≡ unanswered (lines.sent k ++ task ∷ []) (lines.received k)
  waiting-here lines k task = ap (λ y. unanswered y (lines.received k)) (put-same lines.sent k (lines.sent k ++ task ∷ []) k refl)

  -- one that leaves the same commands unanswered
  pub waiting-same : (lines : Lines D) (k : ℕ) (task : WorkerTask D)
      → unanswered (lines.sent k ++ task ∷ []) (lines.received k) ≡ unanswered (lines.sent k) (lines.received k)
      → waiting (having_sent_to lines k task) ≡ waiting lines
  waiting-same lines k task same = λ i j. at j i
    where
      at : (j : ℕ) → waiting (having_sent_to lines k task) j ≡ waiting lines j
      at j = elim (cases_eq j k) [
        | inl e ↦ ap (waiting (having_sent_to lines k task)) e ∙ waiting-here lines k task ∙ same ∙ ap (waiting lines) (sym e)
        | inr ne ↦ waiting-elsewhere lines k task j ne
      ]

module _ {D : Type 0} (told : D → Telling) (promised : D → Promise) where
  -- ---- one task more

  -- what is known of the parts of a worker
  abbrev pub state-at : Lines D → ℕ → State
  state-at lines j = state_after told promised nothing (lines.sent j) (lines.received j)

  pub state-elsewhere : (lines : Lines D) (k : ℕ) (task : WorkerTask D) (j : ℕ) → (j ≡ k → ⊥)
      → state-at (having_sent_to lines k task) j ≡ state-at lines j
  state-elsewhere lines k task j ne =
      ap (λ y. state_after told promised nothing y (lines.received j)) (put-other lines.sent k (lines.sent k ++ task ∷ []) j ne)

  pub state-here : (lines : Lines D) (k : ℕ) (task : WorkerTask D)
      → state-at (having_sent_to lines k task) k ≡ state_after told promised nothing (lines.sent k ++ task ∷ []) (lines.received k)
  state-here lines k task =
      ap (λ y. state_after told promised nothing y (lines.received k)) (put-same lines.sent k (lines.sent k ++ task ∷ []) k refl)

  -- a task that changes nothing of what is known
  pub known-same : (lines : Lines D) (k : ℕ) (task : WorkerTask D)
      → state_after told promised nothing (lines.sent k ++ task ∷ []) (lines.received k) ≡ state_after told promised nothing (lines.sent k) (lines.received k)
      → known_in told promised (having_sent_to lines k task) ≡ known_in told promised lines
  known-same lines k task same = λ i slot generation. at slot generation i
    where
      at : (slot generation : ℕ) → known_in told promised (having_sent_to lines k task) slot generation ≡ known_in told promised lines slot generation
      at slot generation = elim (cases_eq (slot % lines.workers) k) [
        | inl e ↦
            ap (λ j. state-at (having_sent_to lines k task) j slot generation) e
            ∙ ap (λ (y : State). y slot generation) (state-here lines k task ∙ same) ∙ ap (λ j. state-at lines j slot generation) (sym e)
        | inr ne ↦ ap (λ (y : State). y slot generation) (state-elsewhere lines k task (slot % lines.workers) ne)
      ]

  -- that nothing more comes
  ended : (lines : Lines D) (k : ℕ) (labels : List (ℕ × ℕ)) (room : ℕ) (stop : Option ℕ) (held : Option Command)
      → performer_in told promised (having_sent_to lines k End) labels room stop held ≡ performer_in told promised lines labels room stop held
  ended lines k labels room stop held =
      let known = known-same lines k End (state-ended told promised nothing (lines.received k) (lines.sent k)) in
      let left = waiting-same lines k End (unanswered-ended (lines.received k) (lines.sent k)) in
      λ i. record {
        tells = λ slot generation. telling_in (known i slot generation);
        promised = λ slot generation. promise_of (known i slot generation);
        steady = λ slot. goes_on stop (slot % lines.workers);
        labels = labels;
        part_room = room;
        out = λ token. under token (option_to_list held ++ joined lines.workers (left i));
      }

  pub ended-same : (lines new : Lines D) (k : ℕ) (labels : List (ℕ × ℕ)) (room : ℕ) (stop : Option ℕ) (held : Option Command) → new ≡ having_sent_to lines k End
      → performer_in told promised new labels room stop held ≡ performer_in told promised lines labels room stop held
  ended-same lines new k labels room stop held e =
      ap (λ (y : Lines D). performer_in told promised y labels room stop held) e ∙ ended lines k labels room stop held

  -- a command is taken on, and held back at first
  pub taken_on : (lines : Lines D) (labels : List (ℕ × ℕ)) (room : ℕ) (c : Command) (n more bound : ℕ) → under c.token (all_out lines None) ≡ None
      → (more < bound → more ≡ suc n) → IsKept told promised lines labels room None n bound → IsKept told promised lines labels room (Some c) more bound
  taken_on lines labels room c n more bound none count old =
      record {
        some = old.some;
        renewed = old.renewed;
        own = old.own;
        distinct = (none, old.distinct);
        counted = λ below.
            let e : more ≡ suc n = count below in
            let many : n ≡ length (joined lines.workers (waiting lines)) = old.counted (omega (arith, below, e)) in
            omega (arith, e, many);
        here = old.here;
        labelled = old.labelled;
        limits = old.limits;
        «open» = old.«open»;
      }
