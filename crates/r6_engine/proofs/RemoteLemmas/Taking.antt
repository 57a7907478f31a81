-- A part is taken up by the worker of its slot.
use Rattle.std.proofs.Common.{◌≡◌, ◌≢◌, ℕ, ◌<◌, ◌⊎◌, List, [], ◌∷◌, ◌++◌, length, inl, inr, refl, sym, ap, subst, ◌∙◌, Option, Some, None}
use Rattle.std.specs.Prelude.{◌%◌}
use Rattle.std.specs.List.{Contains}
use Rattle.std.specs.Option.{option_to_list}
use Rattle.std.proofs.Math.Nat.{mod-lt}
use Rattle.std.proofs.lemmas.List.Elements.{Contains-append_cases}
use Rattle.r6_dev.specs.History.{Telling}
use Rattle.r6_dev.specs.Promises.{Promise}
use Rattle.r6_world.proofs.Tables.{at-entry}
use Rattle.r6_world.specs.declared.values.Command.{Command}
use Rattle.r6_exchange.specs.declared.task.Part.{Part}
use Rattle.r6_exchange.specs.declared.task.ServedPart.{ServedPart}
use Rattle.r6_exchange.specs.declared.task.WorkerTask.{WorkerTask}
use Rattle.r6_exchange.specs.declared.task.WorkerTask.TheVariants.{TakeUp}
use Rattle.r6_exchange.specs.Answering.{Known, nothing, promise_if, put_at}
use Rattle.r6_exchange.specs.Joins.{HasNoEnd}
use Rattle.r6_exchange.specs.Next.{NoneRenewed, AreApart}
use Rattle.r6_exchange.proofs.Answering.{state-taken-up, unanswered-taken-up}
use Rattle.r6_exchange.proofs.Next.{renews_none}
use Rattle.r6_shard.specs.Parts.{TakesIn, label_of}
use Rattle.r6_engine.specs.remote.Lines.{Lines, having_sent_to, waiting, joined, all_out, under, known_in, telling_in, promise_of}
use Rattle.r6_engine.specs.remote.Remotes.{AreOf, AreDistinct, goes_on, performer_in, IsKept}
use Rattle.r6_engine.proofs.RemoteLemmas.Commands.{not-both, AreBelow, all-below, below-back, below-front, Stand, joined-at}
use Rattle.r6_engine.proofs.RemoteLemmas.Lines.{no_end-part}
use Rattle.r6_engine.proofs.RemoteLemmas.Labels.{labelled-more}
use Rattle.r6_engine.proofs.RemoteLemmas.Known.{put-keeps, only, known-put, at-place, at-another, apart}
use Rattle.r6_engine.proofs.RemoteLemmas.Kept.{waiting-same, state-at, state-elsewhere, state-here}

module _ {D : Type 0} (told : D → Telling) (promised : D → Promise) (lines : Lines D) (labels : List (ℕ × ℕ)) (room : ℕ)
    (stop : Option ℕ) (held : Option Command) (n bound : ℕ) (part : Part D)
    (apart-from : (token : ℕ) (c : Command) → under token (all_out lines held) ≡ Some c → c.generation < part.generation)
    (old : IsKept told promised lines labels room held n bound) where
  served : ServedPart D
  served = record { part = part; steady = goes_on stop (part.slot % lines.workers) }

  k : ℕ
  k = part.slot % lines.workers

  task : WorkerTask D
  task = TakeUp (record { part = part; steady = goes_on stop (part.slot % lines.workers) })

  longer : Lines D
  longer = having_sent_to lines (part.slot % lines.workers) (TakeUp (record { part = part; steady = goes_on stop (part.slot % lines.workers) }))

  -- none of the commands that its worker has is to its device
  others-apart : AreApart (waiting lines k) served
  unfolding k served
  others-apart =
      let below : k < lines.workers = mod-lt part.slot old.some in
      let stand : Stand lines.workers k (waiting lines) (waiting lines) = joined-at lines.workers k (waiting lines) (waiting lines) below (λ j ne. refl) in
      let all : AreBelow part.generation (all_out lines held) = all-below part.generation (all_out lines held) old.distinct apart-from in
      apart (waiting lines k) served
      (below-front part.generation (waiting lines k) stand.after
      (below-back part.generation stand.before (waiting lines k ++ stand.after)
      (subst (AreBelow part.generation) stand.was (below-back part.generation (option_to_list held) (joined lines.workers (waiting lines)) all))))

  known : Known
  known = record { telling = told part.device; promise = promise_if (goes_on stop (part.slot % lines.workers)) (promised part.device) }

  changed : state-at told promised longer k ≡ put_at (state-at told promised lines k) part.slot part.generation (Some known)
  unfolding k longer known
  changed =
      state-here told promised lines k (TakeUp (record { part = part; steady = goes_on stop (part.slot % lines.workers) }))
      ∙ state-taken-up told promised nothing (lines.received k) (lines.sent k) (record { part = part; steady = goes_on stop (part.slot % lines.workers) })

  now : (s g : ℕ) → known_in told promised longer s g ≡ put_at (known_in told promised lines) part.slot part.generation (Some known) s g
  unfolding longer k task
  now s g =
      known-put lines.workers k part.slot part.generation (Some known) (state-at told promised lines) (state-at told promised longer) refl changed
      (state-elsewhere told promised lines k task) s g

  left : waiting longer ≡ waiting lines
  unfolding k longer
  left =
      waiting-same lines k (TakeUp (record { part = part; steady = goes_on stop (part.slot % lines.workers) }))
      (unanswered-taken-up (lines.received k) (lines.sent k) (record { part = part; steady = goes_on stop (part.slot % lines.workers) }))

  is-there : telling_in (Some known) ≡ Some (told part.device)
  unfolding known
  is-there = refl

  pub taken-kept : IsKept told promised (having_sent_to lines (part.slot % lines.workers) (TakeUp (record { part = part; steady = goes_on stop (part.slot % lines.workers) })))
      (labels ++ label_of part ∷ []) room held n bound
  unfolding k longer served task known
  taken-kept =
      let more = lines.sent k ++ task ∷ [] in
      let all-same : all_out longer held ≡ all_out lines held = ap (λ y. option_to_list held ++ joined lines.workers y) left in
      record {
        some = old.some;
        renewed = at-entry (λ j y. NoneRenewed y (lines.received j)) lines.sent k more old.renewed
            (renews_none.parts (lines.sent k) (lines.received k) served (old.renewed k) others-apart);
        own = λ j. subst (λ (y : ℕ → List Command). AreOf lines.workers j (y j)) (sym left) (old.own j);
        distinct = subst AreDistinct (sym all-same) old.distinct;
        counted = λ low. old.counted low ∙ ap length (sym all-same);
        here = λ s g x. there s g (Contains-append_cases labels (label_of part ∷ []) (s, g) x);
        labelled = labelled-more lines labels (record { part = part; steady = goes_on stop (part.slot % lines.workers) }) old.labelled;
        limits = old.limits;
        «open» = at-entry (λ j y. HasNoEnd y) lines.sent k more old.«open» (no_end-part (lines.sent k) served (old.«open» k));
      }
    where
      there : (s g : ℕ) → Contains labels (s, g) ⊎ Contains (label_of part ∷ []) (s, g) → telling_in (known_in told promised longer s g) ≢ None
      there s g x = subst (λ (y : Option Known). telling_in y ≢ None) (sym (now s g)) (at x)
        where
          at : Contains labels (s, g) ⊎ Contains (label_of part ∷ []) (s, g)
              → telling_in (put_at (known_in told promised lines) part.slot part.generation (Some known) s g) ≢ None
          at (inl x') = put-keeps (known_in told promised lines) part.slot part.generation known s g (old.here s g x')
          at (inr x') =
              let e : (s, g) ≡ label_of part = only x' in
              subst (λ (y : ℕ × ℕ). telling_in (put_at (known_in told promised lines) part.slot part.generation (Some known) y.0 y.1) ≢ None) (sym e)
              (subst (λ (y : Option Known). telling_in y ≢ None) (sym (at-place (known_in told promised lines) part.slot part.generation (Some known)))
              (λ e'. not-both (telling_in (Some known)) (told part.device) e' is-there))

  pub takes_in : TakesIn told promised part None (performer_in told promised lines labels room stop held)
      (performer_in told promised (having_sent_to lines (part.slot % lines.workers) (TakeUp (record { part = part; steady = goes_on stop (part.slot % lines.workers) })))
      (labels ++ label_of part ∷ []) room stop held)
  unfolding longer known
  takes_in =
      let at : known_in told promised longer part.slot part.generation ≡ Some known =
      now part.slot part.generation ∙ at-place (known_in told promised lines) part.slot part.generation (Some known) in
      record {
        labels = refl;
        tells = ap telling_in at;
        promises = ap promise_of at;
        steady = refl;
        others = λ other g ne. ap telling_in (now other g ∙ at-another (known_in told promised lines) part.slot part.generation (Some known) other g ne);
        still = λ other g ne. ap promise_of (now other g ∙ at-another (known_in told promised lines) part.slot part.generation (Some known) other g ne);
        part_room = refl;
        out = λ i token. under token (option_to_list held ++ joined lines.workers (left i));
      }
