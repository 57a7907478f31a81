-- A command that was held back is handed over to its worker.
use Rattle.std.proofs.Common.{◌≡◌, ◌≢◌, ℕ, suc, List, [], ◌∷◌, ◌++◌, length, length-append, append_assoc, refl, sym, ap, subst, ◌∙◌, arith, Option, Some, None}
use Rattle.std.specs.Prelude.{◌%◌}
use Rattle.std.proofs.Math.Nat.{mod-lt}
use Rattle.r6_dev.specs.History.{Telling}
use Rattle.r6_dev.specs.Promises.{Promise}
use Rattle.r6_world.specs.Tables.{put}
use Rattle.r6_world.proofs.Tables.{at-entry}
use Rattle.r6_world.specs.declared.values.Command.{Command}
use Rattle.r6_exchange.specs.declared.task.WorkerTask.{WorkerTask}
use Rattle.r6_exchange.specs.declared.task.WorkerTask.TheVariants.{Perform}
use Rattle.r6_exchange.specs.Answering.{State, Answered, nothing, unanswered, labels_in}
use Rattle.r6_exchange.specs.Joins.{HasNoEnd}
use Rattle.r6_exchange.specs.Next.{NoneRenewed}
use Rattle.r6_exchange.proofs.Labels.{labels-same}
use Rattle.r6_exchange.proofs.Next.{renews_none}
use Rattle.r6_engine.specs.remote.Lines.{Lines, having_sent_to, waiting, joined, under, labels_at, known_in, telling_in, promise_of}
use Rattle.r6_engine.specs.remote.Remotes.{AreOf, AreDistinct, goes_on, performer_in, IsKept}
use Rattle.r6_engine.proofs.RemoteLemmas.Commands.{under-front, under-among, distinct-with, are_of-append, Stand, joined-at}
use Rattle.r6_engine.proofs.RemoteLemmas.Lines.{state-sent, unanswered-sent, no_end-command}
use Rattle.r6_engine.proofs.RemoteLemmas.Kept.{waiting-elsewhere, waiting-here, known-same}

module _ {D : Type 0} (told : D → Telling) (promised : D → Promise) where
  module _ (lines : Lines D) (labels : List (ℕ × ℕ)) (room : ℕ) (c : Command) (n bound : ℕ)
      (answered : (j : ℕ) → Answered told promised nothing (lines.received j) (lines.sent j))
      (old : IsKept told promised lines labels room (Some c) n bound) where
    k : ℕ
    k = c.slot % lines.workers

    longer : Lines D
    longer = having_sent_to lines (c.slot % lines.workers) (Perform c)

    known-sent : known_in told promised longer ≡ known_in told promised lines
    unfolding k longer
    known-sent = known-same told promised lines k (Perform c) (state-sent told promised nothing (lines.received k) (lines.sent k) c (answered k))

    stand : Stand lines.workers k (waiting lines) (waiting longer)
    unfolding k longer
    stand = joined-at lines.workers k (waiting lines) (waiting longer) (mod-lt c.slot old.some) (waiting-elsewhere lines k (Perform c))

    left : waiting longer k ≡ waiting lines k ++ c ∷ []
    unfolding k longer
    left = waiting-here lines k (Perform c) ∙ unanswered-sent told promised nothing (lines.received k) (lines.sent k) c (answered k)

    was : joined lines.workers (waiting lines) ≡ (stand.before ++ waiting lines k) ++ stand.after
    was = stand.was ∙ sym (append_assoc stand.before (waiting lines k) stand.after)

    is : joined lines.workers (waiting longer) ≡ (stand.before ++ waiting lines k) ++ c ∷ stand.after
    is =
        stand.is ∙ ap (λ y. stand.before ++ (y ++ stand.after)) left
        ∙ ap (λ y. stand.before ++ y) (append_assoc (waiting lines k) (c ∷ []) stand.after)
        ∙ sym (append_assoc stand.before (waiting lines k) (c ∷ stand.after))

    none : under c.token ((stand.before ++ waiting lines k) ++ stand.after) ≡ None
    none = subst (λ y. under c.token y ≡ None) was old.distinct.0

    outs : (t : ℕ) → under t (joined lines.workers (waiting longer)) ≡ under t (c ∷ joined lines.workers (waiting lines))
    outs t =
        ap (under t) is ∙ under-among t (stand.before ++ waiting lines k) c stand.after (under-front c.token (stand.before ++ waiting lines k) stand.after none)
        ∙ ap (λ y. put (λ u. under u y) c.token (Some c) t) (sym was)

    pub handed-performer : (stop : Option ℕ)
        → performer_in told promised (having_sent_to lines (c.slot % lines.workers) (Perform c)) labels room stop None
        ≡ performer_in told promised lines labels room stop (Some c)
    unfolding k longer
    handed-performer stop = λ i. record {
      tells = λ slot generation. telling_in (known-sent i slot generation);
      promised = λ slot generation. promise_of (known-sent i slot generation);
      steady = λ slot. goes_on stop (slot % lines.workers);
      labels = labels;
      part_room = room;
      out = λ token. outs token i;
    }

    pub handed-kept : IsKept told promised (having_sent_to lines (c.slot % lines.workers) (Perform c)) labels room None n bound
    unfolding k longer
    handed-kept =
        let task : WorkerTask D = Perform c in
        record {
          some = old.some;
          renewed = at-entry (λ m y. NoneRenewed y (lines.received m)) lines.sent k (lines.sent k ++ task ∷ []) old.renewed
              (renews_none.commands (lines.sent k) (lines.received k) c (old.renewed k));
          own = at-entry (λ m y. AreOf lines.workers m (unanswered y (lines.received m))) lines.sent k (lines.sent k ++ task ∷ []) old.own
              (subst (AreOf lines.workers k) (sym (unanswered-sent told promised nothing (lines.received k) (lines.sent k) c (answered k)))
              (are_of-append lines.workers k (waiting lines k) c (old.own k) refl));
          distinct = subst AreDistinct (sym is)
              (distinct-with (stand.before ++ waiting lines k) c stand.after none (subst AreDistinct was old.distinct.1));
          counted = λ below.
              let many : n ≡ suc (length (joined lines.workers (waiting lines))) = old.counted below in
              let l = ap length was in
              let l' = ap length is in
              omega (arith, many, l, l', length-append (stand.before ++ waiting lines k) stand.after, length-append (stand.before ++ waiting lines k) (c ∷ stand.after));
          here = λ slot generation x. subst (λ (y : State). telling_in (y slot generation) ≢ None) (sym known-sent) (old.here slot generation x);
          labelled = at-entry (λ m y. labels_in y ≡ labels_at lines.workers m labels) lines.sent k (lines.sent k ++ task ∷ []) old.labelled
              (labels-same (lines.sent k) task refl ∙ old.labelled k);
          limits = old.limits;
          «open» = at-entry (λ m y. HasNoEnd y) lines.sent k (lines.sent k ++ task ∷ []) old.«open» (no_end-command (lines.sent k) c (old.«open» k));
        }
