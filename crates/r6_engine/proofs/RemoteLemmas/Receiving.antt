-- A completion is received.
use Rattle.std.proofs.Common.{◌≡◌, ◌≢◌, ℕ, suc, ◌<◌, ◌≤◌, List, [], ◌∷◌, ◌++◌, length, length-append, append_assoc, inl, inr, refl, sym, ap, subst, ◌∙◌, arith, Option, Some, None}
use Rattle.std.specs.Prelude.{◌%◌}
use Rattle.std.specs.Option.{option_to_list}
use Rattle.std.proofs.lemmas.Bool.{cases_eq}
use Rattle.r6_dev.specs.History.{Telling}
use Rattle.r6_dev.specs.Promises.{Promise}
use Rattle.r6_world.specs.Tables.{put}
use Rattle.r6_world.proofs.Tables.{put-same, put-other, at-entry}
use Rattle.r6_world.specs.declared.values.Command.{Command}
use Rattle.r6_exchange.specs.declared.completion.Completion.{Completion}
use Rattle.r6_exchange.specs.Answering.{IsAnswer, MayAnswer, IsPromised, Known, Answered, nothing, put_at, known_after, entry_of, state_after, unanswered}
use Rattle.r6_exchange.specs.Next.{NoneRenewed, IsNext}
use Rattle.r6_exchange.proofs.Next.{next_law, renews_none}
use Rattle.r6_shard.specs.Performing.{Receives}
use Rattle.r6_engine.specs.remote.Lines.{Lines, having_received, waiting, all_out, under, known_in, telling_in, promise_of}
use Rattle.r6_engine.specs.remote.Remotes.{AreOf, AreDistinct, performer_in, IsKept}
use Rattle.r6_engine.proofs.RemoteLemmas.Commands.{under-front, under-among, distinct-without, Stand, joined-at}
use Rattle.r6_engine.proofs.RemoteLemmas.Known.{keeps-telling, keeps-promise, known-put, covers-known, did-it}
use Rattle.r6_engine.proofs.RemoteLemmas.Kept.{state-at}

module _ {D : Type 0} (told : D → Telling) (promised : D → Promise) where
  module _ (lines : Lines D) (labels : List (ℕ × ℕ)) (room : ℕ) (held : Option Command) (n bound k : ℕ) (a : Completion)
      (below : k < lines.workers) (answered : Answered told promised nothing (lines.received k ++ a ∷ []) (lines.sent k))
      (old : IsKept told promised lines labels room held n bound) where
    next : IsNext told promised (lines.sent k) (lines.received k) a
    next = next_law told promised (lines.received k) a (lines.sent k) answered (old.renewed k)

    c : Command
    c = next.command

    rest : List Command
    rest = unanswered (lines.sent k) (lines.received k ++ a ∷ [])

    more : Lines D
    more = having_received lines k a

    others : (j : ℕ) → (j ≡ k → ⊥) → waiting more j ≡ waiting lines j
    unfolding more
    others j ne = ap (unanswered (lines.sent j)) (put-other lines.received k (lines.received k ++ a ∷ []) j ne)

    left : waiting more k ≡ rest
    unfolding more rest
    left = ap (unanswered (lines.sent k)) (put-same lines.received k (lines.received k ++ a ∷ []) k refl)

    oldest : waiting lines k ≡ c ∷ rest
    unfolding c rest
    oldest = next.oldest

    place : Stand lines.workers k (waiting lines) (waiting more)
    place = joined-at lines.workers k (waiting lines) (waiting more) below others

    front : List Command
    front = option_to_list held ++ place.before

    back : List Command
    back = rest ++ place.after

    was : all_out lines held ≡ front ++ c ∷ back
    unfolding front back
    was =
        ap (λ y. option_to_list held ++ y) (place.was ∙ ap (λ y. place.before ++ (y ++ place.after)) oldest)
        ∙ sym (append_assoc (option_to_list held) place.before (c ∷ rest ++ place.after))

    is : all_out more held ≡ front ++ back
    unfolding front back more
    is =
        ap (λ y. option_to_list held ++ y) (place.is ∙ ap (λ y. place.before ++ (y ++ place.after)) left)
        ∙ sym (append_assoc (option_to_list held) place.before (rest ++ place.after))

    fewer : (under c.token (front ++ back) ≡ None) × AreDistinct (front ++ back)
    fewer = distinct-without front c back (subst AreDistinct was old.distinct)

    among : (t : ℕ) → under t (all_out lines held) ≡ put (λ u. under u (front ++ back)) c.token (Some c) t
    among t = ap (under t) was ∙ under-among t front c back (under-front c.token front back fewer.0)

    token : a.token ≡ c.token
    unfolding c
    token = next.answer.token

    outs : (t : ℕ) → under t (all_out more held) ≡ put (λ u. under u (all_out lines held)) a.token None t
    outs t = elim (cases_eq t a.token) [
      | inl e ↦
          ap (under t) is ∙ ap (λ u. under u (front ++ back)) (e ∙ token) ∙ fewer.0
          ∙ sym (put-same (λ u. under u (all_out lines held)) a.token None t e)
      | inr ne ↦
          ap (under t) is
          ∙ sym (put-other (λ u. under u (all_out lines held)) a.token None t ne ∙ among t
          ∙ put-other (λ u. under u (front ++ back)) c.token (Some c) t (λ e. ne (e ∙ sym token)))
    ]

    -- of which worker's slots it is, and the others that this worker has
    owns : (c.slot % lines.workers ≡ k) × AreOf lines.workers k rest
    owns = subst (AreOf lines.workers k) oldest (old.own k)

    -- what is known then
    entry-known : Option Known
    entry-known = known_after (known_in told promised lines c.slot c.generation) (entry_of c a)

    at-worker : known_in told promised lines c.slot c.generation ≡ state-at told promised lines k c.slot c.generation
    at-worker = ap (λ j. state-at told promised lines j c.slot c.generation) owns.0

    changed : state-at told promised more k ≡ put_at (state-at told promised lines k) c.slot c.generation entry-known
    unfolding more c entry-known
    changed =
        ap (λ y. state_after told promised nothing (lines.sent k) y) (put-same lines.received k (lines.received k ++ a ∷ []) k refl)
        ∙ next.known ∙ ap (λ y. put_at (state-at told promised lines k) c.slot c.generation (known_after y (entry_of c a))) (sym at-worker)

    unchanged : (j : ℕ) → (j ≡ k → ⊥) → state-at told promised more j ≡ state-at told promised lines j
    unfolding more
    unchanged j ne =
        ap (λ y. state_after told promised nothing (lines.sent j) y) (put-other lines.received k (lines.received k ++ a ∷ []) j ne)

    now : (s g : ℕ) → known_in told promised more s g ≡ put_at (known_in told promised lines) c.slot c.generation entry-known s g
    unfolding more
    now s g = known-put lines.workers k c.slot c.generation entry-known (state-at told promised lines) (state-at told promised more) owns.0 changed unchanged s g

    -- one was out
    pub one-out : 1 ≤ length (all_out lines held)
    one-out = let l = ap length was in omega (arith, l, length-append front (c ∷ back))

    pub received-kept : (m : ℕ) → (m < bound → (n < bound) × (suc m ≡ n))
        → IsKept told promised (having_received lines k a) labels room held m bound
    unfolding more rest entry-known
    received-kept m count =
        let longer = lines.received k ++ a ∷ [] in
        record {
          some = old.some;
          renewed = at-entry (λ j y. NoneRenewed (lines.sent j) y) lines.received k longer old.renewed
              (renews_none.received (lines.sent k) (lines.received k) a (old.renewed k));
          own = at-entry (λ j y. AreOf lines.workers j (unanswered (lines.sent j) y)) lines.received k longer old.own owns.1;
          distinct = subst AreDistinct (sym is) fewer.1;
          counted = λ low.
              let e : suc m ≡ n = (count low).1 in
              let many : n ≡ length (all_out lines held) = old.counted (count low).0 in
              let l = ap length was in
              let l' = ap length is in
              omega (arith, e, many, l, l', length-append front (c ∷ back), length-append front back);
          here = λ s g x. subst (λ (y : Option Known). telling_in y ≢ None) (sym (now s g))
              (keeps-telling (known_in told promised lines) c.slot c.generation (entry_of c a) s g (old.here s g x));
          labelled = old.labelled;
          limits = old.limits;
          «open» = old.«open»;
        }

    answer : IsAnswer (known_in told promised lines) c a
    unfolding c
    answer =
        record {
          token = next.answer.token;
          slot = next.answer.slot;
          same_length = next.answer.same_length;
          honest = subst (λ y. MayAnswer y (entry_of c a)) (sym at-worker) next.answer.honest;
          sound = λ q. next.answer.sound (subst (λ y. IsPromised y c) at-worker q);
        }

    pub receives : (stop : Option ℕ) → Receives (performer_in told promised lines labels room stop held)
        (performer_in told promised (having_received lines k a) labels room stop held) a
    unfolding more entry-known
    receives stop =
        let promises : (s g : ℕ) → promise_of (known_in told promised more s g) ≡ promise_of (known_in told promised lines s g) =
        λ s g. ap promise_of (now s g) ∙ keeps-promise (known_in told promised lines) c.slot c.generation (entry_of c a) s g in
        record {
          command = c;
          was_out = among a.token ∙ put-same (λ u. under u (front ++ back)) c.token (Some c) a.token token;
          slot = answer.slot;
          did = did-it (known_in told promised lines) (known_in told promised more) c a answer now;
          sound = λ covers. answer.sound (covers-known (known_in told promised lines c.slot c.generation) c covers);
          out = λ i t. outs t i;
          promised = λ i s g. promises s g i;
          steady = refl;
          labels = refl;
          part_room = refl;
        }
