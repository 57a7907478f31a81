-- Each worker is told that nothing more comes.
use Rattle.std.proofs.Common.{◌≡◌, ℕ, ◌+◌, ◌<◌, ◌≤◌, List, [], ◌∷◌, ◌++◌, inl, inr, refl, sym, ap, subst, ◌∙◌, arith, Option, None}
use Rattle.std.specs.Option.{option_to_list}
use Rattle.std.proofs.lemmas.Bool.{cases_eq}
use Rattle.r6_world.proofs.Tables.{put-same, put-other}
use Rattle.r6_world.specs.declared.values.Command.{Command}
use Rattle.r6_exchange.specs.declared.task.WorkerTask.{WorkerTask}
use Rattle.r6_exchange.specs.declared.task.WorkerTask.TheVariants.{End}
use Rattle.r6_exchange.specs.Answering.{unanswered}
use Rattle.r6_exchange.proofs.Answering.{not-nil, unanswered-ended}
use Rattle.r6_engine.specs.remote.Lines.{Lines, having_sent_to, waiting, joined, all_out, under}
use Rattle.r6_engine.specs.remote.Remotes.{HasEnded}
use Rattle.r6_engine.proofs.RemoteLemmas.Commands.{under-first, not-both, Stand, joined-at}

-- the first n of them were told
pub record HasEndedBelow {D : Type 0} (n : ℕ) (old new : Lines D) : Type 0 where
  pub workers : new.workers ≡ old.workers
  pub sent : (worker : ℕ) → worker < n → new.sent worker ≡ old.sent worker ++ End ∷ []
  pub unsent : (worker : ℕ) → n ≤ worker → new.sent worker ≡ old.sent worker
  pub received : new.received ≡ old.received
  pub limit : new.limit ≡ old.limit

module _ {D : Type 0} (old : Lines D) where
  pub none-ended : HasEndedBelow 0 old old
  none-ended = record {
    workers = refl;
    sent = λ worker below. absurd (omega (arith, below));
    unsent = λ worker above. refl;
    received = refl;
    limit = refl;
  }

  one-more : (n : ℕ) (new : Lines D) → HasEndedBelow n old new → HasEndedBelow (n + 1) old (having_sent_to new n End)
  one-more n new x = record {
    workers = x.workers;
    sent = λ worker below. sent worker below;
    unsent = λ worker above.
        put-other new.sent n (new.sent n ++ End ∷ []) worker (λ e. omega (arith, above, e)) ∙ x.unsent worker (omega (arith, above));
    received = x.received;
    limit = x.limit;
  }
    where
      sent : (worker : ℕ) → worker < n + 1 → (having_sent_to new n End).sent worker ≡ old.sent worker ++ End ∷ []
      sent worker below = elim (cases_eq worker n) [
        | inl e ↦
            put-same new.sent n (new.sent n ++ End ∷ []) worker e ∙ ap (λ k. new.sent k ++ End ∷ []) (sym e)
            ∙ ap (λ (y : List (WorkerTask D)). y ++ End ∷ []) (x.unsent worker (omega (arith, e)))
        | inr ne ↦
            put-other new.sent n (new.sent n ++ End ∷ []) worker ne ∙ x.sent worker (below-n worker n below ne)
      ]
        where
          below-n : (a b : ℕ) → a < b + 1 → (a ≡ b → ⊥) → a < b
          below-n a b low ne' = omega (arith, low, ne')

  pub one-more-told : (n : ℕ) (now new : Lines D) → HasEndedBelow n old now → new ≡ having_sent_to now n End → HasEndedBelow (n + 1) old new
  one-more-told n now new x e = subst (HasEndedBelow (n + 1) old) (sym e) (one-more n now x)

  pub all-ended : (n : ℕ) (new : Lines D) → old.workers ≤ n → HasEndedBelow n old new → HasEnded old new
  all-ended n new all x = record {
    workers = x.workers;
    sent = λ worker below. x.sent worker (omega (arith, all, below));
    received = x.received;
    limit = x.limit;
  }

-- where no token is that of a command there is none
no-commands : (commands : List Command) → ((token : ℕ) → under token commands ≡ None) → commands ≡ []
no-commands [] none = refl
no-commands (c ∷ commands) none = absurd (not-both (under c.token (c ∷ commands)) c (none c.token) (under-first c commands c.token refl))

nil-back : {A : Type 0} (xs ys : List A) → xs ++ ys ≡ [] → ys ≡ []
nil-back [] ys e = e
nil-back (x ∷ xs) ys e = absurd (not-nil x (xs ++ ys) e)

nil-front : {A : Type 0} (xs ys : List A) → xs ++ ys ≡ [] → xs ≡ []
nil-front [] ys e = refl
nil-front (x ∷ xs) ys e = absurd (not-nil x (xs ++ ys) e)

-- where no command is out each worker has answered all that it was sent
pub all-answered : {D : Type 0} (old new : Lines D) (held : Option Command) → HasEnded old new → ((token : ℕ) → under token (all_out old held) ≡ None)
    → (worker : ℕ) → worker < old.workers → unanswered (new.sent worker) (new.received worker) ≡ []
all-answered old new held ended none worker below =
    let stand : Stand old.workers worker (waiting old) (waiting old) = joined-at old.workers worker (waiting old) (waiting old) below (λ j ne. refl) in
    let all : joined old.workers (waiting old) ≡ [] = nil-back (option_to_list held) (joined old.workers (waiting old)) (no-commands (all_out old held) none) in
    let here : waiting old worker ≡ [] =
    nil-front (waiting old worker) stand.after (nil-back stand.before (waiting old worker ++ stand.after) (sym stand.was ∙ all)) in
    ap (λ y. unanswered y (new.received worker)) (ended.sent worker below) ∙ ap (λ y. unanswered (old.sent worker ++ End ∷ []) (y worker)) ended.received
    ∙ unanswered-ended (old.received worker) (old.sent worker) ∙ here
