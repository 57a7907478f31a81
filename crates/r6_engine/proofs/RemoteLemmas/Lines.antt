-- What was sent and received, as one task more is sent or one completion more is received.
use Rattle.std.proofs.Common.{◌≡◌, ℕ, zero, suc, ◌<◌, List, [], ◌∷◌, ◌++◌, length, get_or, inl, inr, refl, sym, ap, subst, ◌∙◌, arith, Option, Some, None, Result, Ok, Err}
use Rattle.std.specs.Prelude.{slice_set, MatchResult, MatchOption}
use Rattle.std.proofs.lemmas.Bool.{cases_eq}
use Rattle.r6_dev.specs.History.{Telling}
use Rattle.r6_dev.specs.Promises.{Promise}
use Rattle.r6_world.specs.Tables.{put}
use Rattle.r6_world.proofs.Tables.{put-same, put-other}
use Rattle.r6_world.specs.declared.values.Command.{Command}
use Rattle.r6_exchange.specs.declared.task.ServedPart.{ServedPart}
use Rattle.r6_exchange.specs.declared.task.WorkerTask.{WorkerTask}
use Rattle.r6_exchange.specs.declared.task.WorkerTask.TheVariants.{Perform, TakeUp, End}
use Rattle.r6_exchange.specs.declared.completion.Completion.{Completion}
use Rattle.r6_exchange.specs.declared.pass.ShardPass.{ShardPass}
use Rattle.r6_exchange.specs.declared.exchange.Exchange.{Exchange}
use Rattle.r6_exchange.specs.Answering.{State, Answered, nothing, taken_up, performed, state_after, unanswered}
use Rattle.r6_exchange.specs.Deliveries.{HasRoom}
use Rattle.r6_exchange.specs.Exchanges.{IsShardPass, sent_by, received_by, limit_of}
use Rattle.r6_exchange.specs.Joins.{HasNoEnd}
use Rattle.r6_engine.specs.remote.Lines.{of_worker, sent_to, received_from, limit_at, lines_of, having_sent_to, having_received}
use Rattle.r6_engine.specs.remote.Remotes.{AreShardPasses}

-- ---- one task more

module _ {D : Type 0} (told : D → Telling) (promised : D → Promise) where
  -- a command that is sent changes nothing of what is known, and is the last that is unanswered
  pub state-sent : (state : State) (answers : List Completion) (tasks : List (WorkerTask D)) (c : Command) → Answered told promised state answers tasks
      → state_after told promised state (tasks ++ Perform c ∷ []) answers ≡ state_after told promised state tasks answers
  state-sent state [] [] c x = refl
  state-sent state (a ∷ answers) [] c x = absurd x
  state-sent state [] (TakeUp served ∷ tasks) c x = state-sent (taken_up told promised state served) [] tasks c tt
  state-sent state (a ∷ answers) (TakeUp served ∷ tasks) c x = state-sent (taken_up told promised state served) (a ∷ answers) tasks c x
  state-sent state [] (End ∷ tasks) c x = state-sent state [] tasks c tt
  state-sent state (a ∷ answers) (End ∷ tasks) c x = state-sent state (a ∷ answers) tasks c x
  state-sent state [] (Perform d ∷ tasks) c x = state-sent state [] tasks c tt
  state-sent state (a ∷ answers) (Perform d ∷ tasks) c x = state-sent (performed state d a) answers tasks c x.1

  pub unanswered-sent : (state : State) (answers : List Completion) (tasks : List (WorkerTask D)) (c : Command) → Answered told promised state answers tasks
      → unanswered (tasks ++ Perform c ∷ []) answers ≡ unanswered tasks answers ++ c ∷ []
  unanswered-sent state [] [] c x = refl
  unanswered-sent state (a ∷ answers) [] c x = absurd x
  unanswered-sent state [] (TakeUp served ∷ tasks) c x = unanswered-sent (taken_up told promised state served) [] tasks c tt
  unanswered-sent state (a ∷ answers) (TakeUp served ∷ tasks) c x = unanswered-sent (taken_up told promised state served) (a ∷ answers) tasks c x
  unanswered-sent state [] (End ∷ tasks) c x = unanswered-sent state [] tasks c tt
  unanswered-sent state (a ∷ answers) (End ∷ tasks) c x = unanswered-sent state (a ∷ answers) tasks c x
  unanswered-sent state [] (Perform d ∷ tasks) c x = ap (λ y. d ∷ y) (unanswered-sent state [] tasks c tt)
  unanswered-sent state (a ∷ answers) (Perform d ∷ tasks) c x = unanswered-sent (performed state d a) answers tasks c x.1

module _ {D : Type 0} where
  pub no_end-command : (tasks : List (WorkerTask D)) (c : Command) → HasNoEnd tasks → HasNoEnd (tasks ++ Perform c ∷ [])
  no_end-command [] c x = tt
  no_end-command (TakeUp served ∷ tasks) c x = no_end-command tasks c x
  no_end-command (Perform d ∷ tasks) c x = no_end-command tasks c x
  no_end-command (End ∷ tasks) c x = absurd x

  pub no_end-part : (tasks : List (WorkerTask D)) (served : ServedPart D) → HasNoEnd tasks → HasNoEnd (tasks ++ TakeUp served ∷ [])
  no_end-part [] served x = tt
  no_end-part (TakeUp first ∷ tasks) served x = no_end-part tasks served x
  no_end-part (Perform d ∷ tasks) served x = no_end-part tasks served x
  no_end-part (End ∷ tasks) served x = absurd x

  -- ---- one pass among the others

  pub pass-at : {A : Type 0} (said : ShardPass D → A) (otherwise : A) (passes : List (ShardPass D)) (k : ℕ) (p : ShardPass D) → k < length passes
      → get_or passes k p ≡ p → of_worker said otherwise passes k ≡ said p
  pass-at said otherwise [] k p below here = absurd (omega arith)
  pass-at said otherwise (q ∷ passes) zero p below here = ap said here
  pass-at said otherwise (q ∷ passes) (suc k) p below here = pass-at said otherwise passes k p (omega arith) here

  pub pass-set : {A : Type 0} (said : ShardPass D → A) (otherwise : A) (passes : List (ShardPass D)) (k : ℕ) (p : ShardPass D) → k < length passes
      → (j : ℕ) → of_worker said otherwise (slice_set passes k p) j ≡ put (of_worker said otherwise passes) k (said p) j
  pass-set said otherwise [] k p below j = absurd (omega arith)
  pass-set said otherwise (q ∷ passes) zero p below zero = refl
  pass-set said otherwise (q ∷ passes) zero p below (suc j) =
      sym (put-other (of_worker said otherwise (q ∷ passes)) 0 (said p) (suc j) (λ e. omega (arith, e)))
  pass-set said otherwise (q ∷ passes) (suc k) p below zero =
      sym (put-other (of_worker said otherwise (q ∷ passes)) (suc k) (said p) 0 (λ e. omega (arith, e)))
  pass-set said otherwise (q ∷ passes) (suc k) p below (suc j) =
      pass-set said otherwise passes k p (omega arith) j
      ∙ elim (cases_eq j k) [
        | inl e ↦
            put-same (of_worker said otherwise passes) k (said p) j e
            ∙ sym (put-same (of_worker said otherwise (q ∷ passes)) (suc k) (said p) (suc j) (ap suc e))
        | inr ne ↦
            put-other (of_worker said otherwise passes) k (said p) j ne
            ∙ sym (put-other (of_worker said otherwise (q ∷ passes)) (suc k) (said p) (suc j) (λ e. ne (omega (arith, e))))
      ]

  length-set : (passes : List (ShardPass D)) (k : ℕ) (p : ShardPass D) → length (slice_set passes k p) ≡ length passes
  length-set [] k p = refl
  length-set (q ∷ passes) zero p = refl
  length-set (q ∷ passes) (suc k) p = ap suc (length-set passes k p)

-- what is put where it stands already changes nothing
pub put-again : {A : Type 0} (f : ℕ → A) (k : ℕ) (a : A) → a ≡ f k → put f k a ≡ f
put-again f k a e = λ i j. at j i
  where
    at : (j : ℕ) → put f k a j ≡ f j
    at j = elim (cases_eq j k) [
      | inl same ↦ put-same f k a j same ∙ e ∙ ap f (sym same)
      | inr ne ↦ put-other f k a j ne
    ]

module _ {D : Type 0} (passes : List (ShardPass D)) (k : ℕ) (p q : ShardPass D) (below : k < length passes) (here : get_or passes k p ≡ p) where
  lines-set : {sent : List (WorkerTask D)} {received : List Completion} → sent_by q ≡ sent → received_by q ≡ received → limit_of q ≡ limit_of p
      → lines_of (slice_set passes k q)
      ≡ record (lines_of passes) { sent = put (sent_to passes) k sent; received = put (received_from passes) k received }
  lines-set {sent = sent} {received = received} s r l =
      let sents : sent_to (slice_set passes k q) ≡ put (sent_to passes) k sent =
      (λ i j. pass-set sent_by [] passes k q below j i) ∙ ap (λ y. put (sent_to passes) k y) s in
      let receiveds : received_from (slice_set passes k q) ≡ put (received_from passes) k received =
      (λ i j. pass-set received_by [] passes k q below j i) ∙ ap (λ y. put (received_from passes) k y) r in
      let limits : limit_at (slice_set passes k q) ≡ limit_at passes =
      (λ i j. pass-set limit_of 0 passes k q below j i) ∙ put-again (limit_at passes) k (limit_of q) (l ∙ sym (pass-at limit_of 0 passes k p below here)) in
      λ i. record { workers = length-set passes k q i; sent = sents i; received = receiveds i; limit = limits i }

  pub lines-same : sent_by q ≡ sent_by p → received_by q ≡ received_by p → limit_of q ≡ limit_of p → lines_of (slice_set passes k q) ≡ lines_of passes
  lines-same s r l =
      lines-set s r l
      ∙ (λ i. record (lines_of passes) {
        sent = put-again (sent_to passes) k (sent_by p) (sym (pass-at sent_by [] passes k p below here)) i;
        received = put-again (received_from passes) k (received_by p) (sym (pass-at received_by [] passes k p below here)) i;
      })

  pub lines-sent : (task : WorkerTask D) → sent_by q ≡ sent_by p ++ task ∷ [] → received_by q ≡ received_by p → limit_of q ≡ limit_of p
      → lines_of (slice_set passes k q) ≡ having_sent_to (lines_of passes) k task
  lines-sent task s r l =
      lines-set (s ∙ ap (λ y. y ++ task ∷ []) (sym (pass-at sent_by [] passes k p below here))) r l
      ∙ (λ i. record (having_sent_to (lines_of passes) k task) {
        received = put-again (received_from passes) k (received_by p) (sym (pass-at received_by [] passes k p below here)) i;
      })

  pub lines-received : (a : Completion) → sent_by q ≡ sent_by p → received_by q ≡ received_by p ++ a ∷ [] → limit_of q ≡ limit_of p
      → lines_of (slice_set passes k q) ≡ having_received (lines_of passes) k a
  lines-received a s r l =
      lines-set s (r ∙ ap (λ y. y ++ a ∷ []) (sym (pass-at received_by [] passes k p below here))) l
      ∙ (λ i. record (having_received (lines_of passes) k a) {
        sent = put-again (sent_to passes) k (sent_by p) (sym (pass-at sent_by [] passes k p below here)) i;
      })

  -- what a call at this pass leaves
  pub after-send : (task : WorkerTask D) (result : Result Unit (WorkerTask D)) → received_by q ≡ received_by p → limit_of q ≡ limit_of p
      → MatchResult result (λ _. sent_by q ≡ sent_by p ++ task ∷ []) (λ back. (back ≡ task) × (sent_by q ≡ sent_by p))
      → MatchResult result (λ _. lines_of (slice_set passes k q) ≡ having_sent_to (lines_of passes) k task)
      (λ back. (back ≡ task) × (lines_of (slice_set passes k q) ≡ lines_of passes))
  after-send task (Ok ok) r l s = lines-sent task s r l
  after-send task (Err back) r l s = (s.0, lines-same s.1 r l)

  pub after-receive : (result : Option Completion) → sent_by q ≡ sent_by p → limit_of q ≡ limit_of p
      → MatchOption result (received_by q ≡ received_by p) (λ a. received_by q ≡ received_by p ++ a ∷ [])
      → MatchOption result (lines_of (slice_set passes k q) ≡ lines_of passes) (λ a. lines_of (slice_set passes k q) ≡ having_received (lines_of passes) k a)
  after-receive None s l r = lines-same s r l
  after-receive (Some a) s l r = lines-received a s r l

-- ---- the passes of all exchanges

module _ {D : Type 0} (told : D → Telling) (promised : D → Promise) where
  pub same-length : (exchanges : List (Exchange D)) (passes : List (ShardPass D)) → AreShardPasses told promised exchanges passes
      → length exchanges ≡ length passes
  same-length [] [] x = refl
  same-length [] (p ∷ passes) x = absurd x
  same-length (e ∷ exchanges) [] x = absurd x
  same-length (e ∷ exchanges) (p ∷ passes) x = ap suc (same-length exchanges passes x.1)

  pub end-at : (exchanges : List (Exchange D)) (passes : List (ShardPass D)) (k : ℕ) (ex : Exchange D) (p : ShardPass D)
      → AreShardPasses told promised exchanges passes → k < length passes → get_or exchanges k ex ≡ ex → get_or passes k p ≡ p
      → IsShardPass told promised ex p
  end-at [] [] k ex p x below there here = absurd (omega arith)
  end-at [] (q ∷ passes) k ex p x below there here = absurd x
  end-at (e ∷ exchanges) [] k ex p x below there here = absurd x
  end-at (e ∷ exchanges) (q ∷ passes) zero ex p x below there here =
      subst (λ y. IsShardPass told promised y p) there (subst (IsShardPass told promised e) here x.0)
  end-at (e ∷ exchanges) (q ∷ passes) (suc k) ex p x below there here = end-at exchanges passes k ex p x.1 (omega arith) there here

  pub ends-set : (exchanges : List (Exchange D)) (passes : List (ShardPass D)) (k : ℕ) (ex : Exchange D) (p : ShardPass D)
      → AreShardPasses told promised exchanges passes → k < length passes → get_or exchanges k ex ≡ ex → IsShardPass told promised ex p
      → AreShardPasses told promised exchanges (slice_set passes k p)
  ends-set [] [] k ex p x below there is = absurd (omega arith)
  ends-set [] (q ∷ passes) k ex p x below there is = absurd x
  ends-set (e ∷ exchanges) [] k ex p x below there is = absurd x
  ends-set (e ∷ exchanges) (q ∷ passes) zero ex p x below there is = (subst (λ y. IsShardPass told promised y p) (sym there) is, x.1)
  ends-set (e ∷ exchanges) (q ∷ passes) (suc k) ex p x below there is = (x.0, ends-set exchanges passes k ex p x.1 (omega arith) there is)

  -- what came answers what was sent
  pub answered-at : (exchanges : List (Exchange D)) (passes : List (ShardPass D)) (k : ℕ) → AreShardPasses told promised exchanges passes
      → Answered told promised nothing (received_from passes k) (sent_to passes k)
  answered-at [] [] k x = tt
  answered-at [] (p ∷ passes) k x = absurd x
  answered-at (e ∷ exchanges) [] k x = absurd x
  answered-at (e ∷ exchanges) (p ∷ passes) zero x = x.0.honest
  answered-at (e ∷ exchanges) (p ∷ passes) (suc k) x = answered-at exchanges passes k x.1

  -- no more parts were sent than there is room for
  pub room-at : (exchanges : List (Exchange D)) (passes : List (ShardPass D)) (k : ℕ) → AreShardPasses told promised exchanges passes
      → HasRoom (limit_at passes k) (sent_to passes k)
  room-at [] [] k x = omega arith
  room-at [] (p ∷ passes) k x = absurd x
  room-at (e ∷ exchanges) [] k x = absurd x
  room-at (e ∷ exchanges) (p ∷ passes) zero x = x.0.room
  room-at (e ∷ exchanges) (p ∷ passes) (suc k) x = room-at exchanges passes k x.1
