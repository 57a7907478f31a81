-- A worker and its shard meet at their exchange.
use Rattle.std.proofs.Common.{◌≡◌, ℕ, zero, suc, ◌<◌, List, [], ◌∷◌, ◌++◌, length, get_or, sym, ap, subst, ◌∙◌, arith}
use Rattle.std.specs.Prelude.{slice_set}
use Rattle.r6_dev.specs.History.{Telling}
use Rattle.r6_dev.specs.Promises.{Promise}
use Rattle.r6_queues.specs.Queues.{StartsWith}
use Rattle.r6_exchange.specs.declared.task.WorkerTask.{WorkerTask}
use Rattle.r6_exchange.specs.declared.completion.Completion.{Completion}
use Rattle.r6_exchange.specs.declared.pass.ShardPass.{ShardPass}
use Rattle.r6_exchange.specs.declared.exchange.Exchange.{Exchange}
use Rattle.r6_exchange.specs.declared.worker.Worker.{Worker}
use Rattle.r6_exchange.specs.Answering.{unanswered}
use Rattle.r6_exchange.specs.Exchanges.{sent_by, received_by, taken_by, given_by}
use Rattle.r6_exchange.specs.Joins.{HasJoined}
use Rattle.r6_exchange.specs.Workers.{IsWorker}
use Rattle.r6_exchange.proofs.Joins.{join_law}
use Rattle.r6_engine.specs.remote.Lines.{of_worker}
use Rattle.r6_engine.proofs.RemoteLemmas.Lines.{pass-at, pass-set, put-again}
use Rattle.r6_engine.specs.joining.Crews.{AreEnded, AreWorkers, IsOver, IsWorkerAt}

-- what each pass says, where one of them says the same as before
pub same-said : {D A : Type 0} (said : ShardPass D → A) (otherwise : A) (passes : List (ShardPass D)) (k : ℕ) (p q : ShardPass D)
    → k < length passes → get_or passes k p ≡ p → said q ≡ said p
    → of_worker said otherwise (slice_set passes k q) ≡ of_worker said otherwise passes
same-said said otherwise passes k p q below here same =
    (λ i j. pass-set said otherwise passes k q below j i)
    ∙ put-again (of_worker said otherwise passes) k (said q) (same ∙ sym (pass-at said otherwise passes k p below here))

module _ {D : Type 0} (told : D → Telling) (promised : D → Promise) where
  pub worker-at : (exchanges : List (Exchange D)) (k : ℕ) (ex : Exchange D) (w : Worker D) → IsWorkerAt told promised exchanges k w
      → k < length exchanges → get_or exchanges k ex ≡ ex → IsWorker told promised ex w × IsOver w
  worker-at [] k ex w x below here = absurd x
  worker-at (e ∷ exchanges) zero ex w x below here = subst (λ y. IsWorker told promised y w × IsOver w) here x
  worker-at (e ∷ exchanges) (suc k) ex w x below here = worker-at exchanges k ex w x (omega arith) here

  pub last-worker : (exchanges : List (Exchange D)) (workers : List (Worker D)) (w : Worker D)
      → AreWorkers told promised exchanges (workers ++ w ∷ [])
      → AreWorkers told promised exchanges workers × IsWorkerAt told promised exchanges (length workers) w
  last-worker [] [] w x = absurd x
  last-worker [] (v ∷ workers) w x = absurd x
  last-worker (e ∷ exchanges) [] w x = (tt, x.0)
  last-worker (e ∷ exchanges) (v ∷ workers) w x =
      let rest = last-worker exchanges workers w x.1 in
      ((x.0, rest.0), rest.1)

  -- the worker's parts hold what the shard knows, and the worker took all that was sent
  pub met : (ex : Exchange D) (p : ShardPass D) (w : Worker D) (sent : List (WorkerTask D)) (received : List Completion)
      → sent_by p ≡ sent → received_by p ≡ received → IsWorker told promised ex w × IsOver w → AreEnded sent
      → unanswered sent received ≡ [] → StartsWith (sent_by p) (taken_by w.pass) → StartsWith (given_by w.pass) (received_by p)
      → HasJoined told promised sent (taken_by w.pass) (given_by w.pass) received w.parts.items
  met ex p w sent received is-sent is-received worker ended none starts starts' =
      let taken = taken_by w.pass in
      let given = given_by w.pass in
      subst (λ s. HasJoined told promised s taken given received w.parts.items) (sym ended.2)
      (join_law told promised ended.0 taken worker.1.0 given received w.parts.items ended.1
      (subst (λ s. StartsWith s taken) (is-sent ∙ ended.2) starts) (subst (StartsWith given) is-received starts') worker.1.1
      worker.0.pass.honest worker.0.holds (ap (λ s. unanswered s received) (sym ended.2) ∙ none))
