-- A shard and its workers, once their threads have ended (this project's own).
use Rattle.std.specs.Prelude.{◌≡◌, ℕ, zero, suc, ◌≤◌, ◌<◌, ◌%◌, ◌==◌, Bool, not, List, [], ◌∷◌, ◌++◌, length, map, if◌then◌else◌, Some, None}
use Rattle.r6_dev.specs.History.{Block, Telling}
use Rattle.r6_dev.specs.Promises.{Promise}
use Rattle.r6_exchange.specs.declared.task.Part.{Part}
use Rattle.r6_exchange.specs.declared.task.ServedPart.{ServedPart}
use Rattle.r6_exchange.specs.declared.task.WorkerTask.{WorkerTask}
use Rattle.r6_exchange.specs.declared.task.WorkerTask.TheVariants.{End}
use Rattle.r6_exchange.specs.declared.exchange.Exchange.{Exchange}
use Rattle.r6_exchange.specs.declared.worker.Worker.{Worker}
use Rattle.r6_exchange.specs.Answering.{labels_in, unanswered}
use Rattle.r6_exchange.specs.Exchanges.{taken_by}
use Rattle.r6_exchange.specs.Joins.{HasNoEnd}
use Rattle.r6_exchange.specs.Workers.{IsWorker}
use Rattle.r6_shard.specs.Parts.{part_in}
use Rattle.r6_shard.specs.Performing.{Performer, HasPart, IsHere}
use Rattle.r6_engine.specs.declared.remote.remote.Remote.{Remote}
use Rattle.r6_engine.specs.remote.Lines.{sent_to, received_from, labels_at}
use Rattle.r6_engine.specs.remote.Remotes.{AreShardPasses, performer_of}

-- ---- the shard's side

-- the last of them says that nothing more comes, and none before it
abbrev pub AreEnded : {D : Type 0} → List (WorkerTask D) → Type 0
AreEnded {D = D} sent = (tasks : List (WorkerTask D)) × HasNoEnd tasks × (sent ≡ tasks ++ End ∷ [])

-- Each worker was told that nothing more comes, after all else, and each command that it was sent is answered; it was
-- sent just the parts of the labels of its slots; and of each label there is a part
pub record IsEnded {D : Type 0} (told : D → Telling) (promised : D → Promise) (r : Remote D) : Type 0 where
  pub some : 1 ≤ length r.passes.items
  pub ends : AreShardPasses told promised r.exchanges.now r.passes.items
  pub ended : (worker : ℕ) → worker < length r.passes.items → AreEnded (sent_to r.passes.items worker)
  pub answered : (worker : ℕ) → worker < length r.passes.items
      → unanswered (sent_to r.passes.items worker) (received_from r.passes.items worker) ≡ []
  pub labels : (worker : ℕ) → worker < length r.passes.items
      → labels_in (sent_to r.passes.items worker) ≡ labels_at (length r.passes.items) worker r.labels.items
  pub here : (slot generation : ℕ) → IsHere (performer_of told promised r).labels slot generation
      → HasPart (performer_of told promised r).tells slot generation

-- ---- the workers' side

-- it is over: the last task that it took said that nothing more comes
abbrev pub IsOver : {D : Type 0} → Worker D → Type 0
IsOver {D = D} w = (front : List (WorkerTask D)) × (taken_by w.pass ≡ front ++ End ∷ [])

-- a worker that is over, of the exchange at this place
abbrev pub IsWorkerAt : {D : Type 0} → (D → Telling) → (D → Promise) → List (Exchange D) → (at : ℕ) → Worker D → Type 0
IsWorkerAt told promised [] at w = ⊥
IsWorkerAt told promised (exchange ∷ exchanges) zero w = IsWorker told promised exchange w × IsOver w
IsWorkerAt told promised (exchange ∷ exchanges) (suc at) w = IsWorkerAt told promised exchanges at w

-- each is over, and is the worker of the exchange at its place
abbrev pub AreWorkers : {D : Type 0} → (D → Telling) → (D → Promise) → List (Exchange D) → List (Worker D) → Type 0
AreWorkers told promised exchanges [] = Unit {0}
AreWorkers told promised [] (w ∷ workers) = ⊥
AreWorkers told promised (exchange ∷ exchanges) (w ∷ workers) =
    (IsWorker told promised exchange w × IsOver w) × AreWorkers told promised exchanges workers

-- ---- what comes back

-- slot d is served by worker d mod workers
abbrev pub is_own : {D : Type 0} → (workers worker : ℕ) → ServedPart D → Bool
is_own workers worker served = (served.part.slot % workers) == worker

-- the parts of those that pass a test
abbrev pub parts_where : {D : Type 0} → (ServedPart D → Bool) → List (ServedPart D) → List (Part D)
parts_where test [] = []
parts_where test (served ∷ rest) =
    if test served then served.part ∷ parts_where test rest else parts_where test rest

-- the parts of a worker's slots, and what else it has
abbrev pub own_parts : {D : Type 0} → (workers worker : ℕ) → List (ServedPart D) → List (Part D)
own_parts workers worker served = parts_where (is_own workers worker) served

abbrev pub stray_parts : {D : Type 0} → (workers worker : ℕ) → List (ServedPart D) → List (Part D)
stray_parts workers worker served = parts_where (λ s. not (is_own workers worker s)) served

abbrev pub all_parts : {D : Type 0} → List (ServedPart D) → List (Part D)
all_parts served = map (λ (s : ServedPart _). s.part) served

-- A part comes back of just those slots and generations of which the shard knew one, so of each that was taken up; and
-- where what it knew of a part is its blocks, the part tells these
pub record AreTakenBack {D : Type 0} (told : D → Telling) (performer : Performer) (parts : List (Part D)) : Type 0 where
  pub tells : (slot generation : ℕ) (blocks : ℕ → Block) → performer.tells slot generation ≡ Some (Some blocks)
      → part_in told parts slot generation ≡ Some (Some blocks)
  pub here : (slot generation : ℕ) → HasPart performer.tells slot generation
      → HasPart (part_in told parts) slot generation
  pub labels : (slot generation : ℕ) → IsHere performer.labels slot generation
      → HasPart (part_in told parts) slot generation
  pub none : (slot generation : ℕ) → performer.tells slot generation ≡ None → part_in told parts slot generation ≡ None

-- all parts that the workers have
abbrev pub parts_with : {D : Type 0} → Worker D → List (Part D)
parts_with w = all_parts w.parts.items ++ all_parts w.replaced.items

abbrev pub parts_with_all : {D : Type 0} → List (Worker D) → List (Part D)
parts_with_all [] = []
parts_with_all (w ∷ workers) = parts_with w ++ parts_with_all workers
