-- What a shard has sent its workers and received of them (this project's own).
use Rattle.std.specs.Prelude.{ℕ, zero, suc, ◌==◌, ◌%◌, List, [], ◌∷◌, ◌++◌, length, if◌then◌else◌, Option, Some, None, option_map, unwrap_or}
use Rattle.std.specs.List.{filter}
use Rattle.std.specs.Option.{option_to_list}
use Rattle.r6_dev.specs.History.{Telling}
use Rattle.r6_dev.specs.Promises.{Promise, no_promise}
use Rattle.r6_world.specs.Tables.{put}
use Rattle.r6_world.specs.declared.values.Command.{Command}
use Rattle.r6_exchange.specs.declared.task.WorkerTask.{WorkerTask}
use Rattle.r6_exchange.specs.declared.completion.Completion.{Completion}
use Rattle.r6_exchange.specs.declared.pass.ShardPass.{ShardPass}
use Rattle.r6_exchange.specs.Answering.{Known, State, nothing, state_after, unanswered}
use Rattle.r6_exchange.specs.Exchanges.{sent_by, received_by, limit_of}

-- what was sent to each worker, what came from it, and how many parts it may be sent
pub record Lines (D : Type 0) : Type 0 where
  pub workers : ℕ
  pub sent : ℕ → List (WorkerTask D)
  pub received : ℕ → List Completion
  pub limit : ℕ → ℕ

-- what the pass of a worker says, if there is one
abbrev pub of_worker : {D A : Type 0} → (ShardPass D → A) → (otherwise : A) → List (ShardPass D) → (worker : ℕ) → A
of_worker said otherwise [] worker = otherwise
of_worker said otherwise (p ∷ passes) zero = said p
of_worker said otherwise (p ∷ passes) (suc worker) = of_worker said otherwise passes worker

abbrev pub sent_to : {D : Type 0} → List (ShardPass D) → (worker : ℕ) → List (WorkerTask D)
sent_to passes worker = of_worker sent_by [] passes worker

abbrev pub received_from : {D : Type 0} → List (ShardPass D) → (worker : ℕ) → List Completion
received_from passes worker = of_worker received_by [] passes worker

abbrev pub limit_at : {D : Type 0} → List (ShardPass D) → (worker : ℕ) → ℕ
limit_at passes worker = of_worker limit_of 0 passes worker

-- as the passes know it, the first being that of worker 0
abbrev pub lines_of : {D : Type 0} → List (ShardPass D) → Lines D
lines_of passes =
    record {
      workers = length passes;
      sent = sent_to passes;
      received = received_from passes;
      limit = limit_at passes;
    }

abbrev pub having_sent_to : {D : Type 0} → Lines D → (worker : ℕ) → WorkerTask D → Lines D
having_sent_to lines worker task = record lines { sent = put lines.sent worker (lines.sent worker ++ task ∷ []) }

abbrev pub having_received : {D : Type 0} → Lines D → (worker : ℕ) → Completion → Lines D
having_received lines worker completion =
    record lines { received = put lines.received worker (lines.received worker ++ completion ∷ []) }

-- ---- commands

-- those that a worker has and has not answered, the oldest first
abbrev pub waiting : {D : Type 0} → Lines D → (worker : ℕ) → List Command
waiting lines worker = unanswered (lines.sent worker) (lines.received worker)

-- those of the first workers
abbrev pub joined : {A : Type 0} → (workers : ℕ) → (ℕ → List A) → List A
joined zero each = []
joined (suc workers) each = joined workers each ++ each workers

-- all that are out: one that is held back, and those that the workers have
abbrev pub all_out : {D : Type 0} → Lines D → (held : Option Command) → List Command
all_out lines held = option_to_list held ++ joined lines.workers (waiting lines)

-- the command of a token
abbrev pub under : (token : ℕ) → List Command → Option Command
under token [] = None
under token (c ∷ commands) = if token == c.token then Some c else under token commands

-- ---- parts

-- the labels of the slots that a worker serves, in their order
abbrev pub labels_at : (workers worker : ℕ) → (labels : List (ℕ × ℕ)) → List (ℕ × ℕ)
labels_at workers worker labels = filter (λ label. (label.0 % workers) == worker) labels

-- slot d is served by worker d mod workers, which tells what is known of it
abbrev pub known_in : {D : Type 0} → (D → Telling) → (D → Promise) → Lines D → State
known_in told promised lines slot generation =
    state_after told promised nothing (lines.sent (slot % lines.workers)) (lines.received (slot % lines.workers)) slot
    generation

abbrev pub telling_in : Option Known → Option Telling
telling_in known = option_map (λ (k : Known). k.telling) known

abbrev pub promise_of : Option Known → Promise
promise_of known = unwrap_or (option_map (λ (k : Known). k.promise) known) no_promise
