-- The passes of both ends of an exchange, and what they know.
use Rattle.std.specs.Prelude.{◌≡◌, ℕ, List, Option, Some, None, true}
use Rattle.crossbeam_queue.specs.Passes.{view}
use Rattle.r6_dev.specs.History.{Telling}
use Rattle.r6_dev.specs.Promises.{Promise}
use Rattle.r6_queues.specs.Queues.{StartsWith}
use Rattle.r6_queues.specs.Relays.{IsEndOf, capacity_of}
use Rattle.r6_exchange.specs.declared.task.WorkerTask.{WorkerTask}
use Rattle.r6_exchange.specs.declared.completion.Completion.{Completion}
use Rattle.r6_exchange.specs.declared.pass.ShardPass.{ShardPass}
use Rattle.r6_exchange.specs.declared.pass.WorkerPass.{WorkerPass}
use Rattle.r6_exchange.specs.declared.exchange.Exchange.{Exchange}
use Rattle.r6_exchange.specs.Answering.{Answered, nothing}
use Rattle.r6_exchange.specs.Deliveries.{TaskEnd, HasRoom, AreDeliveries, completions_of}

-- what a shard sent, and the completions that it received
abbrev pub sent_by : {D : Type 0} → ShardPass D → List (WorkerTask D)
sent_by p = (view p.tasks).pushed

abbrev pub received_by : {D : Type 0} → ShardPass D → List Completion
received_by p = completions_of (view p.completions).popped

-- what a worker took, and the completions that it gave: its whole history
abbrev pub taken_by : {D : Type 0} → WorkerPass D → List (WorkerTask D)
taken_by p = (view p.tasks).popped

abbrev pub given_by : {D : Type 0} → WorkerPass D → List Completion
given_by p = completions_of (view p.completions).pushed

-- the tasks that the shard knows to be taken: those that had been when the last completion that it received was given
abbrev pub known_taken : {D : Type 0} → ShardPass D → List (WorkerTask D)
known_taken p = (view p.tasks).acknowledged

-- for how many tasks, and for how many completions, an exchange has room
abbrev pub task_room : {D : Type 0} → Exchange D → ℕ
task_room exchange = capacity_of exchange.tasks

abbrev pub completion_room : {D : Type 0} → Exchange D → ℕ
completion_room exchange = capacity_of exchange.completions

-- how many parts a worker may be handed
abbrev pub room_of : {D : Type 0} → WorkerPass D → ℕ
room_of p = (view p.tasks).about

-- and how many its shard may send it
abbrev pub limit_of : {D : Type 0} → ShardPass D → ℕ
limit_of p = (view p.tasks).about

-- acknowledgements are of the exchange's queue of tasks
abbrev pub IsHome : {D : Type 0} → Exchange D → Option (TaskEnd D) → Type 0
IsHome exchange None = ⊥
IsHome exchange (Some home) = IsEndOf exchange.tasks home

-- A pass of the shard's end. The completions that came are those of the first commands that it sent, each answered
-- once, as honest parts do and as they promise
pub record IsShardPass {D : Type 0} (told : D → Telling) (promised : D → Promise) (exchange : Exchange D)
    (p : ShardPass D) : Type 0 where
  pub tasks : IsEndOf exchange.tasks p.tasks
  pub completions : IsEndOf exchange.completions p.completions
  pub sends : (view p.tasks).pushes ≡ true
  pub receives : (view p.completions).pops ≡ true
  pub acknowledged : (view p.completions).acknowledged ≡ (view p.completions).popped
  pub room : HasRoom (limit_of p) (sent_by p)
  pub home : IsHome exchange (view p.completions).about
  pub honest : Answered told promised nothing (received_by p) (sent_by p)
  pub known : Answered told promised nothing (received_by p) (known_taken p)
  pub begins : StartsWith (sent_by p) (known_taken p)

-- A pass of the worker's end. The completions that it gave are those of the first commands that it took, in the same way
pub record IsWorkerPass {D : Type 0} (told : D → Telling) (promised : D → Promise) (exchange : Exchange D)
    (p : WorkerPass D) : Type 0 where
  pub tasks : IsEndOf exchange.tasks p.tasks
  pub completions : IsEndOf exchange.completions p.completions
  pub takes : (view p.tasks).pops ≡ true
  pub gives : (view p.completions).pushes ≡ true
  pub acknowledged : (view p.tasks).acknowledged ≡ (view p.tasks).popped
  pub room : HasRoom (room_of p) (taken_by p)
  pub home : IsHome exchange (view p.completions).about
  pub deliveries : AreDeliveries told promised (view p.completions).about (view p.completions).pushed
  pub honest : Answered told promised nothing (given_by p) (taken_by p)
