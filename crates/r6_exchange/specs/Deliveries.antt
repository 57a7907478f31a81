-- What has to be true of what passes through the two queues of an exchange.
use Rattle.std.specs.Prelude.{ℕ, ◌≤◌, List, [], ◌∷◌, ◌++◌, ◌≡◌, map, Option, Some, None}
use Rattle.crossbeam_queue.specs.Passes.{view}
use Rattle.r6_dev.specs.History.{Telling}
use Rattle.r6_dev.specs.Promises.{Promise}
use Rattle.r6_queues.specs.Relays.{End, SharesQueue}
use Rattle.r6_exchange.specs.declared.task.WorkerTask.{WorkerTask}
use Rattle.r6_exchange.specs.declared.completion.Completion.{Completion}
use Rattle.r6_exchange.specs.declared.completion.Delivery.{Delivery}
use Rattle.r6_exchange.specs.Answering.{Answered, nothing, parts_in}

-- an end of the queue of tasks, which is about how many parts there may be
abbrev pub TaskEnd : Type 0 → Type 0
TaskEnd D = End (WorkerTask D) ℕ

-- an end of the queue of completions, which is about the queue of tasks that they acknowledge
abbrev pub CompletionEnd : Type 0 → Type 0
CompletionEnd D = End (Delivery D) (Option (TaskEnd D))

abbrev pub HasRoom : {D : Type 0} → (room : ℕ) → List (WorkerTask D) → Type 0
HasRoom room tasks = parts_in tasks ≤ room

abbrev pub completions_of : {D : Type 0} → List (Delivery D) → List Completion
completions_of deliveries = map (λ x. x.completion) deliveries

-- A completion comes with an acknowledgement at the queue of tasks, which tells which tasks the worker had taken. The
-- completions up to it answer these
pub record IsDelivery {D : Type 0} (told : D → Telling) (promised : D → Promise) (home : TaskEnd D)
    (front : List (Delivery D)) (x : Delivery D) : Type 0 where
  pub same_queue : SharesQueue x.acknowledgement home
  pub honest : Answered told promised nothing (completions_of (front ++ x ∷ [])) (view x.acknowledgement).acknowledged

abbrev pub AreDeliveries : {D : Type 0} → (D → Telling) → (D → Promise) → Option (TaskEnd D) → List (Delivery D) → Type 0
AreDeliveries told promised None deliveries = Unit {0}
AreDeliveries {D = D} told promised (Some home) deliveries =
    (front back : List (Delivery D)) (x : Delivery D) → deliveries ≡ front ++ x ∷ back
    → IsDelivery told promised home front x
