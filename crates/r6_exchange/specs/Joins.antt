-- What holds at the join of a shard's thread and a worker's.
use Rattle.std.specs.Prelude.{◌≡◌, ℕ, ◌≤◌, List, [], ◌∷◌, ◌++◌, length}
use Rattle.r6_dev.specs.History.{Telling}
use Rattle.r6_dev.specs.Promises.{Promise}
use Rattle.r6_queues.specs.Queues.{StartsWith}
use Rattle.r6_exchange.specs.declared.task.ServedPart.{ServedPart}
use Rattle.r6_exchange.specs.declared.completion.Completion.{Completion}
use Rattle.r6_exchange.specs.declared.task.WorkerTask.{WorkerTask}
use Rattle.r6_exchange.specs.declared.task.WorkerTask.TheVariants.{Perform, TakeUp, End}
use Rattle.r6_exchange.specs.declared.pass.ShardPass.{ShardPass}
use Rattle.r6_exchange.specs.declared.exchange.Exchange.{Exchange}
use Rattle.r6_exchange.specs.Exchanges.{IsShardPass, received_by}
use Rattle.r6_exchange.specs.Answering.{Answered, nothing, state_after, unanswered}
use Rattle.r6_exchange.specs.Parts.{Holds, part_in}

-- what a shard received is in a list, which has room for so many and no more
pub record IsCollecting {D : Type 0} (told : D → Telling) (promised : D → Promise) (exchange : Exchange D) (count : ℕ)
    (p : ShardPass D) (items : List Completion) (capacity : ℕ) : Type 0 where
  pub pass : IsShardPass told promised exchange p
  pub received : received_by p ≡ items
  pub few : length items ≤ count
  pub room : count ≤ capacity

-- nothing among these tasks says that no more comes
abbrev pub HasNoEnd : {D : Type 0} → List (WorkerTask D) → Type 0
HasNoEnd [] = Unit {0}
HasNoEnd (TakeUp served ∷ tasks) = HasNoEnd tasks
HasNoEnd (Perform c ∷ tasks) = HasNoEnd tasks
HasNoEnd (End ∷ tasks) = ⊥

-- At the join of a shard, of which every command is answered, and a worker: the worker took all that the shard sent, the
-- shard received all that the worker gave, and so the worker's parts tell what follows of what the shard received
pub record HasJoined {D : Type 0} (told : D → Telling) (promised : D → Promise) (sent taken : List (WorkerTask D))
    (given received : List Completion) (parts : List (ServedPart D)) : Type 0 where
  pub took_all : taken ≡ sent
  pub received_all : given ≡ received
  pub holds : Holds (state_after told promised nothing sent received) (part_in told promised parts)

abbrev pub JoinLaw : {D : Type 0} → (D → Telling) → (D → Promise) → Type 0
JoinLaw {D = D} told promised =
    (tasks taken front : List (WorkerTask D)) (given received : List Completion) (parts : List (ServedPart D))
    → HasNoEnd tasks
    -- `settle`, and that the worker's run is over
    → StartsWith (tasks ++ End ∷ []) taken → StartsWith given received → taken ≡ front ++ End ∷ []
    -- the worker
    → Answered told promised nothing given taken
    → Holds (state_after told promised nothing taken given) (part_in told promised parts)
    -- the shard
    → unanswered (tasks ++ End ∷ []) received ≡ []
    → HasJoined told promised (tasks ++ End ∷ []) taken given received parts
