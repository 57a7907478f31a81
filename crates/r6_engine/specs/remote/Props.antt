-- That a `Remote` is in order is a fact, of which there is one proof at most.
use Rattle.std.specs.Prelude.{◌≡◌, ℕ, List, [], ◌∷◌, ◌++◌, Option, Some, None}
use Rattle.std.specs.Coded.{Coded, Coded-set, ×_prop, Unit-prop}
use Rattle.std.proofs.Props.{props}
use mathlib.Core.Path.{sym, ◌∙◌}
use mathlib.Core.HLevel.{Σ_prop_path}
use Rattle.std.proofs.lemmas.List.{append_cancel_left}
use Rattle.atomic_table.specs.Seated.{table_id_coded}
use Rattle.r6_dev.specs.History.{Telling, Entry, Reads, Writes, Misses, Fails}
use Rattle.r6_dev.specs.Promises.{Promise}
use Rattle.r6_world.specs.declared.values.Command.{Command}
use Rattle.r6_exchange.specs.declared.task.WorkerTask.{WorkerTask}
use Rattle.r6_exchange.specs.declared.task.WorkerTask.TheVariants.{Perform, TakeUp, End}
use Rattle.r6_exchange.specs.declared.completion.Completion.{Completion}
use Rattle.r6_exchange.specs.declared.completion.Delivery.{Delivery}
use Rattle.r6_exchange.specs.declared.pass.ShardPass.{ShardPass}
use Rattle.r6_exchange.specs.declared.exchange.Exchange.{Exchange}
use Rattle.r6_queues.specs.Queues.{StartsWith}
use Rattle.r6_exchange.specs.Answering.{Known, State, Answered, IsAnswer, MayAnswer, performed, taken_up, entry_of}
use Rattle.r6_exchange.specs.Deliveries.{TaskEnd}
use Rattle.r6_exchange.specs.Exchanges.{IsShardPass, IsHome, sent_by, known_taken}
use Rattle.r6_exchange.specs.Joins.{HasNoEnd}
use Rattle.r6_exchange.specs.Next.{NotRenewed, NoneRenewed}
use Rattle.r6_engine.specs.declared.remote.remote.Remote.{Remote}
use Rattle.r6_engine.specs.remote.Lines.{Lines}
use Rattle.r6_engine.specs.remote.Remotes.{AreShardPasses, AreOf, AreDistinct, IsKept, IsRemote}

StartsWith-prop : {A : Type 0} → IsSet A → (all front : List A) → IsProp (StartsWith all front)
StartsWith-prop {A = A} set all front x y =
    let lists : IsSet (List A) = Prim.hlevel (props, set) in
    Σ_prop_path {B = λ (rest : List A). all ≡ front ++ rest} (λ rest. lists all (front ++ rest))
    (append_cancel_left front x.0 y.0 (sym x.1 ∙ y.1))

may_answer-prop : (known : Option Known) (entry : Entry) → IsProp (MayAnswer known entry)
may_answer-prop None (Reads row block) = Prim.hlevel props
may_answer-prop None (Writes row block) = Prim.hlevel props
may_answer-prop None (Misses row) = Prim.hlevel props
may_answer-prop None Fails = Prim.hlevel props
may_answer-prop (Some known) (Reads row block) = fits known.telling
  where
    fits : (telling : Telling) → IsProp (MayAnswer (Some (record { telling = telling; promise = known.promise })) (Reads row block))
    fits None = Prim.hlevel props
    fits (Some blocks) = Prim.hlevel props
may_answer-prop (Some known) (Writes row block) = fits known.telling
  where
    fits : (telling : Telling) → IsProp (MayAnswer (Some (record { telling = telling; promise = known.promise })) (Writes row block))
    fits None = Prim.hlevel props
    fits (Some blocks) = Prim.hlevel props
may_answer-prop (Some known) (Misses row) = fits known.telling
  where
    fits : (telling : Telling) → IsProp (MayAnswer (Some (record { telling = telling; promise = known.promise })) (Misses row))
    fits None = Prim.hlevel props
    fits (Some blocks) = Prim.hlevel props
may_answer-prop (Some known) Fails = fits known.telling
  where
    fits : (telling : Telling) → IsProp (MayAnswer (Some (record { telling = telling; promise = known.promise })) Fails)
    fits None = Prim.hlevel props
    fits (Some blocks) = Prim.hlevel props

is_answer-prop : (state : State) (c : Command) (a : Completion) → IsProp (IsAnswer state c a)
is_answer-prop state c a =
    let may : IsProp (MayAnswer (state c.slot c.generation) (entry_of c a)) = may_answer-prop (state c.slot c.generation) (entry_of c a) in
    Prim.hlevel (props, may)

module _ {D : Type 0} (told : D → Telling) (promised : D → Promise) (set : IsSet D) where
  answered-prop : (state : State) (answers : List Completion) (tasks : List (WorkerTask D)) → IsProp (Answered told promised state answers tasks)
  answered-prop state [] tasks = Unit-prop
  answered-prop state (a ∷ answers) [] = Prim.hlevel props
  answered-prop state (a ∷ answers) (TakeUp served ∷ tasks) = answered-prop (taken_up told promised state served) (a ∷ answers) tasks
  answered-prop state (a ∷ answers) (End ∷ tasks) = answered-prop state (a ∷ answers) tasks
  answered-prop state (a ∷ answers) (Perform c ∷ tasks) = ×_prop (is_answer-prop state c a) (answered-prop (performed state c a) answers tasks)

  home-prop : (exchange : Exchange D) (home : Option (TaskEnd D)) → IsProp (IsHome exchange home)
  home-prop exchange None = Prim.hlevel props
  home-prop exchange (Some home) = Prim.hlevel (props, set, table_id_coded)

  tasks-set : IsSet (WorkerTask D)
  tasks-set = Prim.hlevel (props, set)

  deliveries-set : IsSet (Delivery D)
  deliveries-set = Prim.hlevel (props, set, tasks-set, table_id_coded)

  shard_pass-prop : (exchange : Exchange D) (p : ShardPass D) → IsProp (IsShardPass told promised exchange p)
  shard_pass-prop exchange p =
      let begins : IsProp (StartsWith (sent_by p) (known_taken p)) = StartsWith-prop tasks-set (sent_by p) (known_taken p) in
      Prim.hlevel (props, set, tasks-set, deliveries-set, table_id_coded, answered-prop, home-prop, begins)

  shard_passes-prop : (exchanges : List (Exchange D)) (passes : List (ShardPass D)) → IsProp (AreShardPasses told promised exchanges passes)
  shard_passes-prop [] [] = Unit-prop
  shard_passes-prop [] (p ∷ passes) = Prim.hlevel props
  shard_passes-prop (exchange ∷ exchanges) [] = Prim.hlevel props
  shard_passes-prop (exchange ∷ exchanges) (p ∷ passes) = ×_prop (shard_pass-prop exchange p) (shard_passes-prop exchanges passes)

not_renewed-prop : {D : Type 0} (c : Command) (tasks : List (WorkerTask D)) → IsProp (NotRenewed c tasks)
not_renewed-prop c [] = Unit-prop
not_renewed-prop c (TakeUp served ∷ tasks) = ×_prop (Prim.hlevel props) (not_renewed-prop c tasks)
not_renewed-prop c (End ∷ tasks) = not_renewed-prop c tasks
not_renewed-prop c (Perform d ∷ tasks) = not_renewed-prop c tasks

none_renewed-prop : {D : Type 0} (tasks : List (WorkerTask D)) (answers : List Completion) → IsProp (NoneRenewed tasks answers)
none_renewed-prop [] answers = Unit-prop
none_renewed-prop (TakeUp served ∷ tasks) answers = none_renewed-prop tasks answers
none_renewed-prop (End ∷ tasks) answers = none_renewed-prop tasks answers
none_renewed-prop (Perform c ∷ tasks) [] = ×_prop (not_renewed-prop c tasks) (none_renewed-prop tasks [])
none_renewed-prop (Perform c ∷ tasks) (a ∷ answers) = none_renewed-prop tasks answers

no_end-prop : {D : Type 0} (tasks : List (WorkerTask D)) → IsProp (HasNoEnd tasks)
no_end-prop [] = Unit-prop
no_end-prop (TakeUp served ∷ tasks) = no_end-prop tasks
no_end-prop (Perform c ∷ tasks) = no_end-prop tasks
no_end-prop (End ∷ tasks) = Prim.hlevel props

are_of-prop : (workers worker : ℕ) (commands : List Command) → IsProp (AreOf workers worker commands)
are_of-prop workers worker [] = Unit-prop
are_of-prop workers worker (c ∷ commands) = ×_prop (Prim.hlevel props) (are_of-prop workers worker commands)

distinct-prop : (commands : List Command) → IsProp (AreDistinct commands)
distinct-prop [] = Unit-prop
distinct-prop (c ∷ commands) = ×_prop (Prim.hlevel props) (distinct-prop commands)

kept-prop : {D : Type 0} (told : D → Telling) (promised : D → Promise) (lines : Lines D) (labels : List (ℕ × ℕ)) (part_room : ℕ)
    (held : Option Command) (under_way bound : ℕ) → IsProp (IsKept told promised lines labels part_room held under_way bound)
kept-prop told promised lines labels part_room held under_way bound =
    Prim.hlevel (props, none_renewed-prop, are_of-prop, distinct-prop, no_end-prop)

pub IsRemote-prop : {D : Type 0} (told : D → Telling) (promised : D → Promise) → Coded D → (r : Remote D) → IsProp (IsRemote told promised r)
IsRemote-prop told promised code r = Prim.hlevel (props, shard_passes-prop told promised (Coded-set code), kept-prop told promised)
