-- What the threads of an array's shards have done.
use Rattle.std.specs.Prelude.{◌≡◌, ℕ, ◌<◌, List, [], length, map, All, slice_get, slice_index_or, Some, Bool, true, false}
use Rattle.r6_dev.specs.History.{Telling}
use Rattle.r6_layout.specs.Shape.{Shape}
use Rattle.r6_health.specs.declared.history.View.{View}
use Rattle.r6_world.specs.Registers.{Snapshot}
use Rattle.r6_engine.specs.lists.Events.{Event, tasks_of, numbers_of}
use Rattle.r6_shard.specs.declared.parts.Parts.{Parts}
use Rattle.r6_shard.specs.Here.{BeginsHere, HasUsed}
use Rattle.r6_shard.specs.declared.performs.Performs.{Ghosts}
use Rattle.r6_shard.specs.Parts.{labels_of, part_in}
use Rattle.r6_engine.specs.declared.feed.answer.EventAnswer.{EventAnswer}
use Rattle.r6_engine.specs.feed.Feeds.{asked_before, asked_in, calls_of, is_unsettled, WereTold}
use Rattle.r6_engine.specs.declared.runner.runner.Runner.{Runner}
use Rattle.r6_engine.specs.runner.Counted.{AreClassed, AreCounted, HasCounted, KeepsCounted, rows_of_shard}
use Rattle.r6_engine.specs.runner.Parts.{HasAll, KeepsOwn}
use Rattle.r6_engine.specs.runner.Runners.{GoesOn, HasDone, IsOver}
use Rattle.r6_engine.specs.runner.Waits.{AreBehindWaits, HasAwaited}
use Rattle.r6_engine.specs.Counted.{CountEachRow}
use Rattle.r6_engine.specs.Refusals.{HadReasons, WereRight}

-- the thread of a shard took what its list had until that was finished, and did it
pub record HasRun {P D : Type 0} {g : Ghosts P} (shape : Shape) (events : List Event)
    (shard : ℕ) (numbers : List ℕ) (old : Runner P D g)
    (shard' : ℕ) (numbers' : List ℕ) (finished : Bool) (new : Runner P D g) : Type 0 where
  pub same : shard' ≡ shard
  pub place : new.shard.core.shard ≡ old.shard.core.shard
  pub course : GoesOn shape events shard numbers numbers' old new
  pub counted : KeepsCounted old new
  pub awaited : HasAwaited events old → HasAwaited events new
  pub own : KeepsOwn old new
  pub all_taken : finished ≡ true
  pub over : IsOver new

-- the part of each device that the shard uses, or has given a command, is there, if that of each slot that wasn't lost
-- was there at the start
abbrev pub StartsHere : {P D : Type 0} {g : Ghosts P} → Shape → (start : Snapshot) → Parts D → Runner P D g → Type 0
StartsHere {g = g} shape start parts runner =
    (slot : ℕ) → BeginsHere (labels_of parts.parts.items) shape.slots start slot
    → HasUsed (g.performer runner.shard.parts).labels slot runner.shard.core

-- the thread of a shard begins: nothing was taken yet
pub record Begins {P D : Type 0} {g : Ghosts P} (told : D → Telling) (shape : Shape) (events : List Event)
    (start : Snapshot) (window : ℕ) (parts : Parts D) (shard : ℕ) (numbers : List ℕ) (runner : Runner P D g) : Type 0 where
  pub none_taken : numbers ≡ []
  pub place : runner.shard.core.shard ≡ shard
  pub done : HasDone shape events shape shard start (part_in told parts.parts.items) [] runner
  pub counted : HasCounted (rows_of_shard shape shard) runner
  pub awaited : HasAwaited events runner
  pub all : HasAll (labels_of parts.parts.items) runner
  pub here : StartsHere shape start parts runner
  pub window_is : runner.shard.core.window ≡ window

-- the numbers of the shards, from 0 on
abbrev pub AreNumbered : {T : Type 0} → (T → ℕ) → List T → Type 0
AreNumbered {T} number threads = (k : ℕ) (d : T) → k < length threads → number (slice_index_or threads k d) ≡ k

-- a shard was handed all of its part of these events, in their order, and nothing of it is left to do; it refused
-- requests for these reasons alone, and those that it accepted were handed in behind the waits
pub record HasServed {P D : Type 0} {g : Ghosts P} (told : D → Telling) (shape : Shape) (events : List Event)
    (start : Snapshot) (window : ℕ) (parts : Parts D) (shard : ℕ) (runner : Runner P D g) : Type 0 where
  pub done : HasDone shape events shape shard start (part_in told parts.parts.items)
      (numbers_of (tasks_of shape shard events)) runner
  pub refused : HadReasons shape.block events runner.shard.core runner.refused.items
  pub right : WereRight shape.block events runner.shard.asked.items
  pub behind : AreBehindWaits events runner.shard.asked.items
  pub all : HasAll (labels_of parts.parts.items) runner
  pub here : StartsHere shape start parts runner
  pub window_is : runner.shard.core.window ≡ window
  pub counted : AreCounted (rows_of_shard shape shard) runner.shard.core runner.scrubs_done.items
  pub classed : AreClassed (rows_of_shard shape shard) runner.scrubs_done.items
  pub over : IsOver runner

-- each shard did so, from its parts on, and has its runner
pub record HaveServed {P D : Type 0} {g : Ghosts P} (told : D → Telling) (shape : Shape) (events : List Event)
    (start : Snapshot) (window : ℕ) (parts : List (Parts D)) (runners : List (Runner P D g)) : Type 0 where
  pub as_many : length runners ≡ length parts
  pub each : (shard : ℕ) (own : Parts D) (runner : Runner P D g) → slice_get parts shard ≡ Some own
      → slice_get runners shard ≡ Some runner → HasServed told shape events start window own shard runner
  pub counted : CountEachRow shape events runners

-- what no shard answers was answered, each event once and in the order of the events, to a thread whose pass knew this
-- first
pub record HasAnswered (shape : Shape) (events : List Event) (first : View) (answers : List EventAnswer) (last : View)
    : Type 0 where
  pub asked : map asked_in answers ≡ asked_before shape events (length events)
  pub own : last.mine ≡ calls_of answers
  pub settled : All (λ answer. is_unsettled answer.outcome ≡ false) answers
  pub told : WereTold first answers last
