-- Requests that a shard's thread hands in together.
use Rattle.std.specs.Prelude.{◌≡◌, ◌≢◌, ℕ, ◌+◌, ◌⊎◌, List, [], ◌∷◌, ◌++◌, length}
use Rattle.std.specs.List.{AllByRecursion}
use Rattle.r6_world.specs.PlainArray as world
use Rattle.r6_world.specs.declared.values.Op.{Op}
use Rattle.r6_core.specs.Refusals.{most_unanswered}
use Rattle.r6_core.specs.declared.refusal.Refusal.{Refusal}
use Rattle.r6_course.specs.Courses.{Start}
use Rattle.r6_shard.specs.declared.ledger.Asked.{Asked}
use Rattle.r6_shard.specs.declared.ledger.Asking.{Asking}
use Rattle.r6_shard.specs.declared.performs.Performs.{Ghosts}
use Rattle.r6_shard.specs.declared.shard.Shard.{Shard}
use Rattle.r6_shard.specs.Counted.{PassesNone}
use Rattle.r6_shard.specs.Here.{StaysHere}
use Rattle.r6_shard.specs.Refusing.{Lasts}
use Rattle.r6_shard.specs.Runs.{AreServed}
use Rattle.r6_shard.specs.Shards.{CourseOf}
use Rattle.r6_shard.specs.Sound.{StaysSound}
use Rattle.r6_shard.specs.Together.{all_asking}
use Rattle.r6_shard.specs.Whole.{Remembers}
use Rattle.r6_engine.specs.declared.runner.due.Due.{Due}
use Rattle.r6_engine.specs.declared.runner.due.Duty.TheVariants as due
use Rattle.r6_engine.specs.declared.runner.runner.Runner.{Runner}
use Rattle.r6_engine.specs.runner.Runners.{rooms_of}

-- requests that are due behind so many waits, each with the number of its event
abbrev pub all_due : (waits : ℕ) → (events : List ℕ) → List Op → List Due
all_due waits [] ops = []
all_due waits (event ∷ events) [] = []
all_due waits (event ∷ events) (o ∷ ops) =
    record { event = event; waits = waits; duty = due.Serve o } ∷ all_due waits events ops

-- what is due isn't a request that comes after so many waits
abbrev pub IsOther : (waits : ℕ) → Due → Type 0
IsOther waits next = (event : ℕ) (o : Op) → next ≢ record { event = event; waits = waits; duty = due.Serve o }

-- nothing is due next, or something else than such a request
abbrev pub IsOtherNext : (waits : ℕ) → List Due → Type 0
IsOtherNext waits [] = Unit {0}
IsOtherNext waits (next ∷ later) = IsOther waits next

-- the events of these requests are among those, in their order
abbrev pub AreAmong : List Asked → (events : List ℕ) → Type 0
AreAmong [] events = Unit {0}
AreAmong (a ∷ asked) [] = ⊥
AreAmong (a ∷ asked) (event ∷ events) = ((a.event ≡ event) × AreAmong asked events) ⊎ AreAmong (a ∷ asked) events

-- Requests were handed in, each of its event, in their order: whatever requests were served before, these are served
-- after them, each accepted or refused
pub record HandsOver {P : Type 0} {g : Ghosts P} (events : List ℕ) (ops : List Op) (old : Shard P g)
    (refused : List (ℕ × Refusal)) (new : Shard P g) (refused' : List (ℕ × Refusal)) : Type 0 where
  pub asked : List Asked
  pub taken : List world.Op
  pub others : List (ℕ × Refusal)
  pub asked_is : new.asked.items ≡ old.asked.items ++ asked
  pub refused_is : refused' ≡ refused ++ others
  pub count : length asked + length others ≡ length ops
  pub answered : AllByRecursion (λ a. a.answered ≡ length old.entries.items) asked
  pub among : AreAmong asked events
  pub course : (s : Start) (before : List world.Op) → CourseOf s before old → CourseOf s (before ++ taken) new
  pub served : (begun : List Asking) (before : List world.Op) → AreServed old.core begun old.asked.items before refused
      → AreServed new.core (begun ++ all_asking events ops) new.asked.items (before ++ taken) refused'
  pub lasts : Lasts old.core new.core
  pub remembers : Remembers old.named old.saw_out new.named new.saw_out
  pub sound : StaysSound old new
  pub here : StaysHere old new
  pub passed : PassesNone old.core new.core
  pub entries : new.entries.items ≡ old.entries.items
  pub room : new.room ≡ old.room
  pub pass : new.pass ≡ old.pass
  pub parts : new.parts ≡ old.parts

-- a request was handed in behind so many waits, and with it others behind as many that were due next
pub record ServesTogether {P D : Type 0} {g : Ghosts P} (event waits : ℕ) (op : Op) (old new : Runner P D g) : Type 0 where
  pub events : List ℕ
  pub ops : List Op
  pub numbered : length ops ≡ length events
  pub due : old.due.items ≡ all_due waits events ops ++ new.due.items
  -- as many as may be open, or all that were due next
  pub all : (old.shard.core.unanswered + (1 + length ops) ≡ most_unanswered) ⊎ IsOtherNext waits new.due.items
  pub hands : HandsOver (event ∷ events) (op ∷ ops) old.shard old.refused.items new.shard new.refused.items
  pub scrub : new.scrub ≡ old.scrub
  pub scrubs_done : new.scrubs_done.items ≡ old.scrubs_done.items
  pub handed : new.handed.items ≡ old.handed.items
  pub others : new.others.items ≡ old.others.items
  pub room : rooms_of new ≡ rooms_of old
  pub rows : new.rows ≡ old.rows
