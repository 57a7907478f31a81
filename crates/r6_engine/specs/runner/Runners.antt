-- What a shard's thread has done of what it took from its list.
use Rattle.std.specs.Prelude.{◌≡◌, ◌≢◌, ℕ, ◌≤◌, List, [], ◌∷◌, ◌++◌, map, if◌then◌else◌, Bool, true, false, Option, Some, None, option_to_list}
use Rattle.r6_dev.specs.History.{Telling}
use Rattle.r6_dev.specs.Promises.{Promise}
use Rattle.r6_layout.specs.Shape.{Shape}
use Rattle.r6_world.specs.PlainArray as world
use Rattle.r6_world.specs.Registers.{Snapshot}
use Rattle.r6_world.specs.Tables.{put_in}
use Rattle.r6_core.specs.declared.refusal.Refusal.{Refusal}
use Rattle.r6_engine.specs.lists.Events.{Event}
use Rattle.r6_shard.specs.declared.ledger.Asking.{Asking}
use Rattle.r6_core.specs.declared.turn.Task.{Task as Scrub}
use Rattle.r6_exchange.specs.declared.task.Part.{Part}
use Rattle.r6_shard.specs.declared.shard.Shard.{Shard}
use Rattle.r6_shard.specs.Shards as shards
use Rattle.r6_shard.specs.Shards.{ComesFrom, Submits, Rests}
use Rattle.r6_shard.specs.Handing.{HandsIn}
use Rattle.r6_shard.specs.Refusing.{Lasts}
use Rattle.r6_shard.specs.Runs.{AreServed}
use Rattle.r6_shard.specs.declared.performs.Performs.{Ghosts}
use Rattle.r6_engine.specs.declared.runner.due.Due.{Due}
use Rattle.r6_engine.specs.declared.runner.scrub.ScrubUnderWay.{ScrubUnderWay}
use Rattle.r6_engine.specs.declared.runner.scrub.ScrubDone.{ScrubDone}
use Rattle.r6_engine.specs.declared.runner.runner.Handed.{Handed}
use Rattle.r6_engine.specs.declared.runner.runner.Runner.{Runner}
use Rattle.r6_engine.specs.runner.Tasks.{NewPart, count_of, requests_in, scrubs_in, parts_in, due_requests, due_scrubs, under_way, done_scrub, slot_of, handed_of}

-- what the parts tell of which devices the shard was given, once these were handed in: of two for one slot and
-- generation the later counts
abbrev pub taken_up : (before : ℕ → ℕ → Option Telling) → List NewPart → List Handed → ℕ → ℕ → Option Telling
taken_up before [] handed = before
taken_up before (p ∷ parts) [] = before
taken_up before (p ∷ parts) (h ∷ handed) =
    taken_up (if h.taken then put_in before p.slot h.generation (Some p.telling) else before) parts handed

-- each of these parts tells what its device holds, as parts on files do not
abbrev pub NoneIsSilent : (before : ℕ → ℕ → Option Telling) → List NewPart → Type 0
NoneIsSilent before [] = (slot generation : ℕ) → before slot generation ≢ Some None
NoneIsSilent before (p ∷ parts) = (p.telling ≢ None) × NoneIsSilent before parts

-- What was done of the events of these numbers, which were taken from the list of the shard
pub record IsDone {P : Type 0} {g : Ghosts P} (shape : Shape) (events : List Event) (geometry : Shape)
    (number : ℕ) (snapshot : Snapshot) (before : ℕ → ℕ → Option Telling) (numbers : List ℕ) (shard : Shard P g)
    (refused : List (ℕ × Refusal)) (scrub : Option ScrubUnderWay) (passed : List ScrubDone) (handed : List Handed)
    (due : List Due) : Type 0 where
  pub shape_is : shard.core.shape ≡ geometry
  pub place : shard.core.shard ≡ number
  pub begun : List Asking
  pub ops : List world.Op
  pub requests : requests_in shape number events numbers ≡ begun ++ due_requests due
  pub served : AreServed shard.core begun shard.asked.items ops refused
  pub passes : scrubs_in shape number events numbers
      ≡ map done_scrub passed ++ (under_way scrub ++ due_scrubs due)
  pub parts : map slot_of (parts_in shape number events numbers) ≡ map handed_of handed
  pub comes : NoneIsSilent before (parts_in shape number events numbers)
      → ComesFrom geometry number snapshot (taken_up before (parts_in shape number events numbers) handed) ops shard

abbrev pub HasDone : {P D : Type 0} {g : Ghosts P} → Shape → List Event → (geometry : Shape) → (number : ℕ) → Snapshot
    → (before : ℕ → ℕ → Option Telling) → (numbers : List ℕ) → Runner P D g → Type 0
HasDone shape events geometry number snapshot before numbers runner =
    IsDone shape events geometry number snapshot before numbers runner.shard runner.refused.items runner.scrub
    runner.scrubs_done.items runner.handed.items runner.due.items

-- whatever was done before, it was gone on with, and now these numbers were taken
abbrev pub GoesOn : {P D : Type 0} {g : Ghosts P} → Shape → List Event → (number : ℕ) → (earlier now : List ℕ)
    → (old new : Runner P D g) → Type 0
GoesOn shape events number earlier now old new =
    (geometry : Shape) (snapshot : Snapshot) (before : ℕ → ℕ → Option Telling)
    → HasDone shape events geometry number snapshot before earlier old
    → HasDone shape events geometry number snapshot before now new

abbrev pub GoesOnSame : {P D : Type 0} {g : Ghosts P} → (old new : Runner P D g) → Type 0
GoesOnSame old new =
    (shape : Shape) (events : List Event) (number : ℕ) (numbers : List ℕ)
    → GoesOn shape events number numbers numbers old new

-- how many tasks were taken
abbrev pub taken_by : {P D : Type 0} {g : Ghosts P} → Runner P D g → ℕ
taken_by runner =
    count_of runner.refused.items runner.shard.asked.items runner.scrub runner.scrubs_done.items runner.handed.items
    runner.due.items

-- for how many tasks there is room, and for how many parts of new devices
abbrev pub rooms_of : {P D : Type 0} {g : Ghosts P} → Runner P D g → ℕ × ℕ
rooms_of runner = (runner.room, runner.attaches)

-- ---- what calls do

pub record KeepsSelf {P D : Type 0} {g : Ghosts P} (old new : Runner P D g) : Type 0 where
  pub pass : new.shard.pass ≡ old.shard.pass
  pub place : new.shard.core.shard ≡ old.shard.core.shard
  pub room : rooms_of new ≡ rooms_of old

-- one task more is due, and nothing else changes
pub record IsPut {P D : Type 0} {g : Ghosts P} (due : Due) (old new : Runner P D g) : Type 0 where
  pub due_is : new.due.items ≡ old.due.items ++ due ∷ []
  pub shard : new.shard ≡ old.shard
  pub refused : new.refused.items ≡ old.refused.items
  pub scrub : new.scrub ≡ old.scrub
  pub scrubs_done : new.scrubs_done.items ≡ old.scrubs_done.items
  pub handed : new.handed.items ≡ old.handed.items
  pub others : new.others.items ≡ old.others.items
  pub room : rooms_of new ≡ rooms_of old
  pub waits : new.waits ≡ old.waits
  pub rows : new.rows ≡ old.rows

-- The shard has taken the part in, and back came the one that it had for this slot and generation; or its core has
-- looked at an attach of that generation or a later one, and the part itself came back. There is no other reason
abbrev pub IsPartTaken : {P D : Type 0} {g : Ghosts P} → (taken : Bool) → (D → Telling) → (D → Promise) → Part D
    → (back : List (Part D)) → (old new : Shard P g) → Type 0
IsPartTaken {D = D} true told promised part back old new =
    (earlier : Option (Part D)) × HandsIn told promised part earlier old new × (back ≡ option_to_list earlier)
IsPartTaken {D = D} false told promised part back old new =
    (new ≡ old) × (part.generation ≤ old.last.attaches) × (back ≡ part ∷ [])

-- a part came by the list; what came back stands behind the others, and nothing else changes
pub record IsHandedIn {P D : Type 0} {g : Ghosts P} (told : D → Telling) (promised : D → Promise) (event : ℕ)
    (part : Part D) (old new : Runner P D g) : Type 0 where
  pub taken : Bool
  pub back : List (Part D)
  pub handed : new.handed.items
      ≡ old.handed.items
      ++ record { event = event; slot = part.slot; generation = part.generation; taken = taken } ∷ []
  pub shard : IsPartTaken taken told promised part back old.shard new.shard
  pub others : new.others.items ≡ old.others.items ++ back
  pub due : new.due.items ≡ old.due.items
  pub refused : new.refused.items ≡ old.refused.items
  pub scrub : new.scrub ≡ old.scrub
  pub scrubs_done : new.scrubs_done.items ≡ old.scrubs_done.items
  pub room : rooms_of new ≡ rooms_of old
  pub waits : new.waits ≡ old.waits
  pub rows : new.rows ≡ old.rows

-- what is neither the shard's nor of its requests stays as it is
pub record KeepsTasks {P D : Type 0} {g : Ghosts P} (old new : Runner P D g) : Type 0 where
  pub due : new.due.items ≡ old.due.items
  pub scrub : new.scrub ≡ old.scrub
  pub scrubs_done : new.scrubs_done.items ≡ old.scrubs_done.items
  pub handed : new.handed.items ≡ old.handed.items
  pub others : new.others.items ≡ old.others.items
  pub room : rooms_of new ≡ rooms_of old
  pub rows : new.rows ≡ old.rows

-- a check or repair began
pub record BeginsScrub {P D : Type 0} {g : Ghosts P} (event : ℕ) (task : Scrub) (old new : Runner P D g) : Type 0 where
  pub scrub : ScrubUnderWay
  pub under_way : new.scrub ≡ Some scrub
  pub event_is : scrub.event ≡ event
  pub task_is : scrub.task ≡ task
  pub shard : new.shard ≡ old.shard
  pub refused : new.refused.items ≡ old.refused.items
  pub due : new.due.items ≡ old.due.items
  pub scrubs_done : new.scrubs_done.items ≡ old.scrubs_done.items
  pub handed : new.handed.items ≡ old.handed.items
  pub others : new.others.items ≡ old.others.items
  pub room : rooms_of new ≡ rooms_of old
  pub waits : new.waits ≡ old.waits
  pub rows : new.rows ≡ old.rows

-- the shard went on by itself
pub record ShardGoesOn {P D : Type 0} {g : Ghosts P} (old new : Runner P D g) : Type 0 where
  pub course : shards.GoesOn old.shard new.shard
  pub lasts : Lasts old.shard.core new.shard.core
  pub asked : new.shard.asked.items ≡ old.shard.asked.items
  pub waits : new.waits ≡ old.waits
  pub refused : new.refused.items ≡ old.refused.items
  pub kept : KeepsTasks old new

-- nothing is left to do of what was taken
pub record IsOver {P D : Type 0} {g : Ghosts P} (runner : Runner P D g) : Type 0 where
  pub none_due : runner.due.items ≡ []
  pub no_scrub : runner.scrub ≡ None
  pub rests : Rests runner.shard
