-- What was handed out of a run's events, and what those are answered that no shard answers (this project's own).
use Rattle.std.specs.Prelude.{◌≡◌, ℕ, ◌<◌, nat_lt, List, [], ◌∷◌, ◌++◌, length, filter_map, flat_map, Option, Some, None, Ok, Err, option_map, option_and_then, slice_get, slice_index_or, if◌then◌else◌, Bool, true, false, Result}
use Rattle.std.specs.List.{range_with_len}
use Rattle.r6_layout.specs.Shape.{Shape, blocks}
use Rattle.r6_world.specs.PlainArray.{block_of}
use Rattle.r6_world.specs.Values.{op_of}
use Rattle.r6_health.specs.Views as views
use Rattle.r6_health.specs.Histories.{StartsWith}
use Rattle.r6_health.specs.declared.history.OwnCall.{OwnCall}
use Rattle.r6_health.specs.declared.history.View.{View}
use Rattle.r6_health.specs.declared.call.Call.{Call}
use Rattle.r6_health.specs.declared.call.Call.TheVariants as call
use Rattle.r6_health.specs.declared.refusal.Refusal.{Refusal}
use Rattle.r6_health.specs.declared.refusal.Refusal.TheVariants.{Contended}
use Rattle.r6_engine.specs.declared.lists.bringing.Bringing.{Bringing}
use Rattle.r6_engine.specs.declared.lists.bringing.Bringing.TheVariants.{Attach, Replace}
use Rattle.r6_engine.specs.declared.lists.producer.Producer.{Producer}
use Rattle.r6_engine.specs.declared.lists.queue.Queue.{Queue}
use Rattle.r6_engine.specs.lists.Events.{Event, Request, Bring, Fail, Check, Repair, Wait, Task, task_at, numbers_of}
use Rattle.r6_engine.specs.lists.Queues.{IsProducerIn, has_ended, put_by}
use Rattle.r6_engine.specs.declared.feed.answer.AnsweredHere.{AnsweredHere}
use Rattle.r6_engine.specs.declared.feed.answer.AnsweredHere.TheVariants.{OutOfRange, Failed, Brought}
use Rattle.r6_engine.specs.declared.feed.answer.EventAnswer.{EventAnswer}

-- ---- what was put into the queues

-- the tasks that a shard has of the events before this number
abbrev pub tasks_before : Shape → (shard : ℕ) → List Event → (number : ℕ) → List Task
tasks_before shape shard events number = filter_map (task_at shape shard events) (range_with_len 0 number)

module _ {L D : Type 0} {l : _} {d : _} (shape : Shape) (events : List Event) (queues : List (Queue L D l d)) where
  -- who puts into the queue of this shard put in its tasks of the events before this number, and not the end
  pub record HasPut (shard number : ℕ) (producer : Producer L D l d) : Type 0 where
    pub at : IsProducerIn shape events queues producer
    pub of_shard : producer.shard ≡ shard
    pub put : put_by producer ≡ numbers_of (tasks_before shape shard events number)
    pub open_yet : has_ended producer ≡ false

  -- there is one for each shard, and each put in what it has of the events before this number
  pub record AreAt (number : ℕ) (producers : List (Producer L D l d)) : Type 0 where
    pub shards : length producers ≡ shape.shards
    pub each : (shard : ℕ) (p : Producer L D l d) → shard < length producers
        → HasPut shard number (slice_index_or producers shard p)

-- ---- what no shard answers

-- what an event asks that no shard answers: a block that the array doesn't have, or that a slot is lost or gets a new
-- device, which the register answers
pub data Asking : Type 0 where
  NoBlock : Asking
  Fails : (slot : ℕ) → Asking
  Brings : Bringing → (slot : ℕ) → Asking

-- a request for no block of the array, and the calls at the register
abbrev pub asking_of : Shape → Event → Option Asking
asking_of shape (Request op) = if nat_lt (block_of (op_of op)) (blocks shape) then None else Some NoBlock
asking_of shape (Bring how slot part) = Some (Brings how slot)
asking_of shape (Fail slot) = Some (Fails slot)
asking_of shape Check = None
asking_of shape Repair = None
asking_of shape Wait = None

-- what the event with this number asks so, with the number; nothing where shards answer it
abbrev pub asking_at : Shape → List Event → (number : ℕ) → Option (ℕ × Asking)
asking_at shape events number =
    option_map (λ asking. (number, asking)) (option_and_then (asking_of shape) (slice_get events number))

-- those before the event of this number, in the order of the events
abbrev pub asked_before : Shape → List Event → (number : ℕ) → List (ℕ × Asking)
asked_before shape events number = filter_map (asking_at shape events) (range_with_len 0 number)

-- what it was that such an answer answers
abbrev pub asking_in : AnsweredHere → Asking
asking_in OutOfRange = NoBlock
asking_in (Failed slot answer) = Fails slot
asking_in (Brought how slot answer) = Brings how slot

-- the same with the number of the event
abbrev pub asked_in : EventAnswer → ℕ × Asking
asked_in answer = (answer.event, asking_in answer.outcome)

-- the call at the register that brings a slot a new device
abbrev pub call_of : Bringing → (slot : ℕ) → Call
call_of Attach slot = call.Attach slot
call_of Replace slot = call.Replace slot

-- the generation that the register answered for a new device, 0 where it refused it
abbrev pub generation_of : Result ℕ Refusal → ℕ
generation_of (Ok generation) = generation
generation_of (Err refusal) = 0

-- the calls that the register took
abbrev pub calls_in : AnsweredHere → List OwnCall
calls_in OutOfRange = []
calls_in (Failed slot answer) = views.made_by (call.Fail slot) answer
calls_in (Brought how slot answer) = views.brought_by (call_of how slot) answer

-- those of all answers, in the order of the answers
abbrev pub calls_of : List EventAnswer → List OwnCall
calls_of answers = flat_map (λ answer. calls_in answer.outcome) answers

-- others' calls came between at each try
abbrev pub is_contended : {A : Type 0} → Result A Refusal → Bool
is_contended (Err Contended) = true
is_contended answer = false

-- the register refused the call only because others' calls came between at each try; a block that the array doesn't
-- have is settled at once
abbrev pub is_unsettled : AnsweredHere → Bool
is_unsettled OutOfRange = false
is_unsettled (Failed slot answer) = is_contended answer
is_unsettled (Brought how slot answer) = is_contended answer

-- the pass has seen more of the same register
pub record IsLater (old new : View) : Type 0 where
  pub same_start : new.start ≡ old.start
  pub seen : StartsWith new.seen old.seen

-- what the pass knew before and behind an answer: a call at the register tells what the register's contract says of it
abbrev pub IsTold : (before : View) → AnsweredHere → (after : View) → Type 0
IsTold before OutOfRange after = after ≡ before
IsTold before (Failed slot answer) after = views.Answered before (call.Fail slot) answer after
IsTold before (Brought how slot answer) after = views.Brought before (call_of how slot) answer after

-- from what the pass knew first, these answers came one behind the other, each call on what was known behind the one
-- before it or more, to what it knows in the end; other passes may have been taken back
pub data WereTold (first : View) : List EventAnswer → View → Type 0 where
  Begins : WereTold first [] first
  Sees : (answers : List EventAnswer) (known more : View) → WereTold first answers known → views.Grows known more
      → WereTold first answers more
  Joins : (answers : List EventAnswer) (known other : View) → WereTold first answers known
      → WereTold first answers (views.joined known other)
  Hears : (answers : List EventAnswer) (answer : EventAnswer) (known more : View) → WereTold first answers known
      → IsTold known answer.outcome more → WereTold first (answers ++ answer ∷ []) more

-- whatever was answered before, it was gone on with
abbrev pub TellsOn : (old : View) (before : List EventAnswer) (new : View) (after : List EventAnswer) → Type 0
TellsOn old before new after = (first : View) → WereTold first before old → WereTold first after new
