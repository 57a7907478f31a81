-- What the threads of an array are given to do, and what of it each shard is handed (this project's own).
use Rattle.std.specs.Prelude.{ℕ, ◌==◌, ◌&&◌, nat_lt, List, length, map, take, filter, filter_map, count_by, slice_get, sum_by, Bool, true, false, Option, Some, None, is_some, option_map, option_and_then, unwrap_or, if◌then◌else◌}
use Rattle.std.specs.List.{range_with_len}
use Rattle.r6_layout.specs.Shape.{Shape, blocks}
use Rattle.r6_layout.specs.Layout.{shard_of, row_of}
use Rattle.r6_dev.specs.History.{Telling}
use Rattle.r6_world.specs.PlainArray.{block_of}
use Rattle.r6_world.specs.declared.values.Op.{Op}
use Rattle.r6_world.specs.Values.{op_of}
use Rattle.r6_engine.specs.declared.lists.bringing.Bringing.{Bringing}

-- an event's number is how many stand before it
pub data Event : Type 0 where
  -- a block is read or written, with the caller's buffer
  Request : Op → Event
  -- a slot gets a new device, of which each shard has a part that tells this
  Bring : (how : Bringing) → (slot : ℕ) → (part : ℕ → Telling) → Event
  -- a slot is lost
  Fail : (slot : ℕ) → Event
  -- every shard passes over its rows
  Check : Event
  Repair : Event
  -- all that came before is answered first
  Wait : Event

-- what a shard is handed of an event
pub data Duty : Type 0 where
  Serves : Op → Duty
  Takes_up : (slot : ℕ) → Telling → Duty
  Checks : Duty
  Repairs : Duty

-- whether this is a block of the array, and stands in a row of this shard
abbrev pub is_block_of : Shape → (shard block : ℕ) → Bool
is_block_of shape shard block = nat_lt block (blocks shape) && (shard_of shape (row_of shape block) == shard)

-- a request goes to the shard of its block, a new device's parts, a check and a repair go to every shard
abbrev pub duty_of : Shape → (shard : ℕ) → Event → Option Duty
duty_of shape shard (Request op) =
    if is_block_of shape shard (block_of (op_of op)) then Some (Serves op) else None
duty_of shape shard (Bring how slot part) = Some (Takes_up slot (part shard))
duty_of shape shard (Fail slot) = None
duty_of shape shard Check = Some Checks
duty_of shape shard Repair = Some Repairs
duty_of shape shard Wait = None

-- what comes behind such an event waits for all that came before it
abbrev pub is_passing : Event → Bool
is_passing Check = true
is_passing Repair = true
is_passing Wait = true
is_passing event = false

-- how many checks, repairs and waits stand before the event with this number; of two requests with as many, neither has
-- to wait for the other
abbrev pub waits_before : List Event → (number : ℕ) → ℕ
waits_before events number = count_by is_passing (take number events)

-- a shard's part of the event with this number, behind so many waits
pub record Task : Type 0 where
  pub number : ℕ
  pub waits : ℕ
  pub duty : Duty

-- a shard's part of the event with this number, with so many waits before it
abbrev pub task : (number waits : ℕ) → Duty → Task
task number waits duty = record { number = number; waits = waits; duty = duty }

-- a shard's part of the event with this number, if it has one
abbrev pub task_at : Shape → (shard : ℕ) → List Event → (number : ℕ) → Option Task
task_at shape shard events number =
    option_map (task number (waits_before events number))
    (option_and_then (duty_of shape shard) (slice_get events number))

-- all that a shard is handed, in the order of the events
abbrev pub tasks_of : Shape → (shard : ℕ) → List Event → List Task
tasks_of shape shard events = filter_map (task_at shape shard events) (range_with_len 0 (length events))

abbrev pub has_task : Shape → (shard : ℕ) → List Event → (number : ℕ) → Bool
has_task shape shard events number = is_some (task_at shape shard events number)

-- the shard is to read or write a block; a new device's part, a check and a repair are none
abbrev pub is_request : Duty → Bool
is_request (Serves op) = true
is_request duty = false

-- the requests for blocks of a shard, in the order of the events: number, waits before it, and what is asked
abbrev pub requests_of : Shape → (shard : ℕ) → List Event → List Task
requests_of shape shard events = filter (λ t. is_request t.duty) (tasks_of shape shard events)

-- whether the event with this number is a request
abbrev pub asks : Event → Bool
asks (Request op) = true
asks event = false

abbrev pub asks_at : List Event → (number : ℕ) → Bool
asks_at events number = unwrap_or (option_map asks (slice_get events number)) false

-- of which event each task is, by its number
abbrev pub numbers_of : List Task → List ℕ
numbers_of tasks = map (λ t. t.number) tasks

-- how many tasks all shards have together
abbrev pub all_tasks : Shape → List Event → ℕ
all_tasks shape events = sum_by (λ shard. length (tasks_of shape shard events)) (range_with_len 0 shape.shards)
