-- Where each event goes (this project's own).
use Rattle.std.specs.Prelude.{◌≡◌, ℕ, ◌<◌, List, Contains, Some, slice_get}
use Rattle.r6_layout.specs.Shape.{Shape, IsShape, blocks}
use Rattle.r6_layout.specs.Layout.{IsPlace}
use Rattle.r6_dev.specs.History.{Telling}
use Rattle.r6_world.specs.PlainArray.{block_of}
use Rattle.r6_world.specs.declared.values.Op.{Op}
use Rattle.r6_world.specs.Values.{op_of}
use Rattle.r6_engine.specs.declared.lists.bringing.Bringing.{Bringing}
use Rattle.r6_engine.specs.lists.Events.{Event, Request, Bring, Check, Repair, Duty, Serves, Takes_up, Checks, Repairs, Task, task, waits_before, tasks_of, requests_of}

-- what a shard is handed of the event with this number, behind the waits that stand before it
abbrev pub IsHanded : Shape → (shard : ℕ) → List Event → (number : ℕ) → Duty → Type 0
IsHanded shape shard events number duty =
    Contains (tasks_of shape shard events) (task number (waits_before events number) duty)

-- a request goes to the shard of its block alone; a new device's parts, a check and a repair go to every shard
pub record SharesOut (shape : Shape) (events : List Event) : Type 0 where
  -- a request is one of the shard in which its block has its place, and of no other
  pub request : (number shard row index slot : ℕ) (op : Op) → slice_get events number ≡ Some (Request op)
      → IsPlace shape (block_of (op_of op)) shard row index slot
      → Contains (requests_of shape shard events) (task number (waits_before events number) (Serves op))
  pub one_shard : (shard other : ℕ) (t u : Task) → Contains (requests_of shape shard events) t
      → Contains (requests_of shape other events) u → t.number ≡ u.number → shard ≡ other
  -- each request of a shard is one of the events, for a block of the array
  pub asked : (shard : ℕ) (t : Task) → Contains (requests_of shape shard events) t
      → (op : Op) × (slice_get events t.number ≡ Some (Request op)) × (block_of (op_of op) < blocks shape)
      × (t ≡ task t.number (waits_before events t.number) (Serves op))
  -- the parts of a new device, a check and a repair go to every shard
  pub parts : (number shard : ℕ) (how : Bringing) (slot : ℕ) (part : ℕ → Telling)
      → slice_get events number ≡ Some (Bring how slot part)
      → IsHanded shape shard events number (Takes_up slot (part shard))
  pub checks : (number shard : ℕ) → slice_get events number ≡ Some Check → IsHanded shape shard events number Checks
  pub repairs : (number shard : ℕ) → slice_get events number ≡ Some Repair → IsHanded shape shard events number Repairs

-- so it is of all lists of events, for each shape within the limits
abbrev pub EventLaw : Type 0
EventLaw = (shape : Shape) → IsShape shape → (events : List Event) → SharesOut shape events
