-- Which shard of the world a core is, and its steps.
use Rattle.std.specs.Prelude.{◌≡◌, ℕ, nat_eq, Bool, true, false, List, ◌++◌, map, take, drop, slice_index_or, option_map, Option, Some, None}
use Rattle.std.specs.Map.{lookup}
use Rattle.r6_layout.specs.Shape.{Shape}
use Rattle.r6_world.specs.PlainArray as world
use Rattle.r6_world.specs.Layouts.{Layout}
use Rattle.r6_world.specs.Geometries.{layout_of}
use Rattle.r6_world.specs.ShardStates as shards
use Rattle.r6_world.specs.ShardStates.{Shard, Stage, Finished, Released, SlotState, Synced, Missing, Building, Doubled, Paired, LossOf, RebuildOf}
use Rattle.r6_world.specs.Steps as steps
use Rattle.r6_world.specs.declared.values.Op.{Op}
use Rattle.r6_world.specs.declared.values.Op.TheVariants as op
use Rattle.r6_world.specs.declared.values.Request.{Request}
use Rattle.r6_core.specs.declared.call.Call.{Call}
use Rattle.r6_core.specs.declared.call.Call.TheVariants as call
use Rattle.r6_core.specs.declared.counts.Counts.{Counts}
use Rattle.r6_core.specs.declared.state.State.{State}
use Rattle.r6_frames.specs.declared.slots.Device.{Device}
use Rattle.r6_frames.specs.declared.slots.Device.TheVariants as device
use Rattle.r6_frames.specs.declared.frames.Scrub.{Scrub}
use Rattle.r6_frames.specs.declared.frames.Scrub.TheVariants as scrub
use Rattle.r6_frames.specs.Slots as slots
use Rattle.r6_world.specs.Values.{op_of}
use Rattle.r6_frames.specs.Views.{held_requests, Rest, shard_with}
use Rattle.r6_frames.specs.Directs.{read_requests}
use Rattle.r6_frames.specs.declared.frames.Frames.{Frames}
use Rattle.r6_core.specs.declared.queued.Queued.{Queued}
pub use Rattle.r6_core.specs.Queued.{requests_in, waiting_request}

-- ---- requests

-- the answer of a request that is finished: it stands in its buffer
abbrev pub answer_of : Op → world.Reply
answer_of (op.Read block buffer) = world.Reply.Data buffer
answer_of (op.Write block buffer) = world.Reply.Done

-- once a look has seen that the array failed, what isn't released is answered so
abbrev pub ended_stage : (saw_failed : Bool) → Op → Stage
ended_stage false o = Finished (answer_of o)
ended_stage true o = Released world.Reply.ArrayFailed

abbrev pub finished_request : (saw_failed : Bool) → Request → ℕ × shards.Request
finished_request saw_failed r = (r.id, record { op = op_of r.op; stage = ended_stage saw_failed r.op })

abbrev pub released_request : Request → ℕ × shards.Request
released_request r = (r.id, record { op = op_of r.op; stage = Released (answer_of r.op) })

-- those with a reply, in the order of their replies: the first so many are released
abbrev pub replied_requests : (saw_failed : Bool) → (released : ℕ) → List Request → List (ℕ × shards.Request)
replied_requests saw_failed released replies =
    map released_request (take released replies) ++ map (finished_request saw_failed) (drop released replies)

-- those that rows are held for, and those that are read directly
abbrev pub framed_requests : Frames → List (ℕ × shards.Request)
framed_requests fs = held_requests fs ++ read_requests fs

-- those that wait, from the oldest to the newest
abbrev pub waiting_of : State → List Queued
waiting_of s = requests_in s.waiting

-- the requests, each with its number: those that wait, are held or read directly, and have a reply
abbrev pub requests_of : State → List (ℕ × shards.Request)
requests_of s =
    map waiting_request (waiting_of s)
    ++ (framed_requests s.frames ++ replied_requests s.frames.saw_failed s.released s.replies.items)

-- the request of a number in a list
abbrev pub table : List (ℕ × shards.Request) → ℕ → Option shards.Request
table requests id = lookup (nat_eq id) requests

-- ---- the shard

-- a core's call at the register, as the world has it: the same slot and generation. The shard that reports is added
-- where the call is made
abbrev pub call_of : Call → shards.Call
call_of (call.DeclareLost slot generation) = LossOf slot generation
call_of (call.ReportRebuilt slot generation) = RebuildOf slot generation

-- the rows that checks and repairs have counted
abbrev pub counts_of : Counts → shards.Counts
counts_of k =
    record {
      consistent = k.consistent;
      wrong_p = k.wrong_p;
      wrong_q = k.wrong_q;
      wrong_data = k.wrong_data;
      many = k.many;
      skipped = k.skipped;
      repaired = k.repaired;
      rebuilt = k.rebuilt;
    }

-- what the shard has beside its frames
abbrev pub rest_of : State → Rest
rest_of s =
    record {
      accepted = s.accepted;
      request = table (requests_of s);
      calls = map call_of s.calls.items;
      untold = option_map call_of s.untold;
      check_row = s.check_row;
      repair_row = s.repair_row;
      counts = counts_of s.counts;
    }

abbrev pub state_of : State → Shard
state_of s = shard_with (rest_of s) s.frames

abbrev pub layout_in : State → Layout
layout_in s = layout_of s.frames.geometry

-- ---- a core as its callers see it

-- Clauses speak of this. The last field is the core's own: nobody else reads it
pub record CoreView : Type 0 where
  pub shape : Shape  -- of the array
  pub shard : ℕ  -- which of its shards
  pub waiting : List Queued  -- from the oldest to the newest
  pub finished : List Request  -- in the order in which they finished
  pub released : List Request  -- in the order in which they were released
  pub unanswered : ℕ  -- how many were accepted whose replies were not taken
  pub window : ℕ  -- as many rows of a rebuild may be under way at one time
  inside : State

abbrev pub core_with : (window : ℕ) → State → CoreView
core_with window s =
    record {
      shape = s.frames.geometry;
      shard = s.frames.shard;
      waiting = waiting_of s;
      finished = drop s.released s.replies.items;
      released = take s.released s.replies.items;
      unanswered = s.unanswered;
      window = window;
      inside = s;
    }

-- where nobody asks for the window
abbrev pub core_of : State → CoreView
core_of s = core_with 0 s

-- a core as the tuple of its fields, by which a proof tells cores apart
abbrev pub Fields : Type 0
Fields = Shape × (ℕ × (List Queued × (List Request × (List Request × (ℕ × (ℕ × State))))))

abbrev pub fields : CoreView → Fields
fields core =
    (core.shape, (core.shard, (core.waiting, (core.finished, (core.released, (core.unanswered, (core.window, core.inside)))))))

abbrev pub of_fields : Fields → CoreView
of_fields f =
    record {
      shape = f.0;
      shard = f.1.0;
      waiting = f.1.1.0;
      finished = f.1.1.1.0;
      released = f.1.1.1.1.0;
      unanswered = f.1.1.1.1.1.0;
      window = f.1.1.1.1.1.1.0;
      inside = f.1.1.1.1.1.1.1;
    }

-- the row of a shard's next check or repair
abbrev pub turn_row : Scrub → Shard → ℕ
turn_row scrub.Check s = s.check_row
turn_row scrub.Repair s = s.repair_row

-- the shard of the world that it is
abbrev pub world_shard : CoreView → Shard
world_shard core = state_of core.inside

-- where the core's array keeps each block: its shape alone decides it
abbrev pub core_layout : CoreView → Layout
core_layout core = layout_of core.shape

-- the two cores have the same shape and the same number of their shard, as one core has before and after each call
abbrev pub SameShard : CoreView → CoreView → Type 0
SameShard old new = (new.shape ≡ old.shape) × (new.shard ≡ old.shard)

-- a step of this shard, which stays the shard that it is
abbrev pub Step : CoreView → steps.Event → CoreView → Type 0
Step old event new =
    SameShard old new × steps.Step (core_layout old) old.shard (world_shard old) event (world_shard new)

-- ---- slots

-- the generation with which a slot is in sync, of two devices that of the first
abbrev pub synced : SlotState → Option ℕ
synced (Synced generation) = Some generation
synced Missing = None
synced (Building generation built) = None
synced (Doubled old new built) = Some old
synced (Paired old new) = Some old

-- the state of a slot with one of these devices; what is no slot is in sync
abbrev pub devices_state : List Device → ℕ → SlotState
devices_state devices slot = slots.state_of (slice_index_or devices slot (device.Synced 0))
