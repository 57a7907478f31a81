-- Which frames, commands and requests of the world's shard these are.
use Rattle.std.specs.Prelude.{◌≡◌, ℕ, ◌+◌, ◌≤◌, ◌==◌, nat_lt, Bool, true, false, List, [], ◌∷◌, ◌++◌, map, slice_index_or, Option, Some, None, option_map}
use Rattle.std.specs.FinMap as finite
use Rattle.r6_layout.specs.Layout as layout
use Rattle.r6_stripe.specs.Holds.{Kind}
use Rattle.r6_stripe.specs.Holds.Kind.{Idle, Read as ReadKind, Write as WriteKind, Rebuild as RebuildKind, Check as CheckKind, Repair as RepairKind}
use Rattle.r6_stripe.specs.Plans as plans
use Rattle.r6_stripe.specs.declared.command.RowTask.{RowTask}
use Rattle.r6_stripe.specs.declared.command.RowTask.TheVariants as asks
use Rattle.r6_stripe.specs.declared.command.RowCommand.{RowCommand}
use Rattle.r6_stripe.specs.declared.command.RowCommand.TheVariants as stripe
use Rattle.r6_world.specs.PlainArray as world
use Rattle.r6_layout.specs.PlainArray.{Block}
use Rattle.r6_world.specs.Tasks.{Task, ReadFor, Rebuild, Check, Repair, Hold}
use Rattle.r6_world.specs.ShardStates as shards
use Rattle.r6_world.specs.ShardStates.{Shard, Held, Transfer, Fetch, Store, Storing, Call}
use Rattle.r6_world.specs.Changes.{read_on}
use Rattle.r6_world.specs.Values.{numbered}
use Rattle.r6_world.specs.declared.values.Op.TheVariants as op
use Rattle.r6_world.specs.declared.values.Request.{Request}
use Rattle.r6_frames.specs.declared.command.Action.{Action}
use Rattle.r6_frames.specs.declared.command.Action.TheVariants as action
use Rattle.r6_frames.specs.declared.command.Outstanding.{Outstanding}
use Rattle.r6_frames.specs.declared.frames.Job.{Job}
use Rattle.r6_frames.specs.declared.frames.Job.TheVariants as job
use Rattle.r6_frames.specs.declared.frames.Scrub.{Scrub}
use Rattle.r6_frames.specs.declared.frames.Scrub.TheVariants as scrub
use Rattle.r6_frames.specs.declared.frames.HeldRow.{HeldRow}
use Rattle.r6_frames.specs.declared.frames.ServedRequest.{ServedRequest}
use Rattle.r6_frames.specs.declared.frames.FrameUse.{FrameUse}
use Rattle.r6_frames.specs.declared.frames.FrameUse.TheVariants as uses
use Rattle.r6_frames.specs.declared.rebuilt.Target.{Target}
use Rattle.r6_frames.specs.declared.slots.Device.{Device}
use Rattle.r6_frames.specs.declared.slots.Slot.{Slot}
use Rattle.r6_frames.specs.Actions.{is_copy}
use Rattle.r6_frames.specs.Slots.{first_of, second_of, states_of, count_out, is_abandoned}
use Rattle.r6_frames.specs.Writes.{entries_of, request_of, write_task}
use Rattle.r6_frames.specs.FramesState.{FramesState}

-- ---- requests

-- the request of a read, with its block in the buffer
abbrev pub read_for : ServedRequest → Block → Request
read_for served buffer = record { id = served.id; op = op.Read served.block buffer }

-- ---- held rows

-- the new blocks of a hold that writes
abbrev pub batch_in : Kind → List (ℕ × Block)
batch_in (WriteKind batch) = batch
batch_in Idle = []
batch_in (ReadKind index) = []
batch_in (RebuildKind target) = []
batch_in CheckKind = []
batch_in RepairKind = []

-- the task of a scrub, in the world and by the rules of one row
abbrev pub scrub_task : Scrub → Task
scrub_task scrub.Check = Check
scrub_task scrub.Repair = Repair

abbrev pub scrub_kind : Scrub → Kind
scrub_kind scrub.Check = CheckKind
scrub_kind scrub.Repair = RepairKind

abbrev pub scrub_row_task : Scrub → RowTask
scrub_row_task scrub.Check = asks.Check
scrub_row_task scrub.Repair = asks.Repair

abbrev pub is_scrub : Job → Bool
is_scrub (job.Read served buffer) = false
is_scrub (job.Write served) = false
is_scrub (job.Scrub scrub) = true
is_scrub (job.Rebuild target) = false

abbrev pub is_request : Job → Bool
is_request (job.Read served buffer) = true
is_request (job.Write served) = true
is_request (job.Scrub scrub) = false
is_request (job.Rebuild target) = false

abbrev pub is_rebuild : Job → Bool
is_rebuild (job.Read served buffer) = false
is_rebuild (job.Write served) = false
is_rebuild (job.Scrub scrub) = false
is_rebuild (job.Rebuild target) = true

-- it rebuilds a row on a device of the slot
abbrev pub rebuilds : Job → (slot : ℕ) → Bool
rebuilds (job.Read served buffer) slot = false
rebuilds (job.Write served) slot = false
rebuilds (job.Scrub scrub) slot = false
rebuilds (job.Rebuild target) slot = target.slot == slot

abbrev pub rebuild_task : Target → Task
rebuild_task target = Rebuild target.slot target.generation

abbrev pub task_by : Job → Kind → Task
task_by (job.Read served buffer) kind = ReadFor served.id served.block
task_by (job.Write served) kind = write_task (entries_of served (batch_in kind))
task_by (job.Scrub scrub) kind = scrub_task scrub
task_by (job.Rebuild target) kind = rebuild_task target

abbrev pub kind_in : HeldRow → Kind
kind_in h = h.hold.planned.hold.kind

abbrev pub hold_of : HeldRow → Hold
hold_of h =
    record {
      row = h.row;
      task = task_by h.job (kind_in h);
      course = h.hold.planned.hold;
      plan = h.hold.planned.plan;
      class = h.hold.class;
    }

-- the row with what it is held for
abbrev pub held_for : HeldRow → ℕ × Job
held_for h = (h.row, h.job)

-- and with its hold, its buffers aside
abbrev pub plan_in : HeldRow → (ℕ × Job) × plans.Planned
plan_in h = (held_for h, h.hold.planned)

abbrev pub use_at : List FrameUse → ℕ → FrameUse
use_at held frame = slice_index_or held frame uses.Free

-- the row that is held in a frame
abbrev pub row_in : FrameUse → Option HeldRow
row_in uses.Free = None
row_in (uses.Held h) = Some h
row_in (uses.Returning hold second) = None

abbrev pub hold_at : List FrameUse → ℕ → Option HeldRow
hold_at held frame = row_in (use_at held frame)

abbrev pub frame_of : FramesState → ℕ → Option Hold
frame_of fs frame = option_map hold_of (hold_at fs.uses frame)

-- the requests that rows are held for, each with its number, in the order of the frames
abbrev pub requests_by : Job → Kind → List (ℕ × world.Op)
requests_by (job.Read served buffer) kind = (served.id, world.Op.Read served.block) ∷ []
requests_by (job.Write served) kind = map numbered (map request_of (entries_of served (batch_in kind)))
requests_by (job.Scrub scrub) kind = []
requests_by (job.Rebuild target) kind = []

abbrev pub held_entry : ℕ → ℕ × world.Op → ℕ × shards.Request
held_entry frame request = (request.0, record { op = request.1; stage = Held frame })

abbrev pub request_at : ℕ → FrameUse → List (ℕ × shards.Request)
request_at frame uses.Free = []
request_at frame (uses.Held h) = map (held_entry frame) (requests_by h.job (kind_in h))
request_at frame (uses.Returning hold second) = []

abbrev pub requests_from : ℕ → List FrameUse → List (ℕ × shards.Request)
requests_from frame [] = []
requests_from frame (u ∷ held) = request_at frame u ++ requests_from (frame + 1) held

abbrev pub held_requests : FramesState → List (ℕ × shards.Request)
held_requests fs = requests_from 0 fs.uses

-- the device at the position of the row is in sync for it
abbrev pub is_synced_at : FramesState → (row position : ℕ) → Bool
is_synced_at fs row position =
    plans.is_in_sync (shards.standing_of (states_of fs.slots (layout.slot_at fs.geometry row position)) row)

-- ---- commands

abbrev pub stored : Option Block → Transfer
stored (Some block) = Store block
stored None = Storing

abbrev pub transfer_of : Action → Option Block → Transfer
transfer_of action.Read block = Fetch
transfer_of action.Write block = stored block
transfer_of action.Copy block = stored block

abbrev pub command_of : List Slot → (next_taken token : ℕ) → Outstanding → shards.Command
command_of slots next_taken token c =
    record {
      frame = c.frame;
      slot = c.slot;
      generation = c.generation;
      row = c.row;
      transfer = transfer_of c.action c.buffer;
      taken = nat_lt token next_taken;
      abandoned = is_abandoned slots token c;
      copy = is_copy c.action;
    }

-- the command of a hold to a position, with the buffer that leaves with it
abbrev pub row_command : ℕ → Action → Block → RowCommand
row_command position action.Read buffer = stripe.Read position buffer
row_command position action.Write buffer = stripe.Write position buffer
row_command position action.Copy buffer = stripe.Copy position buffer

-- and the device of the slot to which it goes
abbrev pub device_for : Action → Device → Option ℕ
device_for action.Read device = first_of device
device_for action.Write device = first_of device
device_for action.Copy device = second_of device

abbrev pub outstanding : FramesState → ℕ → Option Outstanding
outstanding fs token = finite.get fs.commands.entries token

-- ---- the shard

-- what a shard has beside its frames: its requests, the calls that it has to make at the register, and how far its
-- checks and repairs are and what they have counted
pub record Rest : Type 0 where
  pub accepted : ℕ
  pub request : ℕ → Option shards.Request
  pub calls : List Call
  pub untold : Option Call
  pub check_row : ℕ
  pub repair_row : ℕ
  pub counts : shards.Counts

abbrev pub shard_with : Rest → FramesState → Shard
shard_with rest fs =
    record {
      accepted = rest.accepted;
      request = rest.request;
      frame = frame_of fs;
      tokens = fs.commands.next;
      command = λ token. option_map (command_of fs.slots fs.next_taken token) (outstanding fs token);
      slot = states_of fs.slots;
      calls = rest.calls;
      untold = rest.untold;
      saw_failed = fs.saw_failed;
      check_row = rest.check_row;
      repair_row = rest.repair_row;
      counts = rest.counts;
    }

-- the commands of the shard
abbrev pub world_commands : FramesState → ℕ → Option shards.Command
world_commands fs token = option_map (command_of fs.slots fs.next_taken token) (outstanding fs token)

-- what a shard has beside its frames, with the direct reads waiting whose commands are gone or abandoned
abbrev pub reads_on : FramesState → Rest → Rest
reads_on fs rest = record rest { request = λ id. read_on (world_commands fs) (rest.request id) }

-- holds go on: at most two slots are out, and no look has seen that the array failed
abbrev pub AreLive : FramesState → Type 0
AreLive fs = (count_out fs.slots fs.geometry.slots ≤ 2) × (fs.saw_failed ≡ false)
