-- What each call of a core does.
use Rattle.std.specs.Prelude.{◌≡◌, ◌≢◌, ℕ, ◌+◌, ◌<◌, ◌≤◌, Bool, false, List, [], ◌∷◌, ◌++◌, length, Some, Result}
use Rattle.r6_layout.specs.Shape.{Shape}
use Rattle.r6_world.specs.Layouts.{IsRowOf}
use Rattle.r6_world.specs.Geometries.{layout_of}
use Rattle.r6_world.specs.Registers.{Snapshot, Told}
use Rattle.r6_world.specs.Changes.{Start, Allowed, after}
use Rattle.r6_world.specs.Tasks.{Task as WorldTask, Rebuild}
use Rattle.r6_core.specs.Rebuilds.{IsNextRebuild}
use Rattle.r6_world.specs.ShardStates as shards
use Rattle.r6_world.specs.Steps as steps
use Rattle.r6_world.specs.Worlds.{shard_at_start}
use Rattle.r6_world.specs.declared.values.Op.{Op}
use Rattle.r6_world.specs.declared.values.Command.{Command}
use Rattle.r6_frames.specs.declared.frames.Scrub.{Scrub}
use Rattle.r6_frames.specs.declared.frames.Scrub.TheVariants as scrub
use Rattle.r6_world.specs.Values.{op_of, world_command, completion_of, receipt_of, buffer_in, reply_of, buffer_back}
use Rattle.r6_frames.specs.Views.{scrub_task}
use Rattle.r6_core.specs.declared.call.Call.{Call}
use Rattle.r6_world.specs.declared.values.Reply.{Reply}
use Rattle.r6_world.specs.declared.values.DeviceFault.{DeviceFault}
use Rattle.r6_world.specs.declared.values.Receipt.{Receipt}
use Rattle.r6_core.specs.declared.refusal.Refusal.{Refusal}
use Rattle.r6_core.specs.declared.refusal.Refusal.TheVariants.{UnknownCall}
use Rattle.r6_core.specs.declared.turn.Task.{Task}
use Rattle.r6_core.specs.declared.turn.Task.TheVariants as task
use Rattle.r6_core.specs.declared.turn.Turn.{Turn}
use Rattle.r6_core.specs.declared.turn.Turn.TheVariants.{Started, Skipped}
use Rattle.r6_core.specs.Shards.{CoreView, SameShard, Step, turn_row, world_shard, core_layout, call_of}
use Rattle.r6_core.specs.Refusals.{HasSubmitFault, submit_faults, HasDeliverFault, deliver_faults, HasRebuildFault, HasTurnFault, turn_faults, HasLookFault, look_faults, ReplacesOneOf, IsFirstFault, HasNone, AllTold}
use Rattle.r6_core.specs.Order.{BringsBack, NoReplies, SameReplies, KeepsReplies, FinishesBy, LooksOn, TakesFirst, HasNoReply, HaveTurnsWith, HaveTurnsBehind, HaveTurnsAfter}

-- replies and what waits stay as they are
abbrev pub KeepsRequests : CoreView → CoreView → Type 0
KeepsRequests old new = KeepsReplies old new × (new.waiting ≡ old.waiting)

-- ---- new

-- the core of a shard as it is made, with a register as it was seen
pub record IsMade (shape : Shape) (snapshot : Snapshot) (shard : ℕ) (core : CoreView) : Type 0 where
  pub geometry : core.shape ≡ shape
  pub number : core.shard ≡ shard
  pub start : world_shard core ≡ shard_at_start (layout_of shape) snapshot shard
  pub waiting : core.waiting ≡ []
  pub replies : NoReplies core
  pub unanswered : core.unanswered ≡ 0

-- ---- submit

-- the request is taken: those that waited have their turns, and it has the last
pub record Accepts (old : CoreView) (o : Op) (id : ℕ) (new : CoreView) : Type 0 where
  pub step : Step old (steps.Submit (op_of o) id) new
  pub right : HasNone (HasSubmitFault old o) submit_faults
  pub order : SameReplies old new
  pub unanswered : new.unanswered ≡ old.unanswered + 1
  pub turns : HaveTurnsWith old o id new

-- it comes back, and nothing changes
pub record RefusesOp (old : CoreView) (o : Op) (refusal : Refusal) (back : Op) (new : CoreView) : Type 0 where
  pub same : new ≡ old
  pub back_is : back ≡ o
  pub fault : IsFirstFault (HasSubmitFault old o) submit_faults refusal

-- ---- deliver

-- the completion is taken, or comes late
pub record Receives (old : CoreView) (token : ℕ) (completion : Result (List ℕ) DeviceFault) (receipt : Receipt)
    (new : CoreView) : Type 0 where
  pub step : Step old (steps.Deliver token (completion_of completion) (receipt_of receipt)) new
  pub right : HasNone (HasDeliverFault old token (buffer_in completion)) deliver_faults
  pub order : FinishesBy completion old new
  pub unanswered : new.unanswered ≡ old.unanswered
  pub turns : HaveTurnsBehind old token completion receipt new

-- it comes back, and nothing changes
pub record RefusesCompletion (old : CoreView) (token : ℕ) (completion : Result (List ℕ) DeviceFault)
    (refusal : Refusal) (back : Result (List ℕ) DeviceFault) (new : CoreView) : Type 0 where
  pub same : new ≡ old
  pub back_is : back ≡ completion
  pub fault : IsFirstFault (HasDeliverFault old token (buffer_in completion)) deliver_faults refusal

-- ---- look

pub record LooksAt (old : CoreView) (snapshot : Snapshot) (new : CoreView) : Type 0 where
  pub step : Step old (steps.Look snapshot) new
  pub told : AllTold old
  pub one : ReplacesOneOf old.shape.slots snapshot
  pub order : LooksOn old snapshot new
  pub unanswered : new.unanswered ≡ old.unanswered
  pub turns : HaveTurnsAfter old snapshot new

-- nothing changes
pub record RefusesLook (old : CoreView) (snapshot : Snapshot) (refusal : Refusal) (new : CoreView) : Type 0 where
  pub same : new ≡ old
  pub fault : IsFirstFault (HasLookFault old snapshot) look_faults refusal

-- ---- turns

-- the next row is held, or passed over
abbrev pub turn_event : Turn → Scrub → (row : ℕ) → steps.Event
turn_event Started scrub row = steps.Turn_started (scrub_task scrub)
turn_event Skipped scrub row = steps.Turn_skipped (scrub_task scrub) row

-- The row is held for the turn, and what the hold does first is done: a step by `Turn_started`, of this row
abbrev pub StartsTurn : CoreView → WorldTask → (row : ℕ) → CoreView → Type 0
StartsTurn old task row new =
    let l = core_layout old in
    let s = world_shard old in
    SameShard old new × steps.IsTurn task × (frame : ℕ) × Allowed l old.shard s (Start frame row task)
    × steps.Through l old.shard steps.Scans (after l s (Start frame row task)) (world_shard new)
    × steps.AtRest l old.shard (world_shard new)

-- the row that is rebuilt next is held for its rebuild
abbrev pub Rebuilds : (window : ℕ) → CoreView → CoreView → Type 0
Rebuilds window old new =
    (slot : ℕ) × (generation : ℕ) × (row : ℕ) × IsNextRebuild old window slot generation row
    × StartsTurn old (Rebuild slot generation) row new

-- a check or repair takes the shard's next row up, or passes it over
abbrev pub Scrubs : Scrub → CoreView → Turn → CoreView → Type 0
Scrubs scrub old turn new = Step old (turn_event turn scrub (turn_row scrub (world_shard old))) new

abbrev pub TakesTurn : CoreView → Task → Turn → CoreView → Type 0
TakesTurn old task.Rebuild turn new = (turn ≡ Started) × Rebuilds old.window old new
TakesTurn old task.Check turn new = Scrubs scrub.Check old turn new
TakesTurn old task.Repair turn new = Scrubs scrub.Repair old turn new

-- why it is refused; the first that holds
abbrev pub HasTaskFault : CoreView → Task → Refusal → Type 0
HasTaskFault core task.Rebuild = HasRebuildFault core core.window
HasTaskFault core task.Check = HasTurnFault core scrub.Check
HasTaskFault core task.Repair = HasTurnFault core scrub.Repair

pub record Turns (old : CoreView) (task : Task) (turn : Turn) (new : CoreView) : Type 0 where
  pub taken : TakesTurn old task turn new
  pub right : HasNone (HasTaskFault old task) turn_faults
  pub kept : KeepsRequests old new
  pub unanswered : new.unanswered ≡ old.unanswered

-- nothing changes
pub record RefusesTurn (old : CoreView) (task : Task) (refusal : Refusal) (new : CoreView) : Type 0 where
  pub same : new ≡ old
  pub fault : IsFirstFault (HasTaskFault old task) turn_faults refusal

-- ---- commands

-- a command that the array can perform: one block, for a slot, in a row of the shard
pub record IsCommandOf (core : CoreView) (c : Command) : Type 0 where
  pub block : length c.buffer ≡ core.shape.block
  pub slot : c.slot < core.shape.slots
  pub row : IsRowOf (core_layout core) core.shard c.row

abbrev pub HandsCommand : CoreView → Command → CoreView → Type 0
HandsCommand old c new =
    (frame : ℕ) × (abandoned copy : Bool)
    × Step old (steps.Take_command c.token (world_command frame abandoned copy c)) new

-- no command that wasn't taken has a lower token
abbrev pub IsOldestUntaken : CoreView → (token : ℕ) → Type 0
IsOldestUntaken core token =
    (t : ℕ) (c : shards.Command) → (world_shard core).command t ≡ Some c → c.taken ≡ false → token ≤ t

-- ---- calls at the register

abbrev pub HandsCall : CoreView → Call → CoreView → Type 0
HandsCall old call new = Step old (steps.Take_call (call_of call)) new

pub record Hears (old : CoreView) (call : Call) (answer : Told) (new : CoreView) : Type 0 where
  pub step : Step old (steps.Told (call_of call) answer) new
  pub known : (world_shard old).untold ≡ Some (call_of call)

-- the call isn't the one whose answer is awaited: nothing changes
pub record RefusesAnswer (old : CoreView) (call : Call) (refusal : Refusal) (new : CoreView) : Type 0 where
  pub same : new ≡ old
  pub refusal_is : refusal ≡ UnknownCall
  pub unknown : (world_shard old).untold ≢ Some (call_of call)

-- ---- replies

pub record HandsReply (old : CoreView) (id : ℕ) (reply : Reply) (new : CoreView) : Type 0 where
  pub step : Step old (steps.Take_reply id (reply_of reply)) new
  pub first : TakesFirst old id reply new
  pub brings : BringsBack ((world_shard old).request id) reply
  pub sized : length (buffer_back reply) ≡ old.shape.block
  pub unanswered : new.unanswered + 1 ≡ old.unanswered
  pub waiting : new.waiting ≡ old.waiting

-- none is ready
pub record HandsNoReply (old new : CoreView) : Type 0 where
  pub step : Step old steps.No_reply new
  pub none : HasNoReply old
  pub same : new ≡ old
