-- What each call of the frames does to the shard.
use Rattle.std.specs.Prelude.{◌≡◌, ◌≢◌, ℕ, ◌<◌, ◌≤◌, Bool, true, false, List, [], ◌∷◌, ◌++◌, length, map, slice_set, Option, MatchOption, IsTrue, ◌↔◌, Some, None, option_map}
use Rattle.std.specs.List.{All, AllByRecursion}
use Rattle.r6_kernels.specs.Blocks.{IsBlock}
use Rattle.r6_layout.specs.Shape.{Shape, blocks}
use Rattle.r6_layout.specs.Layout as layout
use Rattle.r6_layout.specs.declared.place.Place.{Place}
use Rattle.r6_recover.specs.declared.class.RowClass.{RowClass}
use Rattle.r6_stripe.specs.Checks.{IsEnd}
use Rattle.r6_stripe.specs.Holds.{Kind, MayEnd}
use Rattle.r6_stripe.specs.Plans as stripe
use Rattle.r6_stripe.specs.Steps.{Held as StripeHold, has_outcome}
use Rattle.r6_stripe.specs.declared.command.Outcome.{Outcome as End}
use Rattle.r6_stripe.specs.declared.command.Outcome.TheVariants as end
use Rattle.r6_world.specs.Tables.{put}
use Rattle.r6_world.specs.PlainArray as world
use Rattle.r6_layout.specs.PlainArray.{Block}
use Rattle.r6_world.specs.Layouts.{Layout, IsRowOf}
use Rattle.r6_world.specs.Geometries.{layout_of}
use Rattle.r6_world.specs.Tasks.{Hold, Task, ReadFor, Outcome, Answered, Wrote, Classed, Skipped, Rebuilt, GivenUp, end_of}
use Rattle.r6_world.specs.ShardStates as shards
use Rattle.r6_world.specs.ShardStates.{Shard, Held, LossOf, frames, begun}
use Rattle.r6_world.specs.Changes.{Change, Ask, Ask_again, Fix, Fail, Prepare, Classify, Send, Copy, Come_home, Lose, Move, Give_over, Finish, abandoned_if, lost_slot, read_stage, brought_in, taken_out, with_row, AllBuilt, after, Allowed}
use Rattle.r6_world.specs.Steps.{Event, No_command, Take_command, Step, Through, Takes, Good, Taken}
use Rattle.r6_world.specs.declared.values.Op.{Op}
use Rattle.r6_world.specs.declared.values.Request.{Request}
use Rattle.r6_world.specs.declared.values.Command.{Command}
use Rattle.r6_frames.specs.declared.command.Outstanding.{Outstanding}
use Rattle.r6_frames.specs.declared.finish.Ended.{Ended}
use Rattle.r6_frames.specs.declared.finish.Ended.TheVariants as ended
use Rattle.r6_frames.specs.declared.frames.Scrub.{Scrub}
use Rattle.r6_frames.specs.declared.frames.Job.TheVariants as job
use Rattle.r6_frames.specs.declared.frames.HeldRow.{HeldRow}
use Rattle.r6_frames.specs.declared.frames.FrameUse.{FrameUse}
use Rattle.r6_frames.specs.declared.frames.FrameUse.TheVariants as uses
use Rattle.r6_frames.specs.declared.rebuilt.RebuiltRows.{RebuiltRows}
use Rattle.r6_frames.specs.declared.rebuilt.Target.{Target}
use Rattle.r6_frames.specs.declared.slots.Device.{Device}
use Rattle.r6_frames.specs.Rebuilt.{IsNext}
use Rattle.r6_frames.specs.Slots.{IsRebuiltOn, replaced, slot_in, state_of, states_of, is_abandoned}
use Rattle.r6_frames.specs.Told.{told_use}
use Rattle.r6_frames.specs.FramesState.{FramesState}
use Rattle.r6_world.specs.Values.{op_of, buffer_of, world_command}
use Rattle.r6_frames.specs.Views.{read_for, rebuild_task, scrub_task, kind_in, held_for, plan_in, use_at, hold_at, held_requests, outstanding, command_of, world_commands, Rest, shard_with, reads_on, AreLive}
use Rattle.r6_frames.specs.Directs.{read_requests}
use Rattle.r6_frames.specs.Writes.{blocks_in, request_of, served_in, write_task}
use Rattle.r6_frames.specs.Owed.{owed, IsUnmet}

-- the requests that are read directly are those that were
abbrev pub KeepsReads : FramesState → FramesState → Type 0
KeepsReads old new = read_requests new ≡ read_requests old

-- those whose commands are gone or abandoned wait, and the others are read still
abbrev pub entry_on : FramesState → ℕ × shards.Request → ℕ × shards.Request
entry_on fs entry = (entry.0, record { op = entry.1.op; stage = read_stage (world_commands fs) entry.1.stage })

abbrev pub ReadsOn : FramesState → FramesState → Type 0
ReadsOn old new = read_requests new ≡ map (entry_on new) (read_requests old)

-- a relation of two shards, whatever they have beside their frames, that have the same direct reads
abbrev pub Between : (Layout → ℕ → Shard → Shard → Type 0) → FramesState → FramesState → Type 0
Between Leads old new =
    (new.geometry ≡ old.geometry) × (new.shard ≡ old.shard)
    × ((rest : Rest) → Leads (layout_of old.geometry) old.shard (shard_with rest old) (shard_with rest new))
    × KeepsReads old new

-- ---- commands

-- a hold puts commands out
abbrev pub PutsOut : Change → Type 0
PutsOut (Ask frame h slot generation) = record {}
PutsOut (Prepare frame h event) = record {}
PutsOut (Send frame h slot generation block) = record {}
PutsOut (Copy frame h slot generation block) = record {}
PutsOut (Fix frame h slot generation block) = record {}
PutsOut (Ask_again frame h slot generation) = record {}
PutsOut change = ⊥

abbrev pub Drives : FramesState → FramesState → Type 0
Drives old new = Between (λ l n. Through l n PutsOut) old new

-- and where no read has met an error, neither a fix nor a second read
abbrev pub PutsFirst : Change → Type 0
PutsFirst (Ask frame h slot generation) = record {}
PutsFirst (Prepare frame h event) = record {}
PutsFirst (Send frame h slot generation block) = record {}
PutsFirst (Copy frame h slot generation block) = record {}
PutsFirst change = ⊥

abbrev pub PutsFirstOut : FramesState → FramesState → Type 0
PutsFirstOut old new = Between (λ l n. Through l n PutsFirst) old new

abbrev pub DrivesFirst : (frame : ℕ) → FramesState → FramesState → Type 0
DrivesFirst frame old new = IsUnmet old frame → IsUnmet new frame × PutsFirstOut old new

-- one step of the shard
abbrev pub Steps : FramesState → Event → FramesState → Type 0
Steps old event new = Between (λ l n s s'. Step l n s event s') old new

-- the oldest command that wasn't taken is handed over, if there is one
abbrev pub HandsOver : FramesState → Option Command → FramesState → Type 0
HandsOver old result new =
    MatchOption result (Steps old No_command new)
    (λ c. (frame : ℕ) × (abandoned copy : Bool)
    × Steps old (Take_command c.token (world_command frame abandoned copy c)) new)

-- the row of a scrub that has been read as a whole has its class
abbrev pub Classifies : Change → Type 0
Classifies (Classify frame h class) = record {}
Classifies change = ⊥

-- the good completion of a command is taken; with the last block of a scrub the row is classified
abbrev pub Answers : FramesState → (token : ℕ) → Block → FramesState → Type 0
Answers old token block new =
    Between (λ l n s s'. (change : Change) × Takes l s token (Good block) Taken change × Allowed l n s change
    × Through l n Classifies (after l s change) s') old new

-- the first read of a position met an error that loses nothing
abbrev pub Fails : FramesState → (token : ℕ) → FramesState → Type 0
Fails old token new =
    Between (λ l n s s'. (c : shards.Command) × (h : Hold) × (c.taken ≡ true) × Allowed l n s (Fail token c h)
    × (s' ≡ after l s (Fail token c h))) old new

-- the buffer of an abandoned command comes home
abbrev pub ComesHome : FramesState → (token : ℕ) → FramesState → Type 0
ComesHome old token new =
    Between (λ l n s s'. (c : shards.Command) × (c.taken ≡ true) × Allowed l n s (Come_home token c)
    × (s' ≡ after l s (Come_home token c))) old new

-- a command that the array can perform: one block, for a slot, in a row of the shard
pub record IsCommandOf (fs : FramesState) (c : Command) : Type 0 where
  pub block : length c.buffer ≡ fs.geometry.block
  pub slot : c.slot < fs.geometry.slots
  pub row : IsRowOf (layout_of fs.geometry) fs.shard c.row

-- a command was taken and isn't answered
abbrev pub IsAwaited : FramesState → ℕ → Type 0
IsAwaited fs token = (c : Outstanding) × (outstanding fs token ≡ Some c) × (token < fs.next_taken)

-- it is the first read of its position
abbrev pub IsFirstRead : FramesState → (token : ℕ) → Type 0
IsFirstRead fs token =
    (c : Outstanding) × (outstanding fs token ≡ Some c)
    × ((rest : Rest) →
    shards.is_first_read (layout_of fs.geometry) (shard_with rest fs) (command_of fs.slots fs.next_taken token c)
    ≡ true)

-- and was abandoned
abbrev pub IsAbandoned : FramesState → ℕ → Type 0
IsAbandoned fs token = (c : Outstanding) × (outstanding fs token ≡ Some c) × (is_abandoned fs.slots token c ≡ true)

-- ---- slots go out

-- The device of this slot and generation, to which the command went, is lost: direct reads from it wait again. A call
-- is to be made at the register
abbrev pub Loses : FramesState → (token slot generation : ℕ) → FramesState → Type 0
Loses old token slot generation new =
    (new.geometry ≡ old.geometry) × (new.shard ≡ old.shard)
    × ((rest : Rest) →
    let l = layout_of old.geometry in
    let s = shard_with rest old in
    (c : shards.Command) × (c.slot ≡ slot) × (c.generation ≡ generation) × (c.taken ≡ true)
    × Allowed l old.shard s (Lose token c)
    × (shard_with (record (reads_on new rest) { calls = rest.calls ++ LossOf slot generation ∷ [] }) new
    ≡ after l s (Lose token c)))
    × ReadsOn old new

-- the slot goes out without a command to it: calls are to be made at the register
abbrev pub LosesSlot : FramesState → (slot : ℕ) → FramesState → Type 0
LosesSlot old slot new =
    (new.geometry ≡ old.geometry) × (new.shard ≡ old.shard)
    × ((rest : Rest) →
    let calls = rest.calls ++ map (LossOf slot) (shards.devices_of (states_of old.slots slot)) in
    shard_with (record (reads_on new rest) { calls = calls }) new
    ≡ lost_slot (layout_of old.geometry) (shard_with rest old) slot)
    × ReadsOn old new

-- the calls that declare losses, each of a slot and a generation
abbrev pub losses_of : List (ℕ × ℕ) → List shards.Call
losses_of losses = map (λ loss. LossOf loss.0 loss.1) losses

-- too few blocks of the frame's hold can still become known: the first of two devices of a slot goes out alone
abbrev pub MovesOver : FramesState → (frame slot generation : ℕ) → FramesState → Type 0
MovesOver old frame slot generation new =
    (new.geometry ≡ old.geometry) × (new.shard ≡ old.shard)
    × ((rest : Rest) →
    let l = layout_of old.geometry in
    let s = shard_with rest old in
    (h : Hold) × Allowed l old.shard s (Move frame h slot generation)
    × (shard_with (record (reads_on new rest) { calls = rest.calls ++ LossOf slot generation ∷ [] }) new
    ≡ after l s (Move frame h slot generation)))
    × ReadsOn old new

-- and where there are none with a second one, the slots of its read errors go out
abbrev pub GivesOver : FramesState → (frame : ℕ) → List (ℕ × ℕ) → FramesState → Type 0
GivesOver old frame losses new =
    (new.geometry ≡ old.geometry) × (new.shard ≡ old.shard)
    × ((rest : Rest) →
    let l = layout_of old.geometry in
    let s = shard_with rest old in
    (h : Hold) × Allowed l old.shard s (Give_over frame h)
    × (shard_with (record (reads_on new rest) { calls = rest.calls ++ losses_of losses }) new
    ≡ after l s (Give_over frame h)))
    × ReadsOn old new

-- the slot has this in place of what it had, and the devices that it has no more are taken out: direct reads from
-- them wait again
abbrev pub TakesOut : FramesState → (slot : ℕ) → Device → FramesState → Type 0
TakesOut old slot device new =
    (new.geometry ≡ old.geometry) × (new.shard ≡ old.shard)
    × ((rest : Rest) →
    shard_with (reads_on new rest) new
    ≡ taken_out (layout_of old.geometry) (shard_with rest old) slot (state_of device))
    × ReadsOn old new

-- a look has seen that the array failed: all commands are abandoned
abbrev pub SeesFailure : FramesState → FramesState → Type 0
SeesFailure old new =
    (new.geometry ≡ old.geometry) × (new.shard ≡ old.shard)
    × ((rest : Rest) →
    let s = shard_with rest old in
    shard_with rest new ≡ record s { saw_failed = true; command = λ token. abandoned_if true (s.command token) })
    × ReadsOn old new

-- the slot has other devices, the held rows have heard of it, and whether holds go on is known
pub record IsWithout (old : FramesState) (slot : ℕ) (device : Device) (new : FramesState) : Type 0 where
  pub held : List FrameUse
  pub live : Bool
  pub goes_on : IsTrue live ↔ AreLive new
  pub told : held ≡ map (told_use old.geometry slot (slot_in old.slots slot).device device) old.uses
  pub same :
      new
      ≡ record old {
        slots = slice_set old.slots slot (replaced (slot_in old.slots slot) device old.commands.next);
        live = live;
        uses = held;
      }

-- ---- rows are held

-- no row is held, no command was put out, and no request is read directly
abbrev pub IsAtStart : FramesState → Type 0
IsAtStart fs = ((frame : ℕ) → use_at fs.uses frame ≡ uses.Free) × (fs.commands.next ≡ 0)
    × ((token : ℕ) → outstanding fs token ≡ None) × (held_requests fs ≡ []) × (read_requests fs ≡ [])

abbrev pub IsFreeFrame : FramesState → ℕ → Type 0
IsFreeFrame fs frame = (frame < frames) × (use_at fs.uses frame ≡ uses.Free)

abbrev pub IsHeldFrame : FramesState → ℕ → Type 0
IsHeldFrame fs frame = (h : HeldRow) × (hold_at fs.uses frame ≡ Some h)

abbrev pub NotHeldBy : FramesState → (row : ℕ) → Type 0
NotHeldBy fs row = (frame : ℕ) (h : HeldRow) → hold_at fs.uses frame ≡ Some h → h.row ≢ row

-- the frame holds the row
abbrev pub IsHolder : FramesState → (row frame : ℕ) → Type 0
IsHolder fs row frame = (frame < frames) × (h : HeldRow) × (hold_at fs.uses frame ≡ Some h) × (h.row ≡ row)

-- a request that may begin: for a block of the shard's rows, with a buffer of one block
pub record IsRequestOf (fs : FramesState) (request : Request) : Type 0 where
  pub there : world.block_of (op_of request.op) < blocks fs.geometry
  pub own : layout.shard_of fs.geometry (layout.row_of fs.geometry (world.block_of (op_of request.op))) ≡ fs.shard
  pub sized : IsBlock fs.geometry.block (buffer_of request.op)

-- where the block of a request stands
pub record IsPlaceOf (shape : Shape) (o : Op) (place : Place) : Type 0 where
  pub row : place.row ≡ layout.row_of shape (world.block_of (op_of o))
  pub index : place.index ≡ layout.index_of shape (world.block_of (op_of o))
  pub slot : place.slot ≡ layout.slot_at shape place.row place.index

-- the request's buffer is one block
abbrev pub HasOneBlock : Shape → Request → Type 0
HasOneBlock shape request = length (buffer_of request.op) ≡ shape.block

-- the list has these entries more, side by side, whose frame no other has
abbrev pub IsElsewhere : ℕ → ℕ × shards.Request → Type 0
IsElsewhere frame entry = entry.1.stage ≢ Held frame

pub record IsWith (few : List (ℕ × shards.Request)) (frame : ℕ) (entries more : List (ℕ × shards.Request))
    : Type 0 where
  pub before : List (ℕ × shards.Request)
  pub behind : List (ℕ × shards.Request)
  pub without : few ≡ before ++ behind
  pub with : more ≡ before ++ entries ++ behind
  pub elsewhere : AllByRecursion (IsElsewhere frame) (before ++ behind)

abbrev pub entry_of : ℕ → Request → ℕ × shards.Request
entry_of frame request = (request.id, record { op = op_of request.op; stage = Held frame })

-- the frame holds the row, and nothing else changes
pub record Holds (old : FramesState) (frame : ℕ) (h : HeldRow) (new : FramesState) : Type 0 where
  pub held : List FrameUse
  pub spare : ℕ
  pub put : held ≡ slice_set old.uses frame (uses.Held h)
  pub same : new ≡ record old { uses = held; spare = spare }

-- the row is held in the frame for the task, which serves these requests, and its hold begins
pub record Begins (old : FramesState) (frame row : ℕ) (task : Task) (served : List Request) (new : FramesState)
    : Type 0 where
  pub requests : IsWith (held_requests old) frame (map (entry_of frame) served) (held_requests new)
  pub shard :
      Between (λ l n s s'. s' ≡ record s { frame = put s.frame frame (Some (begun l s.slot row task)) }) old new

-- the row is held in the frame for a task that serves no request, and its hold begins
pub record BeginsTurn (old : FramesState) (frame : ℕ) (task : Task) (row : ℕ) (new : FramesState) : Type 0 where
  pub requests : held_requests new ≡ held_requests old
  pub shard :
      Between (λ l n s s'. s' ≡ record s { frame = put s.frame frame (Some (begun l s.slot row task)) }) old new

-- every slot is in sync for the row
abbrev pub AreAllInSync : FramesState → (row : ℕ) → Type 0
AreAllInSync fs row = (slot : ℕ) → slot < fs.geometry.slots
    → stripe.is_in_sync (shards.standing_of (states_of fs.slots slot) row) ≡ true

-- the new device is in its slot, and the row is one of those that are rebuilt next on it
pub record IsNextOn (fs : FramesState) (target : Target) (row : ℕ) : Type 0 where
  pub rebuilt : RebuiltRows
  pub device : IsRebuiltOn (slot_in fs.slots target.slot).device target.generation rebuilt
  pub next : IsNext rebuilt row

-- the row is rebuilt on the device of the slot
abbrev pub Marks : FramesState → Target → (row : ℕ) → FramesState → Type 0
Marks old target row new =
    Between (λ l n s s'. s' ≡ record s { slot = put s.slot target.slot (with_row (s.slot target.slot) row) }) old new

-- and each row of the shard is: the device is in sync, beside the one before it if there is one
abbrev pub BringsIn : FramesState → Target → (row : ℕ) → FramesState → Type 0
BringsIn old target row new =
    Between (λ l n s s'. AllBuilt l n (with_row (s.slot target.slot) row)
    × (s' ≡ record s { slot = put s.slot target.slot (brought_in (s.slot target.slot)) })) old new

-- ---- holds end

-- the requests that have ended with the hold, each with its answer in its buffer
abbrev pub requests_of : Ended → List Request
requests_of (ended.Read served buffer) = read_for served buffer ∷ []
requests_of (ended.Wrote writes) = map request_of writes
requests_of (ended.Classed scrub class) = []
requests_of (ended.Skipped scrub) = []
requests_of (ended.Rebuilt target row) = []
requests_of (ended.GivenUp target) = []

-- what the hold was for, by the world, and how it has ended
abbrev pub ended_task : Ended → Task
ended_task (ended.Read served buffer) = ReadFor served.id served.block
ended_task (ended.Wrote writes) = write_task writes
ended_task (ended.Classed scrub class) = scrub_task scrub
ended_task (ended.Skipped scrub) = scrub_task scrub
ended_task (ended.Rebuilt target row) = rebuild_task target
ended_task (ended.GivenUp target) = rebuild_task target

abbrev pub ended_outcome : Ended → Outcome
ended_outcome (ended.Read served buffer) = Answered buffer
ended_outcome (ended.Wrote writes) = Wrote
ended_outcome (ended.Classed scrub class) = Classed class
ended_outcome (ended.Skipped scrub) = Skipped
ended_outcome (ended.Rebuilt target row) = Rebuilt
ended_outcome (ended.GivenUp target) = GivenUp

-- the row was held for this
abbrev pub IsEndedOf : HeldRow → Ended → Type 0
IsEndedOf h (ended.Read served buffer) =
    (given : Block) × (h.job ≡ job.Read served given) × (length buffer ≡ h.hold.planned.hold.size)
IsEndedOf h (ended.Wrote writes) =
    (h.job ≡ job.Write (served_in writes)) × (kind_in h ≡ Kind.Write (blocks_in writes))
IsEndedOf h (ended.Classed scrub class) = h.job ≡ job.Scrub scrub
IsEndedOf h (ended.Skipped scrub) = h.job ≡ job.Scrub scrub
IsEndedOf h (ended.Rebuilt target row) = (h.job ≡ job.Rebuild target) × (h.row ≡ row)
IsEndedOf h (ended.GivenUp target) = h.job ≡ job.Rebuild target

-- how a scrub has ended whose hold ends so
abbrev pub ended_by : Scrub → Option End → Ended
ended_by scrub None = ended.Skipped scrub
ended_by scrub (Some end.Done) = ended.Skipped scrub
ended_by scrub (Some end.Rebuilt) = ended.Skipped scrub
ended_by scrub (Some (end.Classed class)) = ended.Classed scrub class
ended_by scrub (Some end.GivenUp) = ended.Skipped scrub

-- how a rebuild of the row has ended whose hold ends so
abbrev pub rebuild_ended : Target → (row : ℕ) → Option End → Ended
rebuild_ended target row None = ended.GivenUp target
rebuild_ended target row (Some end.Done) = ended.GivenUp target
rebuild_ended target row (Some end.Rebuilt) = ended.Rebuilt target row
rebuild_ended target row (Some (end.Classed class)) = ended.GivenUp target
rebuild_ended target row (Some end.GivenUp) = ended.GivenUp target

-- the class is the one that the hold has found
abbrev pub SaysClass : Option RowClass → Ended → Type 0
SaysClass found (ended.Read served buffer) = Unit {0}
SaysClass found (ended.Wrote writes) = Unit {0}
SaysClass found (ended.Classed scrub class) = found ≡ Some class
SaysClass found (ended.Skipped scrub) = Unit {0}
SaysClass found (ended.Rebuilt target row) = Unit {0}
SaysClass found (ended.GivenUp target) = Unit {0}

-- a row whose rebuild has ended may be marked
abbrev pub MayMark : FramesState → Ended → Type 0
MayMark fs (ended.Read served buffer) = Unit {0}
MayMark fs (ended.Wrote writes) = Unit {0}
MayMark fs (ended.Classed scrub class) = Unit {0}
MayMark fs (ended.Skipped scrub) = Unit {0}
MayMark fs (ended.GivenUp target) = Unit {0}
MayMark fs (ended.Rebuilt target row) =
    (target.slot < fs.geometry.slots) × IsRowOf (layout_of fs.geometry) fs.shard row × IsNextOn fs target row
    × NotHeldBy fs row

-- what a hold that is over was told of its end
abbrev pub IsTold : StripeHold → Option End → Type 0
IsTold hold None = has_outcome hold.planned ≡ false
IsTold hold (Some e) = IsEnd (stripe.outcome_of hold.planned.hold hold.planned.hold.kind) hold.class e

-- of a hold that is over and may end it is its end
abbrev pub TellsEnd : StripeHold → Ended → Type 0
TellsEnd hold e =
    let outcome = stripe.outcome_of hold.planned.hold hold.planned.hold.kind in
    MayEnd hold.planned.hold outcome → has_outcome hold.planned ≡ true
    → (end_of (ended_outcome e) ≡ outcome) × SaysClass hold.class e

-- the requests that have ended are held no more, and their buffers are one block each
abbrev pub Leaves : FramesState → (frame : ℕ) → Ended → FramesState → Type 0
Leaves old frame ended new =
    IsWith (held_requests new) frame (map (entry_of frame) (requests_of ended)) (held_requests old)
    × All (HasOneBlock old.geometry) (requests_of ended)

-- a row that is rebuilt is the hold's
abbrev pub IsOfRow : Hold → Ended → Type 0
IsOfRow hold (ended.Read served buffer) = Unit {0}
IsOfRow hold (ended.Wrote writes) = Unit {0}
IsOfRow hold (ended.Classed scrub class) = Unit {0}
IsOfRow hold (ended.Skipped scrub) = Unit {0}
IsOfRow hold (ended.Rebuilt target row) = hold.row ≡ row
IsOfRow hold (ended.GivenUp target) = Unit {0}

-- the frame's hold ends
pub record Ends (old : FramesState) (frame : ℕ) (ended : Ended) (new : FramesState) : Type 0 where
  pub leaves : Leaves old frame ended new
  pub hold : Hold
  pub task : hold.task ≡ ended_task ended
  pub row : IsOfRow hold ended
  pub may : Between (λ l n s s'. Allowed l n s (Finish frame hold (ended_outcome ended))) old new
  pub shard : Between (λ l n s s'. s' ≡ record s { frame = put s.frame frame None }) old new

-- the frame's hold ends as it stands
pub record GivesUp (old : FramesState) (frame : ℕ) (ended : Ended) (new : FramesState) : Type 0 where
  pub leaves : Leaves old frame ended new
  pub row : HeldRow
  pub held : hold_at old.uses frame ≡ Some row
  pub of : IsEndedOf row ended
  pub shard : Between (λ l n s s'. s' ≡ record s { frame = put s.frame frame None }) old new

-- ---- what a call leaves

-- the other frames have what they had
abbrev pub KeepsOthers : FramesState → ℕ → FramesState → Type 0
KeepsOthers old frame new = (other : ℕ) → other ≢ frame → use_at new.uses other ≡ use_at old.uses other

-- all frames have what they had
abbrev pub KeepsHolds : FramesState → FramesState → Type 0
KeepsHolds old new = new.uses ≡ old.uses

-- the rows that are held are those that were, each in its frame and for the same
abbrev pub KeepsRows : FramesState → FramesState → Type 0
KeepsRows old new = (frame : ℕ)
    → option_map held_for (hold_at new.uses frame) ≡ option_map held_for (hold_at old.uses frame)

-- a frame in which no row is held has none still, and each hold is as it was, its buffers aside
abbrev pub KeepsHeld : FramesState → FramesState → Type 0
KeepsHeld old new = (frame : ℕ)
    → option_map plan_in (hold_at new.uses frame) ≡ option_map plan_in (hold_at old.uses frame)

-- the slots are as they were, and no look has seen more
abbrev pub KeepsSlots : FramesState → FramesState → Type 0
KeepsSlots old new = (new.slots ≡ old.slots) × (new.saw_failed ≡ old.saw_failed)

-- the direct buffers are as they were
abbrev pub KeepsDirects : FramesState → FramesState → Type 0
KeepsDirects old new = new.directs ≡ old.directs

-- as much is owed, and no command was put out
abbrev pub KeepsOwed : FramesState → FramesState → Type 0
KeepsOwed old new = (owed new ≡ owed old) × (new.commands.next ≡ old.commands.next)

-- no more is owed, and no command was put out
abbrev pub OwesNoMore : FramesState → FramesState → Type 0
OwesNoMore old new = (owed new ≤ owed old) × (new.commands.next ≡ old.commands.next)
