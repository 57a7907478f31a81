-- What is true of a state between calls, and what internal calls do. No public clause needs it.
use Rattle.std.specs.Prelude.{◌≡◌, ◌≢◌, ℕ, ◌+◌, ◌*◌, ◌<◌, ◌≤◌, nat_eq, not, ◌⊎◌, Bool, true, false, List, [], ◌∷◌, ◌++◌, length, map, take, drop, if◌then◌else◌, option_map, ◌↔◌, IfSome, MatchOption, IsPermutation, vec_capacity, Option, Some, None, Result, Ok, Err}
use Rattle.std.specs.List.{All, AllByRecursion, IsDistinct}
use Rattle.std.specs.Map.{keys_of}
use Rattle.std.specs.Global.{Vec}
use Rattle.r6_stripe.specs.Plans.{is_in_sync}
use Rattle.r6_layout.specs.Shape.{blocks}
use Rattle.r6_layout.specs.Layout as layout
use Rattle.r6_world.specs.PlainArray as world
use Rattle.r6_world.specs.Layouts.{IsRowOf}
use Rattle.r6_world.specs.Geometries.{layout_of}
use Rattle.r6_world.specs.ShardStates as shards
use Rattle.r6_world.specs.Tasks.{Task, ReadFor}
use Rattle.r6_world.specs.Changes.{Change, Lose, adopted, after, Allowed}
use Rattle.r6_world.specs.Registers.{Snapshot, status_of}
use Rattle.r6_world.specs.Steps as steps
use Rattle.r6_world.specs.Steps.{Through, GoOn, Takes}
use Rattle.r6_world.specs.declared.values.Op.{Op}
use Rattle.r6_world.specs.declared.values.Request.{Request}
use Rattle.r6_core.specs.declared.call.Call.TheVariants as call
use Rattle.circular_buffer.specs.Buffer.{buffer}
use Rattle.r6_waiters.specs.Line.{Entries, Line, capacity_of, causes_of, entries_of, oldest_of, oldest_keyed, with_entries, without_oldest, without_oldest_keyed}
use Rattle.r6_frames.specs.declared.rebuilt.Target.{Target}
use Rattle.r6_world.specs.declared.values.Reply.{Reply}
use Rattle.r6_world.specs.declared.values.Reply.TheVariants as reply
use Rattle.r6_world.specs.declared.values.DeviceFault.{DeviceFault}
use Rattle.r6_core.specs.declared.refusal.Refusal.{Refusal}
use Rattle.r6_core.specs.declared.refusal.Refusal.TheVariants.{UntoldFirst, TwoReplaced}
use Rattle.r6_core.specs.declared.scan.Freed.{Freed}
use Rattle.r6_core.specs.declared.scan.Freed.TheVariants as freed
use Rattle.r6_core.specs.declared.scan.Room.{Room}
use Rattle.r6_core.specs.declared.scan.Room.TheVariants as room
use Rattle.r6_core.specs.declared.counts.Counts.{Counts}
use Rattle.r6_core.specs.declared.state.State.{State}
use Rattle.r6_core.specs.declared.queued.Queued.{Queued}
use Rattle.r6_core.specs.Queued.{request_in, unerred}
use Rattle.r6_frames.specs.declared.finish.Ended.{Ended}
use Rattle.r6_frames.specs.declared.finish.Ended.TheVariants as ended
use Rattle.r6_frames.specs.declared.frames.Frames.{Frames}
use Rattle.r6_frames.specs.declared.frames.FrameUse.{FrameUse}
use Rattle.r6_frames.specs.declared.frames.Job.{Job}
use Rattle.r6_frames.specs.declared.frames.Job.TheVariants as job
use Rattle.r6_frames.specs.Writes.{Entry, IsWriteIn, blocks_in, request_of, write_task}
use Rattle.r6_stripe.specs.BatchLists.{AreDistinct}
use Rattle.r6_frames.specs.declared.frames.Scrub.{Scrub}
use Rattle.r6_frames.specs.declared.frames.HeldRow.{HeldRow}
use Rattle.r6_frames.specs.declared.rebuilt.RebuiltRows.{RebuiltRows}
use Rattle.r6_frames.specs.Rebuilt.{IsRebuilt, next_row as built_next}
use Rattle.r6_frames.specs.Slots.{states_of}
use Rattle.r6_world.specs.declared.values.Op.TheVariants as op
use Rattle.r6_frames.specs.declared.frames.ServedRequest.{ServedRequest}
use Rattle.r6_frames.specs.declared.directs.DirectRead.{DirectRead}
use Rattle.r6_frames.specs.Directs.{direct_at, read_request, read_requests}
use Rattle.r6_frames.specs.Reads.{FreesDirect, IsFreeDirect, IsPassedOnIn, KeepsReaders, PassesNone, PassesOne, TakesDirect}
use Rattle.r6_world.specs.Values.{op_of, buffer_of, buffer_in}
use Rattle.r6_frames.specs.Views.{is_rebuild, is_request, is_scrub, held_for, row_in, kind_in, requests_by, held_requests, hold_at, AreLive}
use Rattle.r6_frames.specs.Calls.{AreAllInSync, Between, BringsIn, HasOneBlock, Marks, IsAwaited, IsFreeFrame, IsHolder, IsRequestOf, KeepsDirects, KeepsHolds, KeepsOthers, NotHeldBy}
use Rattle.r6_frames.specs.Owed.{owed, most_owed, last_token, IsDriven, IsOver, IsUnmet, LacksBlocks, MovesUnreadable, OwesCommands}
use Rattle.r6_layout.specs.declared.place.Place.{Place}
use Rattle.r6_frames.specs.Calls as frames
use Rattle.r6_frames.specs.Sound as held
use Rattle.r6_core.specs.Shards.{CoreView, SameShard, core_of, layout_in, requests_of, state_of, turn_row, waiting_of}
use Rattle.r6_world.specs.ShardStates.{limit}
use Rattle.r6_core.specs.Refusals.{most_unanswered, HasCompletionFault, ReplacesOneOf}
use Rattle.r6_core.specs.Batches.{entries_left, joined}
pub use Rattle.r6_core.specs.Batches.{block_written}
use Rattle.r6_core.specs.Limits.{bound, count_untold, most_calls, most_tokens}
use Rattle.r6_core.specs.Turns.{wanted_with}
use Rattle.r6_core.specs.Order.{AreOfOneRow, IsRising, IsSetBack, Starts, HaveTurns, KeepsReplies, ReadAgainBy, WereRead, reply_to}
use Rattle.r6_waiters.specs.Line.{capacity_of}

-- ---- a state, as callers see it

-- a relation of two cores, of their states
abbrev pub Seen : (CoreView → CoreView → Type 0) → State → State → Type 0
Seen Related old new = Related (core_of old) (core_of new)

abbrev pub SameFrames : State → State → Type 0
SameFrames old new = Seen SameShard old new

-- the shard goes there by changes of this kind
abbrev pub Leads : (Change → Type 0) → State → State → Type 0
Leads Kind old new = Through (layout_in old) old.frames.shard Kind (state_of old) (state_of new)

-- those that waited have their turns
abbrev pub WaitingHaveTurns : State → State → Type 0
WaitingHaveTurns old new = HaveTurns (core_of old) (state_of old) (waiting_of old) (core_of new)

-- ---- counts

abbrev pub none_counted : Counts
none_counted =
    record {
      consistent = 0;
      wrong_p = 0;
      wrong_q = 0;
      wrong_data = 0;
      many = 0;
      skipped = 0;
      repaired = 0;
      rebuilt = 0;
    }

-- the rows that were found and done; those that were passed over are the others
abbrev pub rows_found : Counts → ℕ
rows_found k = k.consistent + k.wrong_p + k.wrong_q + k.wrong_data + k.many + k.repaired + k.rebuilt

abbrev pub rows_counted : Counts → ℕ
rows_counted k = rows_found k + k.skipped

-- how many rows are held for such
abbrev pub one_if : (Job → Bool) → Option (ℕ × Job) → ℕ
one_if test None = 0
one_if test (Some held) = if test held.1 then 1 else 0

abbrev pub count_rows : (Job → Bool) → List FrameUse → ℕ
count_rows test [] = 0
count_rows test (u ∷ held) = one_if test (option_map held_for (row_in u)) + count_rows test held

-- what the shard does by itself: a check, a repair or a rebuild
abbrev pub is_turn : Job → Bool
is_turn job = not (is_request job)

-- A row that is held has put out a command, and is found at most twice, by its class and as repaired. None is passed
-- over from the limit on, but for rows that are held then
pub record AreBounded (k : Counts) (fs : Frames) : Type 0 where
  pub found : rows_found k + 2 * count_rows is_turn fs.uses ≤ 2 * fs.commands.next
  pub skipped : k.skipped + count_rows is_scrub fs.uses ≤ limit + shards.frames

-- ---- between calls

-- it is one of the shard, and a read where it met a read error
pub record IsQueuedOf (fs : Frames) (q : Queued) : Type 0 where
  pub request : IsRequestOf fs (request_in q)
  pub read : q.erred ≡ true → block_written q.op ≡ None

pub record AreRequests (s : State) : Type 0 where
  pub distinct : IsDistinct nat_eq (keys_of (requests_of s))
  pub numbered : AllByRecursion (λ id. id < s.accepted) (keys_of (requests_of s))
  pub counted : length (requests_of s) ≡ s.unanswered
  pub few : s.unanswered ≤ most_unanswered
  pub waiting : AllByRecursion (IsQueuedOf s.frames) (waiting_of s)
  pub sized : AllByRecursion (HasOneBlock s.frames.geometry) s.replies.items
  pub marked : s.released ≤ length s.replies.items

-- What requests wait for, by number: for the row that a frame holds the frame's, then these, in this order
abbrev pub free_frame : ℕ
free_frame = 64

abbrev pub free_buffer : ℕ
free_buffer = 65

-- it isn't known yet
abbrev pub anything : ℕ
anything = 66

abbrev pub causes : ℕ
causes = 67

-- a hold of writes has the room for them
abbrev pub is_written : Job → Bool
is_written (job.Read served buffer) = false
is_written (job.Write served) = true
is_written (job.Scrub scrub) = false
is_written (job.Rebuild target) = false

-- of the rooms for writes, one for each frame, those that no hold has are empty
pub record HaveRooms (rooms : List (List Entry)) (fs : Frames) : Type 0 where
  pub many : length rooms + count_rows is_written fs.uses ≡ shards.frames
  pub empty : AllByRecursion (λ writes. writes ≡ []) rooms

pub record HasRoom (s : State) : Type 0 where
  pub rooms : HaveRooms s.rooms.items s.frames
  pub space : shards.frames ≤ vec_capacity s.rooms
  pub waiting : capacity_of s.waiting ≡ most_unanswered
  pub causes : causes_of s.waiting ≡ causes
  pub replies : s.replies.capacity ≡ most_unanswered
  pub calls : s.calls.capacity ≡ 96
  pub few_calls : length s.calls.items + count_untold s.untold ≤ most_calls s.frames

-- the next rows of checks and repairs are the shard's
abbrev pub AreOwnRows : Frames → (check_row repair_row : ℕ) → Type 0
AreOwnRows fs check_row repair_row =
    IsRowOf (layout_of fs.geometry) fs.shard check_row × IsRowOf (layout_of fs.geometry) fs.shard repair_row

abbrev pub next_row : Scrub → State → ℕ
next_row scrub s = turn_row scrub (state_of s)

pub record IsSound (s : State) : Type 0 where
  pub frames : held.IsSound s.frames
  pub requests : AreRequests s
  pub room : HasRoom s
  pub tokens : bound s ≤ most_tokens
  pub accepted : s.accepted ≤ limit
  pub counted : AreBounded s.counts s.frames
  pub next_rows : AreOwnRows s.frames s.check_row s.repair_row

-- while holds go on, none of them loses the slots of its read errors next, nor a device of them
abbrev pub AreReadable : Frames → Type 0
AreReadable fs = AreLive fs → (frame : ℕ) → LacksBlocks fs frame → ⊥

-- each hold has put out all that comes next, and isn't over
abbrev pub IsRestedFrame : State → ℕ → Type 0
IsRestedFrame s frame = IsDriven s.frames frame × (IsOver s.frames frame → ⊥)

abbrev pub IsRested : State → Type 0
IsRested s = (frame : ℕ) → IsRestedFrame s frame

-- the direct reads go on: none waits to be handed back
abbrev pub IsReadOn : ℕ × shards.Request → Type 0
IsReadOn entry = entry.1.stage ≢ shards.Waiting

abbrev pub AreReadOn : Frames → Type 0
AreReadOn fs = AllByRecursion IsReadOn (read_requests fs)

-- each hold rests; requests that wait may be able to start
pub record IsSettled (s : State) : Type 0 where
  pub sound : IsSound s
  pub reading : AreReadOn s.frames
  pub rested : AreLive s.frames → IsRested s

-- the row can be held in the frame
abbrev pub CanHold : Frames → (row frame : ℕ) → Type 0
CanHold fs row frame = AreLive fs × IsFreeFrame fs frame × NotHeldBy fs row

-- a slot isn't in sync for the row
abbrev pub HasSlotOut : Frames → (row : ℕ) → Type 0
HasSlotOut fs row =
    (slot : ℕ) × (slot < fs.geometry.slots) × (is_in_sync (shards.standing_of (states_of fs.slots slot) row) ≡ false)

-- a turn passes its row over, or takes it up in the frame
abbrev pub IsPassedOver : State → Scrub → Type 0
IsPassedOver s scrub = AreLive s.frames × HasSlotOut s.frames (next_row scrub s)

abbrev pub IsTakenUp : State → Scrub → (frame : ℕ) → Type 0
IsTakenUp s scrub frame = AreAllInSync s.frames (next_row scrub s) × CanHold s.frames (next_row scrub s) frame

-- The row of this number, among those that are rebuilt next, could be rebuilt: it is the shard's, and isn't held
abbrev pub IsUnheldRow : Frames → RebuiltRows → (number : ℕ) → Type 0
IsUnheldRow fs rebuilt number =
    (built_next rebuilt number < layout.first_row fs.geometry (fs.shard + 1))
    × NotHeldBy fs (built_next rebuilt number)

-- the first such row, within the window
pub record IsFirstUnheld (fs : Frames) (rebuilt : RebuiltRows) (window row : ℕ) : Type 0 where
  pub number : ℕ
  pub near : number < window
  pub row_is : row ≡ built_next rebuilt number
  pub unheld : IsUnheldRow fs rebuilt number
  pub first : (other : ℕ) → other < number → IsUnheldRow fs rebuilt other → ⊥

-- there is none in the window
abbrev pub NoneUnheld : Frames → RebuiltRows → (window : ℕ) → Type 0
NoneUnheld fs rebuilt window = (number : ℕ) → number < window → IsUnheldRow fs rebuilt number → ⊥

-- the rows that are rebuilt on a new device of the shard
abbrev pub IsBuiltIn : Frames → RebuiltRows → Type 0
IsBuiltIn fs = IsRebuilt (layout.first_row fs.geometry fs.shard) (layout.first_row fs.geometry (fs.shard + 1))

-- a device of the slot is in sync for the row, and no hold of the row has passed on the slot
abbrev pub IsReadableAt : Frames → (row slot : ℕ) → Type 0
IsReadableAt fs row slot =
    (is_in_sync (shards.standing_of (states_of fs.slots slot) row) ≡ true) × (IsPassedOnIn fs row slot → ⊥)

-- a read of a position that is in sync for its row, and needn't wait for a hold to end
abbrev pub IsSyncedRead : Frames → Op → Type 0
IsSyncedRead fs (op.Read block buffer) =
    let row = layout.row_of fs.geometry block in
    IsReadableAt fs row (layout.slot_at fs.geometry row (layout.index_of fs.geometry block))
IsSyncedRead fs (op.Write block buffer) = ⊥

-- for a block of the shard
pub record IsOpOf (fs : Frames) (o : Op) : Type 0 where
  pub there : world.block_of (op_of o) < blocks fs.geometry
  pub own : layout.shard_of fs.geometry (layout.row_of fs.geometry (world.block_of (op_of o))) ≡ fs.shard

-- such a read waits for a direct buffer, unless it met a read error
abbrev pub IsForBuffer : Frames → Queued → Type 0
IsForBuffer fs q = (q.erred ≡ false) × IsSyncedRead fs q.op

-- below the limit it is read directly
abbrev pub IsReadDirectly : Frames → Queued → Type 0
IsReadDirectly fs q = (fs.commands.next < limit) × IsForBuffer fs q

-- it may have the direct buffer
abbrev pub MayLend : Frames → (number : ℕ) → Type 0
MayLend fs number = (fs.commands.next < limit) × IsFreeDirect fs number

-- what is asked can be read directly with the buffer
abbrev pub CanRead : Frames → Op → (number : ℕ) → Type 0
CanRead fs o number = AreLive fs × IsSyncedRead fs o × MayLend fs number

abbrev pub row_for : Frames → Op → ℕ
row_for fs o = layout.row_of fs.geometry (world.block_of (op_of o))

abbrev pub row_of_request : Frames → Request → ℕ
row_of_request fs request = row_for fs request.op

-- what waits is read directly with the buffer, or a row is held for it in the frame: that of its block
abbrev pub CanStart : Frames → Queued → Room → Type 0
CanStart fs q (room.Direct number) = (q.erred ≡ false) × CanRead fs q.op number
CanStart fs q (room.Frame frame) = (IsReadDirectly fs q → ⊥) × CanHold fs (row_for fs q.op) frame

-- a write that waits has the number of its block as key, and a read none
abbrev pub key_of : Queued → Option ℕ
key_of q = block_written q.op

-- ---- what requests wait for

abbrev pub HasNoFreeFrame : Frames → Type 0
HasNoFreeFrame fs = (frame : ℕ) → IsFreeFrame fs frame → ⊥

abbrev pub HasNoFreeBuffer : Frames → Type 0
HasNoFreeBuffer fs = (number : ℕ) → IsFreeDirect fs number → ⊥

-- the row that is asked for is held in the frame of this number; or no frame is free
abbrev pub WaitsForFrame : Frames → (cause : ℕ) → Op → Type 0
WaitsForFrame fs cause o = IsHolder fs (row_for fs o) cause ⊎ ((cause ≡ free_frame) × HasNoFreeFrame fs)

-- a request waits for this: a read of a position in sync that met no read error for a direct buffer, and what isn't
-- read directly for its row or a frame
abbrev pub WaitsFor : Frames → (cause : ℕ) → Queued → Type 0
WaitsFor fs cause q =
    ((cause ≡ free_buffer) × IsForBuffer fs q × HasNoFreeBuffer fs)
    ⊎ ((IsReadDirectly fs q → ⊥) × WaitsForFrame fs cause q.op)

abbrev pub Waits : Frames → ℕ × Queued → Type 0
Waits fs entry = WaitsFor fs entry.0 entry.1

-- while holds go on each request waits for what it is said to
abbrev pub AllWait : State → Type 0
AllWait s = AreLive s.frames → AllByRecursion (Waits s.frames) (entries_of s.waiting)

-- between public calls: each hold rests, and each request that waits has to, so that none could start
pub record IsCore (s : State) : Type 0 where
  pub settled : IsSettled s
  pub waits : AllWait s

-- ---- what may start after a change of the frames

-- the same slots are passed on
abbrev pub KeepsPassed : Frames → Frames → Type 0
KeepsPassed old new = (row slot : ℕ) → IsPassedOnIn new row slot ↔ IsPassedOnIn old row slot

-- what doesn't change while one thing is freed
pub record IsLike (before fs : Frames) : Type 0 where
  pub geometry : fs.geometry ≡ before.geometry
  pub live : AreLive fs → AreLive before
  pub slots : states_of fs.slots ≡ states_of before.slots
  pub passed : KeepsPassed before fs
  pub tokens : before.commands.next ≤ fs.commands.next

-- the frame has let its row go, and else all is as it was when each request waited for what it is said to; what some
-- wait for was found since
pub record HasLetGo (frame : ℕ) (s : State) : Type 0 where
  pub there : frame < shards.frames
  pub before : Frames
  pub like : IsLike before s.frames
  pub others : KeepsOthers before frame s.frames
  pub directs : KeepsDirects before s.frames
  pub empty : hold_at s.frames.uses frame ≡ None
  pub waits : AllByRecursion (λ entry. Waits s.frames entry ⊎ Waits before entry) (entries_of s.waiting)

-- so it is but for one direct buffer, which is free
pub record HasBuffer (s : State) : Type 0 where
  pub before : Frames
  pub like : IsLike before s.frames
  pub holds : KeepsHolds before s.frames
  pub number : ℕ
  pub frees : FreesDirect before number s.frames
  pub waits : AllByRecursion (Waits before) (entries_of s.waiting)

abbrev pub HasFreed : Freed → State → Type 0
HasFreed freed.Nothing s = AllWait s
HasFreed (freed.Row frame) s = HasLetGo frame s
HasFreed freed.Buffer s = HasBuffer s
HasFreed freed.Any s = Unit {0}

-- a hold has ended, or hasn't: its frame let its row go; or with a row that is rebuilt a slot is in sync for it, or no
-- slot of the row is passed on any more
abbrev pub HasEnded : Freed → (frame : ℕ) → State → State → Type 0
HasEnded freed.Nothing frame old new = new ≡ old
HasEnded (freed.Row let_go) frame old new =
    (let_go ≡ frame) × (frame < shards.frames) × (hold_at new.frames.uses frame ≡ None)
    × KeepsDirects old.frames new.frames × (states_of new.frames.slots ≡ states_of old.frames.slots)
    × (new.frames.commands.next ≡ old.frames.commands.next) × PassesNone old.frames frame
HasEnded freed.Buffer frame old new = ⊥
HasEnded freed.Any frame old new =
    ((h : HeldRow) × (hold_at old.frames.uses frame ≡ Some h) × (is_rebuild h.job ≡ true)) ⊎ PassesOne old.frames frame

-- with a row that is let go of which a slot was passed on any read may start
abbrev pub freed_with : (frame : ℕ) → (passed_on : Bool) → Freed
freed_with frame true = freed.Any
freed_with frame false = freed.Row frame

-- the oldest request that waits for the cause can start, with this
pub record IsFirstToStart (s : State) (cause : ℕ) (with : Room) : Type 0 where
  pub before : Entries Queued
  pub request : Queued
  pub behind : Entries Queued
  pub entries : entries_of s.waiting ≡ before ++ (cause, request) ∷ behind
  pub oldest : AllByRecursion (λ entry. entry.0 ≢ cause) before
  pub can : CanStart s.frames request with

-- a request can start with this, or else waits for that
abbrev pub IsRoomFor : Frames → Queued → Result Room ℕ → Type 0
IsRoomFor fs q (Ok with) = CanStart fs q with
IsRoomFor fs q (Err cause) = (cause < causes) × (AreLive fs → WaitsFor fs cause q)

-- ---- what internal calls do

-- no call is to be made at the register, and the answer of each is told
abbrev pub NoCalls : State → Type 0
NoCalls s = (s.calls.items ≡ []) × (s.untold ≡ None)

abbrev pub SameCalls : State → State → Type 0
SameCalls old new = (new.calls ≡ old.calls) × (new.untold ≡ old.untold)

-- checks and repairs are as far as they were, and have counted as much
abbrev pub SameScrubs : State → State → Type 0
SameScrubs old new = (new.check_row ≡ old.check_row) × (new.repair_row ≡ old.repair_row) × (new.counts ≡ old.counts)

-- the shard stays the shard that it is; what waited waits, and as many requests are unanswered
abbrev pub KeepsWaiting : State → State → Type 0
KeepsWaiting old new = SameFrames old new × (new.waiting ≡ old.waiting) × (new.unanswered ≡ old.unanswered)

-- behind what waited, these wait too
abbrev pub WaitBehind : State → List Queued → State → Type 0
WaitBehind old more new = waiting_of new ≡ waiting_of old ++ more

-- direct reads whose commands are gone or abandoned wait again
abbrev pub ReadAgain : State → State → Type 0
ReadAgain old new = (again : List Queued) × WereRead (state_of old) 0 again × WaitBehind old again new

-- those that a completion takes or abandons do
abbrev pub ReadAgainFor : Result (List ℕ) DeviceFault → State → (token : ℕ) → State → Type 0
ReadAgainFor completion old token new =
    (again : List Queued) × ReadAgainBy completion (state_of old) token again × WaitBehind old again new

-- that of the command alone does, and is to be held
abbrev pub SetBack : State → (token : ℕ) → State → Type 0
SetBack old token new = (again : List Queued) × IsSetBack (state_of old) token again × WaitBehind old again new

-- the shard stays the shard that it is, and as many requests are unanswered
abbrev pub KeepsShard : State → State → Type 0
KeepsShard old new = SameFrames old new × (new.unanswered ≡ old.unanswered)

-- these are direct reads of the frames that met no read error, with tokens from this one on that don't fall
abbrev pub WereStopped : Frames → (from : ℕ) → List Queued → Type 0
WereStopped fs from [] = Unit {0}
WereStopped fs from (q ∷ later) =
    (number : ℕ) × (read : DirectRead) × ((direct_at fs.directs number).read ≡ Some read) × (from ≤ read.token)
    × (q ≡ unerred (read_request read)) × WereStopped fs read.token later

-- the stopped ones of the direct reads wait again, and nothing else changes
pub record HandsBack (old new : State) : Type 0 where
  pub sound : IsSound new
  pub reading : AreReadOn new.frames
  pub state : state_of new ≡ state_of old
  pub again : List Queued
  pub were : WereStopped old.frames 0 again
  pub waiting : WaitBehind old again new
  pub holds : KeepsHolds old.frames new.frames
  pub slots : frames.KeepsSlots old.frames new.frames
  pub commands : new.frames.commands ≡ old.frames.commands
  pub geometry : (new.frames.geometry ≡ old.frames.geometry) × (new.frames.shard ≡ old.frames.shard)
  pub rest :
      new ≡ record old { waiting = new.waiting; frames = new.frames }

-- no hold has a device taken out next
abbrev pub NoneMoves : Frames → Type 0
NoneMoves fs = AreLive fs → (frame : ℕ) → MovesUnreadable fs frame → ⊥

-- the first of two devices is lost where a hold can't go on with its read error, and nothing else changes but calls
pub record MovesOver (old new : State) : Type 0 where
  pub sound : IsSound new
  pub leads : Leads steps.GivesOver old new
  pub moved : NoneMoves new.frames
  pub same : SameFrames old new
  pub readers : KeepsReaders old.frames new.frames
  pub rest : new ≡ record old { frames = new.frames; calls = new.calls }

-- slots are lost, or first devices, where a hold can't go on with their read errors, and nothing else changes but calls
pub record GivesOver (old new : State) : Type 0 where
  pub sound : IsSound new
  pub leads : Leads steps.GivesOver old new
  pub readable : AreReadable new.frames
  pub same : SameFrames old new
  pub readers : KeepsReaders old.frames new.frames
  pub rest : new ≡ record old { frames = new.frames; calls = new.calls }

-- so it is unless the array has failed
pub record GivesOverUnless (failed : Bool) (old new : State) : Type 0 where
  pub sound : IsSound new
  pub leads : Leads steps.GivesOver old new
  pub readable : failed ≡ false → AreReadable new.frames
  pub nothing : failed ≡ true → new ≡ old
  pub same : SameFrames old new
  pub readers : KeepsReaders old.frames new.frames
  pub rest : new ≡ record old { frames = new.frames; calls = new.calls }

-- a look takes over what it saw of each slot; then slots are lost so, unless the array has failed
pub record TookOver (old : State) (seen : Snapshot) (new : State) : Type 0 where
  pub mid : shards.Shard
  pub takes : Through (layout_in old) old.frames.shard (steps.TakesOver seen) (state_of old) mid
  pub slots : (slot : ℕ) → slot < old.frames.geometry.slots
      → mid.slot slot ≡ adopted (states_of old.frames.slots slot) (status_of seen slot)
  pub gives : Through (layout_in old) old.frames.shard steps.GivesOver mid (state_of new)
  pub failed : seen.failed ≡ true → state_of new ≡ mid

-- a look is refused: a call is untold, or else two slots are being replaced
abbrev pub RefusedLook : State → Snapshot → Refusal → Type 0
RefusedLook s seen refusal =
    ((refusal ≡ UntoldFirst) × (NoCalls s → ⊥))
    ⊎ (NoCalls s × (refusal ≡ TwoReplaced) × (ReplacesOneOf s.frames.geometry.slots seen → ⊥))

-- the shard stays the shard that it is, with its calls and its replies
abbrev pub OnlyStarts : State → State → Type 0
OnlyStarts old new = SameFrames old new × SameCalls old new × Seen KeepsReplies old new

-- no row was counted, and checks and repairs begin with the shard's first
abbrev pub ScrubsAtStart : State → Type 0
ScrubsAtStart s =
    let first = layout.first_row s.frames.geometry s.frames.shard in
    (s.check_row ≡ first) × (s.repair_row ≡ first) × (s.counts ≡ none_counted)

-- nothing was accepted, and nothing put out
abbrev pub IsFresh : State → Type 0
IsFresh s =
    (s.accepted ≡ 0) × (requests_of s ≡ []) × frames.IsAtStart s.frames × NoCalls s × (s.frames.saw_failed ≡ false)
    × ScrubsAtStart s

-- the room is the request's, and no other was taken
abbrev pub TakesRoom : Room → Frames → Queued → Frames → Type 0
TakesRoom (room.Direct number) old q new = KeepsHolds old new × TakesDirect old number new
TakesRoom (room.Frame frame) old q new =
    KeepsOthers old frame new × KeepsDirects old new × IsHolder new (row_for new q.op) frame

-- the others that wait, in their order
abbrev pub others_in : State → (cause : ℕ) → List Queued
others_in s cause = map (λ entry. entry.1) (without_oldest cause (entries_of s.waiting))

-- the request, the oldest that waits for the cause, starts with the room, and with a write those of the others that
-- are for other blocks of its row
abbrev pub StartsWith : Room → (cause : ℕ) → State → Queued → State → Type 0
StartsWith with cause old q new =
    Starts (layout_in old) old.frames.shard (state_of old) q (others_in old cause) (state_of new)
    × IsLike old.frames new.frames × TakesRoom with old.frames q new.frames

-- a write as it waited
abbrev pub waited : Entry → Queued
waited write = unerred (request_of write)

-- The writes that a hold serves: the request, and of those in the line the ones that start with it, which have left it
pub record ServeTogether (fs : Frames) (request : Request) (line : Entries Queued) (writes : List Entry)
    (now : Entries Queued) : Type 0 where
  pub joined :
      IsPermutation
      (unerred request ∷ joined (wanted_with (layout_of fs.geometry) request.op) (map (λ entry. entry.1) line))
      (map waited writes)
  pub left : now ≡ entries_left (wanted_with (layout_of fs.geometry) request.op) line
  pub some : writes ≢ []
  pub in_row : All (IsWriteIn fs.geometry (row_of_request fs request)) writes
  pub distinct : AreDistinct (blocks_in writes)

-- the write alone
abbrev pub alone : Request → (index : ℕ) → Entry
alone request index =
    record {
      served = record { id = request.id; block = world.block_of (op_of request.op) };
      index = index;
      new_data = buffer_of request.op;
    }

-- the writes that a hold of the write serves: it alone, or with those that wait for other blocks of its row
abbrev pub JoinedBy : (near : Option (List ℕ)) → State → Request → List Entry → (now : Line Queued) → Type 0
JoinedBy None old request writes now =
    (writes ≡ alone request (layout.index_of old.frames.geometry (world.block_of (op_of request.op))) ∷ [])
    × (now ≡ old.waiting)
JoinedBy (Some near) old request writes now =
    ServeTogether old.frames request (entries_of old.waiting) writes (entries_of now)
    × (now ≡ with_entries old.waiting (entries_of now))

-- what the row of the request is held for, and those whose row it is
abbrev pub IsForAll : (near : Option (List ℕ)) → State → Request → Op → (now : Line Queued) → Task
    → (served : List Request) → Type 0
IsForAll near old request (op.Read block buffer) now task served =
    (task ≡ ReadFor request.id block) × (served ≡ request ∷ []) × (now ≡ old.waiting)
IsForAll near old request (op.Write block buffer) now task served =
    (writes : List Entry) × (task ≡ write_task writes) × (served ≡ map request_of writes)
    × JoinedBy near old request writes now

-- the request's row is held in the frame, and nothing was put out
pub record BeginsFor (near : Option (List ℕ)) (frame : ℕ) (old : State) (request : Request) (new : State) : Type 0 where
  pub task : Task
  pub served : List Request
  pub for : IsForAll near old request request.op new.waiting task served
  pub begins : frames.Begins old.frames frame (row_of_request old.frames request) task served new.frames
  pub sound : held.IsSound new.frames
  pub same : frames.KeepsSlots old.frames new.frames
  pub others : KeepsOthers old.frames frame new.frames
  pub directs : KeepsDirects old.frames new.frames
  pub owed : owed new.frames ≤ owed old.frames + most_owed old.frames.geometry.slots
  pub owes : OwesCommands new.frames frame
  pub unmet : IsUnmet new.frames frame
  pub rooms : HaveRooms new.rooms.items new.frames
  pub space : vec_capacity new.rooms ≡ vec_capacity old.rooms
  pub rest : new ≡ record old { frames = new.frames; waiting = new.waiting; rooms = new.rooms }

-- and has put out what comes first
pub record HoldsFor (near : Option (List ℕ)) (frame : ℕ) (old : State) (request : Request) (new : State) : Type 0 where
  pub mid : State
  pub begins : BeginsFor near frame old request mid
  pub drives : frames.PutsFirstOut mid.frames new.frames
  pub requests : held_requests new.frames ≡ held_requests mid.frames
  pub sound : held.IsSound new.frames
  pub live : AreLive new.frames
  pub driven : IsDriven new.frames frame
  pub others : KeepsOthers mid.frames frame new.frames
  pub rows : frames.KeepsRows mid.frames new.frames
  pub owes : last_token new.frames ≤ last_token mid.frames
  pub goes_out : IsOver new.frames frame → ⊥
  pub directs : KeepsDirects mid.frames new.frames
  pub rooms : HaveRooms new.rooms.items new.frames
  pub rest : new ≡ record mid { frames = new.frames }

-- the oldest write of the block in the line was put in at the index, and waits no more
pub record JoinsOne (block index : ℕ) (old : State) (writes : List Entry) (new : State) (more : List Entry)
    : Type 0 where
  pub waiting : new.waiting
      ≡ with_entries old.waiting (without_oldest_keyed key_of block (entries_of old.waiting))
  pub put : MatchOption (oldest_keyed key_of block (entries_of old.waiting)) (more ≡ writes)
      (λ q. (write : Entry) × (write.index ≡ index) × (request_of write ≡ request_in q) × (more ≡ write ∷ writes))
  pub rest : new ≡ record old { waiting = new.waiting }

-- the one write of the list is of this place
abbrev pub IsFirst : Frames → Place → List Entry → Entry → Type 0
IsFirst fs place writes write =
    (writes ≡ write ∷ []) × (write.index ≡ place.index) × IsRequestOf fs (request_of write)
    × frames.IsPlaceOf fs.geometry (request_of write).op place

-- the oldest request that waited for the cause waits no more, nor do those that start with it
abbrev pub LeavesLine : State → (cause : ℕ) → State → Type 0
LeavesLine old cause new =
    let entries = entries_of old.waiting in
    IfSome (oldest_of cause entries) (λ q.
    new.waiting
    ≡ with_entries old.waiting (entries_left (wanted_with (layout_in old) q.op) (without_oldest cause entries)))

-- the request, as the frames have it
abbrev pub served_of : Request → ServedRequest
served_of request = record { id = request.id; block = world.block_of (op_of request.op) }

-- a request with its number
abbrev pub numbered_op : Request → ℕ × world.Op
numbered_op request = (request.id, op_of request.op)

-- a row more is rebuilt
abbrev pub one_rebuilt : Counts → Counts
one_rebuilt k = record k { rebuilt = k.rebuilt + 1 }

-- the row is rebuilt; with the last row of the shard its slot is in sync, and the register is to hear it
abbrev pub IsMarked : State → Target → (row : ℕ) → State → Type 0
IsMarked old target row new =
    (Marks old.frames target row new.frames × (new.calls ≡ old.calls))
    ⊎ (BringsIn old.frames target row new.frames
    × (new.calls
    ≡ buffer (old.calls.items ++ call.ReportRebuilt target.slot target.generation ∷ []) old.calls.capacity))

-- no row is rebuilt with it
abbrev pub IsPlainEnd : Ended → Type 0
IsPlainEnd (ended.Read served buffer) = Unit {0}
IsPlainEnd (ended.Wrote writes) = Unit {0}
IsPlainEnd (ended.Classed scrub class) = Unit {0}
IsPlainEnd (ended.Skipped scrub) = Unit {0}
IsPlainEnd (ended.Rebuilt target row) = ⊥
IsPlainEnd (ended.GivenUp target) = Unit {0}

-- there is a place for the room of writes that end
abbrev pub HasPlace : Ended → Vec (List Entry) → Type 0
HasPlace (ended.Read served buffer) rooms = Unit {0}
HasPlace (ended.Wrote writes) rooms = length rooms.items < vec_capacity rooms
HasPlace (ended.Classed scrub class) rooms = Unit {0}
HasPlace (ended.Skipped scrub) rooms = Unit {0}
HasPlace (ended.Rebuilt target row) rooms = Unit {0}
HasPlace (ended.GivenUp target) rooms = Unit {0}

-- with writes that end a room is empty again
abbrev pub FreesRoom : Ended → (old new : Vec (List Entry)) → Type 0
FreesRoom (ended.Read served buffer) old new = new ≡ old
FreesRoom (ended.Wrote writes) old new = (new.items ≡ old.items ++ [] ∷ []) × (vec_capacity new ≡ vec_capacity old)
FreesRoom (ended.Classed scrub class) old new = new ≡ old
FreesRoom (ended.Skipped scrub) old new = new ≡ old
FreesRoom (ended.Rebuilt target row) old new = new ≡ old
FreesRoom (ended.GivenUp target) old new = new ≡ old

-- the frame's hold was over, and its requests are finished
abbrev pub FinishesHeld : State → (frame : ℕ) → State → Type 0
FinishesHeld old frame new =
    (h : HeldRow) → hold_at old.frames.uses frame ≡ Some h → IsOver old.frames frame
    → (more : List Request) × (map numbered_op more ≡ requests_by h.job (kind_in h))
    × (new.replies.items ≡ old.replies.items ++ more) × (hold_at new.frames.uses frame ≡ None)

-- more requests are finished, all of one row, behind those that were
abbrev pub FinishMore : State → State → Type 0
FinishMore old new =
    (more : List Request) × AreOfOneRow (layout_in old) more × (new.replies.items ≡ old.replies.items ++ more)

-- the replies from the index on stand by number, and nothing else changes
pub record StandByNumber (old : State) (from : ℕ) (new : State) : Type 0 where
  pub sound : IsSound new
  pub state : state_of new ≡ state_of old
  pub before : take from new.replies.items ≡ take from old.replies.items
  pub same : IsPermutation (drop from old.replies.items) (drop from new.replies.items)
  pub rising : IsRising (drop from new.replies.items)
  pub rest : new ≡ record old { replies = new.replies }

-- the reply to a request: its answer, if it is released, and else that the array has failed
abbrev pub reply_for : (is_released : Bool) → Op → Reply
reply_for true o = reply_to o
reply_for false o = reply.ArrayFailed (buffer_of o)

-- all that were finished are released, behind those that were
abbrev pub ReleasesFinished : CoreView → CoreView → Type 0
ReleasesFinished old new = (new.released ≡ old.released ++ old.finished) × (new.finished ≡ [])

-- the requests with no reply, each with its number, in a shard in which none is read directly
abbrev pub held_op : ℕ × shards.Request → ℕ × world.Op
held_op entry = (entry.0, entry.1.op)

abbrev pub queued_op : Queued → ℕ × world.Op
queued_op q = (q.id, op_of q.op)

abbrev pub unreplied : State → List (ℕ × world.Op)
unreplied s = map queued_op (waiting_of s) ++ map held_op (held_requests s.frames)

-- all requests with no reply go behind those that have one: none waits, and no row is held
pub record Gathers (old new : State) : Type 0 where
  pub frames : held.IsSound new.frames
  pub stopped : AreLive new.frames → ⊥
  pub none_held : (frame : ℕ) → hold_at new.frames.uses frame ≡ None
  pub none_waiting : waiting_of new ≡ []
  pub more : List Request
  pub replies : new.replies.items ≡ old.replies.items ++ more
  pub all : IsPermutation (unreplied old) (map numbered_op more)
  pub sized : AllByRecursion (HasOneBlock old.frames.geometry) more
  pub tokens : owed new.frames ≤ owed old.frames
  pub shard : Between (λ l n s s'. s' ≡ record s { frame = λ frame. None }) old.frames new.frames
  pub room : (capacity_of new.waiting ≡ capacity_of old.waiting) × (causes_of new.waiting ≡ causes_of old.waiting)
      × (new.replies.capacity ≡ old.replies.capacity)
  pub rooms : HaveRooms new.rooms.items new.frames
  pub space : vec_capacity new.rooms ≡ vec_capacity old.rooms
  pub rest : (new.accepted ≡ old.accepted) × (new.unanswered ≡ old.unanswered) × (new.released ≡ old.released)
      × SameCalls old new
  pub scrubs : SameScrubs old new

-- why a completion is refused
abbrev pub HasFault : State → ℕ → Result (List ℕ) DeviceFault → Refusal → Type 0
HasFault s token completion =
    HasCompletionFault (IsAwaited s.frames token) s.frames.geometry.block (buffer_in completion)

-- a completion of this kind opens the call, and then holds go on
abbrev pub TakesThrough : State → ℕ → steps.Completion → steps.Receipt → State → Type 0
TakesThrough old token completion receipt new =
    let l = layout_in old in
    let n = old.frames.shard in
    (change : Change) × Takes l (state_of old) token completion receipt change × Allowed l n (state_of old) change
    × GoOn l n (after l (state_of old) change) (state_of new)

-- the command's slot is lost, and then holds go on
abbrev pub LosesThrough : State → ℕ → State → Type 0
LosesThrough old token new =
    let l = layout_in old in
    let n = old.frames.shard in
    (c : shards.Command) × (c.taken ≡ true) × Allowed l n (state_of old) (Lose token c)
    × GoOn l n (after l (state_of old) (Lose token c)) (state_of new)
