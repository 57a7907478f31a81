-- In which order requests start, are finished, and are answered.
use Rattle.std.specs.Prelude.{◌≡◌, ◌≢◌, ℕ, ◌<◌, ◌≤◌, ◌⊎◌, true, false, List, [], ◌∷◌, ◌++◌, Option, Some, None, Result, Ok, Err, IfOk}
use Rattle.std.specs.List.{AllByRecursion}
use Rattle.r6_layout.specs.PlainArray.{Block}
use Rattle.r6_world.specs.PlainArray as world
use Rattle.r6_world.specs.Layouts.{Layout}
use Rattle.r6_world.specs.Registers.{Snapshot, status_of}
use Rattle.r6_world.specs.ShardStates as shards
use Rattle.r6_world.specs.ShardStates.{Shard, Reading}
use Rattle.r6_world.specs.Changes.{Change, Accept, Release, after, Allowed, differs}
use Rattle.r6_world.specs.Steps.{Through, GoOn, Takes, TakesOver}
use Rattle.r6_world.specs.declared.values.Op.{Op}
use Rattle.r6_world.specs.declared.values.Op.TheVariants as op
use Rattle.r6_world.specs.declared.values.Request.{Request}
use Rattle.r6_world.specs.Values.{op_of, buffer_of, completion_of, receipt_of}
use Rattle.r6_world.specs.declared.values.Reply.{Reply}
use Rattle.r6_world.specs.declared.values.Reply.TheVariants as reply
use Rattle.r6_world.specs.declared.values.DeviceFault.{DeviceFault}
use Rattle.r6_world.specs.declared.values.Receipt.{Receipt}
use Rattle.r6_world.specs.ShardStates.{limit}
use Rattle.r6_core.specs.declared.queued.Queued.{Queued}
use Rattle.r6_core.specs.Shards.{CoreView, world_shard, core_layout}
pub use Rattle.r6_core.specs.Turns.{IsHeld, IsHeldFor, IsRead, IsWaiting, InTurn, MustWait, Starts}

-- ---- replies

abbrev pub reply_to : Op → Reply
reply_to (op.Read block buffer) = reply.Data buffer
reply_to (op.Write block buffer) = reply.Done buffer

-- a write's reply brings the block that was handed in with the request, whatever came of it
abbrev pub BringsBack : Option shards.Request → Reply → Type 0
BringsBack (Some request) (reply.Done buffer) = (block : ℕ) × (request.op ≡ world.Op.Write block buffer)
BringsBack (Some request) (reply.Data buffer) = (block : ℕ) × (request.op ≡ world.Op.Read block)
BringsBack (Some request) (reply.ArrayFailed buffer) =
    (block : ℕ) (new_data : Block) → request.op ≡ world.Op.Write block new_data → buffer ≡ new_data
BringsBack None back = ⊥

-- no request is finished, and no reply released
abbrev pub NoReplies : CoreView → Type 0
NoReplies core = (core.finished ≡ []) × (core.released ≡ [])

abbrev pub SameReplies : CoreView → CoreView → Type 0
SameReplies old new = (new.finished ≡ old.finished) × (new.released ≡ old.released)

abbrev pub KeepsReplies : CoreView → CoreView → Type 0
KeepsReplies old new = SameReplies old new × (new.unanswered ≡ old.unanswered)

-- ---- in which order requests are finished and released

-- from the oldest to the newest
abbrev pub IsRising : List Request → Type 0
IsRising [] = Unit {0}
IsRising (request ∷ newer) = AllByRecursion (λ other. request.id < other.id) newer × IsRising newer

-- these are for blocks of one row
abbrev pub AreOfOneRow : Layout → List Request → Type 0
AreOfOneRow l requests =
    (row : ℕ) × AllByRecursion (λ request. l.row_of (world.block_of (op_of request.op)) ≡ row) requests

-- more requests are finished, all of one row, behind those that were, from the oldest of them to the newest
abbrev pub MayFinish : CoreView → CoreView → Type 0
MayFinish old new =
    (more : List Request) × IsRising more × AreOfOneRow (core_layout old) more × (new.finished ≡ old.finished ++ more)
    × (new.released ≡ old.released)

-- more requests are finished, behind those that were, from the oldest of them to the newest
abbrev pub Finishes : CoreView → CoreView → Type 0
Finishes old new =
    (more : List Request) × IsRising more × (new.finished ≡ old.finished ++ more) × (new.released ≡ old.released)

-- a good completion finishes requests of one row alone; with an error all may end whose device is lost
abbrev pub FinishesBy : Result (List ℕ) DeviceFault → CoreView → CoreView → Type 0
FinishesBy (Ok buffer) old new = MayFinish old new
FinishesBy (Err fault) old new = Finishes old new

-- a look finds no slot other than the shard has it
abbrev pub Agrees : CoreView → Snapshot → Type 0
Agrees core snapshot =
    (slot : ℕ) → slot < core.shape.slots → differs ((world_shard core).slot slot) (status_of snapshot slot) ≡ false

-- all that were finished are released, in their order, behind those that were, and behind them those that the look
-- finished, from the oldest to the newest: none if it found no slot other
abbrev pub ReleasesAll : CoreView → Snapshot → CoreView → Type 0
ReleasesAll old snapshot new =
    (more : List Request) × IsRising more × (Agrees old snapshot → more ≡ [])
    × (new.released ≡ old.released ++ (old.finished ++ more)) × (new.finished ≡ [])

-- the array has failed: all that aren't released are answered so, from the oldest to the newest, and none waits
abbrev pub FailsAll : CoreView → CoreView → Type 0
FailsAll old new = IsRising new.finished × (new.released ≡ old.released) × (new.waiting ≡ [])

-- an array that has failed stays failed: a shard that has seen it releases nothing more
abbrev pub LooksOn : CoreView → Snapshot → CoreView → Type 0
LooksOn old snapshot new =
    (snapshot.failed ≡ true → FailsAll old new)
    × (snapshot.failed ≡ false → (world_shard old).saw_failed ≡ false → ReleasesAll old snapshot new)
    × (snapshot.failed ≡ false → (world_shard old).saw_failed ≡ true → SameReplies old new)

-- ---- in which order replies are taken

-- the reply that was released first leaves; once the array has failed, those that it answers so come last
abbrev pub TakesFirst : CoreView → (id : ℕ) → Reply → CoreView → Type 0
TakesFirst old id back new =
    (request : Request) × (id ≡ request.id)
    × (((old.released ≡ request ∷ new.released) × (new.finished ≡ old.finished) × (back ≡ reply_to request.op))
    ⊎ ((old.released ≡ []) × (new.released ≡ old.released) × ((world_shard old).saw_failed ≡ true)
    × (old.finished ≡ request ∷ new.finished) × (back ≡ reply.ArrayFailed (buffer_of request.op))))

abbrev pub HasNoReply : CoreView → Type 0
HasNoReply core = (core.released ≡ []) × ((world_shard core).saw_failed ≡ true → core.finished ≡ [])

-- ---- in which order requests start

-- these requests wait in this shard; from it on each has its turn, and those that wait still are what then waits
abbrev pub HaveTurns : CoreView → Shard → List Queued → CoreView → Type 0
HaveTurns old from requests new =
    AllByRecursion (IsWaiting from) requests
    × InTurn (core_layout old) old.shard from requests (world_shard new) new.waiting

-- the request enters, and has its turn after those that waited
abbrev pub HaveTurnsWith : CoreView → Op → (id : ℕ) → CoreView → Type 0
HaveTurnsWith old o id new =
    HaveTurns old (after (core_layout old) (world_shard old) (Accept (op_of o)))
    (old.waiting ++ record { id = id; op = o; erred = false } ∷ []) new

-- all but one frame have what they had
abbrev pub KeepsFrames : Shard → Shard → Type 0
KeepsFrames old new = (frame : ℕ) × ((other : ℕ) → other ≢ frame → new.frame other ≡ old.frame other)

-- these were read directly in the shard and met no read error, with tokens from this one on that don't fall
abbrev pub WereRead : Shard → (from : ℕ) → List Queued → Type 0
WereRead s from [] = Unit {0}
WereRead s from (q ∷ later) =
    (token : ℕ) × (from ≤ token) × (q.erred ≡ false)
    × (s.request q.id ≡ Some (record { op = op_of q.op; stage = Reading token }))
    × WereRead s token later

-- the direct read of the command met a read error, and it alone waits again, to be held
abbrev pub IsSetBack : Shard → (token : ℕ) → List Queued → Type 0
IsSetBack s token again =
    (q : Queued) × (again ≡ q ∷ []) × (q.erred ≡ true)
    × (s.request q.id ≡ Some (record { op = op_of q.op; stage = Reading token }))

-- the direct reads whose commands a completion takes or abandons: of a good one there are none
abbrev pub ReadAgainBy : Result (List ℕ) DeviceFault → Shard → (token : ℕ) → List Queued → Type 0
ReadAgainBy (Ok buffer) s token again = again ≡ []
ReadAgainBy (Err fault) s token again = WereRead s 0 again ⊎ IsSetBack s token again

-- Those that waited have their turns behind the completion of a command, and behind them the direct reads that wait
-- again, in the order of their tokens. A good completion changes one frame
abbrev pub HaveTurnsBehind : CoreView → ℕ → Result (List ℕ) DeviceFault → Receipt → CoreView → Type 0
HaveTurnsBehind old token completion receipt new =
    let l = core_layout old in
    (change : Change)
    × Takes l (world_shard old) token (completion_of completion) (receipt_of receipt) change
    × Allowed l old.shard (world_shard old) change
    × (behind : Shard) × GoOn l old.shard (after l (world_shard old) change) behind
    × IfOk completion (λ _. KeepsFrames (world_shard old) behind)
    × (again : List Queued) × ReadAgainBy completion (world_shard old) token again
    × HaveTurns old behind (old.waiting ++ again) new

-- and so behind a look at an array that hasn't failed: from the shard as it was, if the look found no slot other
abbrev pub HaveTurnsAfter : CoreView → Snapshot → CoreView → Type 0
HaveTurnsAfter old snapshot new =
    let l = core_layout old in
    snapshot.failed ≡ false
    → (mid : Shard) × Through l old.shard (TakesOver snapshot) (world_shard old) mid
    × (behind : Shard) × GoOn l old.shard mid behind
    × (again : List Queued) × WereRead (world_shard old) 0 again
    × (Agrees old snapshot → (behind ≡ world_shard old) × (again ≡ []))
    × HaveTurns old (after l behind Release) (old.waiting ++ again) new
