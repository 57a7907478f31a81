-- The refusals of a core, each with its number and its name, and when a call is refused.
use Rattle.std.specs.Prelude.{◌≡◌, ◌≢◌, ℕ, ◌<◌, ◌≤◌, ◌⊎◌, true, List, [], ◌∷◌, ◌++◌, length, codes, decimal, Some, None}
use Rattle.r6_health.specs.Slots.{is_replacing}
use Rattle.r6_layout.specs.Shape.{blocks}
use Rattle.r6_layout.specs.Layout as layout
use Rattle.r6_world.specs.PlainArray as world
use Rattle.r6_world.specs.Registers.{Snapshot, status_of}
use Rattle.r6_world.specs.ShardStates.{Command, limit, IsFree, IsLive, NotHeld}
use Rattle.r6_world.specs.Changes.{AllInSync}
use Rattle.r6_world.specs.declared.values.Op.{Op}
use Rattle.r6_core.specs.declared.refusal.CoreError.{CoreError}
use Rattle.r6_core.specs.declared.refusal.CoreError.TheVariants.{NoMemory}
use Rattle.r6_core.specs.declared.refusal.Refusal.{Refusal}
use Rattle.r6_core.specs.declared.refusal.Refusal.TheVariants.{NoSuchBlock, WrongShard, WrongLength, Busy, ArrayFailed, Exhausted, UnknownToken, UntoldFirst, NoFrame, NothingToDo, UnknownCall, TwoReplaced}
use Rattle.r6_frames.specs.declared.frames.Scrub.{Scrub}
use Rattle.r6_world.specs.Values.{op_of, buffer_of}
use Rattle.r6_core.specs.Shards.{CoreView, core_layout, turn_row, world_shard}
use Rattle.r6_core.specs.Rebuilds.{NoneToRebuild}

abbrev pub error_number : CoreError → ℕ
error_number NoMemory = 1

abbrev pub number_of : Refusal → ℕ
number_of NoSuchBlock = 1
number_of WrongShard = 2
number_of WrongLength = 3
number_of Busy = 4
number_of ArrayFailed = 5
number_of Exhausted = 6
number_of UnknownToken = 7
number_of UntoldFirst = 8
number_of NoFrame = 9
number_of NothingToDo = 10
number_of UnknownCall = 11
number_of TwoReplaced = 12

abbrev pub name_of : Refusal → List ℕ
name_of NoSuchBlock = codes "NoSuchBlock"
name_of WrongShard = codes "WrongShard"
name_of WrongLength = codes "WrongLength"
name_of Busy = codes "Busy"
name_of ArrayFailed = codes "ArrayFailed"
name_of Exhausted = codes "Exhausted"
name_of UnknownToken = codes "UnknownToken"
name_of UntoldFirst = codes "UntoldFirst"
name_of NoFrame = codes "NoFrame"
name_of NothingToDo = codes "NothingToDo"
name_of UnknownCall = codes "UnknownCall"
name_of TwoReplaced = codes "TwoReplaced"

-- what is printed of a refusal
abbrev pub refused_text : Refusal → List ℕ
refused_text refusal = codes "refused " ++ decimal (number_of refusal) ++ 32 ∷ name_of refusal

-- ---- limits

-- as many accepted requests whose replies were not taken
abbrev pub most_unanswered : ℕ
most_unanswered = 256

-- ---- why a request, a completion or a turn is refused, in this order

-- why a request is refused; the first that holds. From the limit on no tokens and no numbers of requests are given
abbrev pub HasSubmitFault : CoreView → Op → Refusal → Type 0
HasSubmitFault core o NoSuchBlock = blocks core.shape ≤ world.block_of (op_of o)
HasSubmitFault core o WrongShard =
    layout.shard_of core.shape (layout.row_of core.shape (world.block_of (op_of o))) ≢ core.shard
HasSubmitFault core o WrongLength = length (buffer_of o) ≢ core.shape.block
HasSubmitFault core o ArrayFailed = (world_shard core).saw_failed ≡ true
HasSubmitFault core o Exhausted = (limit ≤ (world_shard core).tokens) ⊎ (limit ≤ (world_shard core).accepted)
HasSubmitFault core o Busy = most_unanswered ≤ core.unanswered
-- for no other reason
HasSubmitFault core o _ = ⊥

abbrev pub submit_faults : List Refusal
submit_faults = NoSuchBlock ∷ WrongShard ∷ WrongLength ∷ ArrayFailed ∷ Exhausted ∷ Busy ∷ []

-- a command of this token was taken and isn't answered
abbrev pub IsOut : CoreView → ℕ → Type 0
IsOut core token = (c : Command) × ((world_shard core).command token ≡ Some c) × (c.taken ≡ true)

-- every slot is in sync for the next row of the check or repair
abbrev pub IsTurnWhole : CoreView → Scrub → Type 0
IsTurnWhole core scrub = AllInSync (core_layout core) (world_shard core) (turn_row scrub (world_shard core))

-- and the row is held
abbrev pub IsTurnHeld : CoreView → Scrub → Type 0
IsTurnHeld core scrub =
    IsTurnWhole core scrub × (NotHeld (world_shard core) (turn_row scrub (world_shard core)) → ⊥)

-- why a completion is refused, of a command that is out or not; the first that holds
abbrev pub HasCompletionFault : (out : Type 0) (size : ℕ) → List ℕ → Refusal → Type 0
HasCompletionFault out size block UnknownToken = out → ⊥
HasCompletionFault out size block WrongLength = length block ≢ size
-- for no other reason
HasCompletionFault out size block _ = ⊥

abbrev pub HasDeliverFault : CoreView → ℕ → List ℕ → Refusal → Type 0
HasDeliverFault core token block = HasCompletionFault (IsOut core token) core.shape.block block

abbrev pub deliver_faults : List Refusal
deliver_faults = UnknownToken ∷ WrongLength ∷ []

-- why a turn is refused; the first that holds. A row with a slot out is passed over, held or not
abbrev pub HasTurnFault : CoreView → Scrub → Refusal → Type 0
HasTurnFault core scrub ArrayFailed = (world_shard core).saw_failed ≡ true
HasTurnFault core scrub Exhausted =
    (limit ≤ (world_shard core).tokens) ⊎ (limit ≤ (world_shard core).counts.skipped)
HasTurnFault core scrub NothingToDo = (IsLive (core_layout core) (world_shard core) → ⊥) ⊎ IsTurnHeld core scrub
HasTurnFault core scrub NoFrame =
    IsTurnWhole core scrub × ((frame : ℕ) → IsFree (core_layout core) (world_shard core) frame → ⊥)
-- for no other reason
HasTurnFault core scrub _ = ⊥

-- why a rebuild's turn is refused, the first that holds, with this many rows under way at one time
abbrev pub HasRebuildFault : CoreView → (window : ℕ) → Refusal → Type 0
HasRebuildFault core window ArrayFailed = (world_shard core).saw_failed ≡ true
HasRebuildFault core window Exhausted = limit ≤ (world_shard core).tokens
HasRebuildFault core window NothingToDo =
    (IsLive (core_layout core) (world_shard core) → ⊥) ⊎ NoneToRebuild core window
HasRebuildFault core window NoFrame = (frame : ℕ) → IsFree (core_layout core) (world_shard core) frame → ⊥
-- for no other reason
HasRebuildFault core window _ = ⊥

abbrev pub turn_faults : List Refusal
turn_faults = ArrayFailed ∷ Exhausted ∷ NothingToDo ∷ NoFrame ∷ []

-- the first of these faults that there is
abbrev pub IsFirstFault : (Refusal → Type 0) → List Refusal → Refusal → Type 0
IsFirstFault HasFault [] refusal = ⊥
IsFirstFault HasFault (fault ∷ faults) refusal =
    ((refusal ≡ fault) × HasFault fault) ⊎ ((HasFault fault → ⊥) × IsFirstFault HasFault faults refusal)

-- there is none of them
abbrev pub HasNone : (Refusal → Type 0) → List Refusal → Type 0
HasNone HasFault [] = Unit {0}
HasNone HasFault (fault ∷ faults) = (HasFault fault → ⊥) × HasNone HasFault faults

-- ---- why a look is refused

-- no call is to be made at the register, and the answer of each is told
abbrev pub AllTold : CoreView → Type 0
AllTold core = ((world_shard core).calls ≡ []) × ((world_shard core).untold ≡ None)

-- of so many slots one at most is being replaced
abbrev pub ReplacesOneOf : (slots : ℕ) → Snapshot → Type 0
ReplacesOneOf slots seen =
    (slot other : ℕ) → slot < slots → other < slots
    → is_replacing (status_of seen slot) ≡ true → is_replacing (status_of seen other) ≡ true → slot ≡ other

-- why a look is refused, the first that holds
abbrev pub HasLookFault : CoreView → Snapshot → Refusal → Type 0
HasLookFault core seen UntoldFirst = AllTold core → ⊥
HasLookFault core seen TwoReplaced = ReplacesOneOf core.shape.slots seen → ⊥
-- for no other reason
HasLookFault core seen _ = ⊥

abbrev pub look_faults : List Refusal
look_faults = UntoldFirst ∷ TwoReplaced ∷ []
