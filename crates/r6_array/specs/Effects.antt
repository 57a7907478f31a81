-- What each call of an array does.
use Rattle.std.specs.Prelude.{◌≡◌, ℕ, suc, length, ◌+◌, ◌-◌, ◌≤◌, ◌<◌, ◌⊎◌, Bool, true, false, List, [], ◌∷◌, ◌++◌, map, min, slice_index, slice_set, Option, Some, None, Result, Ok, Err}
use Rattle.std.specs.List.{AllByRecursion}
use Rattle.r6_health.specs.declared.call.Answer.{Answer}
use Rattle.r6_health.specs.declared.refusal.Refusal.{Refusal as RegisterRefusal}
use Rattle.r6_layout.specs.Shape.{Shape, blocks}
use Rattle.r6_layout.specs.Layout as layout
use Rattle.r6_world.specs.PlainArray as world
use Rattle.r6_world.specs.Geometries.{layout_of}
use Rattle.r6_world.specs.Registers.{Snapshot, RegisterCall, Told, Contended, answer_to, register_after}
use Rattle.r6_world.specs.ShardStates as shards
use Rattle.r6_world.specs.Steps as steps
use Rattle.r6_world.specs.Steps.{Event}
use Rattle.r6_world.specs.Tasks as tasks
use Rattle.r6_world.specs.Worlds.{as_made}
use Rattle.r6_world.specs.Values.{op_of, world_command, completion_of, receipt_of, reply_of, buffer_in}
use Rattle.r6_world.specs.declared.values.Op.{Op}
use Rattle.r6_world.specs.declared.values.Command.{Command}
use Rattle.r6_world.specs.declared.values.Receipt.{Receipt}
use Rattle.r6_world.specs.declared.values.Reply.{Reply}
use Rattle.r6_world.specs.declared.values.DeviceFault.{DeviceFault}
use Rattle.r6_core.specs.declared.call.Call.{Call}
use Rattle.r6_core.specs.declared.refusal.Refusal.{Refusal}
use Rattle.r6_core.specs.declared.refusal.Refusal.TheVariants.{NoSuchBlock, WrongShard, WrongLength, Busy, ArrayFailed, Exhausted, UnknownCall}
use Rattle.r6_core.specs.Shards.{CoreView, Step, world_shard, call_of}
use Rattle.r6_core.specs.Refusals.{HasSubmitFault, IsOut, HasCompletionFault, deliver_faults, turn_faults, IsFirstFault, AllTold}
use Rattle.r6_core.specs.declared.turn.Task.{Task}
use Rattle.r6_core.specs.declared.turn.Task.TheVariants as task
use Rattle.r6_core.specs.declared.turn.Turn.{Turn}
use Rattle.r6_core.specs.declared.turn.Turn.TheVariants.{Started, Skipped}
use Rattle.r6_core.specs.Effects.{HasTaskFault}
use Rattle.r6_core.specs.Order.{HasNoReply}
use Rattle.r6_core.specs.Runs as runs
use Rattle.r6_core.specs.Runs.{Happening}
use Rattle.r6_array.specs.declared.ticket.Ticket.{Ticket}
use Rattle.r6_array.specs.declared.change.Change.{Change}
use Rattle.r6_array.specs.Arrays.{ShardView, ArrayView, Has, with_shard, first_of}
use Rattle.r6_array.specs.Members.{TakesIn, PutsOut, AllAreTaken, TakesBack, LooksUp, HasLooked, HandsBack, TakesUp, Agrees, seeing, unsettled}
use Rattle.r6_array.specs.Runs.{GoesOn}

-- ---- submit

-- the shard that has the block's row
abbrev pub shard_of_block : Shape → ℕ → ℕ
shard_of_block shape block = layout.shard_of shape (layout.row_of shape block)

abbrev pub block_asked : Op → ℕ
block_asked o = world.block_of (op_of o)

-- the core of the block's shard takes the request, whose caller calls it so
pub record Submits (old : ArrayView) (o : Op) (name : ℕ) (new : ArrayView) : Type 0 where
  pub was : ShardView
  pub there : Has old (shard_of_block old.shape (block_asked o)) was
  pub now : ShardView
  pub taken : TakesIn was o name now
  pub new_is : new ≡ with_shard old (shard_of_block old.shape (block_asked o)) now
  pub run : GoesOn old
      (runs.Call (shard_of_block old.shape (block_asked o)) (steps.Submit (op_of o) taken.id) now.core ∷ []) new

-- why a request is refused; the first that holds. All but the first are those of the core of its shard
abbrev pub HasRequestFault : ArrayView → Op → Refusal → Type 0
HasRequestFault a o NoSuchBlock = blocks a.shape ≤ block_asked o
HasRequestFault a o refusal =
    (s : ShardView) × Has a (shard_of_block a.shape (block_asked o)) s × HasSubmitFault s.core o refusal

abbrev pub request_faults : List Refusal
request_faults = NoSuchBlock ∷ WrongLength ∷ ArrayFailed ∷ Exhausted ∷ Busy ∷ []

-- it comes back, and nothing changes
pub record RefusesRequest (old : ArrayView) (o : Op) (refusal : Refusal) (back : Op) (new : ArrayView) : Type 0 where
  pub same : new ≡ old
  pub back_is : back ≡ o
  pub fault : IsFirstFault (HasRequestFault old o) request_faults refusal

-- ---- commands

-- one command more at work at a slot, up to what is counted
abbrev pub one_more : List ℕ → ℕ → List ℕ
one_more at_work slot = slice_set at_work slot (min (slice_index at_work slot + 1) 18446744073709551615)

-- a shard hands out the oldest of its commands that weren't taken
pub record HandsOutOf (old : ArrayView) (n : ℕ) (ticket : Ticket) (c : Command) (new : ArrayView) : Type 0 where
  pub shard : ticket.shard ≡ n
  pub was : ShardView
  pub there : Has old n was
  pub now : ShardView
  pub taken : PutsOut was c now
  pub slot : ticket.slot ≡ c.slot
  pub token : ticket.token ≡ c.token
  pub new_is : new ≡ record (with_shard old n now) { at_work = one_more old.at_work c.slot }
  pub run : GoesOn old
      (runs.Call n (steps.Take_command c.token (world_command taken.frame taken.abandoned taken.copy c)) now.core ∷ []) new

-- its commands were all taken
pub record HandsNoneOf (old : ArrayView) (n : ℕ) (new : ArrayView) : Type 0 where
  pub same : new ≡ old
  pub none : (s : ShardView) → Has old n s → AllAreTaken s.core

-- the lowest shard that has one hands a command out
pub record HandsOut (old : ArrayView) (ticket : Ticket) (c : Command) (new : ArrayView) : Type 0 where
  pub hands : HandsOutOf old ticket.shard ticket c new
  pub lower : (n : ℕ) (s : ShardView) → n < ticket.shard → Has old n s → AllAreTaken s.core

-- every core's commands were taken
pub record HandsNone (old new : ArrayView) : Type 0 where
  pub same : new ≡ old
  pub none : (n : ℕ) (s : ShardView) → Has old n s → AllAreTaken s.core

-- ---- completions

-- one command less at work at a slot
abbrev pub one_less : List ℕ → ℕ → List ℕ
one_less at_work slot = slice_set at_work slot (slice_index at_work slot - 1)

-- the core of its shard takes the completion of the command that the ticket names
pub record Delivers (old : ArrayView) (ticket : Ticket) (completion : Result (List ℕ) DeviceFault) (receipt : Receipt)
    (new : ArrayView) : Type 0 where
  pub was : ShardView
  pub there : Has old ticket.shard was
  pub now : ShardView
  pub taken : TakesBack was ticket.token completion receipt now
  pub new_is : new ≡ record (with_shard old ticket.shard now) { at_work = one_less old.at_work ticket.slot }
  pub run : GoesOn old
      (runs.Call ticket.shard (steps.Deliver ticket.token (completion_of completion) (receipt_of receipt)) taken.core
      ∷ seeing ticket.shard taken.sees.change taken.sees.middle now.core ∷ [])
      new

abbrev pub IsOutIn : ArrayView → Ticket → Type 0
IsOutIn a ticket = (s : ShardView) × Has a ticket.shard s × IsOut s.core ticket.token

-- both come back, and nothing changes
pub record RefusesDelivery (old : ArrayView) (ticket : Ticket) (completion : Result (List ℕ) DeviceFault)
    (refusal : Refusal) (ticket_back : Ticket) (back : Result (List ℕ) DeviceFault) (new : ArrayView) : Type 0 where
  pub same : new ≡ old
  pub ticket_is : ticket_back ≡ ticket
  pub back_is : back ≡ completion
  pub fault : IsFirstFault (HasCompletionFault (IsOutIn old ticket) old.shape.block (buffer_in completion))
      deliver_faults refusal

-- ---- replies

-- a core looks at the register, or has its next call seen
abbrev pub IsLook : Snapshot → Happening → Type 0
IsLook register (runs.Call n (steps.Look seen) new) = seen ≡ register
IsLook register (runs.Call n steps.No_call new) = Unit {0}
IsLook register (runs.Tell n call (Err Contended) middle new) = Unit {0}
IsLook register happening = ⊥

-- A shard looks at the register, if it has to and can: whether it is settled
pub record LooksOf (old : ArrayView) (n : ℕ) (settled : Bool) (new : ArrayView) : Type 0 where
  pub was : ShardView
  pub there : Has old n was
  pub now : ShardView
  pub looked : HasLooked old.register was now
  pub settled_is : settled ≡ now.settled
  pub told : settled ≡ true → AllTold was.core
  pub untold : settled ≡ false → AllTold now.core → ⊥
  pub new_is : new ≡ with_shard old n now
  pub looks : List Happening
  pub are_looks : AllByRecursion (IsLook old.register) looks
  pub run : GoesOn old looks new

-- it has no reply: it asks for a change first, or none is released
pub record HandsNoReplyOf (old : ArrayView) (n : ℕ) (new : ArrayView) : Type 0 where
  pub settled : Bool
  pub looks : LooksOf old n settled new
  pub none : settled ≡ true → HasNoReply looks.now.core

-- The reply that was released first leaves a shard that has looked, if it had to, and asks for no change; with what its
-- caller calls its request
pub record HandsReplyOf (old : ArrayView) (n : ℕ) (name : ℕ) (reply : Reply) (new : ArrayView) : Type 0 where
  pub mid : ArrayView
  pub looks : LooksOf old n true mid
  pub now : ShardView
  pub taken : HandsBack looks.now name reply now
  pub new_is : new ≡ with_shard mid n now
  pub run : GoesOn old (looks.looks ++ runs.Call n (steps.Take_reply taken.id (reply_of reply)) now.core ∷ []) new

-- shards below this number look one after another, and none of them has a reply
pub data PassesOver : ArrayView → ℕ → ArrayView → Type 0 where
  No_shard : (a : ArrayView) → PassesOver a 0 a
  One_more : (a b c : ArrayView) (n : ℕ) → PassesOver a n b → HandsNoReplyOf b n c → PassesOver a (suc n) c

-- these are all looks of one run
pub record LooksOfAll (old : ArrayView) (looks : List Happening) (new : ArrayView) : Type 0 where
  pub are_looks : AllByRecursion (IsLook old.register) looks
  pub run : GoesOn old looks new

-- of the lowest shard that has one, a reply leaves: looks first, and then the reply is taken, as one run
pub record HandsReply (old : ArrayView) (name : ℕ) (reply : Reply) (new : ArrayView) : Type 0 where
  pub shard : ℕ
  pub mid : ArrayView
  pub passes : PassesOver old shard mid
  pub hands : HandsReplyOf mid shard name reply new
  pub looks : List Happening
  pub looked : LooksOfAll old looks hands.mid
  pub run : GoesOn old (looks ++ runs.Call shard (steps.Take_reply hands.taken.id (reply_of reply)) hands.now.core ∷ []) new

-- none has one, and all that happened are looks of one run
pub record HandsNoReply (old new : ArrayView) : Type 0 where
  pub passes : PassesOver old (length old.shards) new
  pub looks : List Happening
  pub looked : LooksOfAll old looks new

-- ---- changes

-- the next call of the core of a shard
abbrev pub IsNextChange : ArrayView → Change → Type 0
IsNextChange a change =
    (s : ShardView) × Has a change.shard s × (first_of (world_shard s.core).calls ≡ Some (call_of change.call))

-- the change that the lowest shard asks for that asks for one
pub record AsksFirst (a : ArrayView) (change : Change) : Type 0 where
  pub next : IsNextChange a change
  pub lower : (n : ℕ) (s : ShardView) → n < change.shard → Has a n s → (world_shard s.core).calls ≡ []

-- no shard asks for one
abbrev pub NoneAsks : ArrayView → Type 0
NoneAsks a = (n : ℕ) (s : ShardView) → Has a n s → (world_shard s.core).calls ≡ []

-- once the register has taken a call, no shard is settled
abbrev pub all_unsettled : ArrayView → ArrayView
all_unsettled a = record a { shards = map unsettled a.shards }

abbrev pub after_answer : ArrayView → Told → ArrayView
after_answer a (Ok answer) = all_unsettled a
after_answer a (Err refusal) = a

-- a shard is settled no more
pub record UnsettlesOne (old : ArrayView) (n : ℕ) (new : ArrayView) : Type 0 where
  pub was : ShardView
  pub there : Has old n was
  pub new_is : new ≡ with_shard old n (unsettled was)

-- the change is made at the register, and its core told the answer, in one
pub record AgreesTo (old : ArrayView) (change : Change) (answer : Told) (new : ArrayView) : Type 0 where
  pub next : IsNextChange old change
  pub now : ShardView
  pub register : Snapshot
  pub agreed : Agrees old.shape change.shard next.0 old.register change.call answer register now
  pub new_is : new ≡ after_answer (record (with_shard old change.shard now) { register = register }) answer
  pub run : GoesOn old
      (runs.Tell change.shard (call_of change.call) answer agreed.middle agreed.core
      ∷ seeing change.shard agreed.sees.change agreed.sees.middle now.core ∷ [])
      new

-- it isn't the one that its shard asks for: nothing changes
pub record RefusesChange (old : ArrayView) (change : Change) (refusal : Refusal) (new : ArrayView) : Type 0 where
  pub same : new ≡ old
  pub refusal_is : refusal ≡ UnknownCall
  pub another : IsNextChange old change → ⊥

-- a call comes at the register from outside, which takes it
pub record ComesFromOutside (old : ArrayView) (call : RegisterCall) (answer : Answer) (new : ArrayView) : Type 0 where
  pub answer_is : answer_to (layout_of old.shape) old.register call ≡ Ok answer
  pub new_is : new
      ≡ all_unsettled (record old { register = register_after (layout_of old.shape) old.register call (Ok answer) })
  pub run : GoesOn old (runs.Outside call ∷ []) new

-- the register refuses it, and nothing changes
pub record RefusedByRegister (old : ArrayView) (call : RegisterCall) (refusal : RegisterRefusal) (new : ArrayView)
    : Type 0 where
  pub same : new ≡ old
  pub refusal_is : answer_to (layout_of old.shape) old.register call ≡ Err refusal

-- ---- turns

-- a turn that was taken, as an event of the shard
abbrev pub IsTurnOf : Task → Turn → Event → Type 0
IsTurnOf task.Rebuild turn (steps.Turn_started (tasks.Rebuild slot generation)) = Unit {0}
IsTurnOf task.Check Started event = event ≡ steps.Turn_started tasks.Check
IsTurnOf task.Repair Started event = event ≡ steps.Turn_started tasks.Repair
IsTurnOf task.Check Skipped (steps.Turn_skipped tasks.Check row) = Unit {0}
IsTurnOf task.Repair Skipped (steps.Turn_skipped tasks.Repair row) = Unit {0}
IsTurnOf t turn event = ⊥

-- a shard takes the next row of a task up, or passes it over
pub record TurnsIn (old : ArrayView) (n : ℕ) (t : Task) (turn : Turn) (new : ArrayView) : Type 0 where
  pub was : ShardView
  pub there : Has old n was
  pub now : ShardView
  pub taken : TakesUp was t turn now
  pub new_is : new ≡ with_shard old n now
  pub event : Event
  pub is_turn : IsTurnOf t turn event
  pub run : GoesOn old (runs.Call n event now.core ∷ []) new

-- why a turn is refused: there is no such shard, or its core refuses it
pub record RefusesTurnIn (old : ArrayView) (n : ℕ) (t : Task) (refusal : Refusal) (new : ArrayView) : Type 0 where
  pub same : new ≡ old
  pub fault : ((refusal ≡ WrongShard) × ((s : ShardView) → Has old n s → ⊥))
      ⊎ ((s : ShardView) × Has old n s × IsFirstFault (HasTaskFault s.core t) turn_faults refusal)
