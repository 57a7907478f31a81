-- What each call of a handle of one shard does, and each call of the register that all handles have.
use Rattle.std.specs.Prelude.{◌≡◌, ◌≢◌, ℕ, ◌≤◌, ◌<◌, List, [], ◌∷◌, false, Result, Ok, Err, Some}
use Rattle.r6_health.specs.Registers.{starting}
use Rattle.r6_health.specs.declared.call.Answer.{Answer}
use Rattle.r6_health.specs.declared.refusal.Refusal.{Refusal as RegisterRefusal}
use Rattle.r6_layout.specs.Shape.{Shape}
use Rattle.r6_world.specs.Geometries.{layout_of}
use Rattle.r6_world.specs.Registers.{RegisterCall, Told, answer_to, register_after}
use Rattle.r6_world.specs.Steps as steps
use Rattle.r6_world.specs.Steps.{Event}
use Rattle.r6_world.specs.Values.{op_of, world_command, completion_of, receipt_of, reply_of, buffer_in}
use Rattle.r6_world.specs.declared.values.Op.{Op}
use Rattle.r6_world.specs.declared.values.Command.{Command}
use Rattle.r6_world.specs.declared.values.Receipt.{Receipt}
use Rattle.r6_world.specs.declared.values.Reply.{Reply}
use Rattle.r6_world.specs.declared.values.DeviceFault.{DeviceFault}
use Rattle.r6_core.specs.declared.refusal.Refusal.{Refusal}
use Rattle.r6_core.specs.declared.refusal.Refusal.TheVariants.{WrongShard, UntoldFirst, UnknownCall}
use Rattle.r6_core.specs.Shards.{world_shard, call_of}
use Rattle.r6_core.specs.Refusals.{IsOut, HasCompletionFault, deliver_faults, turn_faults, IsFirstFault, AllTold}
use Rattle.r6_core.specs.declared.turn.Task.{Task}
use Rattle.r6_core.specs.declared.turn.Turn.{Turn}
use Rattle.r6_core.specs.Effects.{RefusesOp, HasTaskFault}
use Rattle.r6_core.specs.Order.{HasNoReply}
use Rattle.r6_core.specs.Runs as runs
use Rattle.r6_array.specs.declared.ticket.Ticket.{Ticket}
use Rattle.r6_array.specs.declared.change.Change.{Change}
use Rattle.r6_array.specs.declared.error.ArrayError.{ArrayError}
use Rattle.r6_array.specs.declared.error.ArrayError.TheVariants.{Window, Lost, NoMemory, NoSuchShard, Begun}
use Rattle.r6_array.specs.declared.register.SharedRegister.{SharedRegister}
use Rattle.r6_array.specs.Arrays.{first_of}
use Rattle.r6_array.specs.Members.{TakesIn, PutsOut, AllAreTaken, TakesBack, LooksUp, HandsBack, TakesUp, Agrees, seeing}
use Rattle.r6_array.specs.News.{IsWindow, AreLost}
use Rattle.r6_array.specs.Effects.{one_more, one_less, IsTurnOf}
use Rattle.r6_array.specs.Handles.{HandleView, core_in, number_of}
use Rattle.r6_array.specs.HandleRuns.{GoesOnAway, GoesOnBeside}

-- ---- new

-- a register at which no device was attached yet, and that hasn't failed
abbrev pub IsAtStart : SharedRegister → Type 0
IsAtStart register = (register.snapshot.attaches ≡ 0) × (register.snapshot.failed ≡ false)

abbrev pub HasNoHandleFault : SharedRegister → (n window : ℕ) → Type 0
HasNoHandleFault register n window = IsWindow window × (n < register.geometry.shards) × IsAtStart register

-- why there is no handle; memory may always be refused
abbrev pub HasHandleFault : SharedRegister → (n window : ℕ) → ArrayError → Type 0
HasHandleFault register n window Window = IsWindow window → ⊥
HasHandleFault register n window NoSuchShard = IsWindow window × (register.geometry.shards ≤ n)
HasHandleFault register n window Begun =
    IsWindow window × (n < register.geometry.shards) × (IsAtStart register → ⊥)
HasHandleFault register n window NoMemory = HasNoHandleFault register n window
HasHandleFault register n window error = ⊥

-- ---- requests

-- the core takes the request, whose caller calls it so
pub record HandleTakesIn (old : HandleView) (o : Op) (name : ℕ) (new : HandleView) : Type 0 where
  pub taken : TakesIn old.shard o name new.shard
  pub at_work : new.at_work ≡ old.at_work
  pub run : GoesOnAway old (runs.Call (number_of old) (steps.Submit (op_of o) taken.id) (core_in new) ∷ []) new

-- it comes back, and nothing changes
pub record HandleRefusesRequest (old : HandleView) (o : Op) (refusal : Refusal) (back : Op) (new : HandleView)
    : Type 0 where
  pub same : new ≡ old
  pub refuses : RefusesOp (core_in old) o refusal back (core_in old)

-- ---- commands

-- the oldest of the commands that weren't taken is handed out
pub record HandleHandsOut (old : HandleView) (ticket : Ticket) (c : Command) (new : HandleView) : Type 0 where
  pub shard : ticket.shard ≡ number_of old
  pub taken : PutsOut old.shard c new.shard
  pub slot : ticket.slot ≡ c.slot
  pub token : ticket.token ≡ c.token
  pub at_work : new.at_work ≡ one_more old.at_work c.slot
  pub run : GoesOnAway old
      (runs.Call (number_of old) (steps.Take_command c.token (world_command taken.frame taken.abandoned taken.copy c))
      (core_in new) ∷ [])
      new

-- all were taken
pub record HandleHandsNone (old new : HandleView) : Type 0 where
  pub same : new ≡ old
  pub none : AllAreTaken (core_in old)

-- ---- completions

-- the core takes the completion of the command that the ticket names
pub record HandleTakesBack (old : HandleView) (ticket : Ticket) (completion : Result (List ℕ) DeviceFault)
    (receipt : Receipt) (new : HandleView) : Type 0 where
  pub shard : ticket.shard ≡ number_of old
  pub taken : TakesBack old.shard ticket.token completion receipt new.shard
  pub at_work : new.at_work ≡ one_less old.at_work ticket.slot
  pub run : GoesOnAway old
      (runs.Call (number_of old) (steps.Deliver ticket.token (completion_of completion) (receipt_of receipt)) taken.core
      ∷ seeing (number_of old) taken.sees.change taken.sees.middle (core_in new) ∷ [])
      new

-- of this shard, and out
abbrev pub IsOutHere : HandleView → Ticket → Type 0
IsOutHere h ticket = (ticket.shard ≡ number_of h) × IsOut (core_in h) ticket.token

-- both come back, and nothing changes
pub record HandleRefusesDelivery (old : HandleView) (ticket : Ticket) (completion : Result (List ℕ) DeviceFault)
    (refusal : Refusal) (ticket_back : Ticket) (back : Result (List ℕ) DeviceFault) (new : HandleView) : Type 0 where
  pub same : new ≡ old
  pub ticket_is : ticket_back ≡ ticket
  pub back_is : back ≡ completion
  pub fault : IsFirstFault
      (HasCompletionFault (IsOutHere old ticket) (core_in old).shape.block (buffer_in completion))
      deliver_faults refusal

-- ---- changes

-- no change is asked for
abbrev pub AsksForNone : HandleView → Type 0
AsksForNone h = (world_shard (core_in h)).calls ≡ []

-- the next call of the core
abbrev pub AsksFor : HandleView → Change → Type 0
AsksFor h change =
    (change.shard ≡ number_of h) × (first_of (world_shard (core_in h)).calls ≡ Some (call_of change.call))

-- the change is made at the register, and the core told the answer, in one
pub record HandleAgrees (old : HandleView) (register : SharedRegister) (change : Change) (answer : Told)
    (new : HandleView) (register' : SharedRegister) : Type 0 where
  pub next : AsksFor old change
  pub shape : register'.geometry ≡ register.geometry
  pub agreed : Agrees register.geometry (number_of old) old.shard register.snapshot change.call answer register'.snapshot
      new.shard
  pub at_work : new.at_work ≡ old.at_work
  pub run : GoesOnBeside old register.snapshot
      (runs.Tell (number_of old) (call_of change.call) answer agreed.middle agreed.core
      ∷ seeing (number_of old) agreed.sees.change agreed.sees.middle (core_in new) ∷ [])
      new register'.snapshot

-- why a change is refused: the register is of an array of another shape, or the shard asks for none or another
abbrev pub HasChangeFault : HandleView → SharedRegister → Change → Refusal → Type 0
HasChangeFault h register change WrongShard = register.geometry ≢ (core_in h).shape
HasChangeFault h register change UnknownCall = AsksFor h change → ⊥
HasChangeFault h register change refusal = ⊥

-- nothing changes
pub record HandleRefusesChange (old : HandleView) (register : SharedRegister) (change : Change) (refusal : Refusal)
    (new : HandleView) (register' : SharedRegister) : Type 0 where
  pub same : new ≡ old
  pub register_same : register' ≡ register
  pub fault : IsFirstFault (HasChangeFault old register change) (WrongShard ∷ UnknownCall ∷ []) refusal

-- ---- looks

-- the core looks at the register as it is
pub record HandleLooks (old : HandleView) (register : SharedRegister) (new : HandleView) : Type 0 where
  pub looks : LooksUp old.shard register.snapshot new.shard
  pub at_work : new.at_work ≡ old.at_work
  pub run : GoesOnBeside old register.snapshot
      (runs.Call (number_of old) (steps.Look register.snapshot) looks.core
      ∷ seeing (number_of old) looks.sees.change looks.sees.middle (core_in new) ∷ [])
      new register.snapshot

-- why a look is refused: the register is of an array of another shape, or the shard asks for a change
abbrev pub HasLookFault : HandleView → SharedRegister → Refusal → Type 0
HasLookFault h register WrongShard = register.geometry ≢ (core_in h).shape
HasLookFault h register UntoldFirst = AllTold (core_in h) → ⊥
HasLookFault h register refusal = ⊥

-- nothing changes
pub record HandleRefusesLook (old : HandleView) (register : SharedRegister) (refusal : Refusal) (new : HandleView)
    : Type 0 where
  pub same : new ≡ old
  pub fault : IsFirstFault (HasLookFault old register) (WrongShard ∷ UntoldFirst ∷ []) refusal

-- ---- replies

-- The reply that was released first leaves a shard that asks for no change, with what its caller calls its request
pub record HandleHandsReply (old : HandleView) (name : ℕ) (reply : Reply) (new : HandleView) : Type 0 where
  pub told : AsksForNone old
  pub taken : HandsBack old.shard name reply new.shard
  pub at_work : new.at_work ≡ old.at_work
  pub run : GoesOnAway old (runs.Call (number_of old) (steps.Take_reply taken.id (reply_of reply)) (core_in new) ∷ [])
      new

-- a change is asked for, or none is released
pub record HandleHandsNoReply (old new : HandleView) : Type 0 where
  pub same : new ≡ old
  pub none : AsksForNone old → HasNoReply (core_in old)

-- ---- turns

-- the next row of a task is taken up, or passed over
pub record HandleTurns (old : HandleView) (t : Task) (turn : Turn) (new : HandleView) : Type 0 where
  pub taken : TakesUp old.shard t turn new.shard
  pub at_work : new.at_work ≡ old.at_work
  pub event : Event
  pub is_turn : IsTurnOf t turn event
  pub run : GoesOnAway old (runs.Call (number_of old) event (core_in new) ∷ []) new

-- nothing changes
pub record HandleRefusesTurn (old : HandleView) (t : Task) (refusal : Refusal) (new : HandleView) : Type 0 where
  pub same : new ≡ old
  pub fault : IsFirstFault (HasTaskFault (core_in old) t) turn_faults refusal

-- ---- the register

-- with these slots lost
pub record IsNewRegister (shape : Shape) (lost : ℕ) (register : SharedRegister) : Type 0 where
  pub shape_is : register.geometry ≡ shape
  pub holds : register.snapshot ≡ starting lost

-- why there is none
abbrev pub HasRegisterFault : Shape → (lost : ℕ) → ArrayError → Type 0
HasRegisterFault shape lost Lost = AreLost shape lost → ⊥
HasRegisterFault shape lost error = ⊥

-- A call comes from outside, which the register takes. Beside each shard of the array it is such a happening
pub record RegisterTakes (old : SharedRegister) (call : RegisterCall) (answer : Answer) (new : SharedRegister)
    : Type 0 where
  pub answer_is : answer_to (layout_of old.geometry) old.snapshot call ≡ Ok answer
  pub shape : new.geometry ≡ old.geometry
  pub holds : new.snapshot ≡ register_after (layout_of old.geometry) old.snapshot call (Ok answer)
  pub run : (h : HandleView) → (core_in h).shape ≡ old.geometry
      → GoesOnBeside h old.snapshot (runs.Outside call ∷ []) h new.snapshot

-- it is refused, and nothing changes
pub record RegisterRefuses (old : SharedRegister) (call : RegisterCall) (refusal : RegisterRefusal) (new : SharedRegister)
    : Type 0 where
  pub same : new ≡ old
  pub refusal_is : answer_to (layout_of old.geometry) old.snapshot call ≡ Err refusal
