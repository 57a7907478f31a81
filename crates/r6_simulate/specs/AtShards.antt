-- What an event does at a shard of an array in memory: which call of its core was made, and what came of it. This is
-- the project's own.
use Rattle.std.specs.Prelude.{◌≡◌, ◌≢◌, ℕ, not, ◌++◌, ◌⊎◌, Bool, true, false, List, [], ◌∷◌, map, nat_eq, replicate, Option, Some, None, Result, Ok, Err}
use Rattle.std.specs.Map.{update_all}
use Rattle.indexmap.specs.IndexMap.{get, IsUnchanged, Updates}
use Rattle.r6_core.specs.Effects.{Accepts, RefusesOp, Receives, RefusesCompletion, LooksAt, RefusesLook, Turns, RefusesTurn, HandsCommand, HandsCall, Hears, RefusesAnswer, HandsReply, HandsNoReply}
use Rattle.r6_core.specs.Shards.{CoreView, Step, call_of}
use Rattle.r6_core.specs.declared.call.Call.{Call as RegisterCall}
use Rattle.r6_world.specs.declared.values.OpId.{OpId}
use Rattle.r6_world.specs.declared.values.Reply.{Reply}
use Rattle.r6_health.specs.Histories.{held}
use Rattle.r6_health.specs.Passes.{view_of, Tells as TellsPass}
use Rattle.r6_health.specs.Views.{Looks as LooksPass}
use Rattle.r6_health.specs.declared.snapshot.Snapshot.{Snapshot}
use Rattle.r6_world.specs.Registers.{Told as Answer}
use Rattle.r6_world.specs.Steps.{No_call, No_command}
use Rattle.r6_world.specs.Worlds.{as_made}
use Rattle.r6_core.specs.declared.Command.{Command}
use Rattle.r6_core.specs.declared.CommandKind.{CommandKind}
use Rattle.r6_core.specs.declared.CommandKind.TheVariants as kind
use Rattle.r6_core.specs.declared.Op.{Op}
use Rattle.r6_world.specs.declared.values.DeviceFault.{DeviceFault}
use Rattle.r6_world.specs.declared.values.FaultKind.{FaultKind}
use Rattle.r6_world.specs.declared.values.FaultKind.TheVariants.{ReadFault, WriteFault, Gone}
use Rattle.r6_core.specs.declared.turn.Task.{Task as CoreTask}
use Rattle.r6_core.specs.declared.turn.Task.TheVariants as core
use Rattle.r6_script.specs.declared.script.Task.{Task}
use Rattle.r6_script.specs.declared.script.Task.TheVariants as task
use Rattle.r6_script.specs.declared.script.Call.{Call}
use Rattle.r6_script.specs.declared.script.Call.TheVariants as call
use Rattle.r6_script.specs.declared.script.Completion.{Completion}
use Rattle.r6_script.specs.declared.script.Completion.TheVariants as completion
use Rattle.r6_simulate.specs.declared.lines.EventOutcome.{EventOutcome}
use Rattle.r6_simulate.specs.declared.lines.EventOutcome.TheVariants.{Accepted, Performed, PerformedAlready, NoSuchCommand, NotPerformed, Received, Looked, Turned, Refused, Told, Nothing}
use Rattle.r6_simulate.specs.declared.devices.Blocks.{Blocks}
use Rattle.r6_simulate.specs.declared.devices.Devices.{Devices}
use Rattle.r6_simulate.specs.declared.register.OwnRegister.{OwnRegister}
use Rattle.r6_simulate.specs.declared.shard.InFlight.{InFlight}
use Rattle.r6_simulate.specs.declared.shard.Shard.{Shard}
use Rattle.r6_simulate.specs.Devices.{KeepsDevices, LacksDevice, PerformsOn}
use Rattle.r6_simulate.specs.Lines.{outcome_text, replies_text, commands_text}

-- the command of a token, if it is in flight
abbrev pub in_flight_of : Shard → (token : ℕ) → Option InFlight
in_flight_of shard token = get nat_eq shard.in_flight token

-- from then on it is in flight so, or no more, and the commands of other tokens as they were
abbrev pub Puts : Shard → (token : ℕ) → Option InFlight → Shard → Type 0
Puts old token f new = Updates nat_eq old.in_flight new.in_flight token f

-- a shard stays the one that it is, and its rebuilds hold as many rows at one time
abbrev pub KeepsPlace : Shard → Shard → Type 0
KeepsPlace old new = (new.number ≡ old.number) × (new.core.window ≡ old.core.window)

-- what is in flight stays so
abbrev pub KeepsFlight : Shard → Shard → Type 0
KeepsFlight old new = KeepsPlace old new × IsUnchanged old.in_flight new.in_flight

-- and its core too
abbrev pub IsSame : Shard → Shard → Type 0
IsSame old new = (new.core ≡ old.core) × KeepsFlight old new

-- ---- requests and completions

-- the core takes a request, or refuses it
abbrev pub SubmitsTo : CoreView → (number : ℕ) → Op → EventOutcome → CoreView → Type 0
SubmitsTo old number op (Accepted shard id) new = (shard ≡ number) × Accepts old op id.0 new
SubmitsTo old number op (Refused refusal) new = (back : Op) × RefusesOp old op refusal back new
SubmitsTo old number op _ new = ⊥

pub record Submits (op : Op) (old : Shard) (outcome : EventOutcome) (new : Shard) : Type 0 where
  pub core : SubmitsTo old.core old.number op outcome new.core
  pub kept : KeepsFlight old new

-- the core takes a completion, or refuses it
abbrev pub DeliversTo : CoreView → (token : ℕ) → Result (List ℕ) DeviceFault → EventOutcome → CoreView → Type 0
DeliversTo old token done (Received receipt) new = Receives old token done receipt new
DeliversTo old token done (Refused refusal) new =
    (back : Result (List ℕ) DeviceFault) × RefusesCompletion old token done refusal back new
DeliversTo old token done _ new = ⊥

pub record Delivers (token : ℕ) (done : Result (List ℕ) DeviceFault) (old : Shard) (outcome : EventOutcome)
    (new : Shard) : Type 0 where
  pub core : DeliversTo old.core token done outcome new.core
  pub kept : KeepsFlight old new

-- how the device of a command fails
abbrev pub fault_of : CommandKind → FaultKind
fault_of kind.Read = ReadFault
fault_of kind.Write = WriteFault

-- the command of a token is in flight no more. Its buffer goes back, with the fault of its device, should it have
-- failed; for a token that no command in flight has a block of zeros goes back
abbrev pub TakesBackOf : Blocks → (token : ℕ) → Option InFlight → Shard → DeviceFault → Shard → Type 0
TakesBackOf blocks token None old fault new =
    (fault.kind ≡ ReadFault) × (fault.buffer ≡ replicate blocks.len 0) × IsUnchanged old.in_flight new.in_flight
TakesBackOf blocks token (Some f) old fault new =
    (fault.kind ≡ fault_of f.command.kind) × (fault.buffer ≡ f.command.buffer) × Puts old token None new

pub record TakesBack (blocks : Blocks) (token : ℕ) (old : Shard) (fault : DeviceFault) (new : Shard) : Type 0 where
  pub flight : TakesBackOf blocks token (in_flight_of old token) old fault new
  pub number : new.number ≡ old.number
  pub core : new.core ≡ old.core

-- a command is in flight no more, and its completion is delivered
pub record Completes (blocks : Blocks) (token : ℕ) (completion_by : DeviceFault → Result (List ℕ) DeviceFault)
    (old : Shard) (outcome : EventOutcome) (new : Shard) : Type 0 where
  pub fault : DeviceFault
  pub middle : Shard
  pub taken : TakesBack blocks token old fault middle
  pub delivered : Delivers token (completion_by fault) middle outcome new

-- a good completion brings the buffer
abbrev pub good : DeviceFault → Result (List ℕ) DeviceFault
good fault = Ok fault.buffer

-- a device that is gone says so of every command
abbrev pub gone : DeviceFault → Result (List ℕ) DeviceFault
gone fault = Err (record { kind = Gone; buffer = fault.buffer })

-- a command is in flight, and its device has yet to perform it
abbrev pub is_unperformed : Option InFlight → Bool
is_unperformed None = false
is_unperformed (Some f) = not f.performed

-- a good completion is delivered, but of a command that is yet to be performed
abbrev pub AnswersGood : Blocks → (token : ℕ) → Shard → EventOutcome → Shard → Type 0
AnswersGood blocks token old outcome new =
    ((is_unperformed (in_flight_of old token) ≡ true) × (outcome ≡ NotPerformed) × (new ≡ old))
    ⊎ ((is_unperformed (in_flight_of old token) ≡ false) × Completes blocks token good old outcome new)

abbrev pub AnswersWith : Blocks → (token : ℕ) → Completion → Shard → EventOutcome → Shard → Type 0
AnswersWith blocks token completion.Good old outcome new = AnswersGood blocks token old outcome new
AnswersWith blocks token completion.Error old outcome new = Completes blocks token Err old outcome new
AnswersWith blocks token completion.Gone old outcome new = Completes blocks token gone old outcome new

-- ---- devices

-- the device of a command in flight performs it, once, if there is one that serves it
abbrev pub PerformsOf : (token : ℕ) → Option InFlight → Shard → Devices → EventOutcome → Shard → Devices → Type 0
PerformsOf token None old devices NoSuchCommand new devices' = IsSame old new × (devices' ≡ devices)
PerformsOf token (Some f) old devices PerformedAlready new devices' =
    (f.performed ≡ true) × IsSame old new × (devices' ≡ devices)
PerformsOf token (Some f) old devices Performed new devices' =
    (f.performed ≡ false) × (done : Command) × PerformsOn devices f.command devices' done
    × Puts old token (Some (record { command = done; performed = true })) new
    × (new.number ≡ old.number) × (new.core ≡ old.core)
PerformsOf token (Some f) old devices NotPerformed new devices' =
    (f.performed ≡ false) × LacksDevice devices f.command × IsSame old new × KeepsDevices devices devices'
PerformsOf token f old devices outcome new devices' = ⊥

abbrev pub Performs : (token : ℕ) → Shard → Devices → EventOutcome → Shard → Devices → Type 0
Performs token old devices outcome new devices' =
    PerformsOf token (in_flight_of old token) old devices outcome new devices'

-- the device performs a command, and then its good completion is delivered
abbrev pub Does : Blocks → (token : ℕ) → Shard → Devices → EventOutcome → Shard → Devices → Type 0
Does blocks token old devices outcome new devices' =
    ((middle : Shard) × Performs token old devices Performed middle devices'
    × AnswersGood blocks token middle outcome new)
    ⊎ ((outcome ≢ Performed) × Performs token old devices outcome new devices')

-- ---- the register

-- what the register holds, as its one pass has seen it
abbrev pub held_by : OwnRegister → Snapshot
held_by register = held (view_of register.pass).start (view_of register.pass).seen

-- the core's next call is made at the register, and it hears the answer
abbrev pub TellsOf : Shard → OwnRegister → EventOutcome → CoreView → OwnRegister → Type 0
TellsOf old register (Told made answered) new register' =
    (middle : CoreView) × HandsCall old.core made.0 middle
    × TellsPass register.pass (as_made old.number (call_of made.0)) answered.0 register'.pass
    × Hears middle made.0 answered.0 new
TellsOf old register Nothing new register' = Step old.core No_call new × (register' ≡ register)
TellsOf old register (Refused refusal) new register' =
    (made : RegisterCall) × (answer : Answer) × (middle : CoreView) × HandsCall old.core made middle
    × TellsPass register.pass (as_made old.number (call_of made)) answer register'.pass
    × RefusesAnswer middle made refusal new
TellsOf old register _ new register' = ⊥

pub record Tells (old : Shard) (register : OwnRegister) (outcome : EventOutcome) (new : Shard) (register' : OwnRegister)
    : Type 0 where
  pub core : TellsOf old register outcome new.core register'
  pub kept : KeepsFlight old new

-- the core looks at the register as it is
abbrev pub LooksAs : CoreView → Snapshot → EventOutcome → CoreView → Type 0
LooksAs old seen Looked new = LooksAt old seen new
LooksAs old seen (Refused refusal) new = RefusesLook old seen refusal new
LooksAs old seen _ new = ⊥

pub record Looks (old : Shard) (register : OwnRegister) (outcome : EventOutcome) (new : Shard) (register' : OwnRegister)
    : Type 0 where
  pub read : LooksPass (view_of register.pass) (view_of register'.pass)
  pub core : LooksAs old.core (held_by register') outcome new.core
  pub kept : KeepsFlight old new

-- ---- turns

abbrev pub core_task : Task → CoreTask
core_task task.Rebuild = core.Rebuild
core_task task.Check = core.Check
core_task task.Repair = core.Repair

-- the core takes up its next row, or passes it over, or refuses
abbrev pub TurnsTo : CoreView → CoreTask → EventOutcome → CoreView → Type 0
TurnsTo old task (Turned turn) new = Turns old task turn new
TurnsTo old task (Refused refusal) new = RefusesTurn old task refusal new
TurnsTo old task _ new = ⊥

pub record TakesTurn (task : Task) (old : Shard) (outcome : EventOutcome) (new : Shard) : Type 0 where
  pub core : TurnsTo old.core (core_task task) outcome new.core
  pub kept : KeepsFlight old new

-- a call of the script
abbrev pub Makes : Call → Blocks → (old : Shard) (register : OwnRegister) (devices : Devices) → EventOutcome
    → (new : Shard) (register' : OwnRegister) (devices' : Devices) → Type 0
Makes (call.Perform token) blocks old register devices outcome new register' devices' =
    Performs token old devices outcome new devices' × (register' ≡ register)
Makes (call.Answer token completion) blocks old register devices outcome new register' devices' =
    AnswersWith blocks token completion old outcome new × (register' ≡ register) × (devices' ≡ devices)
Makes (call.Do token) blocks old register devices outcome new register' devices' =
    Does blocks token old devices outcome new devices' × (register' ≡ register)
Makes call.Tell blocks old register devices outcome new register' devices' =
    Tells old register outcome new register' × (devices' ≡ devices)
Makes call.Look blocks old register devices outcome new register' devices' =
    Looks old register outcome new register' × (devices' ≡ devices)
Makes (call.Turn task) blocks old register devices outcome new register' devices' =
    TakesTurn task old outcome new × (register' ≡ register) × (devices' ≡ devices)

-- ---- what a shard puts out

-- replies that a core hands out, one after another
abbrev pub HandsReplies : CoreView → List (OpId × Reply) → CoreView → Type 0
HandsReplies old [] new = new ≡ old
HandsReplies old (r ∷ replies) new =
    (next : CoreView) × HandsReply old (r.0).0 r.1 next × HandsReplies next replies new

-- commands that a core hands out, one after another
abbrev pub HandsCommands : CoreView → List Command → CoreView → Type 0
HandsCommands old [] new = new ≡ old
HandsCommands old (c ∷ commands) new = (next : CoreView) × HandsCommand old c next × HandsCommands next commands new

-- a command that was taken now, under its token
abbrev pub taken : Command → ℕ × InFlight
taken command = (command.token, record { command = command; performed = false })

-- the core hands out these replies, which are printed
pub record TakesReplies (old : Shard) (text : List ℕ) (new : Shard) (text' : List ℕ) : Type 0 where
  pub replies : List (OpId × Reply)
  pub handed : HandsReplies old.core replies new.core
  pub printed : text' ≡ text ++ replies_text old.number replies
  pub kept : KeepsFlight old new

-- and then none is ready
pub record PutsReplies (old : Shard) (text : List ℕ) (new : Shard) (text' : List ℕ) : Type 0 where
  pub last : Shard
  pub takes : TakesReplies old text last text'
  pub ends : HandsNoReply last.core new.core
  pub kept : KeepsFlight last new

-- the core hands out these commands, which are printed, and are in flight from then on, each under its token
pub record TakesCommands (old : Shard) (text : List ℕ) (new : Shard) (text' : List ℕ) : Type 0 where
  pub commands : List Command
  pub handed : HandsCommands old.core commands new.core
  pub printed : text' ≡ text ++ commands_text old.number commands
  pub place : KeepsPlace old new
  pub flight : (token : ℕ) → in_flight_of new token ≡ update_all nat_eq (in_flight_of old) (map taken commands) token

-- and then it has none
pub record PutsCommands (old : Shard) (text : List ℕ) (new : Shard) (text' : List ℕ) : Type 0 where
  pub last : Shard
  pub takes : TakesCommands old text last text'
  pub ends : Step last.core No_command new.core
  pub kept : KeepsFlight last new

-- the line of an event: what became of it, and what its shard puts out then, replies first
pub record Reports (outcome : EventOutcome) (old : Shard) (text : List ℕ) (new : Shard) (text' : List ℕ) : Type 0 where
  pub middle : Shard
  pub middle_text : List ℕ
  pub replies : PutsReplies old (text ++ outcome_text outcome) middle middle_text
  pub commands : PutsCommands middle middle_text new text'
