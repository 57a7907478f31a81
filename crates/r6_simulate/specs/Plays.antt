-- A script played on an array in memory: what each event did, and its line. This is the project's own.
use Rattle.std.specs.Prelude.{◌≡◌, ℕ, ◌≤◌, ◌++◌, ◌⊎◌, List, [], ◌∷◌, length, replicate, slice_set, codes, Option, Result, if◌then◌else◌}
use Rattle.std.specs.Io.KnownBytes.{Appends}
use Rattle.r6_layout.specs.Shape.{Shape}
use Rattle.r6_core.specs.declared.Op.{Op}
use Rattle.r6_core.specs.declared.Op.TheVariants as op
use Rattle.r6_health.specs.Passes.{Tells as TellsPass, view_of}
use Rattle.r6_health.specs.Views.{Attached, Looks, Replaced}
use Rattle.r6_health.specs.declared.call.Answer.{Answer}
use Rattle.r6_health.specs.declared.call.Call.TheVariants as register
use Rattle.r6_health.specs.declared.refusal.Refusal.{Refusal}
use Rattle.r6_health.specs.declared.snapshot.Snapshot.{Snapshot}
use Rattle.r6_script.specs.declared.script.Call.{Call}
use Rattle.r6_script.specs.declared.script.Event.{Event}
use Rattle.r6_script.specs.declared.script.Event.TheVariants as event
use Rattle.r6_script.specs.Script.{Text}
use Rattle.r6_health.specs.Texts.{answer_text, attach_answer}
use Rattle.r6_simulate.specs.AtShards.{Submits, Makes, Reports, held_by}
use Rattle.r6_simulate.specs.Beginnings.{AreFirstShards, IsFirstPass}
use Rattle.r6_simulate.specs.Devices.{IsAt, AddsAs, AreFirst}
use Rattle.r6_simulate.specs.Lines.{outcome_text}
use Rattle.r6_simulate.specs.Shards.{shard_of_block}
use Rattle.r6_simulate.specs.declared.lines.EventOutcome.{EventOutcome}
use Rattle.r6_simulate.specs.declared.lines.EventOutcome.TheVariants.{NoSuchShard}
use Rattle.r6_simulate.specs.declared.shard.Shard.{Shard}
use Rattle.r6_simulate.specs.declared.array.Simulation.{Simulation}
use Rattle.r6_simulate.specs.declared.register.OwnRegister.{OwnRegister}
use Rattle.r6_simulate.specs.declared.simulation.Ending.{Ending}
use Rattle.r6_simulate.specs.declared.simulation.Ending.TheVariants.{InService, Failed}

-- ---- the beginning

-- the array as it begins: all slots in sync, with devices of zeros, and nothing asked of it
pub record IsFirst (shape : Shape) (first : Simulation) : Type 0 where
  pub geometry : first.geometry ≡ shape
  pub block : first.blocks.len ≡ shape.block
  pub register : IsFirstPass shape first.register.pass
  pub shards : AreFirstShards shape first.shards.items
  pub devices : AreFirst shape first.devices

-- ---- events

-- something happens at the shard of a number, which then puts out what it has: its line goes on with both. The other
-- shards stay as they are
pub record AtShard (Happens : Shard → EventOutcome → Shard → Type 0) (old : Simulation) (number : ℕ) (text : Text)
    (new : Simulation) (text' : Text) : Type 0 where
  pub before : Shard
  pub there : IsAt old.shards.items number before
  pub outcome : EventOutcome
  pub middle : Shard
  pub happens : Happens before outcome middle
  pub after : Shard
  pub reports : Reports outcome middle text after text'
  pub others : new.shards.items ≡ slice_set old.shards.items number after
  pub geometry : new.geometry ≡ old.geometry
  pub blocks : new.blocks ≡ old.blocks

-- a request is submitted to the shard of its block
pub record Requests (o : Op) (block : ℕ) (old : Simulation) (text : Text) (new : Simulation) (text' : Text)
    : Type 0 where
  pub shard : AtShard (Submits o) old (shard_of_block old.geometry block) text new text'
  pub register : new.register ≡ old.register
  pub devices : new.devices ≡ old.devices

-- a call of the script is made at a shard, if the array has it
abbrev pub MakesIn : Call → (old new : Simulation) → Shard → EventOutcome → Shard → Type 0
MakesIn call old new before outcome after =
    Makes call old.blocks before old.register old.devices outcome after new.register new.devices

pub record MakesAt (call : Call) (old : Simulation) (number : ℕ) (text : Text) (new : Simulation) (text' : Text)
    : Type 0 where
  pub shard : AtShard (MakesIn call old new) old number text new text'

abbrev pub Calls : (number : ℕ) → Call → (old : Simulation) (text : Text) (new : Simulation) (text' : Text) → Type 0
Calls number call old text new text' =
    MakesAt call old number text new text'
    ⊎ ((length old.shards.items ≤ number) × (text' ≡ text ++ outcome_text NoSuchShard) × (new ≡ old))

-- a call from outside is answered so: that is printed, and no shard goes on
pub record IsToldOutside (answer : Result Answer Refusal) (old : Simulation) (text : Text) (new : Simulation)
    (text' : Text) : Type 0 where
  pub printed : text' ≡ text ++ answer_text answer
  pub shards : new.shards.items ≡ old.shards.items
  pub geometry : new.geometry ≡ old.geometry
  pub blocks : new.blocks ≡ old.blocks

pub record Fails (slot : ℕ) (old : Simulation) (text : Text) (new : Simulation) (text' : Text) : Type 0 where
  pub answer : Result Answer Refusal
  pub told : TellsPass old.register.pass (register.Fail slot) answer new.register.pass
  pub printed : IsToldOutside answer old text new text'
  pub devices : new.devices ≡ old.devices

-- the byte that a new device has throughout
abbrev pub new_byte : ℕ
new_byte = 255

-- the register has answered so for a new device of the slot: that is printed, and the device is there
pub record Brings (slot : ℕ) (answer : Result ℕ Refusal) (old : Simulation) (text : Text) (new : Simulation)
    (text' : Text) : Type 0 where
  pub printed : IsToldOutside (attach_answer answer) old text new text'
  pub devices : AddsAs slot answer new_byte old.devices new.devices

pub record Attaches (slot : ℕ) (old : Simulation) (text : Text) (new : Simulation) (text' : Text) : Type 0 where
  pub answer : Result ℕ Refusal
  pub told : Attached (view_of old.register.pass) slot answer (view_of new.register.pass)
  pub brings : Brings slot answer old text new text'

pub record Replaces (slot : ℕ) (old : Simulation) (text : Text) (new : Simulation) (text' : Text) : Type 0 where
  pub answer : Result ℕ Refusal
  pub told : Replaced (view_of old.register.pass) slot answer (view_of new.register.pass)
  pub brings : Brings slot answer old text new text'

-- what an event does, and its line, behind the text that stands there
abbrev pub Plays : Event → (old : Simulation) (text : Text) (new : Simulation) (text' : Text) → Type 0
Plays (event.Read block) old text new text' =
    Requests (op.Read block (replicate old.blocks.len 0)) block old text new text'
Plays (event.Write block byte) old text new text' =
    Requests (op.Write block (replicate old.blocks.len byte)) block old text new text'
Plays (event.At number call) old text new text' = Calls number call old text new text'
Plays (event.Fail slot) old text new text' = Fails slot old text new text'
Plays (event.Attach slot) old text new text' = Attaches slot old text new text'
Plays (event.Replace slot) old text new text' = Replaces slot old text new text'

-- ---- scripts

-- the events of a script, one after another, each with its line
abbrev pub Course : Simulation → List Event → (printed : Text) → Simulation → Type 0
Course old [] printed new = (printed ≡ []) × (new ≡ old)
Course old (e ∷ events) printed new =
    (next : Simulation) × (line : Text) × (rest : Text) × Plays e old [] next line
    × (printed ≡ line ++ 10 ∷ rest) × Course next events rest new

-- an event is played and its line is printed
pub record PlaysAndPrints (e : Event) (old : Simulation) (printed : Option Text) (new : Simulation)
    (printed' : Option Text) : Type 0 where
  pub line : Text
  pub plays : Plays e old [] new line
  pub writes : Appends printed printed' (line ++ 10 ∷ [])

abbrev pub ending_of : Snapshot → Ending
ending_of snapshot = if snapshot.failed then Failed else InService

-- a run ends by what the register holds when it is read at the end
pub record EndsAs (last : Simulation) (ending : Ending) : Type 0 where
  pub register : OwnRegister
  pub read : Looks (view_of last.register.pass) (view_of register.pass)
  pub ending_is : ending ≡ ending_of (held_by register)

-- a script was played on an array of this shape: `array` is printed, and then the line of each event
pub record HasPlayed (shape : Shape) (events : List Event) (printed : Option Text) (ending : Ending)
    (printed' : Option Text) : Type 0 where
  pub first : Simulation
  pub begins : IsFirst shape first
  pub last : Simulation
  pub lines : Text
  pub course : Course first events lines last
  pub ends : EndsAs last ending
  pub writes : Appends printed printed' (codes "array\n" ++ lines)
