-- What calls of one shard of an array do.
use Rattle.std.specs.Prelude.{◌≡◌, ℕ, List, ◌⊎◌, Bool, true, false, Option, Some, None, option_map, is_none, Result, Err}
use Rattle.std.specs.FinMap as map
use Rattle.r6_layout.specs.Shape.{Shape}
use Rattle.r6_world.specs.Geometries.{layout_of}
use Rattle.r6_world.specs.Registers.{Snapshot, Contended, Told, answer_to, register_after}
use Rattle.r6_world.specs.ShardStates as shards
use Rattle.r6_world.specs.Steps as steps
use Rattle.r6_world.specs.Worlds.{as_made}
use Rattle.r6_world.specs.Values.{world_command}
use Rattle.r6_world.specs.declared.values.Op.{Op}
use Rattle.r6_world.specs.declared.values.Command.{Command}
use Rattle.r6_world.specs.declared.values.Receipt.{Receipt}
use Rattle.r6_world.specs.declared.values.Reply.{Reply}
use Rattle.r6_world.specs.declared.values.DeviceFault.{DeviceFault}
use Rattle.r6_core.specs.declared.call.Call.{Call}
use Rattle.r6_core.specs.declared.turn.Task.{Task}
use Rattle.r6_core.specs.declared.turn.Turn.{Turn}
use Rattle.r6_core.specs.Shards.{CoreView, Step, world_shard, call_of}
use Rattle.r6_core.specs.Refusals.{AllTold}
use Rattle.r6_core.specs.Effects.{IsMade, Accepts, Receives, LooksAt, Turns, HandsReply, IsCommandOf, IsOldestUntaken, KeepsRequests}
use Rattle.r6_core.specs.Runs as runs
use Rattle.r6_core.specs.Runs.{Happening}
use Rattle.r6_array.specs.Arrays.{ShardView, first_of}

-- the shard is as it is made
pub record IsNewMember (shape : Shape) (register : Snapshot) (n window : ℕ) (s : ShardView) : Type 0 where
  pub made : IsMade shape register n s.core
  pub window_is : s.core.window ≡ window
  pub names : s.names ≡ map.empty
  pub settled : s.settled ≡ true

-- its core takes a request, whose caller calls it so
pub record TakesIn (old : ShardView) (o : Op) (name : ℕ) (new : ShardView) : Type 0 where
  pub id : ℕ
  pub accepts : Accepts old.core o id new.core
  pub names : new.names ≡ map.insert old.names id name
  pub settled : new.settled ≡ false

-- its core hands a command out
pub record PutsOut (old : ShardView) (c : Command) (new : ShardView) : Type 0 where
  pub frame : ℕ
  pub abandoned : Bool
  pub copy : Bool
  pub step : Step old.core (steps.Take_command c.token (world_command frame abandoned copy c)) new.core
  pub oldest : IsOldestUntaken old.core c.token
  pub sized : IsCommandOf old.core c
  pub kept : KeepsRequests old.core new.core
  pub names : new.names ≡ old.names
  pub settled : new.settled ≡ old.settled

-- every command of the core was taken
abbrev pub AllAreTaken : CoreView → Type 0
AllAreTaken core = (t : ℕ) (c : shards.Command) → (world_shard core).command t ≡ Some c → c.taken ≡ true

-- ---- the core's next call is seen

-- there is none; or it is taken, and put back as one that others' calls came between
abbrev pub IsSeen : CoreView → Option shards.Call → (middle new : CoreView) → Type 0
IsSeen core None middle new = Step core steps.No_call new
IsSeen core (Some call) middle new =
    Step core (steps.Take_call call) middle × Step middle (steps.Told call (Err Contended)) new

-- with nothing changed
pub record Sees (core new : CoreView) : Type 0 where
  pub change : Option shards.Call
  pub middle : CoreView
  pub seen : IsSeen core change middle new
  pub next : change ≡ first_of (world_shard core).calls
  pub same : world_shard new ≡ world_shard core
  pub kept : KeepsRequests core new

-- and it is this one
abbrev pub SeesCall : CoreView → Option Call → CoreView → Type 0
SeesCall core call new = (x : Sees core new) × (x.change ≡ option_map call_of call)

-- as what happens in shard n
abbrev pub seeing : ℕ → Option shards.Call → (middle new : CoreView) → Happening
seeing n None middle new = runs.Call n steps.No_call new
seeing n (Some call) middle new = runs.Tell n call (Err Contended) middle new

-- ---- completions, looks, replies, turns

-- its core takes a completion, and its next call is seen
pub record TakesBack (old : ShardView) (token : ℕ) (completion : Result (List ℕ) DeviceFault) (receipt : Receipt)
    (new : ShardView) : Type 0 where
  pub core : CoreView
  pub receives : Receives old.core token completion receipt core
  pub sees : Sees core new.core
  pub names : new.names ≡ old.names
  pub settled : new.settled ≡ false

-- its core looks at the register, and its next call is seen: with one, the shard isn't settled
pub record LooksUp (old : ShardView) (register : Snapshot) (new : ShardView) : Type 0 where
  pub core : CoreView
  pub looks : LooksAt old.core register core
  pub sees : Sees core new.core
  pub names : new.names ≡ old.names
  pub settled : new.settled ≡ is_none sees.change

-- no look is needed, or a change is to be agreed to first
pub record NeedsNoLook (old new : ShardView) : Type 0 where
  pub same : new ≡ old
  pub why : (old.settled ≡ true) ⊎ (AllTold old.core → ⊥)

abbrev pub HasLooked : Snapshot → (old new : ShardView) → Type 0
HasLooked register old new = NeedsNoLook old new ⊎ ((old.settled ≡ false) × LooksUp old register new)

-- the reply that was released first leaves, with what its caller calls its request
pub record HandsBack (old : ShardView) (name : ℕ) (reply : Reply) (new : ShardView) : Type 0 where
  pub id : ℕ
  pub hands : HandsReply old.core id reply new.core
  pub named : map.get old.names id ≡ Some name
  pub names : new.names ≡ map.remove old.names id
  pub settled : new.settled ≡ old.settled

-- the register has taken a call since
abbrev pub unsettled : ShardView → ShardView
unsettled s = record s { settled = false }

-- a row of a task is taken up, or passed over
pub record TakesUp (old : ShardView) (task : Task) (turn : Turn) (new : ShardView) : Type 0 where
  pub turns : Turns old.core task turn new.core
  pub names : new.names ≡ old.names
  pub settled : new.settled ≡ false

-- its next call is made at the register and its core told the answer, and the call after it is seen
pub record Agrees (shape : Shape) (n : ℕ) (old : ShardView) (register : Snapshot) (call : Call) (answer : Told)
    (register' : Snapshot) (new : ShardView) : Type 0 where
  pub middle : CoreView
  pub core : CoreView
  pub taken : Step old.core (steps.Take_call (call_of call)) middle
  pub told : Step middle (steps.Told (call_of call) answer) core
  pub answer_is : answer ≡ answer_to (layout_of shape) register (as_made n (call_of call))
  pub register_is : register' ≡ register_after (layout_of shape) register (as_made n (call_of call)) answer
  pub sees : Sees core new.core
  pub kept : KeepsRequests old.core new.core
  pub names : new.names ≡ old.names
  pub settled : new.settled ≡ false
