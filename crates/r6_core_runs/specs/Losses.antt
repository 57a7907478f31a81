-- Runs of cores, as their calls have made them.
use Rattle.std.specs.Prelude.{◌≡◌, ℕ, zero, suc, List, [], ◌∷◌, ◌++◌, map, Ok}
use Rattle.r6_layout.specs.Shape.{Shape, IsShape, shape_of}
use Rattle.r6_health.specs.Registers.{starting, without}
use Rattle.r6_layout.specs.PlainArray.{Block}
use Rattle.r6_world.specs.PlainArray.{Array, Read, Data}
use Rattle.r6_world.specs.Geometries.{layout_of}
use Rattle.r6_world.specs.Registers.{Snapshot, RegisterCall, RegisterAnswer, Told, Degraded}
use Rattle.r6_world.specs.ShardStates as shards
use Rattle.r6_world.specs.ShardStates.{Command, Fetch, Store, LossOf}
use Rattle.r6_world.specs.Steps as steps
use Rattle.r6_world.specs.Steps.{Event, Completion, Submit, Deliver, Good, Error, Taken, Look, Take_command, Take_call, Take_reply}
use Rattle.r6_world.specs.Worlds.{Devices, started}
use Rattle.r6_world.specs.Claims.{IsLawfulStart}
use Rattle.r6_world.specs.Laws.{IsOfOutside}
use Rattle.r6_world.specs.Witness.{smallest, small, after_all}
use Rattle.r6_core.specs.Effects.{IsMade}
use Rattle.r6_core.specs.Shards.{CoreView, Step}
use Rattle.r6_core.specs.Runs.{Happening, Call, Perform, Tell, Outside, Moment, moment_of, cores_after, AreMade, IsShard, CoresRun}

-- the calls of cores in what happened, each with its shard and its answer
abbrev pub events_in : Happening → List (ℕ × Event)
events_in (Call n event new) = (n, event) ∷ []
events_in (Perform n token c) = []
events_in (Tell n call answer middle new) = (n, Take_call call) ∷ (n, steps.Told call answer) ∷ []
events_in (Outside call) = []

abbrev pub events_of : List Moment → List (ℕ × Event)
events_of [] = []
events_of (m ∷ moments) = events_in m.happening ++ events_of moments

abbrev pub of_core : ℕ → List Event → List (ℕ × Event)
of_core n events = map (λ event. (n, event)) events

-- the cores behind a run
abbrev pub cores_behind : (ℕ → CoreView) → List Moment → ℕ → CoreView
cores_behind cores [] = cores
cores_behind cores (m ∷ moments) = cores_behind (cores_after cores m.happening) moments

-- A run of these cores from a lawful start, at which they were made, beside devices and a register at which such calls
-- come from outside: these were their calls and their answers, and they have led to these cores and this register. The
-- laws of every run of cores speak of it.
pub record HasRun (shape : Shape) (Ours : ℕ → Type 0) (Comes : RegisterCall → Type 0) (r : Snapshot) (device : Devices)
    (array : Array) (events : List (ℕ × Event)) (cores : ℕ → CoreView) (register : Snapshot) : Type 0 where
  pub limits : IsShape shape
  pub lawful : IsLawfulStart (layout_of shape) r device array
  pub first : ℕ → CoreView
  pub made : AreMade shape Ours r first
  pub moments : List Moment
  pub run : CoresRun (layout_of shape) Ours Comes (started (layout_of shape) r device) first moments
  pub events_are : events_of moments ≡ events
  pub cores_are : (n : ℕ) → Ours n → cores_behind first moments n ≡ cores n
  pub register_is : (after_all (layout_of shape) (started (layout_of shape) r device) (map moment_of moments)).register
      ≡ register

-- ---- the calls of such a run

-- the read of a slot's block in a row, from the device of a generation, is taken
pub record TakesRead (slot generation row token : ℕ) (old new : CoreView) : Type 0 where
  pub command : Command
  pub taken : Step old (Take_command token command) new
  pub is_read : command.transfer ≡ Fetch
  pub of_slot : command.slot ≡ slot
  pub of_generation : command.generation ≡ generation
  pub of_row : command.row ≡ row

-- and answered so
pub record AnswersRead (slot generation row : ℕ) (completion : Completion) (old new : CoreView) : Type 0 where
  pub token : ℕ
  pub middle : CoreView
  pub took : TakesRead slot generation row token old middle
  pub delivered : Step middle (Deliver token completion Taken) new

-- with this block
abbrev pub Reads : (slot generation row : ℕ) → Block → CoreView → CoreView → Type 0
Reads slot generation row block = AnswersRead slot generation row (Good block)

-- the write of this block to a slot's row, on the device of a generation, is taken, and confirmed
pub record Writes (slot generation row : ℕ) (block : Block) (old new : CoreView) : Type 0 where
  pub token : ℕ
  pub command : Command
  pub middle : CoreView
  pub taken : Step old (Take_command token command) middle
  pub delivered : Step middle (Deliver token (Good block) Taken) new
  pub is_write : command.transfer ≡ Store block
  pub of_slot : command.slot ≡ slot
  pub of_generation : command.generation ≡ generation
  pub of_row : command.row ≡ row

-- a call is taken, and told this: an answer, or that the register refused it
pub record IsTold (call : shards.Call) (answer : Told) (old new : CoreView) : Type 0 where
  pub middle : CoreView
  pub taken : Step old (Take_call call) middle
  pub told : Step middle (steps.Told call answer) new

-- an answer
abbrev pub Tells : (call : shards.Call) → RegisterAnswer → CoreView → CoreView → Type 0
Tells call answer = IsTold call (Ok answer)

-- the loss of slot 1 is found by a read of block 0, and declared
pub record FindsLoss (old new : CoreView) : Type 0 where
  pub asking : CoreView
  pub asked : Step old (Submit (Read 0) 0) asking
  pub failing : CoreView
  pub failed : AnswersRead 1 0 0 Error asking failing
  pub declared : Tells (LossOf 1 0) Degraded failing new

-- the block of a lost slot is restored from those of two others of its row, and answered after a look
pub record Restores (one another row : ℕ) (register : Snapshot) (other parity block : Block) (old new : CoreView)
    : Type 0 where
  pub half : CoreView
  pub first : Reads one 0 row other old half
  pub whole : CoreView
  pub second : Reads another 0 row parity half whole
  pub seeing : CoreView
  pub looked : Step whole (Look register) seeing
  pub replied : Step seeing (Take_reply 0 (Data block)) new

-- ---- one core

-- it was made at the register of the smallest array with no slot lost
pub record IsOneMade (register : Snapshot) (core : CoreView) : Type 0 where
  pub limits : IsShape smallest
  pub register_is : register ≡ starting 0
  pub here : IsMade smallest (starting 0) 0 core

-- A read of block 0 of the smallest array, whose device fails: its block stands on slot 1, the other data block of the
-- row on slot 2 and P on slot 3. The core takes the slot out and reads the two others, its caller declares the loss,
-- and after a look the read is answered with this block.
pub record RunsThroughLoss (other parity block : Block) (core : CoreView) : Type 0 where
  pub runs : (device : Devices) (array : Array) → IsLawfulStart small (starting 0) device array → device 2 0 0 ≡ other
      → device 3 0 0 ≡ parity
      → (failed second third : ℕ × Command)
      × HasRun smallest (IsShard smallest) IsOfOutside (starting 0) device array
      (of_core 0 (Submit (Read 0) 0
      ∷ Take_command failed.0 failed.1 ∷ Deliver failed.0 Error Taken
      ∷ Take_call (LossOf 1 0) ∷ steps.Told (LossOf 1 0) (Ok Degraded)
      ∷ Take_command second.0 second.1 ∷ Deliver second.0 (Good other) Taken
      ∷ Take_command third.0 third.1 ∷ Deliver third.0 (Good parity) Taken
      ∷ Look (without (starting 0) 1)
      ∷ Take_reply 0 (Data block) ∷ []))
      (λ n. core) (without (starting 0) 1)

-- ---- two cores

-- four devices of two rows, in two shards of one row each
abbrev pub two_shards : Shape
two_shards = shape_of 4 1 16 2 2

abbrev pub both : (first second : CoreView) → ℕ → CoreView
both first second zero = first
both first second (suc n) = second

-- two cores were made at the register of this array with no slot lost
pub record AreBothMade (register : Snapshot) (first second : CoreView) : Type 0 where
  pub limits : IsShape two_shards
  pub register_is : register ≡ starting 0
  pub here : IsMade two_shards (starting 0) 0 first
  pub there : IsMade two_shards (starting 0) 1 second

-- the loss is seen, and block 3 read by the two others of its row
pub record ReadsAround (register : Snapshot) (other parity block : Block) (old new : CoreView) : Type 0 where
  pub looking : CoreView
  pub saw : Step old (Look register) looking
  pub asking : CoreView
  pub asked : Step looking (Submit (Read 3) 0) asking
  pub restored : Restores 0 2 1 register other parity block asking new

-- Two cores at one register. The first reads block 0, whose device answers an error on slot 1, and declares the loss.
-- The second sees it at a look. Block 3 stands on the lost slot, in the second's row, whose other data block is on
-- slot 0 and P on slot 2: those it reads, and after a look its read is answered with this block.
pub record RunsBesideLoss (other parity block : Block) (first second : CoreView) : Type 0 where
  pub runs : (device : Devices) (array : Array) → IsLawfulStart (layout_of two_shards) (starting 0) device array
      → device 0 0 1 ≡ other → device 2 0 1 ≡ parity
      → (failed here there : ℕ × Command)
      × HasRun two_shards (IsShard two_shards) IsOfOutside (starting 0) device array
      (of_core 0 (Submit (Read 0) 0
      ∷ Take_command failed.0 failed.1 ∷ Deliver failed.0 Error Taken
      ∷ Take_call (LossOf 1 0) ∷ steps.Told (LossOf 1 0) (Ok Degraded) ∷ [])
      ++ of_core 1 (Look (without (starting 0) 1)
      ∷ Submit (Read 3) 0
      ∷ Take_command here.0 here.1 ∷ Deliver here.0 (Good other) Taken
      ∷ Take_command there.0 there.1 ∷ Deliver there.0 (Good parity) Taken
      ∷ Look (without (starting 0) 1)
      ∷ Take_reply 0 (Data block) ∷ []))
      (both first second) (without (starting 0) 1)
