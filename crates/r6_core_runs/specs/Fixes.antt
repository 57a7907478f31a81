-- Runs of a core through read errors: a block that can't be read is fixed in place, or its slot is lost.
use Rattle.std.specs.Prelude.{◌≡◌, ℕ, List, [], ◌∷◌, ◌++◌, Ok, Err}
use Rattle.r6_health.specs.Registers.{starting, without}
use Rattle.r6_layout.specs.PlainArray.{Block}
use Rattle.r6_world.specs.PlainArray.{Array, Read, Data, ArrayFailed}
use Rattle.r6_world.specs.Registers.{Snapshot, RegisterAnswer, Refusal, Degraded, Failed}
use Rattle.r6_world.specs.ShardStates as shards
use Rattle.r6_world.specs.ShardStates.{Command, Transfer, Fetch, Store, Synced, LossOf}
use Rattle.r6_world.specs.Steps as steps
use Rattle.r6_world.specs.Steps.{Event, Completion, Submit, Deliver, Good, Error, Read_error, Taken, Look, Take_command, Take_call, Take_reply}
use Rattle.r6_world.specs.Worlds.{Devices}
use Rattle.r6_world.specs.Claims.{IsLawfulStart}
use Rattle.r6_world.specs.Laws.{IsOfOutside}
use Rattle.r6_world.specs.Witness.{smallest, small}
use Rattle.r6_core_runs.specs.declared.rebuilds.LostRow.{LostRow}
use Rattle.r6_core.specs.Shards.{CoreView, Step, world_shard}
use Rattle.r6_core.specs.Runs.{IsShard}
use Rattle.r6_core_runs.specs.Losses.{of_core, HasRun, AnswersRead, Reads, Writes, Tells}

-- ---- the calls of such a run

-- block 0 is read, and its device answers by read errors, directly and in a hold
pub record MeetsErrors (old new : CoreView) : Type 0 where
  pub asking : CoreView
  pub asked : Step old (Submit (Read 0) 0) asking
  pub held : CoreView
  pub direct : AnswersRead 1 0 0 Read_error asking held
  pub again : AnswersRead 1 0 0 Read_error held new

-- the others of the row are read, and this block is written to its slot
pub record PutsFix (other parity lost : Block) (old new : CoreView) : Type 0 where
  pub half : CoreView
  pub first : Reads 2 0 0 other old half
  pub whole : CoreView
  pub second : Reads 3 0 0 parity half whole
  pub fix : Writes 1 0 0 lost whole new

-- it is read again, and the request answered with this block after a look
pub record ReadsFixed (register : Snapshot) (lost block : Block) (old new : CoreView) : Type 0 where
  pub known : CoreView
  pub again : Reads 1 0 0 lost old known
  pub seeing : CoreView
  pub looked : Step known (Look register) seeing
  pub replied : Step seeing (Take_reply 0 (Data block)) new

-- it can't be read again: the loss is declared, and the request answered with this block after a look
pub record LosesFixed (register : Snapshot) (block : Block) (old new : CoreView) : Type 0 where
  pub missing : CoreView
  pub again : AnswersRead 1 0 0 Read_error old missing
  pub lost : CoreView
  pub declared : Tells (LossOf 1 0) Degraded missing lost
  pub seeing : CoreView
  pub looked : Step lost (Look register) seeing
  pub replied : Step seeing (Take_reply 0 (Data block)) new

-- the other data block can't be read either, and the device of P is gone
pub record MeetsFailure (old new : CoreView) : Type 0 where
  pub half : CoreView
  pub other : AnswersRead 2 0 0 Read_error old half
  pub parity : AnswersRead 3 0 0 Error half new

-- the loss of P is declared, and those of both data blocks
pub record DeclaresThree (old new : CoreView) : Type 0 where
  pub one : CoreView
  pub first : Tells (LossOf 3 0) Degraded old one
  pub two : CoreView
  pub second : Tells (LossOf 1 0) Degraded one two
  pub third : Tells (LossOf 2 0) Failed two new

-- the failure is seen, and the request answered with it
pub record IsFailedBy (register : Snapshot) (old new : CoreView) : Type 0 where
  pub seeing : CoreView
  pub looked : Step old (Look register) seeing
  pub replied : Step seeing (Take_reply 0 ArrayFailed) new

-- ---- the calls of a run in order

-- a command to the device of a slot of the smallest array and a generation, with its token
pub record CommandTo (slot generation : ℕ) (transfer : Transfer) : Type 0 where
  pub token : ℕ
  pub command : Command
  pub of_slot : command.slot ≡ slot
  pub of_generation : command.generation ≡ generation
  pub of_row : command.row ≡ 0
  pub transfer_is : command.transfer ≡ transfer

-- it is taken and answered
abbrev pub answered : {slot generation : ℕ} {transfer : Transfer} → CommandTo slot generation transfer → Completion → List Event
answered c completion = Take_command c.token c.command ∷ Deliver c.token completion Taken ∷ []

-- a call is taken and told
abbrev pub told : shards.Call → RegisterAnswer → List Event
told call answer = Take_call call ∷ steps.Told call (Ok answer) ∷ []

-- or refused
abbrev pub refused : shards.Call → Refusal → List Event
refused call refusal = Take_call call ∷ steps.Told call (Err refusal) ∷ []

-- the commands up to a fix of block 0: its direct read and the first read of its hold, those of the other data block
-- and of P, and the write of this block
pub record ToFix (lost : Block) : Type 0 where
  pub direct : CommandTo 1 0 Fetch
  pub held : CommandTo 1 0 Fetch
  pub other : CommandTo 2 0 Fetch
  pub parity : CommandTo 3 0 Fetch
  pub fix : CommandTo 1 0 (Store lost)

abbrev pub fix_events : (blocks : LostRow) → ToFix blocks.lost → List Event
fix_events blocks c =
    Submit (Read 0) 0 ∷ answered c.direct Read_error ++ answered c.held Read_error
    ++ answered c.other (Good blocks.other) ++ answered c.parity (Good blocks.parity)
    ++ answered c.fix (Good blocks.lost)

-- A read of block 0 of the smallest array, which stands on slot 1, and whose device answers by read errors. The core
-- computes the block from the other data block, on slot 2, and from P, on slot 3, writes it to slot 1 and reads it there
-- again; after a look the read is answered with this block. No slot is lost for it, in the core or at the register.
pub record RunsThroughFix (blocks : LostRow) (block : Block) (core : CoreView) : Type 0 where
  pub runs : (device : Devices) (array : Array) → IsLawfulStart small (starting 0) device array
      → device 2 0 0 ≡ blocks.other → device 3 0 0 ≡ blocks.parity
      → (c : ToFix blocks.lost) × (again : CommandTo 1 0 Fetch)
      × HasRun smallest (IsShard smallest) IsOfOutside (starting 0) device array
      (of_core 0 (fix_events blocks c ++ answered again (Good blocks.lost)
      ++ Look (starting 0) ∷ Take_reply 0 (Data block) ∷ []))
      (λ n. core) (starting 0)
  pub in_sync : (world_shard core).slot 1 ≡ Synced 0

-- The same read, but the block that was written can't be read again: the slot is lost, the loss declared, and after a
-- look the read is answered with this block.
pub record RunsThroughFailedFix (blocks : LostRow) (block : Block) (core : CoreView) : Type 0 where
  pub runs : (device : Devices) (array : Array) → IsLawfulStart small (starting 0) device array
      → device 2 0 0 ≡ blocks.other → device 3 0 0 ≡ blocks.parity
      → (c : ToFix blocks.lost) × (again : CommandTo 1 0 Fetch)
      × HasRun smallest (IsShard smallest) IsOfOutside (starting 0) device array
      (of_core 0 (fix_events blocks c ++ answered again Read_error ++ told (LossOf 1 0) Degraded
      ++ Look (without (starting 0) 1) ∷ Take_reply 0 (Data block) ∷ []))
      (λ n. core) (without (starting 0) 1)

-- the register with slots 3, 1 and 2 lost, in this order
abbrev pub three_lost : Snapshot
three_lost = without (without (without (starting 0) 3) 1) 2

-- The same read, but the other data block can't be read either, and the device of P is gone. With Q alone too few blocks
-- can become known: the slots of both data blocks are lost too, in the order of the row. The losses are declared, that
-- of P first; with the third the array has failed, and after a look the read is answered so.
pub record RunsIntoFailure (core : CoreView) : Type 0 where
  pub runs : (device : Devices) (array : Array) → IsLawfulStart small (starting 0) device array
      → (direct held : CommandTo 1 0 Fetch) × (other : CommandTo 2 0 Fetch) × (parity : CommandTo 3 0 Fetch)
      × HasRun smallest (IsShard smallest) IsOfOutside (starting 0) device array
      (of_core 0 (Submit (Read 0) 0 ∷ answered direct Read_error ++ answered held Read_error
      ++ answered other Read_error ++ answered parity Error
      ++ told (LossOf 3 0) Degraded ++ told (LossOf 1 0) Degraded ++ told (LossOf 2 0) Failed
      ++ Look three_lost ∷ Take_reply 0 ArrayFailed ∷ []))
      (λ n. core) three_lost
