-- A run of a core that reads a block from the new device of a slot, since its old one can't give it.
use Rattle.std.specs.Prelude.{◌≡◌, ℕ, List, [], ◌∷◌, ◌++◌, Err}
use Rattle.r6_health.specs.Registers.{starting, after}
use Rattle.r6_layout.specs.PlainArray.{Block}
use Rattle.r6_world.specs.PlainArray.{Array, Read, Data}
use Rattle.r6_world.specs.Registers.{Snapshot, DeclareLost, Degraded, Complete, Stale}
use Rattle.r6_world.specs.ShardStates.{Fetch, Store, LossOf, RebuildOf}
use Rattle.r6_world.specs.Steps.{Event, Submit, Good, Error, Read_error, Look, Take_reply}
use Rattle.r6_world.specs.Worlds.{Devices}
use Rattle.r6_world.specs.Claims.{IsLawfulStart}
use Rattle.r6_world.specs.Laws.{IsOfOutside}
use Rattle.r6_world.specs.Witness.{smallest, small}
use Rattle.r6_core.specs.Shards.{CoreView, Step}
use Rattle.r6_core.specs.Runs.{IsShard}
use Rattle.r6_core_runs.specs.Losses.{of_core, HasRun, AnswersRead, Reads, IsTold, Tells}
use Rattle.r6_core_runs.specs.Fixes.{CommandTo, answered, told, refused}
use Rattle.r6_core_runs.specs.Replacements.{Turned, taken_up, replacing, replaced}

-- ---- the calls of such a run

-- the devices of the other data block and of P are gone; Q is read, and this block from the new device of slot 1
pub record ReadsMoved (q block : Block) (old new : CoreView) : Type 0 where
  pub without_other : CoreView
  pub other : AnswersRead 2 0 0 Error old without_other
  pub without_p : CoreView
  pub of_p : AnswersRead 3 0 0 Error without_other without_p
  pub with_q : CoreView
  pub of_q : Reads 0 0 0 q without_p with_q
  pub moved : Reads 1 1 0 block with_q new

-- both losses are declared, and that of the old device of slot 1, which the register refuses
pub record DeclaresMoved (old new : CoreView) : Type 0 where
  pub one : CoreView
  pub other : Tells (LossOf 2 0) Degraded old one
  pub two : CoreView
  pub of_p : Tells (LossOf 3 0) Degraded one two
  pub of_old : IsTold (LossOf 1 0) (Err Stale) two new

-- after a look the read is answered with this block
pub record SeesBlock (register : Snapshot) (back : Block) (old new : CoreView) : Type 0 where
  pub seeing : CoreView
  pub looked : Step old (Look register) seeing
  pub replied : Step seeing (Take_reply 0 (Data back)) new

-- ---- the calls of a run in order

-- the register once the device of slot 1 is replaced, and after the losses of the two others
abbrev pub without_two : Snapshot
without_two = after 1 (after 1 replaced (DeclareLost 2 0)) (DeclareLost 3 0)

-- the commands of the read: to the old device, directly and for its hold; to those of the other data block, of P and
-- of Q; and to the new one
pub record ToMove : Type 0 where
  pub direct : CommandTo 1 0 Fetch
  pub held : CommandTo 1 0 Fetch
  pub other : CommandTo 2 0 Fetch
  pub of_p : CommandTo 3 0 Fetch
  pub of_q : CommandTo 0 0 Fetch
  pub moved : CommandTo 1 1 Fetch

abbrev pub move_events : (block q : Block) → ToMove → List Event
move_events block q c =
    Submit (Read 0) 0 ∷ answered c.direct Read_error ++ answered c.held Read_error
    ++ answered c.other Error ++ answered c.of_p Error ++ answered c.of_q (Good q) ++ answered c.moved (Good block)

-- The device of slot 1 is replaced, and its row copied. Before the core has looked again, while it has both devices in
-- sync, block 0 is read. The old device answers by read errors, directly and in the hold, and those of the other data
-- block and of P are gone, so that too few blocks can become known. The core loses the old device alone, no command to
-- which was answered by an error that takes it out, and reads the block from the new one. The losses are declared; that
-- of the old device is refused, since the register has it no more. After a look the read is answered with this block.
pub record RunsThroughMove (block q back : Block) (core : CoreView) : Type 0 where
  pub runs : (device : Devices) (array : Array) → IsLawfulStart small (starting 0) device array
      → device 1 0 0 ≡ block → device 0 0 0 ≡ q
      → (turn : Turned) × (old : CommandTo 1 0 Fetch) × (copy : CommandTo 1 1 (Store block)) × (c : ToMove)
      × HasRun smallest (IsShard smallest) IsOfOutside (starting 0) device array
      (of_core 0 (Look replacing ∷ taken_up turn ++ answered old (Good block) ++ answered copy (Good block)
      ++ told (RebuildOf 1 1) Complete ++ move_events block q c
      ++ told (LossOf 2 0) Degraded ++ told (LossOf 3 0) Degraded ++ refused (LossOf 1 0) Stale
      ++ Look without_two ∷ Take_reply 0 (Data back) ∷ []))
      (λ n. core) without_two
