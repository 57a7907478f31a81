-- Runs of a core one of whose devices is replaced in service: it is copied to the new one, or either of the two fails,
-- or a block is written to both.
use Rattle.std.specs.Prelude.{◌≡◌, ℕ, List, [], ◌∷◌, ◌++◌}
use Rattle.r6_health.specs.Registers.{starting, after}
use Rattle.r6_layout.specs.PlainArray.{Block}
use Rattle.r6_world.specs.PlainArray.{Array, Read, Write, Data, Done}
use Rattle.r6_world.specs.Registers.{Snapshot, Replace, DeclareLost, ReportRebuilt, Degraded, Complete, Kept}
use Rattle.r6_world.specs.Tasks.{Rebuild}
use Rattle.r6_world.specs.ShardStates.{Command, Fetch, Store, LossOf, RebuildOf}
use Rattle.r6_world.specs.Steps.{Event, Submit, Deliver, Good, Error, Taken, Look, Turn_started, Take_command, Take_reply}
use Rattle.r6_world.specs.Worlds.{Devices}
use Rattle.r6_world.specs.Claims.{IsLawfulStart}
use Rattle.r6_world.specs.Laws.{IsOfOutside}
use Rattle.r6_world.specs.Witness.{smallest, small}
use Rattle.r6_core_runs.specs.declared.rebuilds.LostRow.{LostRow}
use Rattle.r6_core_runs.specs.declared.replacements.WrittenRow.{WrittenRow}
use Rattle.r6_core.specs.Shards.{CoreView, Step}
use Rattle.r6_core.specs.Runs.{IsShard}
use Rattle.r6_core_runs.specs.Losses.{of_core, HasRun, AnswersRead, Reads, Writes, Tells}
use Rattle.r6_core_runs.specs.Fixes.{CommandTo, answered, told}
use Rattle.r6_core_runs.specs.Rebuilds.{TakesUp, ReadsBack}

-- ---- the calls of such a run

-- the device of slot 1 is replaced at the register, and a look sees it
pub record LooksBeside (register replacing : Snapshot) (old new : CoreView) : Type 0 where
  pub replacing_is : replacing ≡ after 1 register (Replace 1)
  pub looked : Step old (Look replacing) new

-- the row is taken up, this block read from the old device, and this one written to the new one
pub record CopiesRow (block copy : Block) (old new : CoreView) : Type 0 where
  pub held : CoreView
  pub turned : TakesUp old held
  pub half : CoreView
  pub read : Reads 1 0 0 block held half
  pub write : Writes 1 1 0 copy half new

-- the row is taken up, and the old device fails; the others of the row are read, and this block is written to the new
-- device
pub record RestoresRow (other parity lost : Block) (old new : CoreView) : Type 0 where
  pub held : CoreView
  pub turned : TakesUp old held
  pub without_old : CoreView
  pub failed : AnswersRead 1 0 0 Error held without_old
  pub half : CoreView
  pub first : Reads 2 0 0 other without_old half
  pub whole : CoreView
  pub second : Reads 3 0 0 parity half whole
  pub write : Writes 1 1 0 lost whole new

-- the write of this block to a slot's row, on the device of a generation, is taken, and answered by an error
pub record FailsWrite (slot generation row : ℕ) (block : Block) (old new : CoreView) : Type 0 where
  pub token : ℕ
  pub command : Command
  pub middle : CoreView
  pub taken : Step old (Take_command token command) middle
  pub delivered : Step middle (Deliver token Error Taken) new
  pub is_write : command.transfer ≡ Store block
  pub of_slot : command.slot ≡ slot
  pub of_generation : command.generation ≡ generation
  pub of_row : command.row ≡ row

-- the row is taken up and this block read from the old device, and the new one fails as this one is written to it; its
-- loss is declared, and the old one is kept
pub record LosesNew (block copy : Block) (old new : CoreView) : Type 0 where
  pub held : CoreView
  pub turned : TakesUp old held
  pub half : CoreView
  pub read : Reads 1 0 0 block held half
  pub without_new : CoreView
  pub failed : FailsWrite 1 1 0 copy half without_new
  pub declared : Tells (LossOf 1 1) Kept without_new new

-- after a look block 0 is read, which the new device has, and the request answered with this block
pub record ReadsNew (register : Snapshot) (block back : Block) (old new : CoreView) : Type 0 where
  pub knowing : CoreView
  pub saw : Step old (Look register) knowing
  pub read : ReadsBack register block back knowing new

-- likewise, which the old device has
pub record ReadsOld (register : Snapshot) (block back : Block) (old new : CoreView) : Type 0 where
  pub knowing : CoreView
  pub saw : Step old (Look register) knowing
  pub asking : CoreView
  pub asked : Step knowing (Submit (Read 0) 0) asking
  pub reading : CoreView
  pub read : Reads 1 0 0 block asking reading
  pub seeing : CoreView
  pub looked : Step reading (Look register) seeing
  pub replied : Step seeing (Take_reply 0 (Data back)) new

-- block 0 is written anew: the other data block is read, and the new block is put out to the old device of slot 1 and
-- to the new one, and P and Q to theirs
pub record WritesBoth (new_data : Block) (row : WrittenRow) (old new : CoreView) : Type 0 where
  pub asking : CoreView
  pub asked : Step old (Submit (Write 0 new_data) 0) asking
  pub knowing : CoreView
  pub other : Reads 2 0 0 row.other asking knowing
  pub one : CoreView
  pub first : Writes 1 0 0 row.new_data knowing one
  pub two : CoreView
  pub second : Writes 1 1 0 row.new_data one two
  pub three : CoreView
  pub of_p : Writes 3 0 0 row.p two three
  pub of_q : Writes 0 0 0 row.q three new

-- after a look the request is answered as done
pub record SeesDone (register : Snapshot) (old new : CoreView) : Type 0 where
  pub seeing : CoreView
  pub looked : Step old (Look register) seeing
  pub replied : Step seeing (Take_reply 0 Done) new

-- ---- the calls of a run in order

-- the register of one shard with the device of slot 1 replaced, after the report of the row, after the loss of the old
-- device, after that and the report, and after the loss of the new device
abbrev pub replacing : Snapshot
replacing = after 1 (starting 0) (Replace 1)

abbrev pub replaced : Snapshot
replaced = after 1 replacing (ReportRebuilt 0 1 1)

abbrev pub without_old : Snapshot
without_old = after 1 replacing (DeclareLost 1 0)

abbrev pub rebuilt_alone : Snapshot
rebuilt_alone = after 1 without_old (ReportRebuilt 0 1 1)

abbrev pub kept : Snapshot
kept = after 1 replacing (DeclareLost 1 1)

-- the rebuild's turn that takes the row up
pub record Turned : Type 0 where
  pub slot : ℕ
  pub generation : ℕ

abbrev pub taken_up : Turned → List Event
taken_up turn = Turn_started (Rebuild turn.slot turn.generation) ∷ []

-- The device of slot 1 is replaced from outside. The core sees it at a look, reads the block of its row from the old
-- device and writes it to the new one, and its report completes the replacement. After a look block 0, which stands on
-- slot 1, is read from the new device, and the read is answered with this block.
pub record RunsThroughReplacement (block back : Block) (core : CoreView) : Type 0 where
  pub runs : (device : Devices) (array : Array) → IsLawfulStart small (starting 0) device array → device 1 0 0 ≡ block
      → (turn : Turned) × (old : CommandTo 1 0 Fetch) × (write : CommandTo 1 1 (Store block)) × (new : CommandTo 1 1 Fetch)
      × HasRun smallest (IsShard smallest) IsOfOutside (starting 0) device array
      (of_core 0 (Look replacing ∷ taken_up turn ++ answered old (Good block) ++ answered write (Good block)
      ++ told (RebuildOf 1 1) Complete ++ Look replaced ∷ Submit (Read 0) 0 ∷ answered new (Good block)
      ++ Look replaced ∷ Take_reply 0 (Data back) ∷ []))
      (λ n. core) replaced

-- The same, but the old device fails as its block is read. The core computes the block from the other data block, on
-- slot 2, and P, on slot 3, and writes it to the new device; the loss of the old one is declared, and the report
-- completes the rebuild. After a look block 0 is read from the new device, and the read is answered with this block.
pub record RunsThroughLossOfOld (blocks : LostRow) (back : Block) (core : CoreView) : Type 0 where
  pub runs : (device : Devices) (array : Array) → IsLawfulStart small (starting 0) device array
      → device 2 0 0 ≡ blocks.other → device 3 0 0 ≡ blocks.parity
      → (turn : Turned) × (old : CommandTo 1 0 Fetch) × (other : CommandTo 2 0 Fetch) × (parity : CommandTo 3 0 Fetch)
      × (write : CommandTo 1 1 (Store blocks.lost)) × (new : CommandTo 1 1 Fetch)
      × HasRun smallest (IsShard smallest) IsOfOutside (starting 0) device array
      (of_core 0 (Look replacing ∷ taken_up turn ++ answered old Error
      ++ answered other (Good blocks.other) ++ answered parity (Good blocks.parity) ++ answered write (Good blocks.lost)
      ++ told (LossOf 1 0) Degraded ++ told (RebuildOf 1 1) Complete
      ++ Look rebuilt_alone ∷ Submit (Read 0) 0 ∷ answered new (Good blocks.lost)
      ++ Look rebuilt_alone ∷ Take_reply 0 (Data back) ∷ []))
      (λ n. core) rebuilt_alone

-- The same, but the new device fails as the block is written to it. Its loss is declared, and the old one is kept. After
-- a look block 0 is read from the old device, and the read is answered with this block.
pub record RunsThroughLossOfNew (block back : Block) (core : CoreView) : Type 0 where
  pub runs : (device : Devices) (array : Array) → IsLawfulStart small (starting 0) device array → device 1 0 0 ≡ block
      → (turn : Turned) × (first : CommandTo 1 0 Fetch) × (write : CommandTo 1 1 (Store block))
      × (again : CommandTo 1 0 Fetch)
      × HasRun smallest (IsShard smallest) IsOfOutside (starting 0) device array
      (of_core 0 (Look replacing ∷ taken_up turn ++ answered first (Good block) ++ answered write Error
      ++ told (LossOf 1 1) Kept ++ Look kept ∷ Submit (Read 0) 0 ∷ answered again (Good block)
      ++ Look kept ∷ Take_reply 0 (Data back) ∷ []))
      (λ n. core) kept

-- the commands of a write of block 0 while slot 1 has two devices: the read of the other data block, the writes of the
-- new block to the old device and to the new one, and those of P and Q
pub record ToBoth (row : WrittenRow) : Type 0 where
  pub other : CommandTo 2 0 Fetch
  pub first : CommandTo 1 0 (Store row.new_data)
  pub second : CommandTo 1 1 (Store row.new_data)
  pub of_p : CommandTo 3 0 (Store row.p)
  pub of_q : CommandTo 0 0 (Store row.q)

abbrev pub write_events : (row : WrittenRow) → ToBoth row → List Event
write_events row c =
    Submit (Write 0 row.new_data) 0 ∷ answered c.other (Good row.other) ++ answered c.first (Good row.new_data)
    ++ answered c.second (Good row.new_data) ++ answered c.of_p (Good row.p) ++ answered c.of_q (Good row.q)

-- The device of slot 1 is replaced, and its row copied. Before the core has looked again, while it has both devices in
-- sync, block 0 is written: the write is put out to the old device and to the new one, and is done when both have
-- confirmed it, and the devices of P and Q theirs.
pub record RunsThroughWriteToBoth (block : Block) (row : WrittenRow) (core : CoreView) : Type 0 where
  pub runs : (device : Devices) (array : Array) → IsLawfulStart small (starting 0) device array
      → device 1 0 0 ≡ block → device 2 0 0 ≡ row.other
      → (turn : Turned) × (old : CommandTo 1 0 Fetch) × (copy : CommandTo 1 1 (Store block)) × (c : ToBoth row)
      × HasRun smallest (IsShard smallest) IsOfOutside (starting 0) device array
      (of_core 0 (Look replacing ∷ taken_up turn ++ answered old (Good block) ++ answered copy (Good block)
      ++ told (RebuildOf 1 1) Complete ++ write_events row c
      ++ Look replaced ∷ Take_reply 0 Done ∷ []))
      (λ n. core) replaced
