-- A run of cores that rebuild: a slot fails, a new device comes, and each core rebuilds its row of it.
use Rattle.std.specs.Prelude.{◌≡◌, ℕ, List, [], ◌∷◌, ◌++◌, Ok}
use Rattle.r6_health.specs.Registers.{starting, after}
use Rattle.r6_layout.specs.PlainArray.{Block}
use Rattle.r6_world.specs.PlainArray.{Array, Read, Data}
use Rattle.r6_world.specs.Geometries.{layout_of}
use Rattle.r6_world.specs.Registers.{Snapshot, RegisterAnswer, Fail, Attach, ReportRebuilt, More, Complete}
use Rattle.r6_world.specs.Tasks.{Rebuild}
use Rattle.r6_world.specs.ShardStates.{Command, RebuildOf}
use Rattle.r6_world.specs.Steps as steps
use Rattle.r6_world.specs.Steps.{Event, Submit, Deliver, Good, Taken, Look, Turn_started, Take_command, Take_call, Take_reply}
use Rattle.r6_world.specs.Worlds.{Devices}
use Rattle.r6_world.specs.Claims.{IsLawfulStart}
use Rattle.r6_world.specs.Laws.{IsOfOutside}
use Rattle.r6_core_runs.specs.declared.rebuilds.LostRow.{LostRow}
use Rattle.r6_core.specs.Shards.{CoreView, Step}
use Rattle.r6_core.specs.Runs.{IsShard}
use Rattle.r6_core_runs.specs.Losses.{of_core, HasRun, Reads, Writes, Tells, two_shards, both}

-- a rebuild's turn is taken
pub record TakesUp (old new : CoreView) : Type 0 where
  pub slot : ℕ
  pub generation : ℕ
  pub started : Step old (Turn_started (Rebuild slot generation)) new

-- A row of slot 1 is rebuilt on the slot's first new device, from these blocks of two other slots, and the shard's
-- report has this answer
pub record RebuildsRow (one another row : ℕ) (blocks : LostRow) (answer : RegisterAnswer) (old new : CoreView)
    : Type 0 where
  pub held : CoreView
  pub turned : TakesUp old held
  pub half : CoreView
  pub first : Reads one 0 row blocks.other held half
  pub whole : CoreView
  pub second : Reads another 0 row blocks.parity half whole
  pub written : CoreView
  pub write : Writes 1 1 row blocks.lost whole written
  pub report : Tells (RebuildOf 1 1) answer written new

-- both cores look at the register
pub record BothLook (register : Snapshot) (first second first' second' : CoreView) : Type 0 where
  pub here : Step first (Look register) first'
  pub there : Step second (Look register) second'

-- slot 1 is failed at the register and a new device attached, and both look at it each time
pub record Replaces (register attached : Snapshot) (first second first' second' : CoreView) : Type 0 where
  pub lost : Snapshot
  pub lost_is : lost ≡ after 2 register (Fail 1)
  pub here : CoreView
  pub there : CoreView
  pub looked : BothLook lost first second here there
  pub attached_is : attached ≡ after 2 lost (Attach 1)
  pub looked_again : BothLook attached here there first' second'

-- both rebuild their rows, which their reports complete, and look at the register
pub record RebuildsBoth (attached : Snapshot) (one two : LostRow) (rebuilt : Snapshot)
    (first second first' second' : CoreView) : Type 0 where
  pub here : CoreView
  pub there : CoreView
  pub one_rebuilt : RebuildsRow 2 3 0 one More first here
  pub two_rebuilt : RebuildsRow 0 2 1 two Complete second there
  pub half : Snapshot
  pub half_is : half ≡ after 2 attached (ReportRebuilt 0 1 1)
  pub rebuilt_is : rebuilt ≡ after 2 half (ReportRebuilt 1 1 1)
  pub looked : BothLook rebuilt here there first' second'

-- block 0 is read from the new device
pub record ReadsBack (register : Snapshot) (restored block : Block) (old new : CoreView) : Type 0 where
  pub asking : CoreView
  pub asked : Step old (Submit (Read 0) 0) asking
  pub reading : CoreView
  pub read : Reads 1 1 0 restored asking reading
  pub seeing : CoreView
  pub looked : Step reading (Look register) seeing
  pub replied : Step seeing (Take_reply 0 (Data block)) new

-- the slot is replaced, both rebuild their rows, and block 0 is read
pub record RebuildsAndReads (register : Snapshot) (one two : LostRow) (block : Block)
    (first second first' second' : CoreView) : Type 0 where
  pub attached : Snapshot
  pub here : CoreView
  pub there : CoreView
  pub replaced : Replaces register attached first second here there
  pub whole : Snapshot
  pub asked : CoreView
  pub rebuilds : RebuildsBoth attached one two whole here there asked second'
  pub back : ReadsBack whole one.lost block asked first'

-- a rebuild's turn, and the commands of its row
pub record Turned : Type 0 where
  pub slot : ℕ
  pub generation : ℕ
  pub first : ℕ × Command
  pub second : ℕ × Command
  pub write : ℕ × Command

abbrev pub rebuild_events : Turned → LostRow → RegisterAnswer → List Event
rebuild_events t blocks answer =
    Turn_started (Rebuild t.slot t.generation)
    ∷ Take_command t.first.0 t.first.1 ∷ Deliver t.first.0 (Good blocks.other) Taken
    ∷ Take_command t.second.0 t.second.1 ∷ Deliver t.second.0 (Good blocks.parity) Taken
    ∷ Take_command t.write.0 t.write.1 ∷ Deliver t.write.0 (Good blocks.lost) Taken
    ∷ Take_call (RebuildOf 1 1) ∷ steps.Told (RebuildOf 1 1) (Ok answer) ∷ []

-- the register of two shards with slot 1 failed, then with a new device, then with the report of the first shard, and
-- of both
abbrev pub with_lost : Snapshot
with_lost = after 2 (starting 0) (Fail 1)

abbrev pub with_new : Snapshot
with_new = after 2 with_lost (Attach 1)

abbrev pub half_rebuilt : Snapshot
half_rebuilt = after 2 with_new (ReportRebuilt 0 1 1)

abbrev pub rebuilt : Snapshot
rebuilt = after 2 half_rebuilt (ReportRebuilt 1 1 1)

-- Two cores at one register, at which a slot is failed and a new device attached from outside. Each sees it at its
-- looks, rebuilds its row of the new device and reports it, which completes the rebuild. Block 0 stands on the rebuilt
-- slot, in the first core's row: that core reads it from the new device, and after a look its read is answered with
-- this block.
pub record RunsThroughRebuild (one two : LostRow) (block : Block) (first second : CoreView) : Type 0 where
  pub runs : (device : Devices) (array : Array) → IsLawfulStart (layout_of two_shards) (starting 0) device array
      → device 2 0 0 ≡ one.other → device 3 0 0 ≡ one.parity → device 0 0 1 ≡ two.other → device 2 0 1 ≡ two.parity
      → (here there : Turned) × (read : ℕ × Command)
      × HasRun two_shards (IsShard two_shards) IsOfOutside (starting 0) device array
      (of_core 0 (Look with_lost ∷ []) ++ of_core 1 (Look with_lost ∷ [])
      ++ of_core 0 (Look with_new ∷ []) ++ of_core 1 (Look with_new ∷ [])
      ++ of_core 0 (rebuild_events here one More) ++ of_core 1 (rebuild_events there two Complete)
      ++ of_core 0 (Look rebuilt ∷ []) ++ of_core 1 (Look rebuilt ∷ [])
      ++ of_core 0 (Submit (Read 0) 0
      ∷ Take_command read.0 read.1 ∷ Deliver read.0 (Good one.lost) Taken
      ∷ Look rebuilt
      ∷ Take_reply 0 (Data block) ∷ []))
      (both first second) rebuilt
