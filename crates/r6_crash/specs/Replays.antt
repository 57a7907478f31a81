-- The writes of a hold as one batch, and its replay, in one row (this project's own). Once all writes are put out,
-- performing them, again where that was done before, leads from whatever stands on the devices to the row after the
-- hold, whichever positions are out.
use Rattle.std.specs.Prelude.{◌≡◌, ◌≢◌, ◌⊎◌, ℕ, false, List, None}
use Rattle.r6_recover.specs.Rows.{IsFull, block_at}
use Rattle.r6_stripe.specs.Holds.{Hold, Writing, Event, cell_at, after, IsToWrite, IsIdle, MayBegin}
use Rattle.r6_stripe.specs.Holds.Kind.{Write}
use Rattle.r6_stripe.specs.Holds.Standing.{InSync}
use Rattle.r6_stripe.specs.Holds.Writing.{Unwritten, Sent, Confirmed}
use Rattle.r6_stripe.specs.Plans.{next, planned_first, planned_at, IsPlanned}
use Rattle.r6_stripe.specs.RowWorld.{Command, Device, World, Step, IsAtRest, IsRun}
use Rattle.r6_stripe.specs.RowWorld.{run, current, device_at, is_rewritten}
use Rattle.r6_stripe.specs.RowWorld.Command.{NoCommand, ReadOut, ReadPerformed, WriteOut, WritePerformed}

-- ---- the batch

-- a new block of the hold was computed, for the first device of a position or the second
abbrev pub HasNew : Hold → Type 0
HasNew hold =
    (position : ℕ)
    × (((cell_at hold.cells position).writing ≢ Unwritten) ⊎ ((cell_at hold.cells position).copying ≢ Unwritten))

-- a write has left the hold: it is out, or confirmed
abbrev pub IsPutOut : Writing → Type 0
IsPutOut writing = (writing ≡ Sent) ⊎ (writing ≡ Confirmed)

-- of a hold that writes blocks every write is put out, to both devices where there are two
pub record ArePutOut (hold : Hold) : Type 0 where
  pub firsts : (batch : List (ℕ × List ℕ)) → hold.kind ≡ Write batch → (position : ℕ)
      → IsToWrite hold (Write batch) position → (cell_at hold.cells position).standing ≡ InSync
      → IsPutOut (cell_at hold.cells position).writing
  pub seconds : (batch : List (ℕ × List ℕ)) → hold.kind ≡ Write batch → (position : ℕ)
      → IsToWrite hold (Write batch) position → (cell_at hold.cells position).second ≡ InSync
      → IsPutOut (cell_at hold.cells position).copying

-- A write's hold at any moment of its course at which nothing comes next, as after each call of a live shard: once a
-- new block was computed, all its writes are put out. So one call puts them out, and they make one batch
abbrev pub WholeBatchLaw : Type 0
WholeBatchLaw =
    (idle : Hold) (batch : List (ℕ × List ℕ)) (events : List Event) → IsIdle idle → MayBegin idle (Write batch)
    → IsPlanned (planned_first idle (Write batch)) events
    → let last = planned_at (planned_first idle (Write batch)) events in
    next last ≡ None → HasNew last.hold → ArePutOut last.hold

-- ---- its replay

-- what stands on a device once the write that is out to it, performed or not, is performed
abbrev pub replayed : (block : List ℕ) → Command → List ℕ
replayed block NoCommand = block
replayed block ReadOut = block
replayed block (ReadPerformed given) = block
replayed block (WriteOut put) = put
replayed block (WritePerformed put) = put

-- of the hold's writes none was performed
pub record AreUnperformed (world : World) : Type 0 where
  pub firsts : (position : ℕ)
      → is_rewritten (cell_at world.hold.cells position).writing (device_at world.devices position).command ≡ false
  pub seconds : (position : ℕ)
      → is_rewritten (cell_at world.hold.cells position).copying (device_at world.seconds position).command ≡ false

-- the devices in sync have this row, where each of them has the block that is read off it so
pub record HaveRow (block_on : Device → List ℕ) (world : World) (row : List (List ℕ)) : Type 0 where
  pub full : IsFull world.hold.size row
  pub on_first : (position : ℕ) → (cell_at world.hold.cells position).standing ≡ InSync
      → block_on (device_at world.devices position) ≡ block_at row position
  pub on_second : (position : ℕ) → (cell_at world.hold.cells position).second ≡ InSync
      → block_on (device_at world.seconds position) ≡ block_at row position

-- One row, at any moment of any run of holds: while no write of the hold was performed, what stands there is the row
-- before it; and once all its writes are put out, a replay leaves the row after it
abbrev pub RowReplayLaw : Type 0
RowReplayLaw =
    (start : World) (row : List (List ℕ)) (steps : List Step) → IsAtRest start row → IsFull start.hold.size row
    → IsRun start steps
    → let world = run start steps in
    let before = current start steps row in
    (AreUnperformed world → HaveRow (λ device. device.block) world before)
    × (ArePutOut world.hold
    → HaveRow (λ device. replayed device.block device.command) world (after world.hold before))
