-- What the journal's law asks of cores, of the state of the code (this project's own): what `r6_frames` keeps between
-- the calls of a core gives it.
use Rattle.std.specs.Prelude.{◌≡◌, ◌≢◌, ℕ, ◌<◌, Bool, true, false, Some}
use Rattle.r6_stripe.specs.Holds.{cell_at}
use Rattle.r6_stripe.specs.Holds.Standing.{Out}
use Rattle.r6_stripe.specs.Holds.Writing.{Sent}
use Rattle.r6_layout.specs.Shape.{Shape, IsShape}
use Rattle.r6_layout.specs.Layout.{position_at}
use Rattle.r6_world.specs.Geometries.{layout_of}
use Rattle.r6_world.specs.Layouts.{Layout}
use Rattle.r6_world.specs.ShardStates.{generation_in}
use Rattle.r6_world.specs.Worlds.{World}
use Rattle.r6_world.specs.Laws.{OfEveryRun, at_start}
use Rattle.r6_world.specs.Witness.{after_all}
use Rattle.r6_frames.specs.declared.command.Outstanding.{Outstanding}
use Rattle.r6_frames.specs.declared.frames.HeldRow.{HeldRow}
use Rattle.r6_frames.specs.FramesState.{FramesState}
use Rattle.r6_frames.specs.Actions.{is_write}
use Rattle.r6_frames.specs.Slots.{states_of, is_abandoned}
use Rattle.r6_frames.specs.Views.{Rest, hold_at, outstanding, shard_with, AreLive}
use Rattle.r6_frames.specs.Owed.{IsDriven}
use Rattle.r6_frames.specs.Sound.{IsSound}
use Rattle.r6_crash.specs.Crashes.{IsServed, plain_after_all}
use Rattle.r6_crash.specs.Replays.{HasNew, ArePutOut}
use Rattle.r6_crash.specs.Journals.{ReplayStarts}

-- a write of the frame's hold to the slot's first device is out, and neither answered nor abandoned
pub record IsOutTo (fs : FramesState) (frame row slot : ℕ) : Type 0 where
  pub token : ℕ
  pub command : Outstanding
  pub here : outstanding fs token ≡ Some command
  pub going : is_abandoned fs.slots token command ≡ false
  pub frame_is : command.frame ≡ frame
  pub row_is : command.row ≡ row
  pub slot_is : command.slot ≡ slot
  pub generation_is : command.generation ≡ generation_in (states_of fs.slots slot)
  pub writes : is_write command.action ≡ true

-- in a live core what a hold has sent to a first device, and that isn't confirmed, is out; and of a hold of which
-- nothing comes next, and a new block was computed, all writes are put out
pub record PutsOutAll (fs : FramesState) : Type 0 where
  pub sent : (frame slot : ℕ) (h : HeldRow) → hold_at fs.uses frame ≡ Some h → slot < fs.geometry.slots
      → (cell_at h.hold.planned.hold.cells (position_at fs.geometry h.row slot)).standing ≢ Out
      → (cell_at h.hold.planned.hold.cells (position_at fs.geometry h.row slot)).writing ≡ Sent
      → IsOutTo fs frame h.row slot
  pub whole : (frame : ℕ) (h : HeldRow) → hold_at fs.uses frame ≡ Some h → IsDriven fs frame
      → HasNew h.hold.planned.hold → ArePutOut h.hold.planned.hold

-- so does every live core, in each state that its calls leave
abbrev pub CoreLaw : Type 0
CoreLaw = (fs : FramesState) → IsSound fs → AreLive fs → PutsOutAll fs

-- the world's shards are those of cores, each between two of its calls, in md's layout of some shape
pub record AreOfCores (l : Layout) (w : World) : Type 0 where
  pub shape : Shape
  pub is_shape : IsShape shape
  pub layout_is : layout_of shape ≡ l
  pub frames_of : ℕ → FramesState
  pub rest_of : ℕ → Rest
  pub sound : (n : ℕ) → n < shape.shards → IsSound (frames_of n)
  pub geometry : (n : ℕ) → n < shape.shards → (frames_of n).geometry ≡ shape
  pub shard_is : (n : ℕ) → n < shape.shards → w.shard n ≡ shard_with (rest_of n) (frames_of n)

-- Wherever a run of cores ends, a replay of the journal leaves a lawful start with these slots lost
abbrev pub CoresJournalLaw : Type 0
CoresJournalLaw =
    OfEveryRun (λ l array start moments.
    let w = after_all l start moments in
    AreOfCores l w → (lost : ℕ → Bool) (device_of : ℕ → ℕ) → IsServed l lost device_of w
    → ReplayStarts l lost device_of w (plain_after_all l start (at_start array) moments))
