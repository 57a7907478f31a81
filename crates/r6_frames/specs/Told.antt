-- What the held rows hear of a slot that has other devices.
use Rattle.std.specs.Prelude.{◌≡◌, ℕ, ◌<◌, ◌||◌, ◌&&◌, not, if◌then◌else◌, Bool, true, false, List, length, Option, Some, None}
use Rattle.r6_layout.specs.Shape.{Shape}
use Rattle.r6_layout.specs.Layout as layout
use Rattle.r6_stripe.specs.Holds.{cell_at}
use Rattle.r6_stripe.specs.Plans as stripe
use Rattle.r6_stripe.specs.Steps.{lost, taken_over, dropped}
use Rattle.r6_world.specs.ShardStates as shards
use Rattle.r6_world.specs.ShardStates.{has_device}
use Rattle.r6_frames.specs.declared.slots.Device.{Device}
use Rattle.r6_frames.specs.declared.losses.Heard.{Heard}
use Rattle.r6_frames.specs.declared.losses.Heard.TheVariants as heard
use Rattle.r6_frames.specs.declared.frames.HeldRow.{HeldRow}
use Rattle.r6_frames.specs.declared.frames.FrameUse.{FrameUse}
use Rattle.r6_frames.specs.declared.frames.FrameUse.TheVariants as uses
use Rattle.r6_frames.specs.Successors as successors
use Rattle.r6_frames.specs.Successors.{beside_in}
use Rattle.r6_frames.specs.Slots.{first_of, state_of}
use Rattle.r6_frames.specs.Views.{hold_at, rebuilds}

-- by whether the slot still has the first device, and the second
abbrev pub heard_of_one : (keeps_first : Bool) → Heard
heard_of_one true = heard.Nothing
heard_of_one false = heard.Lost

abbrev pub heard_of_two : (keeps_first keeps_second : Bool) → Heard
heard_of_two true true = heard.Nothing
heard_of_two true false = heard.Dropped
heard_of_two false true = heard.Moved
heard_of_two false false = heard.Lost

abbrev pub heard_beside : (second : Option ℕ) → (keeps_first : Bool) → (now : Device) → Heard
heard_beside None keeps_first now = heard_of_one keeps_first
heard_beside (Some second) keeps_first now = heard_of_two keeps_first (has_device (state_of now) second)

-- the row has a target in the slot
abbrev pub targets : HeldRow → (slot : ℕ) → Bool
targets h slot = h.has_target && rebuilds h.job slot

-- a row for which no device of the slot was in sync, and that has no target there, hears nothing
abbrev pub hears : HeldRow → (slot : ℕ) → (was : Device) → Bool
hears h slot was = stripe.is_in_sync (shards.standing_of (state_of was) h.row) || targets h slot

abbrev pub heard_from : HeldRow → (slot : ℕ) → (was now : Device) → (first : Option ℕ) → Heard
heard_from h slot was now None = heard.Nothing
heard_from h slot was now (Some first) =
    if hears h slot was then heard_beside (beside_in h.successor slot) (has_device (state_of now) first) now
    else heard.Nothing

abbrev pub heard_by : HeldRow → (slot : ℕ) → (was now : Device) → Heard
heard_by h slot was now = heard_from h slot was now (first_of was)

abbrev pub told_row : Shape → (slot : ℕ) → Heard → HeldRow → HeldRow
told_row shape slot heard.Nothing h = h
told_row shape slot heard.Lost h =
    record h {
      hold = lost h.hold (layout.position_at shape h.row slot);
      successor = successors.dropped h.successor slot;
      has_target = h.has_target && not (rebuilds h.job slot);
    }
told_row shape slot heard.Moved h =
    record h { hold = taken_over h.hold (layout.position_at shape h.row slot); successor = successors.moved h.successor }
told_row shape slot heard.Dropped h =
    record h { hold = dropped h.hold (layout.position_at shape h.row slot); successor = successors.dropped h.successor slot }

-- each held row is told of a slot that had this and has that
abbrev pub told_use : Shape → (slot : ℕ) → (was now : Device) → FrameUse → FrameUse
told_use shape slot was now uses.Free = uses.Free
told_use shape slot was now (uses.Held h) = uses.Held (told_row shape slot (heard_by h slot was now) h)
told_use shape slot was now (uses.Returning hold successor) = uses.Returning hold successor

-- what is heard speaks of two devices
abbrev pub IsOfTwo : Heard → Type 0
IsOfTwo heard.Nothing = ⊥
IsOfTwo heard.Lost = ⊥
IsOfTwo heard.Moved = Unit {0}
IsOfTwo heard.Dropped = Unit {0}

-- the row's hold has a second device in the slot
abbrev pub HasSecondAt : Shape → (slot : ℕ) → HeldRow → Type 0
HasSecondAt shape slot h =
    stripe.is_out (cell_at h.hold.planned.hold.cells (layout.position_at shape h.row slot)).second ≡ false

-- a held row is one of the array, as wide as the array, and its second device is in use where it says so
pub record IsHeldRow (shape : Shape) (h : HeldRow) : Type 0 where
  pub row : h.row < shape.rows
  pub wide : length h.hold.planned.hold.cells ≡ shape.slots
  pub second : (slot generation : ℕ) → slot < shape.slots → beside_in h.successor slot ≡ Some generation
      → HasSecondAt shape slot h

abbrev pub AreHeldRows : Shape → List FrameUse → Type 0
AreHeldRows shape held = (frame : ℕ) (h : HeldRow) → hold_at held frame ≡ Some h → IsHeldRow shape h
