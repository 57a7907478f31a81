-- What the held rows still owe: their commands, and their ends.
use Rattle.std.specs.Prelude.{◌≡◌, ◌⊎◌, ℕ, ◌+◌, ◌*◌, ◌||◌, true, false, List, [], ◌∷◌, Some, None}
use Rattle.r6_stripe.specs.Bound.{to_come}
use Rattle.r6_stripe.specs.Holds.{Event as RowEvent, cell_at}
use Rattle.r6_stripe.specs.Plans as plans
use Rattle.r6_stripe.specs.Plans.{IsPlanned, AreSilent, planned_at, is_over, has_read_out, has_write_out}
use Rattle.r6_stripe.specs.Steps.{has_outcome}
use Rattle.r6_frames.specs.declared.frames.HeldRow.{HeldRow}
use Rattle.r6_frames.specs.declared.frames.FrameUse.{FrameUse}
use Rattle.r6_frames.specs.declared.frames.FrameUse.TheVariants as uses
use Rattle.r6_frames.specs.FramesState.{FramesState}
use Rattle.r6_frames.specs.Views.{hold_at}

-- ---- commands and ends

-- nothing comes next in the frame's hold
abbrev pub IsDriven : FramesState → ℕ → Type 0
IsDriven fs frame = (h : HeldRow) → hold_at fs.uses frame ≡ Some h → plans.next h.hold.planned ≡ None

-- the frame's hold may end
abbrev pub IsOver : FramesState → ℕ → Type 0
IsOver fs frame = (h : HeldRow) × (hold_at fs.uses frame ≡ Some h) × (has_outcome h.hold.planned ≡ true)

-- a command of the frame's hold is put out that is neither answered nor abandoned
abbrev pub HasOut : FramesState → ℕ → Type 0
HasOut fs frame =
    (h : HeldRow) × (hold_at fs.uses frame ≡ Some h)
    × ((has_read_out h.hold.planned.hold || has_write_out h.hold.planned.hold) ≡ true)

-- the frame's hold isn't over, whatever it restores or computes first
abbrev pub OwesCommands : FramesState → ℕ → Type 0
OwesCommands fs frame =
    (h : HeldRow) → hold_at fs.uses frame ≡ Some h
    → (events : List RowEvent) → AreSilent events → IsPlanned h.hold.planned events
    → is_over (planned_at h.hold.planned events) ≡ false

-- no read of the frame's hold has met an error that it isn't done with
abbrev pub IsUnmet : FramesState → ℕ → Type 0
IsUnmet fs frame =
    (h : HeldRow) → hold_at fs.uses frame ≡ Some h
    → (position : ℕ) → plans.is_met (cell_at h.hold.planned.hold.cells position).reading ≡ false

-- too few blocks of the frame's hold can still become known: a position whose read met an error is to be read from its
-- second device
abbrev pub MovesUnreadableAt : FramesState → (frame position : ℕ) → Type 0
MovesUnreadableAt fs frame position =
    (h : HeldRow) × (hold_at fs.uses frame ≡ Some h)
    × (plans.next h.hold.planned ≡ Some (plans.Next.MoveAt position))

abbrev pub MovesUnreadable : FramesState → (frame : ℕ) → Type 0
MovesUnreadable fs frame = (position : ℕ) × MovesUnreadableAt fs frame position

-- or, where none has one that is in sync, the positions of its read errors are to be lost
abbrev pub LosesUnreadable : FramesState → ℕ → Type 0
LosesUnreadable fs frame =
    (h : HeldRow) × (hold_at fs.uses frame ≡ Some h)
    × (plans.next h.hold.planned ≡ Some plans.Next.LoseUnreadable)

abbrev pub LacksBlocks : FramesState → ℕ → Type 0
LacksBlocks fs frame = MovesUnreadable fs frame ⊎ LosesUnreadable fs frame

-- ---- how many commands the holds may still put out, by the rules of their rows

-- at most a read and a write of each position, a write of a second device, and a fix and a second read of two
abbrev pub most_owed : (slots : ℕ) → ℕ
most_owed slots = 2 * slots + 5

abbrev pub owed_by : HeldRow → ℕ
owed_by h = to_come h.hold.planned.hold.cells

abbrev pub owed_in : List FrameUse → ℕ
owed_in [] = 0
owed_in (uses.Free ∷ held) = owed_in held
owed_in (uses.Held h ∷ held) = owed_by h + owed_in held
owed_in (uses.Returning r second ∷ held) = owed_in held

abbrev pub owed : FramesState → ℕ
owed fs = owed_in fs.uses

-- the token that comes next once all that is owed was put out
abbrev pub last_token : FramesState → ℕ
last_token fs = fs.commands.next + owed fs
