-- What the code's knowledge of a position's second device stands for.
use Rattle.std.specs.Prelude.{◌≡◌, ◌≢◌, ◌⊎◌, ◌<◌, ◌==◌, ◌&&◌, not, ℕ, Bool, true, false, List, length, slice_set, Option, Some, None, if◌then◌else◌, ⊤}
use Rattle.r6_stripe.specs.Holds.{Cell, Doubling, Reading, Writing, cell_at, no_cell}
use Rattle.r6_stripe.specs.Holds.Standing.{InSync, Out}
use Rattle.r6_stripe.specs.Holds.Reading.{Recalled, Asked}
use Rattle.r6_stripe.specs.Holds.Writing.{Unwritten, Ready, Sent, Confirmed}
use Rattle.r6_stripe.specs.Places.{standing_of, was_sent}
use Rattle.r6_stripe.specs.Plans.{is_in_sync, is_out}
use Rattle.r6_stripe.specs.Steps.{Held, is_away}
use Rattle.r6_stripe.specs.declared.place.PositionState.{PositionState}
use Rattle.r6_stripe.specs.declared.place.ReadState.{ReadState}
use Rattle.r6_stripe.specs.declared.place.WriteState.{WriteState}
use Rattle.r6_stripe.specs.declared.place.Standing.TheVariants as state
use Rattle.r6_stripe.specs.declared.place.ReadState.TheVariants as read
use Rattle.r6_stripe.specs.declared.place.WriteState.TheVariants as write
use Rattle.r6_stripe.specs.declared.second.CopyState.{CopyState}
use Rattle.r6_stripe.specs.declared.second.CopyState.TheVariants as copy
use Rattle.r6_stripe.specs.declared.second.Doubling.{Doubling as DoublingState}
use Rattle.r6_stripe.specs.declared.second.Doubling.TheVariants as doubling
use Rattle.r6_stripe.specs.declared.second.Second.{Second}

-- the write to the second device, by that of the first, and by the block in the buffer apart
abbrev pub copying_of : CopyState → Writing → List ℕ → Writing
copying_of copy.Unwritten first block = Unwritten
copying_of copy.Following first block = first
copying_of copy.Ready first block = Ready block
copying_of copy.Sent first block = Sent
copying_of copy.Confirmed first block = Confirmed

abbrev pub doubling_of : DoublingState → Doubling
doubling_of doubling.Single = Doubling.Single
doubling_of doubling.Doubled = Doubling.Doubled
doubling_of doubling.Passed = Doubling.Passed

-- a read that is asked for, and was put out to a device that is gone
abbrev pub recalled_if : Bool → Reading → Reading
recalled_if true Asked = Recalled
recalled_if recalled reading = reading

-- the position with its second device
abbrev pub beside : Second → List ℕ → Cell → Cell
beside second block cell =
    record {
      standing = cell.standing;
      reading = recalled_if second.recalled cell.reading;
      writing = cell.writing;
      second = standing_of second.state;
      copying = copying_of second.copy cell.writing block;
      doubling = doubling_of second.doubling;
    }

abbrev pub cells_beside : Second → List ℕ → List Cell → List Cell
cells_beside second block cells = slice_set cells second.position (beside second block (cell_at cells second.position))

-- the hold with the second device of one of its positions, if one has it
abbrev pub with_second : Option Second → List ℕ → Bool → Held → Held
with_second None block away held = record held { second_away = away }
with_second (Some second) block away held =
    record held {
      planned = record held.planned {
        hold = record held.planned.hold { cells = cells_beside second block held.planned.hold.cells };
      };
      second_away = away;
    }

-- the hold with these of one position, whose device is another
abbrev pub handed : Held → ℕ → Reading → Writing → Bool → Held
handed held position reading writing away =
    record held {
      planned = record held.planned {
        hold = record held.planned.hold {
          cells = slice_set held.planned.hold.cells position (record no_cell { standing = InSync; reading = reading; writing = writing });
        };
      };
      away = slice_set held.away position away;
    }

-- what becomes of a read of the first device once the second has its place
abbrev pub anew : ReadState → ReadState
anew read.Unread = read.Unread
anew read.Asked = read.Asked
anew read.Unreadable = read.Asked
anew read.Fixing = read.Fixed
anew read.Fixed = read.Fixed
anew read.AskedAgain = read.Fixed
anew read.Known = read.Known
anew read.Replaced = read.Replaced

-- whether the first read is to be put out again
abbrev pub is_recalled_by : ReadState → Bool
is_recalled_by read.Unread = false
is_recalled_by read.Asked = true
is_recalled_by read.Unreadable = true
is_recalled_by read.Fixing = false
is_recalled_by read.Fixed = false
is_recalled_by read.AskedAgain = false
is_recalled_by read.Known = false
is_recalled_by read.Replaced = false

-- the position's write then, by the first device's
abbrev pub write_of : CopyState → WriteState → WriteState
write_of copy.Unwritten first = write.Unwritten
write_of copy.Following first = first
write_of copy.Ready first = write.Ready
write_of copy.Sent first = write.Sent
write_of copy.Confirmed first = write.Confirmed

abbrev pub passed_on : DoublingState → DoublingState
passed_on doubling.Single = doubling.Single
passed_on doubling.Doubled = doubling.Passed
passed_on doubling.Passed = doubling.Passed

abbrev pub is_following : CopyState → Bool
is_following copy.Unwritten = false
is_following copy.Following = true
is_following copy.Ready = false
is_following copy.Sent = false
is_following copy.Confirmed = false

abbrev pub is_ready : CopyState → Bool
is_ready copy.Unwritten = false
is_ready copy.Following = false
is_ready copy.Ready = true
is_ready copy.Sent = false
is_ready copy.Confirmed = false

abbrev pub is_put_out : CopyState → Bool
is_put_out copy.Unwritten = false
is_put_out copy.Following = false
is_put_out copy.Ready = false
is_put_out copy.Sent = true
is_put_out copy.Confirmed = false

-- the write to the second device comes next among those of its position
abbrev pub is_due : Second → Bool
is_due second = is_in_sync (standing_of second.state) && is_ready second.copy

-- it is put out, and is awaited
abbrev pub is_awaited : Second → Bool
is_awaited second = not (is_out (standing_of second.state)) && is_put_out second.copy

abbrev pub is_passed : Doubling → Bool
is_passed Doubling.Single = false
is_passed Doubling.Doubled = false
is_passed Doubling.Passed = true

-- the write of this position, which was put out, is the one that the second device's follows
abbrev pub is_followed : PositionState → Second → ℕ → Bool
is_followed place second position = (position == second.position) && is_following second.copy && was_sent place.write

abbrev pub second_after : PositionState → Second → ℕ → Option Second → Option Second
second_after place second position old =
    if is_followed place second position
    then Some (record second { copy = copy.Ready; doubling = doubling.Doubled }) else old

abbrev pub spare_after : PositionState → Second → ℕ → List ℕ → List ℕ → List ℕ
spare_after place second position block old = if is_followed place second position then block else old

-- the second device is lost with the first: a block that was ready for both is kept
abbrev pub is_kept : WriteState → Second → Bool
is_kept write.Unwritten second = false
is_kept write.Ready second = is_following second.copy
is_kept write.Sent second = false
is_kept write.Confirmed second = false

abbrev pub lost_copy : WriteState → CopyState → CopyState
lost_copy write.Ready copy.Following = copy.Ready
lost_copy first copy.Following = copy.Unwritten
lost_copy first other = other

abbrev pub lost_second : WriteState → Second → Second
lost_second first second = record second { state = state.Out; copy = lost_copy first second.copy }

-- it has the first one's place, whose read had come to this
abbrev pub moved_second : ReadState → Second → Second
moved_second reading second =
    record second {
      state = state.Out;
      copy = copy.Unwritten;
      doubling = passed_on second.doubling;
      recalled = is_recalled_by reading;
    }

-- What is true of a second device, beside the hold without it
pub record IsSecondSound (held : Held) (away : Bool) (second : Second) : Type 0 where
  pub within : second.position < length held.planned.hold.cells
  pub untargeted : second.state ≢ state.Target
  -- it stands beside one in sync
  pub beside_one : second.state ≡ state.InSync → (cell_at held.planned.hold.cells second.position).standing ≡ InSync
  -- its write is that of the first, until that is put out
  pub follows : second.state ≡ state.InSync → (second.copy ≡ copy.Following)
      ⊎ ((cell_at held.planned.hold.cells second.position).writing ≡ Sent)
      ⊎ ((cell_at held.planned.hold.cells second.position).writing ≡ Confirmed)
  pub early : second.copy ≡ copy.Following → ((cell_at held.planned.hold.cells second.position).writing ≢ Sent)
      × ((cell_at held.planned.hold.cells second.position).writing ≢ Confirmed)
  pub owed : second.state ≡ state.InSync → second.copy ≢ copy.Unwritten
  pub over : second.state ≡ state.Out → second.copy ≢ copy.Following
  pub computed : second.copy ≢ copy.Unwritten → second.copy ≢ copy.Following
      → (cell_at held.planned.hold.cells second.position).writing ≢ Unwritten
  pub following_home : second.copy ≡ copy.Following → away ≡ false
  pub ready_home : second.copy ≡ copy.Ready → away ≡ false
  pub confirmed_home : second.copy ≡ copy.Confirmed → away ≡ false
  -- a read is recalled once
  pub alone : second.recalled ≡ true → (second.state ≡ state.Out) × (second.copy ≡ copy.Unwritten)
  pub recalled : second.recalled ≡ true → (cell_at held.planned.hold.cells second.position).standing ≢ Out
      → ((cell_at held.planned.hold.cells second.position).standing ≡ InSync)
      × ((cell_at held.planned.hold.cells second.position).reading ≡ Asked)
      × ((cell_at held.planned.hold.cells second.position).writing ≡ Unwritten)
      × (is_away held second.position ≡ false)

abbrev pub IsSoundBeside : Held → Bool → Option Second → Type 0
IsSoundBeside held away None = ⊤
IsSoundBeside held away (Some second) = IsSecondSound held away second
