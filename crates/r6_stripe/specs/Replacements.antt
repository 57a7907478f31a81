-- What the code's knowledge of the rebuild of a position in sync stands for: a hold without a task, which reads the
-- position's block, and what becomes of the target, its second device.
use Rattle.std.specs.Prelude.{◌≡◌, ◌≢◌, ◌⊎◌, ◌<◌, ◌≤◌, ◌+◌, ◌==◌, ◌&&◌, ℕ, Bool, true, false, List, length, map, slice_set, slice_index_or, Option, Some, None, if◌then◌else◌}
use Rattle.r6_stripe.specs.Holds.{Standing, Reading, Writing, Cell, Kind, cell_at, no_cell, is_known, known_count, replaced, resting, IsReadOver}
use Rattle.r6_stripe.specs.Holds.Standing.{InSync, Target, Out}
use Rattle.r6_stripe.specs.Holds.Reading.{Unread, Known, Replaced}
use Rattle.r6_stripe.specs.Holds.Writing.{Unwritten, Sent, Confirmed}
use Rattle.r6_stripe.specs.Holds.Doubling.{Single}
use Rattle.r6_stripe.specs.Holds.Kind.{Idle, Rebuild}
use Rattle.r6_stripe.specs.Plans.{Plan, Planned, is_recalled}
use Rattle.r6_stripe.specs.Plans.Plan.{One, Recover}
use Rattle.r6_stripe.specs.Steps.{Held, alone_if, is_away}
use Rattle.r6_stripe.specs.declared.command.Outcome.{Outcome}
use Rattle.r6_stripe.specs.declared.command.Outcome.TheVariants as outcome
use Rattle.r6_stripe.specs.declared.replacement.Stage.{Stage}
use Rattle.r6_stripe.specs.declared.replacement.Stage.TheVariants as stage
use Rattle.r6_stripe.specs.declared.replacement.Written.{Written}
use Rattle.r6_stripe.specs.declared.replacement.Written.TheVariants as written
use Rattle.r6_stripe.specs.declared.replacement.Replacement.{Replacement}

-- ---- the hold that reads

-- a row of which nothing was read, with the plan to read one block, and no task
abbrev pub source_held : ℕ → List Bool → Held
source_held size in_sync =
    record {
      planned = record { hold = resting size (map alone_if in_sync); plan = One };
      away = map (λ b. false) in_sync;
      class = None;
      second_away = false;
    }

-- a position of it
pub record IsSource (cell : Cell) : Type 0 where
  pub standing : cell.standing ≢ Target
  pub kept : cell.reading ≢ Replaced
  pub unrecalled : is_recalled cell.reading ≡ false
  pub writing : cell.writing ≡ Unwritten
  pub second : cell.second ≡ Out
  pub copying : cell.copying ≡ Unwritten
  pub doubling : cell.doubling ≡ Single

abbrev pub AreSources : List Cell → Type 0
AreSources cells = (position : ℕ) → IsSource (cell_at cells position)

-- a buffer that is away is that of a position whose block isn't known
abbrev pub AreUnlent : Held → Type 0
AreUnlent held =
    (position : ℕ) → is_away held position ≡ true → is_known (cell_at held.planned.hold.cells position).reading ≡ false

-- the hold with the position as a target, and a buffer at home there
abbrev pub turned : Held → ℕ → Held
turned held position =
    record held {
      planned = record held.planned {
        hold = record held.planned.hold {
          cells = slice_set held.planned.hold.cells position (record no_cell { standing = Target });
        };
      };
      away = slice_set held.away position false;
    }

-- with the task to rebuild the position
abbrev pub rebuilding : Held → ℕ → Held
rebuilding held position =
    record held {
      planned = record { hold = record held.planned.hold { kind = Rebuild position }; plan = Recover };
    }

-- with this block in the place of the one that is known
abbrev pub with_block : Held → ℕ → List ℕ → Held
with_block held position block =
    record held {
      planned = record held.planned {
        hold = record held.planned.hold {
          cells = slice_set held.planned.hold.cells position (record (cell_at held.planned.hold.cells position) { reading = Known block });
        };
      };
    }

-- with another plan
abbrev pub with_plan : Plan → Held → Held
with_plan plan held = record held { planned = record held.planned { plan = plan } }

abbrev pub recovering : Held → Held
recovering held = with_plan Recover held

-- ---- the position that is rebuilt

abbrev pub is_gone : Stage → Bool
is_gone stage.Beside = false
is_gone stage.Moved = false
is_gone stage.Dropped = true

abbrev pub is_moved : Stage → Bool
is_moved stage.Beside = false
is_moved stage.Moved = true
is_moved stage.Dropped = false

abbrev pub is_left : Written → Bool
is_left written.Unwritten = false
is_left written.Sent = true
is_left written.Confirmed = true

abbrev pub written_as : Written → Writing
written_as written.Unwritten = Unwritten
written_as written.Sent = Sent
written_as written.Confirmed = Confirmed

-- what was read gave way once its block left
abbrev pub given : Written → Reading → Reading
given written.Unwritten reading = reading
given written.Sent reading = replaced reading
given written.Confirmed reading = replaced reading

-- the target, where the position isn't lost
abbrev pub target_at : Standing → Standing
target_at InSync = Target
target_at Target = Target
target_at Out = Out

abbrev pub has_moved : Replacement → ℕ → Bool
has_moved r position = is_moved r.stage && (r.position == position)

-- the position with its target
abbrev pub replacing : Stage → Written → Cell → Cell
replacing stage.Beside w cell =
    record no_cell {
      standing = cell.standing;
      reading = given w cell.reading;
      second = target_at cell.standing;
      copying = written_as w;
    }
replacing stage.Moved w cell =
    record no_cell {
      standing = target_at cell.standing;
      reading = given w cell.reading;
      writing = written_as w;
    }
replacing stage.Dropped w cell = record no_cell { standing = cell.standing; reading = given w cell.reading }

abbrev pub replacing_at : Stage → Written → ℕ → List Cell → List Cell
replacing_at s w position cells = slice_set cells position (replacing s w (cell_at cells position))

abbrev pub kind_of_replacement : Replacement → Kind
kind_of_replacement r = if r.closed then Idle else Rebuild r.position

-- in the first device's place the target has the buffer that was no position's, and the position's own is apart
abbrev pub away_beside : Stage → ℕ → List Bool → Bool → List Bool
away_beside stage.Beside position away apart = away
away_beside stage.Moved position away apart = slice_set away position apart
away_beside stage.Dropped position away apart = away

abbrev pub apart_beside : Stage → ℕ → List Bool → Bool → Bool
apart_beside stage.Beside position away apart = apart
apart_beside stage.Moved position away apart = slice_index_or away position false
apart_beside stage.Dropped position away apart = apart

abbrev pub planned_beside : Replacement → Planned → Planned
planned_beside r planned =
    record planned {
      hold = record planned.hold {
        kind = kind_of_replacement r;
        cells = replacing_at r.stage r.written r.position planned.hold.cells;
      };
    }

abbrev pub held_beside : Replacement → Held → Held
held_beside r held =
    record held {
      planned = planned_beside r held.planned;
      away = away_beside r.stage r.position held.away held.second_away;
      second_away = apart_beside r.stage r.position held.away held.second_away;
    }

abbrev pub with_replacement : Option Replacement → Held → Held
with_replacement None held = held
with_replacement (Some r) held = held_beside r held

-- the write to the target is confirmed, if it is put out and the target is there
abbrev pub confirmed_if : Bool → Replacement → Replacement
confirmed_if true r = record r { written = written.Confirmed }
confirmed_if false r = r

-- how the rebuild ends while its target is there
abbrev pub target_outcome : Written → Option Outcome
target_outcome written.Unwritten = None
target_outcome written.Sent = None
target_outcome written.Confirmed = Some outcome.Rebuilt

-- What is true of the hold that reads, and of what became of the target
pub record IsReplacing (held : Held) (r : Replacement) : Type 0 where
  pub within : r.position < length held.planned.hold.cells
  pub wide : length held.away ≡ length held.planned.hold.cells
  pub enough_positions : 4 ≤ length held.planned.hold.cells
  pub untasked : held.planned.hold.kind ≡ Idle
  pub unclassed : held.class ≡ None
  pub uncut : held.planned.hold.cut_short ≡ false
  pub sources : AreSources held.planned.hold.cells
  pub unlent : AreUnlent held
  -- and where that isn't lost its command is awaited
  pub busy : (position : ℕ) → is_away held position ≡ true
      → (cell_at held.planned.hold.cells position).standing ≢ Out
      → IsReadOver (cell_at held.planned.hold.cells position).reading → ⊥
  -- one block is read, or as many as there are data once its read met an error
  pub plan : (held.planned.plan ≡ One) ⊎ (held.planned.plan ≡ Recover)
  pub own : held.planned.plan ≡ One → (position : ℕ) → position ≢ r.position
      → (cell_at held.planned.hold.cells position).reading ≡ Unread
  pub tried : held.planned.plan ≡ Recover → (cell_at held.planned.hold.cells r.position).standing ≡ InSync
      → (cell_at held.planned.hold.cells r.position).reading ≢ Unread
  pub moved : r.stage ≡ stage.Moved → is_known (cell_at held.planned.hold.cells r.position).reading ≡ true
  -- the block leaves once all is read
  pub home : r.written ≢ written.Sent → held.second_away ≡ false
  pub known : r.written ≢ written.Unwritten → is_known (cell_at held.planned.hold.cells r.position).reading ≡ true
  pub over : r.written ≢ written.Unwritten → (position : ℕ)
      → (cell_at held.planned.hold.cells position).standing ≢ Out
      → IsReadOver (cell_at held.planned.hold.cells position).reading
  pub enough : r.written ≢ written.Unwritten → held.planned.plan ≡ Recover
      → length held.planned.hold.cells ≤ known_count held.planned.hold.cells + 2
