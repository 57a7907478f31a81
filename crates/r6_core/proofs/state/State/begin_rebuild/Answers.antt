use Rattle.std.proofs.Common.{◌≡◌, ℕ, ◌<◌, refl, inl, sym, ap, subst, ◌∙◌}
use Rattle.r6_layout.specs.Shape.{Shape}
use Rattle.r6_layout.specs.Layout.{position_at}
use Rattle.r6_stripe.specs.declared.command.RowTask.TheVariants as asks
use Rattle.r6_frames.specs.declared.frames.Job.TheVariants as job
use Rattle.r6_world.specs.Geometries.{layout_of}
use Rattle.r6_world.specs.Layouts.{IsRowOf}
use Rattle.r6_frames.specs.declared.frames.Frames.{Frames}
use Rattle.r6_frames.specs.declared.rebuilt.Target.{Target}
use Rattle.r6_frames.specs.Calls.{BeginsTurn, IsNextOn}
use Rattle.r6_frames.specs.Sound as held
use Rattle.r6_core.specs.Inside.{CanHold}
use Rattle.r6_frames.specs.Sound.{MayHold}
use Rattle.r6_frames.proofs.Beginning.{directs_kept, others_kept}
use Rattle.r6_frames.proofs.BegunFor.{HoldsFor, begins_rebuild, may_rebuild}
use Rattle.r6_frames.proofs.Unmet.{unmet_readable}
use Rattle.r6_frames.specs.Views.{rebuild_task}
use Rattle.r6_core.proofs.HeldRebuilds.{rebuild_allowed}
use Rattle.r6_core.proofs.HeldTurns.{IsTurnTaken, begun_turn, turn_numbers, turned_core, turned_leads}
use Rattle.r6_core.proofs.state.State.begin_rebuild.Goals as goal

pub position_at-position-requires-clause-row_within : goal.position_at-position-requires-clause-row_within
position_at-position-requires-clause-row_within c = subst (λ (shape : Shape). c.args.row < shape.rows) (sym c.geometry.ensures) c.requires.row.0

pub begin-requires-clause-may : goal.begin-requires-clause-may
begin-requires-clause-may c =
    let fs = c.args.self.now.frames in
    let place = c.position_at-position.ensures.value ∙ ap (λ (shape : Shape). position_at shape c.args.row c.args.target.slot) c.geometry.ensures in
    subst (λ (p : ℕ). MayHold fs c.args.row (job.Rebuild c.args.target) (asks.Rebuild p)) (sym place)
    (may_rebuild fs c.args.target c.args.row c.requires.core.settled.sound.frames c.requires.row c.requires.slot c.requires.next)

begins : (fs new : Frames) (target : Target) (frame row position : ℕ) → held.IsSound fs → CanHold fs row frame → IsRowOf (layout_of fs.geometry) fs.shard row → target.slot < fs.geometry.slots
    → IsNextOn fs target row → position ≡ position_at fs.geometry row target.slot
    → HoldsFor fs frame row (job.Rebuild target) (asks.Rebuild position) new → BeginsTurn fs frame (rebuild_task target) row new
begins fs new target frame row position sound can own below next is holds =
    begins_rebuild fs new frame target row sound can.1 own below next can.2
    (subst (λ (p : ℕ). HoldsFor fs frame row (job.Rebuild target) (asks.Rebuild p) new) is holds)

pub drive-requires-clause-held : goal.drive-requires-clause-held
drive-requires-clause-held c = begun_turn c.args.self.now.frames c.args.frame (rebuild_task c.args.target) c.args.row c.begin.new.self (begins c.args.self.now.frames c.begin.new.self c.args.target c.args.frame c.args.row c.position_at-position.result c.requires.core.settled.sound.frames c.requires.can c.requires.row c.requires.slot c.requires.next (c.position_at-position.ensures.value ∙ ap (λ (shape : Shape). position_at shape c.args.row c.args.target.slot) c.geometry.ensures) c.begin.ensures.holds)

pub drive-requires-clause-numbers : goal.drive-requires-clause-numbers
drive-requires-clause-numbers c =
    turn_numbers c.args.self.now c.args.frame (rebuild_task c.args.target) c.args.row c.begin.new.self c.requires.tokens c.begin.ensures.sound (begins c.args.self.now.frames c.begin.new.self c.args.target c.args.frame c.args.row c.position_at-position.result c.requires.core.settled.sound.frames c.requires.can c.requires.row c.requires.slot c.requires.next (c.position_at-position.ensures.value ∙ ap (λ (shape : Shape). position_at shape c.args.row c.args.target.slot) c.geometry.ensures) c.begin.ensures.holds)

pub drive-requires-clause-readable : goal.drive-requires-clause-readable
drive-requires-clause-readable c = unmet_readable c.begin.new.self c.args.frame c.begin.ensures.unmet

turn : (c : goal.After-drive) → IsTurnTaken c.args.self.now (rebuild_task c.args.target) c.args.frame c.args.row c.args.self.now.check_row c.args.self.now.repair_row c.begin.new.self c.drive.new.self
turn c =
    record {
      core = c.requires.core;
      turn = record {};
      can = c.requires.can;
      given = c.requires.tokens;
      few = inl refl;
      own = c.requires.core.settled.sound.next_rows;
      check = refl;
      repair = refl;
      begins = begins c.args.self.now.frames c.begin.new.self c.args.target c.args.frame c.args.row c.position_at-position.result c.requires.core.settled.sound.frames c.requires.can c.requires.row c.requires.slot c.requires.next (c.position_at-position.ensures.value ∙ ap (λ (shape : Shape). position_at shape c.args.row c.args.target.slot) c.geometry.ensures) c.begin.ensures.holds;
      begun_sound = c.begin.ensures.sound;
      begun_others = others_kept c.args.self.now.frames c.args.frame _ c.begin.new.self c.begin.ensures.holds.2;
      begun_owed = c.begin.ensures.owed;
      sound = c.drive.ensures.sound;
      drives = (c.drive.ensures.begins c.begin.ensures.unmet).1;
      driven = c.drive.ensures.driven;
      held_still = c.drive.ensures.held;
      others_kept = c.drive.ensures.others;
      rows = c.drive.ensures.rows;
      requests = c.drive.ensures.requests;
      all_owed = c.drive.ensures.owed;
      live = c.drive.ensures.live;
      goes_out = c.drive.ensures.out c.begin.ensures.owes;
      directs = c.drive.ensures.directs ∙ directs_kept c.args.self.now.frames c.args.frame _ c.begin.new.self c.begin.ensures.holds.2;
    }

pub returns-clause-core : goal.returns-clause-core
returns-clause-core c =
    let s = c.args.self.now in
    turned_core s (rebuild_task c.args.target) c.args.frame c.args.row s.check_row s.repair_row c.begin.new.self c.drive.new.self (turn c)

pub returns-clause-allowed : goal.returns-clause-allowed
returns-clause-allowed c =
    rebuild_allowed c.args.self.now c.args.target c.args.frame c.args.row c.requires.core.settled.sound c.requires.can c.requires.row c.requires.slot c.requires.next

pub returns-clause-leads : goal.returns-clause-leads
returns-clause-leads c =
    let s = c.args.self.now in
    turned_leads s (rebuild_task c.args.target) c.args.frame c.args.row s.check_row s.repair_row c.begin.new.self c.drive.new.self (turn c)
