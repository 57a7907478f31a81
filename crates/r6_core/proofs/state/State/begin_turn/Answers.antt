use Rattle.std.proofs.Common.{◌≡◌, ◌≤◌, ℕ, ◌+◌, sym, ap, subst, ◌∙◌, inr}
use Rattle.r6_world.specs.Changes.{Start, after}
use Rattle.r6_world.specs.Steps.{Scans, Through}
use Rattle.r6_frames.specs.Views.{scrub_row_task, scrub_task}
use Rattle.r6_core.specs.Shards.{layout_in, state_of}
use Rattle.r6_stripe.specs.declared.command.RowTask.{RowTask}
use Rattle.r6_frames.specs.declared.frames.Job.TheVariants as job
use Rattle.r6_frames.specs.declared.frames.Frames.{Frames}
use Rattle.r6_frames.specs.declared.frames.Scrub.{Scrub}
use Rattle.r6_frames.specs.Calls.{BeginsTurn, KeepsDirects, KeepsOthers}
use Rattle.r6_frames.specs.Sound.{MayHold}
use Rattle.r6_frames.proofs.Beginning.{directs_kept, others_kept}
use Rattle.r6_frames.proofs.BegunFor.{HoldsFor, begins_scrub, may_scrub}
use Rattle.r6_frames.proofs.Unmet.{unmet_readable}
use Rattle.r6_frames.specs.Owed.{owed, most_owed}
use Rattle.r6_core.specs.declared.state.State.{State}
use Rattle.r6_core.specs.Inside.{IsCore, IsSound, IsTakenUp, next_row}
use Rattle.r6_core.proofs.HeldTurns.{IsTurnTaken, begun_turn, turn_numbers, turned_core, turned_leads}
use Rattle.r6_core.proofs.Turning.{next_own_row, scrub_allowed, turn_is}
use Rattle.std.specs.Prelude.{drop, take}
use Rattle.r6_frames.specs.Views.{AreLive}
use Rattle.r6_frames.specs.Calls.{IsFreeFrame, NotHeldBy}
use Rattle.r6_core.specs.Shards.{waiting_of}
use Rattle.r6_core.proofs.state.State.begin_turn.Goals as goal

-- what the frames hold, by the row that is next and the task that is asked for
found : (s x : State) (scrub : Scrub) (row : ℕ) (task : RowTask) → x.frames ≡ s.frames → row ≡ next_row scrub s → task ≡ scrub_row_task scrub
    → ◌≡◌ {A = Frames × ℕ × RowTask} (x.frames, row, task) (s.frames, next_row scrub s, scrub_row_task scrub)
found s x scrub row task same row_is task_is i = (same i, row_is i, task_is i)

begins : (s : State) (scrub : Scrub) (frame : ℕ) (what : Frames × ℕ × RowTask) (mid : Frames) → what ≡ (s.frames, next_row scrub s, scrub_row_task scrub) → IsSound s → IsTakenUp s scrub frame
    → HoldsFor what.0 frame what.1 (job.Scrub scrub) what.2 mid → BeginsTurn s.frames frame (scrub_task scrub) (next_row scrub s) mid
begins s scrub frame what mid is sound taken holds =
    begins_scrub s.frames mid frame scrub (next_row scrub s) sound.frames taken.1.1 taken.0 (next_own_row s scrub sound) taken.1.2
    (subst (λ (x : Frames × ℕ × RowTask). HoldsFor x.0 frame x.1 (job.Scrub scrub) x.2 mid) is holds)

pub begin-requires-clause-may : goal.begin-requires-clause-may
begin-requires-clause-may c =
    let s = c.args.self.now in
    let scrub = c.args.scrub in
    let sound = c.requires.core.settled.sound in
    subst (λ (x : Frames × ℕ × RowTask). MayHold x.0 x.1 (job.Scrub scrub) x.2) (sym (found c.args.self.now c.pass.new.self c.args.scrub c.next_row-row.result c.task.result (ap (λ (x : State). x.frames) c.pass.ensures.same) c.next_row-row.ensures c.task.ensures))
    (may_scrub s.frames scrub (next_row scrub s) sound.frames.shape c.requires.taken_up.0 (next_own_row s scrub sound))

pub drive-requires-clause-held : goal.drive-requires-clause-held
drive-requires-clause-held c =
    begun_turn c.args.self.now.frames c.args.frame (scrub_task c.args.scrub) (next_row c.args.scrub c.args.self.now) c.begin.new.self
    (begins c.args.self.now c.args.scrub c.args.frame (c.pass.new.self.frames, c.next_row-row.result, c.task.result) c.begin.new.self (found c.args.self.now c.pass.new.self c.args.scrub c.next_row-row.result c.task.result (ap (λ (x : State). x.frames) c.pass.ensures.same) c.next_row-row.ensures c.task.ensures) c.requires.core.settled.sound c.requires.taken_up c.begin.ensures.holds)

pub drive-requires-clause-readable : goal.drive-requires-clause-readable
drive-requires-clause-readable c = unmet_readable c.begin.new.self c.args.frame c.begin.ensures.unmet

pub drive-requires-clause-numbers : goal.drive-requires-clause-numbers
drive-requires-clause-numbers c =
    turn_numbers c.args.self.now c.args.frame (scrub_task c.args.scrub) (next_row c.args.scrub c.args.self.now) c.begin.new.self c.requires.tokens c.begin.ensures.sound
    (begins c.args.self.now c.args.scrub c.args.frame (c.pass.new.self.frames, c.next_row-row.result, c.task.result) c.begin.new.self (found c.args.self.now c.pass.new.self c.args.scrub c.next_row-row.result c.task.result (ap (λ (x : State). x.frames) c.pass.ensures.same) c.next_row-row.ensures c.task.ensures) c.requires.core.settled.sound c.requires.taken_up c.begin.ensures.holds)

turn : (c : goal.After-drive) → IsTurnTaken c.args.self.now (scrub_task c.args.scrub) c.args.frame (next_row c.args.scrub c.args.self.now) c.pass.new.self.check_row c.pass.new.self.repair_row c.begin.new.self c.drive.new.self
turn c =
    record {
      core = c.requires.core;
      turn = turn_is c.args.scrub;
      can = c.requires.taken_up.1;
      given = c.requires.tokens;
      few = inr c.requires.skipped;
      own = c.pass.ensures.own;
      check = c.pass.ensures.check;
      repair = c.pass.ensures.repair;
      begins = begins c.args.self.now c.args.scrub c.args.frame (c.pass.new.self.frames, c.next_row-row.result, c.task.result) c.begin.new.self (found c.args.self.now c.pass.new.self c.args.scrub c.next_row-row.result c.task.result (ap (λ (x : State). x.frames) c.pass.ensures.same) c.next_row-row.ensures c.task.ensures) c.requires.core.settled.sound c.requires.taken_up c.begin.ensures.holds;
      begun_sound = c.begin.ensures.sound;
      begun_others = subst (λ (x : State). KeepsOthers x.frames c.args.frame c.begin.new.self) c.pass.ensures.same (others_kept c.pass.new.self.frames c.args.frame _ c.begin.new.self c.begin.ensures.holds.2);
      begun_owed = subst (λ (x : State). owed c.begin.new.self ≤ owed x.frames + most_owed x.frames.geometry.slots) c.pass.ensures.same c.begin.ensures.owed;
      sound = c.drive.ensures.sound;
      drives = (c.drive.ensures.begins c.begin.ensures.unmet).1;
      driven = c.drive.ensures.driven;
      held_still = c.drive.ensures.held;
      others_kept = c.drive.ensures.others;
      rows = c.drive.ensures.rows;
      requests = c.drive.ensures.requests;
      all_owed = c.drive.ensures.owed;
      live = c.drive.ensures.live;
      goes_out = c.drive.ensures.out c.begin.ensures.owes;
      directs = c.drive.ensures.directs ∙ subst (λ (x : State). KeepsDirects x.frames c.begin.new.self) c.pass.ensures.same (directs_kept c.pass.new.self.frames c.args.frame _ c.begin.new.self c.begin.ensures.holds.2);
    }

pub returns-clause-core : goal.returns-clause-core
returns-clause-core c =
    let s = c.args.self.now in
    let scrub = c.args.scrub in
    subst (λ (x : State). IsCore (record x { frames = c.drive.new.self })) (sym c.pass.ensures.same)
    (turned_core s (scrub_task scrub) c.args.frame (next_row scrub s) c.pass.new.self.check_row c.pass.new.self.repair_row c.begin.new.self c.drive.new.self (turn c))

pub returns-clause-allowed : goal.returns-clause-allowed
returns-clause-allowed c = scrub_allowed c.args.self.now c.args.scrub c.args.frame c.requires.core.settled.sound c.requires.taken_up

pub returns-clause-leads : goal.returns-clause-leads
returns-clause-leads c =
    let s = c.args.self.now in
    let scrub = c.args.scrub in
    let start = Start c.args.frame (next_row scrub s) (scrub_task scrub) in
    subst (λ (x : State). Through (layout_in s) s.frames.shard Scans (after (layout_in s) (state_of s) start) (state_of (record x { frames = c.drive.new.self }))) (sym c.pass.ensures.same)
    (turned_leads s (scrub_task scrub) c.args.frame (next_row scrub s) c.pass.new.self.check_row c.pass.new.self.repair_row c.begin.new.self c.drive.new.self (turn c))

pub pass-requires : goal.pass-requires
pass-requires c = c.requires.core.settled.sound

pub begin-requires-clause-live : goal.begin-requires-clause-live
begin-requires-clause-live c = subst (λ (x : State). AreLive x.frames) (sym c.pass.ensures.same) c.requires.taken_up.1.0

pub begin-requires-clause-free : goal.begin-requires-clause-free
begin-requires-clause-free c = subst (λ (x : State). IsFreeFrame x.frames c.args.frame) (sym c.pass.ensures.same) c.requires.taken_up.1.1

pub begin-requires-clause-unheld : goal.begin-requires-clause-unheld
begin-requires-clause-unheld c =
    subst (λ (x : State). NotHeldBy x.frames c.next_row-row.result) (sym c.pass.ensures.same)
    (subst (NotHeldBy c.args.self.now.frames) (sym c.next_row-row.ensures) c.requires.taken_up.1.2)

pub returns-clause-same : goal.returns-clause-same
returns-clause-same c =
    let begun = (begins c.args.self.now c.args.scrub c.args.frame (c.pass.new.self.frames, c.next_row-row.result, c.task.result) c.begin.new.self (found c.args.self.now c.pass.new.self c.args.scrub c.next_row-row.result c.task.result (ap (λ (x : State). x.frames) c.pass.ensures.same) c.next_row-row.ensures c.task.ensures) c.requires.core.settled.sound c.requires.taken_up c.begin.ensures.holds).shard in
    let drives = c.drive.ensures.drives in
    (drives.0 ∙ begun.0, drives.1 ∙ begun.1)

pub returns-clause-kept : goal.returns-clause-kept
returns-clause-kept c =
    let pass = c.pass.ensures.same in (
      ((ap (λ (x : State). drop x.released x.replies.items) pass, ap (λ (x : State). take x.released x.replies.items) pass), ap (λ (x : State). x.unanswered) pass),
      ap (λ (x : State). waiting_of x) pass,
    )

pub returns-clause-unanswered : goal.returns-clause-unanswered
returns-clause-unanswered c = ap (λ (x : State). x.unanswered) c.pass.ensures.same
