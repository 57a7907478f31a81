use Rattle.std.proofs.Common.{◌≡◌, inr, true, ℕ, [], List, length, refl, sym, ◌∙◌, ap, subst, arith, Some}
use Rattle.std.specs.Prelude.{Option, option_map}
use Rattle.r6_stripe.specs.Checks.{IsClassed}
use Rattle.r6_stripe.specs.Holds.{Writing, cell_at, doubled}
use Rattle.r6_stripe.specs.Plans as plans
use Rattle.r6_stripe.specs.Plans.{Next}
use Rattle.r6_stripe.specs.Preparing.{IsPrepared}
use Rattle.r6_stripe.specs.RowViews.{row_of_state}
use Rattle.r6_stripe.specs.Seconds.{IsSoundBeside, with_second}
use Rattle.r6_stripe.specs.Steps.{Held, PutsOut}
use Rattle.r6_stripe.specs.Views.{held_of, hold_of, planned_of}
use Rattle.r6_stripe.specs.declared.command.RowCommand.TheVariants as command
use Rattle.r6_stripe.specs.declared.second.CopyState.TheVariants as copy
use Rattle.r6_stripe.specs.declared.second.Second.{Second}
use Rattle.r6_stripe.proofs.Alone.{cells_alone, next_write_alone}
use Rattle.r6_stripe.proofs.BesideDue.{copied_both, copied_sound, copying_is, due_copy, due_is, due_next, due_puts, due_sent, going_due}
use Rattle.r6_stripe.proofs.BesideLosses.{sound_some}
use Rattle.r6_stripe.proofs.BesideSteps.{planned_both}
use Rattle.r6_stripe.proofs.Checks.{classed_written}
use Rattle.r6_stripe.proofs.Nexts.{write_found}
use Rattle.r6_stripe.proofs.Places.{length-cells_of}
use Rattle.r6_stripe.proofs.WritesLeft.{prepared_later}
use Rattle.r6_stripe.proofs.row.RowState.next_after_first.Goals as goal

pub returns-then-not-has_writes_left-clause-puts_out : goal.returns-then-not-has_writes_left-clause-puts_out
returns-then-not-has_writes_left-clause-puts_out c = (([], tt, tt, refl), c.has_writes_left.ensures.none c.if-not-has_writes_left.true, refl, refl, refl)

pub send-buffer-requires : goal.send-buffer-requires
send-buffer-requires c =
    let row = c.args.self.now in
    let s = row.hold in
    let i = c.in-Some.position in
    let found = write_found (hold_of s) i (cells_alone s.places s.blocks.items) (ap (option_map Next.WriteAt) (sym c.in-Some.ensures.0) ∙ sym (next_write_alone (hold_of s) (cells_alone s.places s.blocks.items))) in
    record {
      sound = c.requires.sound.sound;
      place = omega (arith, found.0, length-cells_of s.places s.blocks.items);
      ready = found.1;
    }

pub returns-in-Some-clause-puts_out : goal.returns-in-Some-clause-puts_out
returns-in-Some-clause-puts_out c =
    let row = c.args.self.now in
    let second = c.args.second in
    let sound = sound_some row second c.requires.sound c.requires.second in
    let goes = going_due row second c.requires.sound c.requires.second c.requires.due in
    let prepared = c.has_writes_left.ensures.left c.if-not-has_writes_left.false in
    let puts = due_puts second row.spare (held_of row.hold) row.spare_away goes sound c.requires.due prepared c.in-Some.position c.send-buffer.result (held_of c.send-buffer.new.self) c.in-Some.ensures.0 c.in-Some.ensures.1 c.send-buffer.ensures.carried c.send-buffer.ensures.held in
    subst (λ (o : Option Second). PutsOut (with_second o row.spare row.spare_away (held_of row.hold)) (Some (command.Write c.in-Some.position c.send-buffer.result)) (with_second o row.spare row.spare_away (held_of c.send-buffer.new.self))) (sym c.requires.second)
    (inr puts, c.send-buffer.ensures.size)

pub returns-clause-puts_out : goal.returns-clause-puts_out
returns-clause-puts_out c =
    let row = c.args.self.now in
    let second = c.args.second in
    let sound = sound_some row second c.requires.sound c.requires.second in
    let goes = going_due row second c.requires.sound c.requires.second c.requires.due in
    let prepared = c.has_writes_left.ensures.left c.if-not-has_writes_left.false in
    let held = held_of row.hold in
    let first = plans.first_from (plans.is_next_write (hold_of row.hold)) 0 (length (hold_of row.hold).cells) in
    let spare : c.replace-buffer.result ≡ row.spare = c.replace-buffer.ensures.value in
    let other : List ℕ = c.replace-buffer.new.dest in
    let last : Held = with_second (Some (record second { copy = copy.Sent })) other true held in
    subst (λ (b : List ℕ). PutsOut (row_of_state row) (Some (command.Copy second.position b)) last) (sym spare)
    (subst (λ (o : Option Second). PutsOut (with_second o row.spare row.spare_away held) (Some (command.Copy second.position row.spare)) last) (sym c.requires.second) (
      (
        planned_both second row.spare held.planned,
        ([], tt, tt, refl),
        due_next second row.spare held row.spare_away goes sound c.requires.due prepared ∙ due_copy second row.spare held row.spare_away goes sound c.requires.due first refl c.in_default.ensures,
        copying_is second row.spare held row.spare_away goes sound c.requires.due,
        copied_both second row.spare held row.spare_away goes sound c.requires.due other,
      ),
      c.requires.sound.spare (sound.ready_home (due_is second c.requires.due).1),
    ))

pub returns-clause-sound : goal.returns-clause-sound
returns-clause-sound c =
    let row = c.args.self.now in
    let second = c.args.second in
    let sound = sound_some row second c.requires.sound c.requires.second in
    let goes = going_due row second c.requires.sound c.requires.second c.requires.due in
    record {
      sound = c.requires.sound.sound;
      classed = c.requires.sound.classed;
      prepared = c.requires.sound.prepared;
      spare = λ e. absurd cc;
      second = copied_sound second row.spare (held_of row.hold) row.spare_away goes sound c.requires.due;
    }

pub returns-in-Some-clause-sound : goal.returns-in-Some-clause-sound
returns-in-Some-clause-sound c =
    let row = c.args.self.now in
    let second = c.args.second in
    let s = row.hold in
    let n = c.send-buffer.new.self in
    let i = c.in-Some.position in
    let sound = sound_some row second c.requires.sound c.requires.second in
    let prepared = c.has_writes_left.ensures.left c.if-not-has_writes_left.false in
    let writes = doubled (cell_at (hold_of s).cells i).second (cell_at (hold_of s).cells i).doubling in
    record {
      sound = c.send-buffer.ensures.sound;
      classed = subst (λ (h : Held). IsClassed h.planned.hold h.class) (sym c.send-buffer.ensures.held) (classed_written (hold_of s) s.class i Writing.Sent writes (λ e. cc) c.requires.sound.classed);
      prepared = λ e. subst (λ (h : Held). IsPrepared h.planned) (sym c.send-buffer.ensures.held)
          (prepared_later (planned_of s) (cells_alone s.places s.blocks.items) i Writing.Sent writes
          (ap (λ (w : Writing). plans.is_unwritten w) c.send-buffer.ensures.carried) refl prepared);
      spare = λ e. c.requires.sound.spare e ∙ sym (ap (λ (h : Held). h.planned.hold.size) c.send-buffer.ensures.held);
      second = subst (IsSoundBeside (held_of n) row.spare_away) (sym c.requires.second)
          (due_sent second (held_of s) row.spare_away sound i c.send-buffer.result (held_of n) c.in-Some.ensures.1 c.send-buffer.ensures.held);
    }
