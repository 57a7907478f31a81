use Rattle.std.proofs.Common.{◌≡◌, ◌≢◌, inl, inr, true, false, ◌<◌, [], length, get_or, sym, ◌∙◌, ap, subst, arith, Some}
use Rattle.std.specs.Prelude.{Option}
use Rattle.r6_stripe.specs.Holds.{Cell, Writing, cell_at}
use Rattle.r6_stripe.specs.Places.{no_place, writing_of}
use Rattle.r6_stripe.specs.Plans as plans
use Rattle.r6_stripe.specs.Preparing.{IsPrepared, is_write_time}
use Rattle.r6_stripe.specs.RowViews.{IsRowSound, row_of_state}
use Rattle.r6_stripe.specs.Seconds.{IsSecondSound, is_due, with_second}
use Rattle.r6_stripe.specs.Steps.{IsNone}
use Rattle.r6_stripe.specs.Views.{held_of, hold_of, planned_of}
use Rattle.r6_stripe.specs.declared.place.Standing.TheVariants as state
use Rattle.r6_stripe.specs.declared.place.WriteState.{WriteState}
use Rattle.r6_stripe.specs.declared.place.WriteState.TheVariants as write
use Rattle.r6_stripe.specs.declared.row.RowState.{RowState}
use Rattle.r6_stripe.specs.declared.second.Second.{Second}
use Rattle.r6_stripe.proofs.BesideDue.{due_is, due_first, going_due, waits_both}
use Rattle.r6_stripe.proofs.BesideLosses.{sound_some}
use Rattle.r6_stripe.proofs.Checks.{sync_only}
use Rattle.r6_stripe.proofs.ComputedOnce.{computed_once, was_computed}
use Rattle.r6_stripe.proofs.Places.{cell_at-cells_of, length-cells_of}
use Rattle.r6_stripe.proofs.row.RowState.has_writes_left.Goals as goal

module _ (row : RowState) (second : Second) (row_sound : IsRowSound row) (is : row.second ≡ Some second) (due : is_due second ≡ true) where
  sound : IsSecondSound (held_of row.hold) row.spare_away second
  sound = sound_some row second row_sound is

  inside : second.position < length row.hold.places
  inside = omega (arith, sound.within, length-cells_of row.hold.places row.hold.blocks.items)

  written_cell : (cell_at (hold_of row.hold).cells second.position).writing ≢ Writing.Unwritten
  written_cell e = elim (due_first (held_of row.hold) row.spare_away second sound due) [ inl f ↦ (let g = sym e ∙ f in cc) | inr f ↦ (let g = sym e ∙ f in cc) ]

  written : (get_or row.hold.places second.position no_place).write ≢ write.Unwritten
  written e = written_cell (ap (λ (c : Cell). c.writing) (cell_at-cells_of row.hold.places row.hold.blocks.items second.position no_place inside) ∙ ap (λ (w : WriteState). writing_of w (get_or row.hold.blocks.items second.position [])) e)

  in_sync : (get_or row.hold.places second.position no_place).state ≡ state.InSync
  in_sync = sync_only (get_or row.hold.places second.position no_place).state (ap (λ (c : Cell). c.standing) (sym (cell_at-cells_of row.hold.places row.hold.blocks.items second.position no_place inside)) ∙ sound.beside_one (due_is second due).0)

  left : is_write_time (planned_of row.hold) ≡ true → IsPrepared (planned_of row.hold)
  left time = computed_once row.hold row_sound.sound row_sound.classed second.position inside written in_sync time

  none : is_write_time (planned_of row.hold) ≡ false → IsNone (plans.next (row_of_state row).planned)
  none wait = subst (λ (o : Option Second). IsNone (plans.next (with_second o row.spare row.spare_away (held_of row.hold)).planned)) (sym is)
      (waits_both second row.spare (planned_of row.hold) (going_due row second row_sound is due) (was_computed row.hold second.position inside written_cell) wait)

pub has_writes_left-requires : goal.has_writes_left-requires
has_writes_left-requires c = c.requires.sound.sound

pub returns-then-self-clause-left : goal.returns-then-self-clause-left
returns-then-self-clause-left c = λ e. c.requires.sound.prepared c.if-self.true

pub returns-else-self-clause-left : goal.returns-else-self-clause-left
returns-else-self-clause-left c = λ e. left c.args.self.now c.args.second c.requires.sound c.requires.second c.requires.due (sym c.has_writes_left.ensures ∙ e)

pub returns-else-self-clause-none : goal.returns-else-self-clause-none
returns-else-self-clause-none c = λ e. none c.args.self.now c.args.second c.requires.sound c.requires.second c.requires.due (sym c.has_writes_left.ensures ∙ e)
