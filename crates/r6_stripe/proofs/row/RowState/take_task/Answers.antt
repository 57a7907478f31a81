use Rattle.std.proofs.Common.{sym, ◌∙◌, ap, subst}
use Rattle.r6_stripe.specs.Checks.{IsClassed}
use Rattle.r6_stripe.specs.Seconds.{IsSoundBeside, with_second}
use Rattle.r6_stripe.specs.Steps.{Held}
use Rattle.r6_stripe.specs.Views.{held_of, hold_of}
use Rattle.r6_stripe.proofs.BesideOption.{closed_option, kind_option, sound_closed}
use Rattle.r6_stripe.proofs.Checks.{classed_closed}
use Rattle.r6_stripe.proofs.row.RowState.take_task.Goals as goal

pub take_task-requires : goal.take_task-requires
take_task-requires c = c.requires.sound

pub returns-clause-task : goal.returns-clause-task
returns-clause-task c =
    let row = c.args.self.now in
    c.take_task.ensures.task ∙ sym (kind_option row.second row.spare row.spare_away (held_of row.hold))

pub returns-clause-closed : goal.returns-clause-closed
returns-clause-closed c =
    let row = c.args.self.now in
    ap (with_second row.second row.spare row.spare_away) c.take_task.ensures.closed ∙ closed_option row.second row.spare row.spare_away (held_of row.hold)

pub returns-clause-sound : goal.returns-clause-sound
returns-clause-sound c =
    let row = c.args.self.now in
    record {
      sound = c.take_task.ensures.sound;
      classed = subst (λ (h : Held). IsClassed h.planned.hold h.class) (sym c.take_task.ensures.closed) (classed_closed (hold_of row.hold) row.hold.class c.requires.classed);
      prepared = λ e. absurd (let f = sym c.take_task.ensures.prepared ∙ e in cc);
      spare = λ e. c.requires.spare e ∙ sym (ap (λ (h : Held). h.planned.hold.size) c.take_task.ensures.closed);
      second = subst (λ (h : Held). IsSoundBeside h row.spare_away row.second) (sym c.take_task.ensures.closed) (sound_closed row.second row.spare_away (held_of row.hold) c.requires.second);
    }
