use Rattle.std.proofs.Common.{sym, ◌∙◌, ap, subst}
use Rattle.r6_stripe.specs.Checks.{IsClassed}
use Rattle.r6_stripe.specs.Seconds.{IsSoundBeside}
use Rattle.r6_stripe.specs.Steps.{Held}
use Rattle.r6_stripe.specs.Views.{held_of, hold_of}
use Rattle.r6_stripe.proofs.Checks.{classed_lost}
use Rattle.r6_stripe.proofs.row.RowState.lose.Goals as goal

pub returns-in-None-clause-sound : goal.returns-in-None-clause-sound
returns-in-None-clause-sound c =
    let row = c.args.self.now in
    record {
      sound = c.lose.ensures.sound;
      classed = subst (λ (h : Held). IsClassed h.planned.hold h.class) (sym c.lose.ensures.held) (classed_lost (hold_of row.hold) row.hold.class c.args.position c.requires.sound.classed);
      prepared = λ e. absurd (let f = sym c.lose.ensures.prepared ∙ e in cc);
      spare = λ e. c.requires.sound.spare e ∙ sym (ap (λ (h : Held). h.planned.hold.size) c.lose.ensures.held);
      second = subst (IsSoundBeside (held_of c.lose.new.self) row.spare_away) (sym c.in-None.is) (subst (IsSoundBeside (held_of row.hold) row.spare_away) c.in-None.is c.requires.sound.second);
    }
