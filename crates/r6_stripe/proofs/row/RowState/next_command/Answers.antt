use Rattle.std.proofs.Common.{sym, ◌∙◌, subst}
use Rattle.std.specs.Prelude.{Option}
use Rattle.r6_stripe.specs.Seconds.{IsSoundBeside, with_second}
use Rattle.r6_stripe.specs.Steps.{PutsOut}
use Rattle.r6_stripe.specs.Views.{held_of}
use Rattle.r6_stripe.specs.declared.second.Second.{Second}
use Rattle.r6_stripe.proofs.BesideAlone.{puts_alone, size_alone}
use Rattle.r6_stripe.proofs.row.RowState.next_command.Goals as goal

pub next_command-requires : goal.next_command-requires
next_command-requires c = record { sound = c.requires.sound; classed = c.requires.classed; prepared = c.requires.prepared }

pub returns-in-None-clause-puts_out : goal.returns-in-None-clause-puts_out
returns-in-None-clause-puts_out c =
    let row = c.args.self.now in
    let new = c.next_command.new.self in
    subst (λ (o : Option Second). PutsOut (with_second o row.spare row.spare_away (held_of row.hold)) c.next_command.result (with_second o row.spare row.spare_away (held_of new))) (sym c.in-None.is)
    (puts_alone (held_of row.hold) (held_of new) row.spare_away c.next_command.result c.next_command.ensures.puts_out)

pub returns-in-None-clause-sound : goal.returns-in-None-clause-sound
returns-in-None-clause-sound c =
    let row = c.args.self.now in
    let new = c.next_command.new.self in
    record {
      sound = c.next_command.ensures.sound;
      classed = c.next_command.ensures.classed;
      prepared = c.next_command.ensures.prepared;
      spare = λ e. c.requires.spare e ∙ sym (size_alone (held_of row.hold) (held_of new) c.next_command.result c.next_command.ensures.puts_out);
      second = subst (IsSoundBeside (held_of new) row.spare_away) (sym c.in-None.is) (subst (IsSoundBeside (held_of row.hold) row.spare_away) c.in-None.is c.requires.second);
    }
