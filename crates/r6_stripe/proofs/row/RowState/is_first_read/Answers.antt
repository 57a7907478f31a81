use Rattle.std.proofs.Common.{sym, ◌∙◌, ap}
use Rattle.std.specs.Prelude.{Option}
use Rattle.r6_stripe.specs.Holds.{cell_at}
use Rattle.r6_stripe.specs.Places.{is_read_out}
use Rattle.r6_stripe.specs.Seconds.{with_second}
use Rattle.r6_stripe.specs.Views.{held_of}
use Rattle.r6_stripe.specs.declared.second.Second.{Second}
use Rattle.r6_stripe.proofs.BesideRow.{other_at, read_out_at}
use Rattle.r6_stripe.proofs.row.RowState.is_first_read.Goals as goal
use Rattle.r6_stripe.proofs.row.RowState.is_first_read.Goals.{in-Some+else-second, else-second-via-then-second+else-second-position, else-second-via-else-second, in_default}

pub returns : goal.returns
returns c =
    let row = c.args.self.now in
    let i = c.args.position in
    c.is_first_read.ensures
    ∙ elim c.match-self.branch [
      | in-Some+else-second w ↦
          elim w.else-second.branch [
            | else-second-via-then-second+else-second-position w' ↦ ap is_read_out (sym (other_at row w.in-Some.second w.in-Some.is i (λ e. w'.if-second-position.false (sym e))))
            | else-second-via-else-second w' ↦ sym (read_out_at row w.in-Some.second c.requires.sound w.in-Some.is w'.if-second.false i)
          ]
      | in_default w ↦ ap (λ (o : Option Second). is_read_out (cell_at (with_second o row.spare row.spare_away (held_of row.hold)).planned.hold.cells i)) (sym w.in_default.is)
    ]
