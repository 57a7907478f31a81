use Rattle.std.proofs.Common.{sym, ◌∙◌, ap}
use Rattle.std.specs.Prelude.{Option}
use Rattle.std.proofs.lemmas.Bool.{ne_eqb}
use Rattle.r6_stripe.specs.Holds.{Cell, cell_at}
use Rattle.r6_stripe.specs.Seconds.{is_passed, with_second}
use Rattle.r6_stripe.specs.Views.{held_of}
use Rattle.r6_stripe.specs.declared.second.Second.{Second}
use Rattle.r6_stripe.proofs.BesideRow.{other_at, single_at}
use Rattle.r6_stripe.proofs.row.RowState.is_passed_on.Goals as goal

pub returns-else-second-position : goal.returns-else-second-position
returns-else-second-position c =
    let row = c.args.self.now in
    let second = c.in-Some.second in
    let i = c.args.position in
    ne_eqb second.position i c.if-second-position.false
    ∙ sym (ap (λ (cell : Cell). is_passed cell.doubling) (other_at row second c.in-Some.is i (λ e. c.if-second-position.false (sym e))) ∙ ap is_passed (single_at row.hold i))

pub returns-in-None : goal.returns-in-None
returns-in-None c =
    let row = c.args.self.now in
    let i = c.args.position in
    sym (ap (λ (o : Option Second). is_passed (cell_at (with_second o row.spare row.spare_away (held_of row.hold)).planned.hold.cells i).doubling) c.in-None.is ∙ ap is_passed (single_at row.hold i))
