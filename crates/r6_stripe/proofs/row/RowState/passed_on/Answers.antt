use Rattle.std.proofs.Common.{◌≡◌, ◌∙◌, false, sym, ap, subst}
use Rattle.std.specs.Prelude.{Option}
use Rattle.r6_stripe.specs.Holds.{Cell, cell_at}
use Rattle.r6_stripe.specs.Seconds.{beside, doubling_of, is_passed, with_second}
use Rattle.r6_stripe.specs.Steps.{Held}
use Rattle.r6_stripe.specs.Views.{held_of, hold_of}
use Rattle.r6_stripe.specs.declared.second.Second.{Second}
use Rattle.r6_stripe.proofs.BesideRow.{seen_is, single_at}
use Rattle.r6_stripe.proofs.WritesLeft.{at_set}
use Rattle.r6_stripe.proofs.row.RowState.passed_on.Goals as goal

pub returns-in_default : goal.returns-in_default
returns-in_default c = λ i.
    let row = c.args.self.now in
    let second = c.in-Some.second in
    let cells = (hold_of row.hold).cells in
    let off : is_passed (doubling_of second.doubling) ≡ false = sym c.is_passed.ensures ∙ c.if-is_passed.false in
    subst (λ (h : Held). is_passed (cell_at h.planned.hold.cells i).doubling ≡ false) (seen_is row second c.in-Some.is)
    (at_set (λ (cell : Cell). is_passed cell.doubling) cells second.position (beside second row.spare (cell_at cells second.position))
    (off ∙ sym (ap is_passed (single_at row.hold second.position))) i
    ∙ ap is_passed (single_at row.hold i))

pub returns-in_default-2 : goal.returns-in_default-2
returns-in_default-2 c = λ i.
    let row = c.args.self.now in
    ap (λ (o : Option Second). is_passed (cell_at (with_second o row.spare row.spare_away (held_of row.hold)).planned.hold.cells i).doubling) c.in_default.is
    ∙ ap is_passed (single_at row.hold i)
