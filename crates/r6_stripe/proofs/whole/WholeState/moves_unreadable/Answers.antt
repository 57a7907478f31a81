use Rattle.std.proofs.Common.{sym, ap, ◌∙◌}
use Rattle.r6_stripe.specs.RowViews.{row_of_state}
use Rattle.r6_stripe.specs.Steps.{Held, moves_unreadable}
use Rattle.r6_stripe.proofs.ReplacingOver.{no_moves}
use Rattle.r6_stripe.proofs.ReplacingWhole.{seen_is, source}
use Rattle.r6_stripe.proofs.whole.WholeState.moves_unreadable.Goals as goal

pub returns-in-Some : goal.returns-in-Some
returns-in-Some c =
    let whole = c.args.self.now in
    let r = c.in-Some.field-0 in
    sym (ap (λ (h : Held). moves_unreadable h.planned) (seen_is whole r c.requires c.in-Some.is) ∙ no_moves (row_of_state whole.row) r (source whole r c.requires c.in-Some.is).1)
