use Rattle.r6_stripe.specs.RowViews.{row_of_state}
use Rattle.r6_stripe.specs.WholeViews.{whole_of_state}
use Rattle.r6_stripe.proofs.PassesOn.{passes_same}
use Rattle.r6_stripe.proofs.ReplacingWhole.{passed_whole}
use Rattle.r6_stripe.proofs.whole.WholeState.passed_on.Goals as goal

pub returns : goal.returns
returns c =
    let whole = c.args.self.now in
    passes_same (row_of_state whole.row).planned.hold.cells (whole_of_state whole).planned.hold.cells c.passed_on.result
    (passed_whole whole.row whole.replacement c.requires.replacement) c.passed_on.ensures
