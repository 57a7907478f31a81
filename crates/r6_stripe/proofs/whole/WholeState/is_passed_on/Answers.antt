use Rattle.std.proofs.Common.{sym, ◌∙◌}
use Rattle.r6_stripe.proofs.ReplacingWhole.{passed_whole}
use Rattle.r6_stripe.proofs.whole.WholeState.is_passed_on.Goals as goal

pub returns : goal.returns
returns c =
    let whole = c.args.self.now in
    c.is_passed_on.ensures ∙ sym (passed_whole whole.row whole.replacement c.requires.replacement c.args.position)
