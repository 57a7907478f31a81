use Rattle.std.proofs.Common.{sym, ◌∙◌}
use Rattle.r6_stripe.proofs.ReplacingWhole.{errors_whole}
use Rattle.r6_stripe.proofs.whole.WholeState.unreadable.Goals as goal

pub returns : goal.returns
returns c = λ i.
    let whole = c.args.self.now in
    c.unreadable.ensures i ∙ sym (errors_whole whole.row whole.replacement c.requires.replacement i)
