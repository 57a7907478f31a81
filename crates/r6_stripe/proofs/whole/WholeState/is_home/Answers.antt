use Rattle.std.proofs.Common.{sym, ◌∙◌}
use Rattle.r6_stripe.proofs.ReplacingWhole.{home_whole}
use Rattle.r6_stripe.proofs.whole.WholeState.is_home.Goals as goal

pub returns : goal.returns
returns c =
    let whole = c.args.self.now in
    c.is_home.ensures ∙ sym (home_whole whole.row whole.replacement c.requires.replacement)
