use Rattle.std.proofs.Common.{sym, ◌∙◌}
use Rattle.r6_stripe.proofs.ReplacingWhole.{read_out_whole}
use Rattle.r6_stripe.proofs.whole.WholeState.is_first_read.Goals as goal

pub returns : goal.returns
returns c =
    let whole = c.args.self.now in
    c.is_first_read.ensures ∙ sym (read_out_whole whole.row whole.replacement c.requires.sound.replacement c.args.position)
