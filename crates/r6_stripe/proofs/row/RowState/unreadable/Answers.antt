use Rattle.std.proofs.Common.{sym, ◌∙◌}
use Rattle.r6_stripe.specs.Views.{held_of}
use Rattle.r6_stripe.proofs.Alone.{cells_alone}
use Rattle.r6_stripe.proofs.BesideOption.{errors_option}
use Rattle.r6_stripe.proofs.row.RowState.unreadable.Goals as goal

pub returns : goal.returns
returns c i =
    let row = c.args.self.now in
    c.unreadable.ensures i ∙ sym (errors_option row.second row.spare row.spare_away (held_of row.hold) (cells_alone row.hold.places row.hold.blocks.items) c.requires.second i)
