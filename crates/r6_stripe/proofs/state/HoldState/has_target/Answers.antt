use Rattle.std.proofs.Common.{sym, ◌∙◌}
use Rattle.r6_stripe.specs.Plans as plans
use Rattle.r6_stripe.proofs.Places.{at_place, target-blind, target_is}
use Rattle.r6_stripe.proofs.state.HoldState.has_target.Goals as goal

pub returns : goal.returns
returns c =
    let s = c.args.self.now in
    c.is_target.ensures ∙ target_is c.get.result
    ∙ sym (at_place plans.has_target target-blind s.places s.blocks.items c.args.target c.get.result c.requires c.get.ensures.here)
