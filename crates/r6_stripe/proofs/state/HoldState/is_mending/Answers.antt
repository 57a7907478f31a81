use Rattle.std.proofs.Common.{refl, sym}
use Rattle.r6_stripe.specs.Places.{is_live_met}
use Rattle.r6_stripe.proofs.MaskedPlaces.{any_masked}
use Rattle.r6_stripe.proofs.Places.{live_met-blind}
use Rattle.r6_stripe.proofs.state.HoldState.is_mending.Goals as goal

pub returns : goal.returns
returns c =
    let s = c.args.self.now in
    sym (any_masked is_live_met live_met-blind refl s.places s.blocks.items c.met.result c.is_empty.result c.met.ensures c.is_empty.ensures.none c.is_empty.ensures.some)
