use Rattle.std.proofs.Common.{refl, sym}
use Rattle.r6_stripe.specs.Places.{is_read_out}
use Rattle.r6_stripe.proofs.MaskedPlaces.{any_masked}
use Rattle.r6_stripe.proofs.Places.{read_out-blind}
use Rattle.r6_stripe.proofs.state.HoldState.has_asked.Goals as goal

pub returns : goal.returns
returns c =
    let s = c.args.self.now in
    sym (any_masked is_read_out read_out-blind refl s.places s.blocks.items c.read_out.result c.is_empty.result c.read_out.ensures c.is_empty.ensures.none c.is_empty.ensures.some)
