use Rattle.r6_stripe.specs.Plans.{is_in_error}
use Rattle.r6_stripe.proofs.MaskedPlaces.{cell_masked}
use Rattle.r6_stripe.proofs.Places.{in_error-blind}
use Rattle.r6_stripe.proofs.state.HoldState.unreadable.Goals as goal

pub returns : goal.returns
returns c = cell_masked is_in_error in_error-blind c.args.self.now.places c.args.self.now.blocks.items c.in_error.result c.in_error.ensures
