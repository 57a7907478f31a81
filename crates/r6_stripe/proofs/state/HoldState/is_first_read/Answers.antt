use Rattle.std.proofs.Common.{◌∙◌, arith}
use Rattle.r6_stripe.specs.Places.{is_read_out}
use Rattle.r6_stripe.proofs.MaskedPlaces.{cell_masked}
use Rattle.r6_stripe.proofs.Places.{read_out-blind}
use Rattle.r6_stripe.proofs.state.HoldState.is_first_read.Goals as goal

pub contains-requires : goal.contains-requires
contains-requires c = omega (arith, c.requires.within, c.requires.few)

pub returns : goal.returns
returns c = c.contains.ensures ∙ cell_masked is_read_out read_out-blind c.args.self.now.places c.args.self.now.blocks.items c.read_out.result c.read_out.ensures c.args.position
