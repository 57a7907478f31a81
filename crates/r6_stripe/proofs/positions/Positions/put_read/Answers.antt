use Rattle.std.proofs.Common.{set, ◌∙◌, ap}
use Rattle.r6_stripe.specs.Places.{with_read}
use Rattle.r6_stripe.specs.declared.place.PositionState.{PositionState}
use Rattle.r6_stripe.proofs.positions.Positions.put_read.Goals as goal

pub set-requires : goal.set-requires
set-requires c = c.requires

pub returns : goal.returns
returns c =
    c.set.ensures
    ∙ ap (λ (place : PositionState). set c.args.self.now c.args.position (with_read c.args.read c.args.away place)) c.get-place.ensures.value
