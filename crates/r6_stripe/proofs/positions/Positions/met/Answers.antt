use Rattle.std.proofs.Common.{[], sym, ◌∙◌}
use Rattle.std.specs.Prelude.{◌&&◌}
use Rattle.r6_stripe.specs.Masks.{has}
use Rattle.r6_stripe.specs.Places.{cell_of, is_live_met}
use Rattle.r6_stripe.proofs.MaskedPlaces.{mask_is, met_if, present_if}
use Rattle.r6_stripe.proofs.positions.Positions.met.Goals as goal

pub returns : goal.returns
returns c =
    let p = c.self.inside in
    mask_is p c.args.self.now (λ place. is_live_met (cell_of place [])) c.and.result c.self.invariant c.self.view_is
    (λ i. c.and.ensures i ∙ (λ j. (c.or.ensures i ∙ sym (present_if (has p.in_sync i) (has p.target i))) j && (c.but-met.ensures i ∙ sym (met_if (has p.known i) (has p.replaced i) (has p.met i) (has p.fixed i) (has p.asked i))) j))
