use Rattle.std.proofs.Common.{[], sym, ◌∙◌}
use Rattle.std.specs.Prelude.{◌&&◌, not}
use Rattle.r6_stripe.specs.Masks.{has}
use Rattle.r6_stripe.specs.Places.{cell_of, is_rereadable}
use Rattle.r6_stripe.proofs.MaskedPlaces.{mask_is, fixed_if, in_sync_if}
use Rattle.r6_stripe.proofs.positions.Positions.rereadable.Goals as goal

pub returns : goal.returns
returns c =
    let p = c.self.inside in
    mask_is p c.args.self.now (λ place. is_rereadable (cell_of place [])) c.and-2.result c.self.invariant c.self.view_is
    (λ i. c.and-2.ensures i ∙ (λ j. sym (in_sync_if (has p.in_sync i) (has p.target i)) j
    && (c.but-fixed.ensures i ∙ (λ k. (c.and.ensures i ∙ (λ l. c.but.ensures i l && has p.fixed i)) k && not (has p.asked i)) ∙ sym (fixed_if (has p.known i) (has p.replaced i) (has p.met i) (has p.fixed i) (has p.asked i))) j))
