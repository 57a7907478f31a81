use Rattle.std.proofs.Common.{[], sym, ◌∙◌}
use Rattle.std.specs.Prelude.{◌&&◌, not}
use Rattle.r6_stripe.specs.Masks.{has}
use Rattle.r6_stripe.specs.Places.{cell_of}
use Rattle.r6_stripe.specs.Plans.{is_in_error}
use Rattle.r6_stripe.proofs.MaskedPlaces.{mask_is, in_sync_if, unreadable_if}
use Rattle.r6_stripe.proofs.positions.Positions.in_error.Goals as goal

pub returns : goal.returns
returns c =
    let p = c.self.inside in
    mask_is p c.args.self.now (λ place. is_in_error (cell_of place [])) c.and.result c.self.invariant c.self.view_is
    (λ i. c.and.ensures i ∙ (λ j. sym (in_sync_if (has p.in_sync i) (has p.target i)) j && (c.but-unreadable.ensures i ∙ (λ k. (c.but-2.ensures i ∙ (λ l. c.but.ensures i l && not (has p.asked i))) k && not (has p.fixed i)) ∙ sym (unreadable_if (has p.known i) (has p.replaced i) (has p.met i) (has p.fixed i) (has p.asked i))) j))
