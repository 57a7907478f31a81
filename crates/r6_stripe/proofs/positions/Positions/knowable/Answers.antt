use Rattle.std.proofs.Common.{[], sym, ◌∙◌}
use Rattle.std.specs.Prelude.{◌||◌, ◌&&◌, not}
use Rattle.r6_stripe.specs.Masks.{has}
use Rattle.r6_stripe.specs.Places.{cell_of}
use Rattle.r6_stripe.specs.Plans.{is_knowable}
use Rattle.r6_stripe.proofs.MaskedPlaces.{mask_is, in_sync_if, known_if, unreadable_if}
use Rattle.r6_stripe.proofs.positions.Positions.knowable.Goals as goal

pub returns : goal.returns
returns c =
    let p = c.self.inside in
    mask_is p c.args.self.now (λ place. is_knowable (cell_of place [])) c.or.result c.self.invariant c.self.view_is
    (λ i. c.or.ensures i ∙ (λ j. sym (known_if (has p.known i) (has p.replaced i) (has p.met i) (has p.fixed i) (has p.asked i)) j
    || (c.but-3.ensures i ∙ (λ m. sym (in_sync_if (has p.in_sync i) (has p.target i)) m && not ((c.but-unreadable.ensures i ∙ (λ k. (c.but-2.ensures i ∙ (λ l. c.but.ensures i l && not (has p.asked i))) k && not (has p.fixed i)) ∙ sym (unreadable_if (has p.known i) (has p.replaced i) (has p.met i) (has p.fixed i) (has p.asked i))) m))) j))
