use Rattle.std.proofs.Common.{◌≡◌, false, sym, ap, subst, ◌∙◌}
use Rattle.r6_stripe.specs.Holds.{cell_at}
use Rattle.r6_stripe.specs.Plans.{is_out}
use Rattle.r6_stripe.specs.WholeViews.{IsWholeSound, whole_of_state}
use Rattle.r6_stripe.specs.Steps.{Held, taken_over}
use Rattle.r6_stripe.proofs.hold.Hold.moved.Goals as goal

pub take_over-requires : goal.take_over-requires
take_over-requires c = record {
  sound = subst IsWholeSound (sym c.deref_mut.ensures.value) c.self.invariant;
  second = subst (λ (h : Held). is_out (cell_at h.planned.hold.cells c.args.position).second ≡ false) (sym (ap whole_of_state c.deref_mut.ensures.value ∙ c.self.view_is)) c.requires;
}

pub returns : goal.returns
returns c = c.take_over.ensures.held ∙ ap (λ (h : Held). taken_over h c.args.position) (ap whole_of_state c.deref_mut.ensures.value ∙ c.self.view_is)

pub invariant_of-self : goal.invariant_of-self
invariant_of-self c = c.take_over.ensures.sound
