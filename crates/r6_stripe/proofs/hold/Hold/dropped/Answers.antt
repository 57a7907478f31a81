use Rattle.std.proofs.Common.{◌≡◌, false, sym, ap, subst, ◌∙◌}
use Rattle.r6_stripe.specs.Holds.{cell_at}
use Rattle.r6_stripe.specs.Plans.{is_out}
use Rattle.r6_stripe.specs.WholeViews.{IsWholeSound, whole_of_state}
use Rattle.r6_stripe.specs.Steps.{Held, dropped}
use Rattle.r6_stripe.proofs.hold.Hold.dropped.Goals as goal

pub drop_second-requires : goal.drop_second-requires
drop_second-requires c = record {
  sound = subst IsWholeSound (sym c.deref_mut.ensures.value) c.self.invariant;
  second = subst (λ (h : Held). is_out (cell_at h.planned.hold.cells c.args.position).second ≡ false) (sym (ap whole_of_state c.deref_mut.ensures.value ∙ c.self.view_is)) c.requires;
}

pub returns : goal.returns
returns c = c.drop_second.ensures.held ∙ ap (λ (h : Held). dropped h c.args.position) (ap whole_of_state c.deref_mut.ensures.value ∙ c.self.view_is)

pub invariant_of-self : goal.invariant_of-self
invariant_of-self c = c.drop_second.ensures.sound
