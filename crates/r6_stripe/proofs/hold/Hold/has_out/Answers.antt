use Rattle.std.proofs.Common.{◌∙◌, ap, subst, sym}
use Rattle.std.specs.Prelude.{◌||◌}
use Rattle.r6_stripe.specs.Plans.{has_read_out, has_write_out}
use Rattle.r6_stripe.specs.WholeViews.{IsWholeSound, whole_of_state}
use Rattle.r6_stripe.specs.Steps.{Held}
use Rattle.r6_stripe.proofs.hold.Hold.has_out.Goals as goal

pub has_out-requires : goal.has_out-requires
has_out-requires c = subst IsWholeSound (sym c.deref.ensures) c.self.invariant

pub returns : goal.returns
returns c = c.has_out.ensures ∙ ap (λ (h : Held). has_read_out h.planned.hold || has_write_out h.planned.hold) (ap whole_of_state c.deref.ensures ∙ c.self.view_is)
