use Rattle.std.proofs.Common.{sym, ap, subst, ◌∙◌}
use Rattle.r6_stripe.specs.PassedOn.{PassesOn}
use Rattle.r6_stripe.specs.Steps.{Held}
use Rattle.r6_stripe.specs.WholeViews.{IsWholeSound, whole_of_state}
use Rattle.r6_stripe.proofs.hold.Hold.passed_on.Goals as goal

pub passed_on-requires : goal.passed_on-requires
passed_on-requires c = subst IsWholeSound (sym c.deref.ensures) c.self.invariant

pub returns : goal.returns
returns c = subst (λ (h : Held). PassesOn h.planned.hold.cells c.passed_on.result) (ap whole_of_state c.deref.ensures ∙ c.self.view_is) c.passed_on.ensures
