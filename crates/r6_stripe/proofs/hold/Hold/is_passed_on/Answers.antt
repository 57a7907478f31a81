use Rattle.std.proofs.Common.{sym, ap, subst, ◌∙◌}
use Rattle.r6_stripe.specs.Holds.{cell_at}
use Rattle.r6_stripe.specs.WholeViews.{IsWholeSound, whole_of_state}
use Rattle.r6_stripe.specs.Seconds.{is_passed}
use Rattle.r6_stripe.specs.Steps.{Held}
use Rattle.r6_stripe.proofs.hold.Hold.is_passed_on.Goals as goal

pub is_passed_on-requires : goal.is_passed_on-requires
is_passed_on-requires c = subst IsWholeSound (sym c.deref.ensures) c.self.invariant

pub returns : goal.returns
returns c = c.is_passed_on.ensures ∙ ap (λ (h : Held). is_passed (cell_at h.planned.hold.cells c.args.position).doubling) (ap whole_of_state c.deref.ensures ∙ c.self.view_is)
