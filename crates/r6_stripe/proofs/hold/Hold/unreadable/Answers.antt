use Rattle.std.proofs.Common.{sym, ap, subst, ◌∙◌}
use Rattle.r6_stripe.specs.Holds.{cell_at}
use Rattle.r6_stripe.specs.Plans.{is_in_error}
use Rattle.r6_stripe.specs.WholeViews.{IsWholeSound, whole_of_state}
use Rattle.r6_stripe.specs.Steps.{Held}
use Rattle.r6_stripe.proofs.hold.Hold.unreadable.Goals as goal

pub unreadable-requires : goal.unreadable-requires
unreadable-requires c = subst IsWholeSound (sym c.deref.ensures) c.self.invariant

pub returns : goal.returns
returns c = λ i. c.unreadable.ensures i ∙ ap (λ (h : Held). is_in_error (cell_at h.planned.hold.cells i)) (ap whole_of_state c.deref.ensures ∙ c.self.view_is)
