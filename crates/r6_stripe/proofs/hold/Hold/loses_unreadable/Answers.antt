use Rattle.std.proofs.Common.{sym, ap, subst, ◌∙◌}
use Rattle.r6_stripe.specs.WholeViews.{IsWholeSound, whole_of_state}
use Rattle.r6_stripe.specs.Steps.{Held, loses_unreadable}
use Rattle.r6_stripe.proofs.hold.Hold.loses_unreadable.Goals as goal

pub loses_unreadable-requires : goal.loses_unreadable-requires
loses_unreadable-requires c = subst IsWholeSound (sym c.deref.ensures) c.self.invariant

pub returns : goal.returns
returns c = c.loses_unreadable.ensures ∙ ap (λ (h : Held). loses_unreadable h.planned) (ap whole_of_state c.deref.ensures ∙ c.self.view_is)
