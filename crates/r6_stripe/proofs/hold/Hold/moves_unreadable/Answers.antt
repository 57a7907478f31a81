use Rattle.std.proofs.Common.{sym, ap, subst, ◌∙◌}
use Rattle.r6_stripe.specs.WholeViews.{IsWholeSound, whole_of_state}
use Rattle.r6_stripe.specs.Steps.{Held, moves_unreadable}
use Rattle.r6_stripe.proofs.hold.Hold.moves_unreadable.Goals as goal

pub moves_unreadable-requires : goal.moves_unreadable-requires
moves_unreadable-requires c = subst IsWholeSound (sym c.deref.ensures) c.self.invariant

pub returns : goal.returns
returns c = c.moves_unreadable.ensures ∙ ap (λ (h : Held). moves_unreadable h.planned) (ap whole_of_state c.deref.ensures ∙ c.self.view_is)
