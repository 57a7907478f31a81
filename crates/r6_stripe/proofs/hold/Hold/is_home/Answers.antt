use Rattle.std.proofs.Common.{sym, ap, subst, ◌∙◌}
use Rattle.std.specs.Prelude.{◌&&◌, not}
use Rattle.std.specs.List.{list_any}
use Rattle.r6_stripe.specs.WholeViews.{IsWholeSound, whole_of_state}
use Rattle.r6_stripe.specs.Steps.{Held}
use Rattle.r6_stripe.proofs.hold.Hold.is_home.Goals as goal

pub is_home-requires : goal.is_home-requires
is_home-requires c = subst IsWholeSound (sym c.deref.ensures) c.self.invariant

pub returns : goal.returns
returns c = c.is_home.ensures ∙ ap (λ (h : Held). not h.second_away && not (list_any (λ away. away) h.away)) (ap whole_of_state c.deref.ensures ∙ c.self.view_is)
