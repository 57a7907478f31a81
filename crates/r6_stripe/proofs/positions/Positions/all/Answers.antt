use Rattle.std.proofs.Common.{◌≤◌, length, sym, subst, ◌∙◌, ap}
use Rattle.std.specs.Prelude.{nat_lt}
use Rattle.r6_stripe.proofs.MaskedPlaces.{length-places_of}
use Rattle.r6_stripe.proofs.positions.Positions.all.Goals as goal

pub below-requires : goal.below-requires
below-requires c = c.self.invariant.few

pub returns-clause-every : goal.returns-clause-every
returns-clause-every c i = c.below.ensures i ∙ ap (nat_lt i) (sym (length-places_of c.self.inside) ∙ ap length c.self.view_is)

pub returns-clause-few : goal.returns-clause-few
returns-clause-few c = subst (λ n. n ≤ 32) (sym (length-places_of c.self.inside) ∙ ap length c.self.view_is) c.self.invariant.few
