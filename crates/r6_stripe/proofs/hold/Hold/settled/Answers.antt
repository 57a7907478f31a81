use Rattle.std.proofs.Common.{sym, ap, subst, ◌∙◌}
use Rattle.r6_stripe.specs.WholeViews.{IsWholeSound, whole_of_state}
use Rattle.r6_stripe.specs.Steps.{Held, settled}
use Rattle.r6_stripe.proofs.ReplacingWhole.{whole_size}
use Rattle.r6_stripe.proofs.hold.Hold.settled.Goals as goal

pub settle-requires : goal.settle-requires
settle-requires c =
    let row = c.deref_mut.result.now in
    let view_is = ap whole_of_state c.deref_mut.ensures.value ∙ c.self.view_is in
    record {
      sound = subst IsWholeSound (sym c.deref_mut.ensures.value) c.self.invariant;
      away = ap (λ (h : Held). h.second_away) view_is ∙ c.requires.away;
      size = c.requires.size ∙ sym (ap (λ (h : Held). h.planned.hold.size) view_is) ∙ whole_size row;
    }

pub returns : goal.returns
returns c = c.settle.ensures.held ∙ ap (λ (h : Held). settled h c.args.position) (ap whole_of_state c.deref_mut.ensures.value ∙ c.self.view_is)

pub invariant_of-self : goal.invariant_of-self
invariant_of-self c = c.settle.ensures.sound
