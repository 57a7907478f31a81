use Rattle.std.proofs.Common.{◌≡◌, true, sym, ap, subst, ◌∙◌}
use Rattle.r6_stripe.specs.Holds.{cell_at}
use Rattle.r6_stripe.specs.Places.{is_read_out}
use Rattle.r6_stripe.specs.WholeViews.{IsWholeSound, whole_of_state}
use Rattle.r6_stripe.specs.Steps.{Held, failed, is_away}
use Rattle.r6_stripe.proofs.ReplacingWhole.{whole_size}
use Rattle.r6_stripe.proofs.hold.Hold.failed.Goals as goal

pub fail-requires : goal.fail-requires
fail-requires c =
    let row = c.deref_mut.result.now in
    let view_is = ap whole_of_state c.deref_mut.ensures.value ∙ c.self.view_is in
    record {
      sound = subst IsWholeSound (sym c.deref_mut.ensures.value) c.self.invariant;
      away = subst (λ (h : Held). is_away h c.args.position ≡ true) (sym view_is) c.requires.away;
      asked = subst (λ (h : Held). is_read_out (cell_at h.planned.hold.cells c.args.position) ≡ true) (sym view_is) c.requires.asked;
      size = c.requires.size ∙ sym (ap (λ (h : Held). h.planned.hold.size) view_is) ∙ whole_size row;
    }

pub returns : goal.returns
returns c = c.fail.ensures.held ∙ ap (λ (h : Held). failed h c.args.position) (ap whole_of_state c.deref_mut.ensures.value ∙ c.self.view_is)

pub invariant_of-self : goal.invariant_of-self
invariant_of-self c = c.fail.ensures.sound
