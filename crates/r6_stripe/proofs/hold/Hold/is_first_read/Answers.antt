use Rattle.std.proofs.Common.{length, sym, ◌∙◌, ap, subst, arith}
use Rattle.r6_stripe.specs.Holds.{cell_at}
use Rattle.r6_stripe.specs.Places.{is_read_out}
use Rattle.r6_stripe.specs.WholeViews.{IsWholeSound, whole_of_state}
use Rattle.r6_stripe.specs.Steps.{Held}
use Rattle.r6_stripe.proofs.ReplacingWhole.{whole_width}
use Rattle.r6_stripe.proofs.hold.Hold.is_first_read.Goals as goal

pub is_first_read-requires : goal.is_first_read-requires
is_first_read-requires c =
    let row = c.deref.result.now in
    let view_is = ap whole_of_state c.deref.ensures ∙ c.self.view_is in
    record {
      sound = subst IsWholeSound (sym c.deref.ensures) c.self.invariant;
      place = omega (arith, ap (λ (h : Held). length h.planned.hold.cells) view_is, c.requires, whole_width row);
    }

pub returns : goal.returns
returns c = c.is_first_read.ensures ∙ ap (λ (h : Held). is_read_out (cell_at h.planned.hold.cells c.args.position)) (ap whole_of_state c.deref.ensures ∙ c.self.view_is)
