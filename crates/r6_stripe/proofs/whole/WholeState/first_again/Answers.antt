use Rattle.std.proofs.Common.{refl, sym, ap, ◌∙◌}
use Rattle.r6_stripe.specs.Holds.{Kind}
use Rattle.r6_stripe.specs.Plans as plans
use Rattle.r6_stripe.specs.RowViews.{row_of_state}
use Rattle.r6_stripe.specs.Steps.{Held}
use Rattle.r6_stripe.proofs.ReplacingNext.{again_is, none_again}
use Rattle.r6_stripe.proofs.ReplacingWhole.{row_is, seen_is, source}
use Rattle.r6_stripe.proofs.whole.WholeState.first_again.Goals as goal

pub returns-then-is_left : goal.returns-then-is_left
returns-then-is_left c =
    let whole = c.args.self.now in
    let r = c.args.replacement in
    sym (none_again (row_of_state whole.row) r (source whole r c.requires.sound c.requires.replacement).1 (sym c.is_left.ensures ∙ c.if-is_left.true))
    ∙ sym (ap (λ (h : Held). plans.next_again h.planned.hold) (seen_is whole r c.requires.sound c.requires.replacement))

pub returns : goal.returns
returns c =
    let whole = c.args.self.now in
    let r = c.args.replacement in
    let from = source whole r c.requires.sound c.requires.replacement in
    c.first_again.ensures (Kind.Rebuild r.position) refl
    ∙ ap (λ (h : Held). plans.next_again (record h.planned.hold { kind = Kind.Rebuild r.position })) (sym (row_is whole.row r from))
    ∙ sym (again_is (row_of_state whole.row) r from.1 c.requires.going (sym c.is_left.ensures ∙ c.if-is_left.false))
    ∙ sym (ap (λ (h : Held). plans.next_again h.planned.hold) (seen_is whole r c.requires.sound c.requires.replacement))
