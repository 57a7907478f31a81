use Rattle.std.proofs.Common.{◌≡◌, [], sym, ap, subst, ◌∙◌, refl, None}
use Rattle.r6_stripe.specs.Holds.{cell_at}
use Rattle.r6_stripe.specs.Plans as plans
use Rattle.r6_stripe.specs.Plans.{Next}
use Rattle.r6_stripe.specs.RowViews.{row_of_state}
use Rattle.r6_stripe.specs.Steps.{Held, IsNone}
use Rattle.r6_stripe.specs.WholeViews.{whole_of_state}
use Rattle.r6_stripe.proofs.ReplacingEnds.{closed_none, left_none, lost_up}
use Rattle.r6_stripe.proofs.ReplacingOver.{next_up}
use Rattle.r6_stripe.proofs.ReplacingWhole.{seen_is, source}
use Rattle.r6_stripe.proofs.whole.WholeState.next_of_replacement.Goals as goal

pub returns-then-replacement-clause-puts_out : goal.returns-then-replacement-clause-puts_out
returns-then-replacement-clause-puts_out c =
    let whole = c.args.self.now in
    let r = c.args.replacement in
    let from = source whole r c.requires.sound c.requires.replacement in
    let none : plans.next (whole_of_state whole).planned ≡ None = ap (λ (h : Held). plans.next h.planned) (seen_is whole r c.requires.sound c.requires.replacement) ∙ closed_none (row_of_state whole.row) r from.1 c.if-replacement.true in
    (([], tt, tt, refl), subst IsNone (sym none) tt, refl, refl, refl)

pub read_again-requires-clause-next : goal.read_again-requires-clause-next
read_again-requires-clause-next c =
    let whole = c.args.self.now in
    let r = c.args.replacement in
    let from = source whole r c.requires.sound c.requires.replacement in
    let seen = seen_is whole r c.requires.sound c.requires.replacement in
    let lost = sym (ap (λ (h : Held). plans.has_target (cell_at h.planned.hold.cells r.position)) seen) ∙ sym c.has_target.ensures ∙ c.if-not-has_target.true in
    ap (λ (h : Held). plans.next h.planned) seen
    ∙ next_up (row_of_state whole.row) r from.1 (lost_up (row_of_state whole.row) r from.1 c.if-replacement.false lost)
    ∙ sym (ap (λ (h : Held). plans.next_again h.planned.hold) seen)

pub returns-then-is_left-clause-puts_out : goal.returns-then-is_left-clause-puts_out
returns-then-is_left-clause-puts_out c =
    let whole = c.args.self.now in
    let r = c.args.replacement in
    let from = source whole r c.requires.sound c.requires.replacement in
    let seen = seen_is whole r c.requires.sound c.requires.replacement in
    let there = sym (ap (λ (h : Held). plans.has_target (cell_at h.planned.hold.cells r.position)) seen) ∙ sym c.has_target.ensures ∙ c.if-not-has_target.false in
    let none : plans.next (whole_of_state whole).planned ≡ None = ap (λ (h : Held). plans.next h.planned) seen ∙ left_none (row_of_state whole.row) r from.1 (sym c.is_left.ensures ∙ c.if-is_left.true) c.if-replacement.false there in
    (([], tt, tt, refl), subst IsNone (sym none) tt, refl, refl, refl)
