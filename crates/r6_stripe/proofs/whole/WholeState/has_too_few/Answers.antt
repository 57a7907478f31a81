use Rattle.std.proofs.Common.{sym, ap, ◌∙◌}
use Rattle.std.specs.Prelude.{not}
use Rattle.r6_stripe.specs.Holds.{cell_at}
use Rattle.r6_stripe.specs.Plans as plans
use Rattle.r6_stripe.specs.RowViews.{row_of_state}
use Rattle.r6_stripe.specs.Steps.{Held, is_loss, loses_unreadable}
use Rattle.r6_stripe.proofs.ReplacingNext.{loss_plain}
use Rattle.r6_stripe.proofs.ReplacingOver.{closed_up, keeps_all, too_few, up_is}
use Rattle.r6_stripe.proofs.ReplacingWhole.{row_is, seen_is, source}
use Rattle.r6_stripe.proofs.whole.WholeState.has_too_few.Goals as goal

pub returns-then-replacement : goal.returns-then-replacement
returns-then-replacement c =
    let whole = c.args.self.now in
    let r = c.args.replacement in
    let from = source whole r c.requires.sound c.requires.replacement in
    sym (ap (λ (h : Held). loses_unreadable h.planned) (seen_is whole r c.requires.sound c.requires.replacement) ∙ keeps_all (row_of_state whole.row) r from.1 (closed_up (row_of_state whole.row) r from.1 c.if-replacement.true))

pub returns-then-not-has_target : goal.returns-then-not-has_target
returns-then-not-has_target c =
    let whole = c.args.self.now in
    let r = c.args.replacement in
    let from = source whole r c.requires.sound c.requires.replacement in
    let seen = seen_is whole r c.requires.sound c.requires.replacement in
    let lost = sym (ap (λ (h : Held). plans.has_target (cell_at h.planned.hold.cells r.position)) seen) ∙ sym c.has_target.ensures ∙ c.if-not-has_target.true in
    sym (ap (λ (h : Held). loses_unreadable h.planned) seen
    ∙ keeps_all (row_of_state whole.row) r from.1 (up_is (row_of_state whole.row) r from.1 c.if-replacement.false ∙ ap not lost))

pub returns : goal.returns
returns c =
    let whole = c.args.self.now in
    let r = c.args.replacement in
    let from = source whole r c.requires.sound c.requires.replacement in
    let seen = seen_is whole r c.requires.sound c.requires.replacement in
    let there = sym (ap (λ (h : Held). plans.has_target (cell_at h.planned.hold.cells r.position)) seen) ∙ sym c.has_target.ensures ∙ c.if-not-has_target.false in
    c.has_too_few.ensures
    ∙ sym (ap (λ (h : Held). is_loss (plans.next_loss h.planned.hold)) (row_is whole.row r from))
    ∙ ap is_loss (loss_plain (row_of_state whole.row) r from.1)
    ∙ sym (too_few (row_of_state whole.row) r from.1 c.if-replacement.false there)
    ∙ sym (ap (λ (h : Held). loses_unreadable h.planned) seen)
