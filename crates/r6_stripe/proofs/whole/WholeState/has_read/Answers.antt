use Rattle.std.proofs.Common.{◌≡◌, true, false, Bool, [], refl, sym, ap, ◌∙◌}
use Rattle.std.specs.Prelude.{not, ◌&&◌}
use Rattle.std.proofs.lemmas.Bool.{and_right}
use Rattle.r6_stripe.specs.Holds.{cell_at, is_known}
use Rattle.r6_stripe.specs.Places.{reading_of}
use Rattle.r6_stripe.specs.Plans as plans
use Rattle.r6_stripe.specs.RowViews.{row_of_state}
use Rattle.r6_stripe.specs.Steps.{Held}
use Rattle.r6_stripe.specs.Views.{plan_of}
use Rattle.r6_stripe.specs.declared.place.PositionState.{PositionState}
use Rattle.r6_stripe.proofs.Places.{known_reading}
use Rattle.r6_stripe.proofs.ReplacingNext.{enough_one, enough_recover, mending_is}
use Rattle.r6_stripe.proofs.ReplacingWhole.{position_below, row_is, seen_is, source, plan_recover}
use Rattle.r6_stripe.proofs.whole.WholeState.has_read.Goals as goal

and_true : (b : Bool) → b ≡ (b && not false)
and_true true = refl
and_true false = refl

pub returns-then-is_mending : goal.returns-then-is_mending
returns-then-is_mending c =
    let whole = c.args.self.now in
    let r = c.args.replacement in
    let from = source whole r c.requires.sound c.requires.replacement in
    let seen = seen_is whole r c.requires.sound c.requires.replacement in
    let held = row_of_state whole.row in
    let mending = mending_is held r from.1 ∙ ap (λ (h : Held). plans.is_mending h.planned.hold) (row_is whole.row r from) ∙ sym c.is_mending.ensures ∙ c.if-is_mending.true in
    let enough = plans.is_enough held.planned.plan (Rattle.r6_stripe.specs.Replacements.planned_beside r held.planned).hold in
    sym (ap (λ (b : Bool). enough && not b) mending ∙ and_right enough false refl)
    ∙ sym (ap (λ (h : Held). plans.has_enough h.planned.plan h.planned.hold) seen)

pub returns-in-One : goal.returns-in-One
returns-in-One c =
    let whole = c.args.self.now in
    let r = c.args.replacement in
    let from = source whole r c.requires.sound c.requires.replacement in
    let seen = seen_is whole r c.requires.sound c.requires.replacement in
    let held = row_of_state whole.row in
    let beside = (Rattle.r6_stripe.specs.Replacements.planned_beside r held.planned).hold in
    let mending = mending_is held r from.1 ∙ ap (λ (h : Held). plans.is_mending h.planned.hold) (row_is whole.row r from) ∙ sym c.is_mending.ensures ∙ c.if-is_mending.false in
    let one : held.planned.plan ≡ plans.Plan.One = ap (λ (h : Held). h.planned.plan) (row_is whole.row r from) ∙ ap plan_of c.in-One.is in
    let known = c.is_known.ensures ∙ ap (λ (place : PositionState). is_known (reading_of place.read [])) c.get.ensures.value
    ∙ sym (known_reading whole.row.hold.places whole.row.hold.blocks.items r.position (position_below whole.row r from))
    ∙ sym (ap (λ (h : Held). is_known (cell_at h.planned.hold.cells r.position).reading) (row_is whole.row r from)) in
    known ∙ sym (enough_one held r from.1 c.requires.going) ∙ and_true (plans.is_enough plans.Plan.One beside)
    ∙ sym (λ k. plans.is_enough (one k) beside && not (mending k))
    ∙ sym (ap (λ (h : Held). plans.has_enough h.planned.plan h.planned.hold) seen)

pub returns-in_default : goal.returns-in_default
returns-in_default c =
    let whole = c.args.self.now in
    let r = c.args.replacement in
    let from = source whole r c.requires.sound c.requires.replacement in
    let seen = seen_is whole r c.requires.sound c.requires.replacement in
    let held = row_of_state whole.row in
    let beside = (Rattle.r6_stripe.specs.Replacements.planned_beside r held.planned).hold in
    let mending = mending_is held r from.1 ∙ ap (λ (h : Held). plans.is_mending h.planned.hold) (row_is whole.row r from) ∙ sym c.is_mending.ensures ∙ c.if-is_mending.false in
    let recover : held.planned.plan ≡ plans.Plan.Recover = plan_recover whole.row r from c.in_default.not-One in
    c.is_enough.ensures
    ∙ sym (ap (λ (h : Held). plans.is_enough h.planned.plan h.planned.hold) (row_is whole.row r from))
    ∙ ap (λ (q : plans.Plan). plans.is_enough q held.planned.hold) recover
    ∙ sym (enough_recover held r from.1) ∙ and_true (plans.is_enough plans.Plan.Recover beside)
    ∙ sym (λ k. plans.is_enough (recover k) beside && not (mending k))
    ∙ sym (ap (λ (h : Held). plans.has_enough h.planned.plan h.planned.hold) seen)
