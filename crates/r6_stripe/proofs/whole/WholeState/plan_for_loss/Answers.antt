use Rattle.std.proofs.Common.{◌≡◌, true, false, [], ℕ, sym, ap, subst, ◌∙◌, get_or}
use Rattle.r6_stripe.specs.Holds.{cell_at, is_known}
use Rattle.r6_stripe.specs.Places.{no_place, reading_of}
use Rattle.r6_stripe.specs.Plans as plans
use Rattle.r6_stripe.specs.Plans.{after_loss}
use Rattle.r6_stripe.specs.Replacements.{with_plan}
use Rattle.r6_stripe.specs.RowViews.{row_of_state}
use Rattle.r6_stripe.specs.Steps.{Held}
use Rattle.r6_stripe.specs.declared.place.PositionState.{PositionState}
use Rattle.r6_stripe.proofs.Places.{known_reading}
use Rattle.r6_stripe.proofs.ReplacingAnswers.{loss_stays, loss_recovers}
use Rattle.r6_stripe.proofs.ReplacingWhole.{idle, position_below, row_alone, row_is, seen_is, source, unclassed, unprepared, with_hold}
use Rattle.r6_stripe.proofs.Sources.{untasked}
use Rattle.r6_stripe.proofs.whole.WholeState.plan_for_loss.Goals.{After-is_known}
use Rattle.r6_stripe.proofs.whole.WholeState.plan_for_loss.Goals as goal

module _ (c : After-is_known) where
  -- whether the block is known
  known : c.is_known.result ≡ is_known (cell_at (row_of_state c.args.self.now.row).planned.hold.cells c.args.replacement.position).reading
  known =
      let row = c.args.self.now.row in
      let r = c.args.replacement in
      let from = source c.args.self.now r c.requires.sound c.requires.replacement in
      c.is_known.ensures
      ∙ ap (λ (place : PositionState). is_known (reading_of place.read [])) (c.get.ensures.value ∙ ap (λ (i : ℕ). get_or row.hold.places i no_place) (sym c.if-replacement-position.false))
      ∙ sym (known_reading row.hold.places row.hold.blocks.items r.position (position_below row r from))
      ∙ sym (ap (λ (h : Held). is_known (cell_at h.planned.hold.cells r.position).reading) (row_is row r from))

pub returns-then-replacement-position-clause-row : goal.returns-then-replacement-position-clause-row
returns-then-replacement-position-clause-row c =
    let whole = c.args.self.now in
    let r = c.args.replacement in
    let from = source whole r c.requires.sound c.requires.replacement in
    ap (λ (q : plans.Plan). with_plan q (row_of_state whole.row)) (loss_stays (row_of_state whole.row) r from.1 c.args.position (λ same going. absurd (c.if-replacement-position.true (sym same))))
    ∙ sym (ap (λ (h : Held). with_plan (after_loss h.planned.plan h.planned.hold c.args.position) (row_of_state whole.row)) (seen_is whole r c.requires.sound c.requires.replacement))

pub returns-then-replacement-clause-row : goal.returns-then-replacement-clause-row
returns-then-replacement-clause-row c =
    let whole = c.args.self.now in
    let r = c.args.replacement in
    let from = source whole r c.requires.sound c.requires.replacement in
    ap (λ (q : plans.Plan). with_plan q (row_of_state whole.row)) (loss_stays (row_of_state whole.row) r from.1 c.args.position (λ same going. absurd (let e = sym c.if-replacement.true ∙ going in cc)))
    ∙ sym (ap (λ (h : Held). with_plan (after_loss h.planned.plan h.planned.hold c.args.position) (row_of_state whole.row)) (seen_is whole r c.requires.sound c.requires.replacement))

pub returns-then-is_known-clause-row : goal.returns-then-is_known-clause-row
returns-then-is_known-clause-row c =
    let whole = c.args.self.now in
    let r = c.args.replacement in
    let from = source whole r c.requires.sound c.requires.replacement in
    let a = (goal.at.returns-then-is_known-clause-row c).After-is_known in
    ap (λ (q : plans.Plan). with_plan q (row_of_state whole.row))
    (loss_stays (row_of_state whole.row) r from.1 c.args.position (λ same going. subst (λ (i : ℕ). is_known (cell_at (row_of_state whole.row).planned.hold.cells i).reading ≡ true) (sym same) (sym (known a) ∙ c.if-is_known.true)))
    ∙ sym (ap (λ (h : Held). with_plan (after_loss h.planned.plan h.planned.hold c.args.position) (row_of_state whole.row)) (seen_is whole r c.requires.sound c.requires.replacement))

pub recover_source-requires-clause-untasked : goal.recover_source-requires-clause-untasked
recover_source-requires-clause-untasked c =
    let whole = c.args.self.now in
    let r = c.args.replacement in
    untasked whole.row.hold.task (idle whole.row r c.requires.sound.row (source whole r c.requires.sound c.requires.replacement))

pub returns-clause-row : goal.returns-clause-row
returns-clause-row c =
    let whole = c.args.self.now in
    let r = c.args.replacement in
    let from = source whole r c.requires.sound c.requires.replacement in
    let a = (goal.at.returns-clause-row c).After-is_known in
    row_alone c.recover_source.new.self whole.row.second whole.row.spare whole.row.spare_away from.0
    ∙ ap (λ (h : Held). record h { second_away = whole.row.spare_away }) c.recover_source.ensures.held
    ∙ sym (ap (λ (h : Held). with_plan plans.Plan.Recover h) (row_is whole.row r from))
    ∙ ap (λ (q : plans.Plan). with_plan q (row_of_state whole.row))
    (loss_recovers (row_of_state whole.row) r from.1 c.args.position (sym c.if-replacement-position.false) c.if-replacement.false
    (subst (λ (i : ℕ). is_known (cell_at (row_of_state whole.row).planned.hold.cells i).reading ≡ false) c.if-replacement-position.false (sym (known a) ∙ c.if-is_known.false)))
    ∙ sym (ap (λ (h : Held). with_plan (after_loss h.planned.plan h.planned.hold c.args.position) (row_of_state whole.row)) (seen_is whole r c.requires.sound c.requires.replacement))

pub returns-clause-sound : goal.returns-clause-sound
returns-clause-sound c =
    let whole = c.args.self.now in
    let r = c.args.replacement in
    let from = source whole r c.requires.sound c.requires.replacement in
    let row = c.requires.sound.row in
    let held = c.recover_source.ensures.held in
    with_hold whole.row r row from c.recover_source.new.self whole.row.spare whole.row.spare_away c.recover_source.ensures.sound
    (ap (λ (h : Held). h.planned.hold.kind) held ∙ idle whole.row r row from)
    (ap (λ (h : Held). h.class) held ∙ unclassed whole.row r row from)
    (c.recover_source.ensures.prepared ∙ unprepared whole.row r row from)
    (λ home. row.spare home ∙ sym (ap (λ (h : Held). h.planned.hold.size) held))
