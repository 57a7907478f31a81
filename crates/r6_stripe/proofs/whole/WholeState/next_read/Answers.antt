use Rattle.std.proofs.Common.{◌≡◌, true, false, Bool, sym, ap, ◌∙◌, Some, None}
use Rattle.std.specs.Prelude.{option_map, if◌then◌else◌}
use Rattle.r6_stripe.specs.Holds.{cell_at}
use Rattle.r6_stripe.specs.Places.{is_readable}
use Rattle.r6_stripe.specs.Plans as plans
use Rattle.r6_stripe.specs.RowViews.{row_of_state}
use Rattle.r6_stripe.specs.Steps.{Held}
use Rattle.r6_stripe.specs.Views.{plan_of}
use Rattle.r6_stripe.proofs.Places.{at_place, readable-blind}
use Rattle.r6_stripe.proofs.ReplacingNext.{read_one, read_recover}
use Rattle.r6_stripe.proofs.ReplacingWhole.{plan_recover, position_below, row_is, seen_is, source}
use Rattle.r6_stripe.proofs.whole.WholeState.next_read.Goals.{After-is_readable}
use Rattle.r6_stripe.proofs.whole.WholeState.next_read.Goals as goal

module _ (c : After-is_readable) where
  by_one : (b : Bool) → c.is_readable.result ≡ b → option_map plans.Next.ReadAt (if b then Some c.args.replacement.position else None)
      ≡ plans.next_read (Rattle.r6_stripe.specs.WholeViews.whole_of_state c.args.self.now).planned.plan (Rattle.r6_stripe.specs.WholeViews.whole_of_state c.args.self.now).planned.hold
  by_one b e =
      let whole = c.args.self.now in
      let r = c.args.replacement in
      let from = source whole r c.requires.sound c.requires.replacement in
      let held = row_of_state whole.row in
      let one : held.planned.plan ≡ plans.Plan.One = ap (λ (h : Held). h.planned.plan) (row_is whole.row r from) ∙ ap plan_of c.in-One.is in
      let readable = ap (λ (h : Held). is_readable (cell_at h.planned.hold.cells r.position)) (row_is whole.row r from)
      ∙ at_place is_readable readable-blind whole.row.hold.places whole.row.hold.blocks.items r.position c.get.result (position_below whole.row r from) c.get.ensures.here
      ∙ sym c.is_readable.ensures ∙ e in
      read_one held r from.1 c.requires.going c.requires.here b readable
      ∙ ap (λ (q : plans.Plan). plans.next_read q (Rattle.r6_stripe.specs.Replacements.planned_beside r held.planned).hold) (sym one)
      ∙ sym (ap (λ (h : Held). plans.next_read h.planned.plan h.planned.hold) (seen_is whole r c.requires.sound c.requires.replacement))

pub returns-then-is_readable : goal.returns-then-is_readable
returns-then-is_readable c = by_one (goal.at.returns-then-is_readable c).After-is_readable true c.if-is_readable.true

pub returns-else-is_readable : goal.returns-else-is_readable
returns-else-is_readable c = by_one (goal.at.returns-else-is_readable c).After-is_readable false c.if-is_readable.false

pub returns-in_default : goal.returns-in_default
returns-in_default c =
    let whole = c.args.self.now in
    let r = c.args.replacement in
    let from = source whole r c.requires.sound c.requires.replacement in
    let held = row_of_state whole.row in
    let recover : held.planned.plan ≡ plans.Plan.Recover = plan_recover whole.row r from c.in_default.not-One in
    c.next_read.ensures
    ∙ sym (ap (λ (h : Held). plans.next_read h.planned.plan h.planned.hold) (row_is whole.row r from))
    ∙ ap (λ (q : plans.Plan). plans.next_read q held.planned.hold) recover
    ∙ sym (read_recover held r from.1 c.requires.here)
    ∙ ap (λ (q : plans.Plan). plans.next_read q (Rattle.r6_stripe.specs.Replacements.planned_beside r held.planned).hold) (sym recover)
    ∙ sym (ap (λ (h : Held). plans.next_read h.planned.plan h.planned.hold) (seen_is whole r c.requires.sound c.requires.replacement))
