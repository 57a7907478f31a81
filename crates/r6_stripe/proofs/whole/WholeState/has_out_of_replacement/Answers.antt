use Rattle.std.proofs.Common.{◌≡◌, true, false, Bool, sym, ap, ◌∙◌, refl}
use Rattle.std.specs.Prelude.{not, ◌&&◌, ◌||◌}
use Rattle.r6_stripe.specs.Holds.{cell_at}
use Rattle.r6_stripe.specs.Plans as plans
use Rattle.r6_stripe.specs.Replacements.{is_gone}
use Rattle.r6_stripe.specs.RowViews.{row_of_state}
use Rattle.r6_stripe.specs.Steps.{Held}
use Rattle.r6_stripe.specs.WholeViews.{whole_of_state}
use Rattle.r6_stripe.proofs.ReplacingOver.{out_is, sends}
use Rattle.r6_stripe.proofs.ReplacingWhole.{cell_is, row_is, seen_is, source, target_there}
use Rattle.r6_stripe.proofs.whole.WholeState.has_out_of_replacement.Goals.{After-is_quiet}
use Rattle.r6_stripe.proofs.whole.WholeState.has_out_of_replacement.Goals as goal

quiet_false : (a b : Bool) → (not a && not b) ≡ false → (a || b) ≡ true
quiet_false true b e = refl
quiet_false false true e = refl
quiet_false false false e = absurd cc

quiet_true : (a b : Bool) → (not a && not b) ≡ true → (a || b) ≡ false
quiet_true true b e = absurd cc
quiet_true false true e = absurd cc
quiet_true false false e = refl

module _ (c : After-is_quiet) where
  -- what is out of the hold that reads, and the write to the target
  seen_out : (plans.has_read_out (whole_of_state c.args.self.now).planned.hold || plans.has_write_out (whole_of_state c.args.self.now).planned.hold)
      ≡ ((plans.has_read_out (row_of_state c.args.self.now.row).planned.hold || plans.has_write_out (row_of_state c.args.self.now.row).planned.hold)
      || sends (row_of_state c.args.self.now.row) c.args.replacement (source c.args.self.now c.args.replacement c.requires.sound c.requires.replacement).1)
  seen_out =
      let whole = c.args.self.now in
      let r = c.args.replacement in
      let from = source whole r c.requires.sound c.requires.replacement in
      ap (λ (h : Held). plans.has_read_out h.planned.hold || plans.has_write_out h.planned.hold) (seen_is whole r c.requires.sound c.requires.replacement) ∙ out_is (row_of_state whole.row) r from.1

  quiet_is : c.is_quiet.result ≡ (not (plans.has_read_out (row_of_state c.args.self.now.row).planned.hold) && not (plans.has_write_out (row_of_state c.args.self.now.row).planned.hold))
  quiet_is =
      c.is_quiet.ensures
      ∙ sym (ap (λ (h : Held). not (plans.has_read_out h.planned.hold) && not (plans.has_write_out h.planned.hold)) (row_is c.args.self.now.row c.args.replacement (source c.args.self.now c.args.replacement c.requires.sound c.requires.replacement)))

  target_is : plans.has_target (cell_at (whole_of_state c.args.self.now).planned.hold.cells c.args.replacement.position)
      ≡ (not (is_gone c.args.replacement.stage) && not (plans.is_out (cell_at (row_of_state c.args.self.now.row).planned.hold.cells c.args.replacement.position).standing))
  target_is =
      let whole = c.args.self.now in
      let r = c.args.replacement in
      let from = source whole r c.requires.sound c.requires.replacement in
      ap (λ (h : Held). plans.has_target (cell_at h.planned.hold.cells r.position)) (seen_is whole r c.requires.sound c.requires.replacement)
      ∙ target_there whole.row r from
      ∙ sym (ap (λ (x : Rattle.r6_stripe.specs.Holds.Cell). not (is_gone r.stage) && not (plans.is_out x.standing)) (cell_is whole.row r from))

pub returns-then-not-is_quiet : goal.returns-then-not-is_quiet
returns-then-not-is_quiet c =
    let a = (goal.at.returns-then-not-is_quiet c).After-is_quiet in
    let hold = (row_of_state c.args.self.now.row).planned.hold in
    sym (seen_out a ∙ ap (λ (b : Bool). b || sends (row_of_state c.args.self.now.row) c.args.replacement (source c.args.self.now c.args.replacement c.requires.sound c.requires.replacement).1)
    (quiet_false (plans.has_read_out hold) (plans.has_write_out hold) (sym (quiet_is a) ∙ c.if-not-is_quiet.true)))

pub returns-then-is_sent : goal.returns-then-is_sent
returns-then-is_sent c =
    let a = (goal.at.returns-then-is_sent c).After-is_quiet in
    let r = c.args.replacement in
    let hold = (row_of_state c.args.self.now.row).planned.hold in
    let there = not (is_gone r.stage) && not (plans.is_out (cell_at hold.cells r.position).standing) in
    c.has_target.ensures ∙ target_is a
    ∙ sym (seen_out a
    ∙ (λ k. quiet_true (plans.has_read_out hold) (plans.has_write_out hold) (sym (quiet_is a) ∙ c.if-not-is_quiet.false) k || ((sym c.is_sent.ensures ∙ c.if-is_sent.true) k && there)))

pub returns-else-is_sent : goal.returns-else-is_sent
returns-else-is_sent c =
    let a = (goal.at.returns-else-is_sent c).After-is_quiet in
    let r = c.args.replacement in
    let hold = (row_of_state c.args.self.now.row).planned.hold in
    let there = not (is_gone r.stage) && not (plans.is_out (cell_at hold.cells r.position).standing) in
    c.if-is_sent.false
    ∙ sym (seen_out a
    ∙ (λ k. quiet_true (plans.has_read_out hold) (plans.has_write_out hold) (sym (quiet_is a) ∙ c.if-not-is_quiet.false) k || ((sym c.is_sent.ensures ∙ c.if-is_sent.false) k && there)))
