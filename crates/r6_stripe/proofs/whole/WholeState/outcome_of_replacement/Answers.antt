use Rattle.std.proofs.Common.{◌≡◌, true, false, Bool, ℕ, sym, ap, subst, ◌∙◌, refl, Some, Option}
use Rattle.std.specs.Prelude.{not, ◌&&◌, MatchOption, IfSome, option_map}
use Rattle.r6_stripe.specs.Checks.{IsEnd}
use Rattle.r6_stripe.specs.Holds.{MayEnd, cell_at}
use Rattle.r6_stripe.specs.Plans as plans
use Rattle.r6_stripe.specs.Plans.{Next, is_none}
use Rattle.r6_stripe.specs.Replacements.{held_beside, planned_beside, target_outcome}
use Rattle.r6_stripe.specs.RowViews.{row_of_state}
use Rattle.r6_stripe.specs.Steps.{Held, has_outcome}
use Rattle.r6_stripe.specs.WholeViews.{IsSoundReplacing, IsWholeSound, whole_of_state}
use Rattle.r6_stripe.specs.declared.command.Outcome.{Outcome as End}
use Rattle.r6_stripe.specs.declared.command.Outcome.TheVariants as end
use Rattle.r6_stripe.specs.declared.replacement.Replacement.{Replacement}
use Rattle.r6_stripe.specs.declared.whole.WholeState.{WholeState}
use Rattle.r6_stripe.proofs.ReplacingEnds.{lost_ends, lost_outcome, outcome_none, target_ends, target_over}
use Rattle.r6_stripe.proofs.ReplacingWhole.{row_is, seen_is, source}
use Rattle.r6_stripe.proofs.whole.WholeState.outcome_of_replacement.Goals as goal

module _ (whole : WholeState) (r : Replacement) (sound : IsWholeSound whole) (is : whole.replacement ≡ Some r) where
  from : IsSoundReplacing whole.row (Some r)
  from = source whole r sound is

  seen : whole_of_state whole ≡ held_beside r (row_of_state whole.row)
  seen = seen_is whole r sound is

  target_seen : (b : Bool) → plans.has_target (cell_at (whole_of_state whole).planned.hold.cells r.position) ≡ b → plans.has_target (cell_at (planned_beside r (row_of_state whole.row).planned).hold.cells r.position) ≡ b
  target_seen b e = sym (ap (λ (h : Held). plans.has_target (cell_at h.planned.hold.cells r.position)) seen) ∙ e

  plain_quiet : (b q : Bool) → q ≡ (not (plans.has_read_out (Rattle.r6_stripe.specs.Views.hold_of whole.row.hold)) && not (plans.has_write_out (Rattle.r6_stripe.specs.Views.hold_of whole.row.hold))) → q ≡ b →
      (not (plans.has_read_out (row_of_state whole.row).planned.hold) && not (plans.has_write_out (row_of_state whole.row).planned.hold)) ≡ b
  plain_quiet b q is_q e = ap (λ (h : Held). not (plans.has_read_out h.planned.hold) && not (plans.has_write_out h.planned.hold)) (row_is whole.row r from) ∙ sym is_q ∙ e

  outcome_seen : (b : Bool) → has_outcome (planned_beside r (row_of_state whole.row).planned) ≡ b → has_outcome (whole_of_state whole).planned ≡ b
  outcome_seen b e = ap (λ (h : Held). has_outcome h.planned) seen ∙ e

  again_seen : (o : Option ℕ) → option_map Next.ReadAgainAt o ≡ plans.next_again (whole_of_state whole).planned.hold → (b : Bool) → is_none (option_map Next.ReadAgainAt o) ≡ b → is_none (plans.next_again (planned_beside r (row_of_state whole.row).planned).hold) ≡ b
  again_seen o e b f = sym (ap (λ (h : Held). is_none (plans.next_again h.planned.hold)) seen) ∙ sym (ap is_none e) ∙ f

pub returns-then-replacement-clause-over : goal.returns-then-replacement-clause-over
returns-then-replacement-clause-over c =
    let whole = c.args.self.now in
    let r = c.args.replacement in
    outcome_seen whole r c.requires.sound c.requires.replacement false (outcome_none (row_of_state whole.row) r (from whole r c.requires.sound c.requires.replacement).1 c.if-replacement.true)

pub returns-then-replacement-clause-ends : goal.returns-then-replacement-clause-ends
returns-then-replacement-clause-ends c = tt

pub returns-then-has_target-clause-over : goal.returns-then-has_target-clause-over
returns-then-has_target-clause-over c =
    let whole = c.args.self.now in
    let r = c.args.replacement in
    let there = target_seen whole r c.requires.sound c.requires.replacement true (sym c.has_target.ensures ∙ c.if-has_target.true) in
    subst (λ (o : Option End). MatchOption o (has_outcome (whole_of_state whole).planned ≡ false) (λ e. (has_outcome (whole_of_state whole).planned ≡ true) × IsEnd (plans.outcome_of (whole_of_state whole).planned.hold (whole_of_state whole).planned.hold.kind) (whole_of_state whole).class e)) (sym c.outcome_of_target.ensures)
    (subst (λ (h : Held). MatchOption (target_outcome r.written) (has_outcome h.planned ≡ false) (λ e. (has_outcome h.planned ≡ true) × IsEnd (plans.outcome_of h.planned.hold h.planned.hold.kind) h.class e)) (sym (seen whole r c.requires.sound c.requires.replacement))
    (target_over (row_of_state whole.row) r (from whole r c.requires.sound c.requires.replacement).1 (row_of_state whole.row).class c.if-replacement.false there r.written refl))

pub returns-then-has_target-clause-ends : goal.returns-then-has_target-clause-ends
returns-then-has_target-clause-ends c =
    let whole = c.args.self.now in
    let r = c.args.replacement in
    let there = target_seen whole r c.requires.sound c.requires.replacement true (sym c.has_target.ensures ∙ c.if-has_target.true) in
    subst (λ (o : Option End). IfSome o (λ _. MayEnd (whole_of_state whole).planned.hold (plans.outcome_of (whole_of_state whole).planned.hold (whole_of_state whole).planned.hold.kind))) (sym c.outcome_of_target.ensures)
    (subst (λ (h : Held). IfSome (target_outcome r.written) (λ _. MayEnd h.planned.hold (plans.outcome_of h.planned.hold h.planned.hold.kind))) (sym (seen whole r c.requires.sound c.requires.replacement))
    (target_ends (row_of_state whole.row) r (from whole r c.requires.sound c.requires.replacement).1 c.if-replacement.false there r.written refl))

pub returns-then-not-is_quiet-clause-over : goal.returns-then-not-is_quiet-clause-over
returns-then-not-is_quiet-clause-over c =
    let whole = c.args.self.now in
    let r = c.args.replacement in
    let lost = target_seen whole r c.requires.sound c.requires.replacement false (sym c.has_target.ensures ∙ c.if-has_target.false) in
    let quiet = plain_quiet whole r c.requires.sound c.requires.replacement false c.is_quiet.result c.is_quiet.ensures c.if-not-is_quiet.true in
    outcome_seen whole r c.requires.sound c.requires.replacement false
    (lost_outcome (row_of_state whole.row) r (from whole r c.requires.sound c.requires.replacement).1 c.if-replacement.false lost false (is_none (plans.next_again (planned_beside r (row_of_state whole.row).planned).hold)) quiet refl)

pub returns-then-not-is_quiet-clause-ends : goal.returns-then-not-is_quiet-clause-ends
returns-then-not-is_quiet-clause-ends c = tt

pub returns-in-Some-clause-over : goal.returns-in-Some-clause-over
returns-in-Some-clause-over c =
    let whole = c.args.self.now in
    let r = c.args.replacement in
    let lost = target_seen whole r c.requires.sound c.requires.replacement false (sym c.has_target.ensures ∙ c.if-has_target.false) in
    let quiet = plain_quiet whole r c.requires.sound c.requires.replacement true c.is_quiet.result c.is_quiet.ensures c.if-not-is_quiet.false in
    let some = again_seen whole r c.requires.sound c.requires.replacement c.first_again.result c.first_again.ensures false (ap (λ (o : Option ℕ). is_none (option_map Next.ReadAgainAt o)) c.in-Some.is) in
    outcome_seen whole r c.requires.sound c.requires.replacement false (lost_outcome (row_of_state whole.row) r (from whole r c.requires.sound c.requires.replacement).1 c.if-replacement.false lost true false quiet some)

pub returns-in-Some-clause-ends : goal.returns-in-Some-clause-ends
returns-in-Some-clause-ends c = tt

pub returns-in-None-clause-over : goal.returns-in-None-clause-over
returns-in-None-clause-over c =
    let whole = c.args.self.now in
    let r = c.args.replacement in
    let lost = target_seen whole r c.requires.sound c.requires.replacement false (sym c.has_target.ensures ∙ c.if-has_target.false) in
    let quiet = plain_quiet whole r c.requires.sound c.requires.replacement true c.is_quiet.result c.is_quiet.ensures c.if-not-is_quiet.false in
    let none = again_seen whole r c.requires.sound c.requires.replacement c.first_again.result c.first_again.ensures true (ap (λ (o : Option ℕ). is_none (option_map Next.ReadAgainAt o)) c.in-None.is) in
    let over = lost_outcome (row_of_state whole.row) r (from whole r c.requires.sound c.requires.replacement).1 c.if-replacement.false lost true true quiet none in (
      outcome_seen whole r c.requires.sound c.requires.replacement true over,
      subst (λ (h : Held). IsEnd (plans.outcome_of h.planned.hold h.planned.hold.kind) h.class end.GivenUp) (sym (seen whole r c.requires.sound c.requires.replacement))
          (lost_ends (row_of_state whole.row) r (from whole r c.requires.sound c.requires.replacement).1 (row_of_state whole.row).class c.if-replacement.false lost over).0,
    )

pub returns-in-None-clause-ends : goal.returns-in-None-clause-ends
returns-in-None-clause-ends c =
    let whole = c.args.self.now in
    let r = c.args.replacement in
    let lost = target_seen whole r c.requires.sound c.requires.replacement false (sym c.has_target.ensures ∙ c.if-has_target.false) in
    let quiet = plain_quiet whole r c.requires.sound c.requires.replacement true c.is_quiet.result c.is_quiet.ensures c.if-not-is_quiet.false in
    let none = again_seen whole r c.requires.sound c.requires.replacement c.first_again.result c.first_again.ensures true (ap (λ (o : Option ℕ). is_none (option_map Next.ReadAgainAt o)) c.in-None.is) in
    let over = lost_outcome (row_of_state whole.row) r (from whole r c.requires.sound c.requires.replacement).1 c.if-replacement.false lost true true quiet none in
    subst (λ (h : Held). MayEnd h.planned.hold (plans.outcome_of h.planned.hold h.planned.hold.kind)) (sym (seen whole r c.requires.sound c.requires.replacement))
    (lost_ends (row_of_state whole.row) r (from whole r c.requires.sound c.requires.replacement).1 (row_of_state whole.row).class c.if-replacement.false lost over).1
