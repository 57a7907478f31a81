use Rattle.std.proofs.Common.{◌≡◌, ◌⊎◌, inl, inr, Bool, true, false, refl, sym, ◌∙◌, ap, subst, None, Some, MatchOption, IfSome}
use Rattle.std.specs.Prelude.{Option, ◌&&◌, not}
use Rattle.r6_stripe.specs.Checks.{IsEnd}
use Rattle.r6_stripe.specs.Holds.{MayEnd, Outcome}
use Rattle.r6_stripe.specs.Plans as plans
use Rattle.r6_stripe.specs.RowViews.{IsRowSound, row_of_state}
use Rattle.r6_stripe.specs.Seconds.{IsSecondSound, is_awaited, is_due, with_second}
use Rattle.r6_stripe.specs.Steps.{Held, has_outcome, is_idle}
use Rattle.r6_stripe.specs.Views.{held_of, hold_of}
use Rattle.r6_recover.specs.declared.class.RowClass.{RowClass}
use Rattle.r6_stripe.specs.declared.command.Outcome.{Outcome as End}
use Rattle.r6_stripe.specs.declared.row.RowState.{RowState}
use Rattle.r6_stripe.specs.declared.second.Second.{Second}
use Rattle.r6_stripe.proofs.Alone.{cells_alone}
use Rattle.r6_stripe.proofs.BesideDue.{going_due}
use Rattle.r6_stripe.proofs.BesideEnds.{going_awaited, unended}
use Rattle.r6_stripe.proofs.BesideLosses.{sound_some}
use Rattle.r6_stripe.proofs.BesideOver.{awaited_busy, end_same, may_end, over_same}
use Rattle.r6_stripe.proofs.BesideRest.{due_busy}
use Rattle.r6_stripe.proofs.BesideRow.{going_row, recalled_live, row_inside, seen_is}
use Rattle.r6_stripe.proofs.BesideSteps.{IsGoing}
use Rattle.r6_stripe.proofs.row.RowState.outcome_beside.Goals.{then-is_sent-via-then-is_sent, then-is_sent-via-else-is_sent+then-not-gives_up, then-is_due, else-is_due}
use Rattle.r6_stripe.proofs.row.RowState.outcome_beside.Goals as goal

off : (b : Bool) → not b ≡ true → b ≡ false
off true e = absurd cc
off false e = refl

on : (b : Bool) → not b ≡ false → b ≡ true
on true e = refl
on false e = absurd cc

if_some : (o : Option End) {P Q : Type 0} → (P → Q) → IfSome o (λ e. P) → IfSome o (λ e. Q)
if_some None h some = tt
if_some (Some e) h some = h some

over_same_end : (o : Option End) (old new : Bool) (outcome other : Outcome) (class later : Option RowClass) → new ≡ old → other ≡ outcome → later ≡ class →
    MatchOption o (old ≡ false) (λ e. (old ≡ true) × IsEnd outcome class e) → MatchOption o (new ≡ false) (λ e. (new ≡ true) × IsEnd other later e)
over_same_end None old new outcome other class later over ends classes h = over ∙ h
over_same_end (Some e) old new outcome other class later over ends classes h =
    (over ∙ h.0, subst (λ (x : Outcome). IsEnd x later e) (sym ends) (subst (λ (x : Option RowClass). IsEnd outcome x e) (sym classes) h.1))

pub is_recalled-requires : goal.is_recalled-requires
is_recalled-requires c = row_inside c.args.self.now c.args.second c.requires.sound c.requires.second

pub outcome_recalled-requires-clause-in_sync : goal.outcome_recalled-requires-clause-in_sync
outcome_recalled-requires-clause-in_sync c = recalled_live c.args.self.now c.args.second c.requires.sound c.requires.second (sym c.is_recalled.ensures ∙ c.if-is_recalled.true)

module _ (row : RowState) (second : Second) (row_sound : IsRowSound row) (is : row.second ≡ Some second) where
  sound : IsSecondSound (held_of row.hold) row.spare_away second
  sound = sound_some row second row_sound is

  abbrev seen : Held
  seen = with_second (Some second) row.spare row.spare_away (held_of row.hold)

  open_if : plans.is_over seen.planned ≡ false → has_outcome (row_of_state row).planned ≡ false
  open_if e = ap (λ (h : Held). has_outcome h.planned) (sym (seen_is row second is)) ∙ unended seen.planned e

  awaited_open : is_awaited second ≡ true → has_outcome (row_of_state row).planned ≡ false
  awaited_open awaited =
      open_if (awaited_busy second row.spare (held_of row.hold) row.spare_away sound (going_awaited second row.spare (held_of row.hold) row.spare_away (cells_alone row.hold.places row.hold.blocks.items) sound awaited) awaited)

  due_open : is_due second ≡ true → plans.gives_up (hold_of row.hold) ≡ false → has_outcome (row_of_state row).planned ≡ false
  due_open due up = open_if (due_busy second row.spare (held_of row.hold) row.spare_away (going_due row second row_sound is due) sound due up)

  module _ (going : IsGoing second (held_of row.hold).planned) (quiet : is_awaited second ≡ false) (due : (is_due second ≡ false) ⊎ (plans.gives_up (hold_of row.hold) ≡ true)) where
    over_row : has_outcome (row_of_state row).planned ≡ has_outcome (held_of row.hold).planned
    over_row =
        ap (λ (h : Held). has_outcome h.planned) (sym (seen_is row second is))
        ∙ ap (λ (b : Bool). not (is_idle (hold_of row.hold).kind) && b) (over_same second row.spare (held_of row.hold) row.spare_away sound going quiet due)

    end_row : plans.outcome_of (row_of_state row).planned.hold (row_of_state row).planned.hold.kind ≡ plans.outcome_of (hold_of row.hold) (hold_of row.hold).kind
    end_row = ap (λ (h : Held). plans.outcome_of h.planned.hold h.planned.hold.kind) (sym (seen_is row second is)) ∙ end_same second row.spare (held_of row.hold) row.spare_away sound going

    class_row : (row_of_state row).class ≡ row.hold.class
    class_row = ap (λ (h : Held). h.class) (sym (seen_is row second is))

    ends_row : MayEnd (hold_of row.hold) (plans.outcome_of (hold_of row.hold) (hold_of row.hold).kind) → MayEnd (row_of_state row).planned.hold (plans.outcome_of (row_of_state row).planned.hold (row_of_state row).planned.hold.kind)
    ends_row may =
        subst (λ (h : Held). MayEnd h.planned.hold (plans.outcome_of h.planned.hold h.planned.hold.kind)) (seen_is row second is)
        (may_end second row.spare (held_of row.hold) row.spare_away sound going quiet due may)

pub returns-then-is_sent-clause-over : goal.returns-then-is_sent-clause-over
returns-then-is_sent-clause-over c =
    let row = c.args.self.now in
    let second = c.args.second in
    elim c.then-is_sent.branch [
      | then-is_sent-via-then-is_sent w ↦ awaited_open row second c.requires.sound c.requires.second (sym c.is_sent.ensures ∙ w.if-is_sent.true)
      | then-is_sent-via-else-is_sent+then-not-gives_up w ↦
          elim w.if-is_due.branch [
            | then-is_due w' ↦ due_open row second c.requires.sound c.requires.second (sym w.is_due.ensures ∙ w'.if-is_due.true) (sym w'.gives_up.ensures ∙ off w'.gives_up.result (sym w'.value-is ∙ w.if-not-gives_up.true))
            | else-is_due w' ↦ absurd (let e = sym w'.if-is_due.false ∙ sym w'.value-is ∙ w.if-not-gives_up.true in cc)
          ]
    ]

pub returns-clause-over : goal.returns-clause-over
returns-clause-over c =
    let row = c.args.self.now in
    let second = c.args.second in
    let going = going_row row second (sound_some row second c.requires.sound c.requires.second) (sym c.is_recalled.ensures ∙ c.if-is_recalled.false) in
    let quiet = sym c.is_sent.ensures ∙ c.if-is_sent.false in
    let due : (is_due second ≡ false) ⊎ (plans.gives_up (hold_of row.hold) ≡ true) = elim c.if-is_due.branch [
      | then-is_due w ↦ inr (sym w.gives_up.ensures ∙ on w.gives_up.result (sym w.value-is ∙ c.if-not-gives_up.false))
      | else-is_due w ↦ inl (sym c.is_due.ensures ∙ w.if-is_due.false)
    ] in
    over_same_end c.outcome_alone.result _ _ _ _ _ _
    (over_row row second c.requires.sound c.requires.second going quiet due) (end_row row second c.requires.sound c.requires.second going quiet due) (class_row row second c.requires.sound c.requires.second going quiet due)
    c.outcome_alone.ensures.over

pub returns-clause-ends : goal.returns-clause-ends
returns-clause-ends c =
    let row = c.args.self.now in
    let second = c.args.second in
    let going = going_row row second (sound_some row second c.requires.sound c.requires.second) (sym c.is_recalled.ensures ∙ c.if-is_recalled.false) in
    let quiet = sym c.is_sent.ensures ∙ c.if-is_sent.false in
    let due : (is_due second ≡ false) ⊎ (plans.gives_up (hold_of row.hold) ≡ true) = elim c.if-is_due.branch [
      | then-is_due w ↦ inr (sym w.gives_up.ensures ∙ on w.gives_up.result (sym w.value-is ∙ c.if-not-gives_up.false))
      | else-is_due w ↦ inl (sym c.is_due.ensures ∙ w.if-is_due.false)
    ] in
    if_some c.outcome_alone.result (ends_row row second c.requires.sound c.requires.second going quiet due) c.outcome_alone.ensures.ends
