use Rattle.std.proofs.Common.{◌≡◌, ◌≢◌, Bool, true, false, ℕ, refl, sym, ◌∙◌, ap, subst, None, Some}
use Rattle.std.specs.Prelude.{Option, ◌&&◌, ◌||◌, is_some, not, option_map}
use Rattle.r6_stripe.specs.Checks.{IsEnd}
use Rattle.r6_stripe.specs.Holds.{MayEnd, Outcome, Standing, cell_at}
use Rattle.r6_stripe.specs.Plans as plans
use Rattle.r6_stripe.specs.Plans.{Next, Planned, is_none, is_over}
use Rattle.r6_stripe.specs.RowViews.{IsRowSound, row_of_state}
use Rattle.r6_stripe.specs.Seconds.{IsSecondSound, with_second}
use Rattle.r6_stripe.specs.Steps.{Held, has_outcome, is_idle}
use Rattle.r6_stripe.specs.Views.{held_of, hold_of, kind_of}
use Rattle.r6_stripe.specs.declared.command.Outcome.TheVariants as end
use Rattle.r6_stripe.specs.declared.command.RowTask.{RowTask}
use Rattle.r6_stripe.specs.declared.command.RowTask.TheVariants as task
use Rattle.r6_stripe.specs.declared.place.Standing.TheVariants as state
use Rattle.r6_stripe.specs.declared.row.RowState.{RowState}
use Rattle.r6_stripe.specs.declared.second.Second.{Second}
use Rattle.r6_stripe.proofs.Alone.{AreAlone, cells_alone}
use Rattle.r6_stripe.proofs.BesideEnds.{ends_recalled, is_busy, outcome_recalled, over_recalled, unended, untargeted_up}
use Rattle.r6_stripe.proofs.BesideLosses.{sound_some}
use Rattle.r6_stripe.proofs.BesideOption.{kind_option}
use Rattle.r6_stripe.proofs.BesideRecalled.{recalled_busy}
use Rattle.r6_stripe.proofs.BesideRow.{place_of, recalled_first, recalled_row, seen_is}
use Rattle.r6_stripe.proofs.Nexts.{over_busy}
use Rattle.r6_stripe.proofs.row.RowState.outcome_recalled.Goals.{then-is_none-via-then-is_none, then-is_none-via-else-is_none+then-not-gives_up, then-is_none-via-else-is_none+else-not-gives_up+then-has_out}
use Rattle.r6_stripe.proofs.row.RowState.outcome_recalled.Goals as goal

idle : (t : Option RowTask) → is_some t ≡ false → is_idle (kind_of t) ≡ true
idle None none = refl
idle (Some t) none = absurd cc

busy : (t : Option RowTask) → is_some t ≡ true → (is_idle (kind_of t) ≡ false) × (plans.is_idle (kind_of t) ≡ false)
busy None some = absurd cc
busy (Some (task.Read index)) some = (refl, refl)
busy (Some (task.Write batch)) some = (refl, refl)
busy (Some (task.Rebuild target)) some = (refl, refl)
busy (Some task.Check) some = (refl, refl)
busy (Some task.Repair) some = (refl, refl)

from_not : (a b : Bool) → a ≡ not b → b ≡ true → a ≡ false
from_not a true e f = e
from_not a false e f = absurd cc

from_not_false : (a b : Bool) → a ≡ not b → b ≡ false → a ≡ true
from_not_false a true e f = absurd cc
from_not_false a false e f = e

module _ (row : RowState) (second : Second) (row_sound : IsRowSound row) (is : row.second ≡ Some second) (recalled : second.recalled ≡ true) (live : (place_of row second row_sound is).state ≢ state.Out) where
  sound : IsSecondSound (held_of row.hold) row.spare_away second
  sound = sound_some row second row_sound is

  alone : AreAlone (hold_of row.hold).cells
  alone = cells_alone row.hold.places row.hold.blocks.items

  abbrev seen : Held
  seen = with_second (Some second) row.spare row.spare_away (held_of row.hold)

  -- it has no task, or isn't over
  idle_open : is_some row.hold.task ≡ false → has_outcome (row_of_state row).planned ≡ false
  idle_open none = ap (λ (b : Bool). not b && is_over (row_of_state row).planned) (ap is_idle (kind_option row.second row.spare row.spare_away (held_of row.hold)) ∙ idle row.hold.task none)

  open_if : is_over seen.planned ≡ false → has_outcome (row_of_state row).planned ≡ false
  open_if e = ap (λ (h : Held). has_outcome h.planned) (sym (seen_is row second is)) ∙ unended seen.planned e

  goes_open : plans.gives_up (hold_of row.hold) ≡ false → has_outcome (row_of_state row).planned ≡ false
  goes_open up = open_if (recalled_busy second row.spare row.spare_away (held_of row.hold) alone sound (recalled_row row second row_sound is recalled live) (recalled_first row second row_sound is recalled live) up)

  busy_open : is_busy (row_of_state row).planned.hold ≡ true → has_outcome (row_of_state row).planned ≡ false
  busy_open out = unended (row_of_state row).planned (over_busy (row_of_state row).planned (neither (plans.has_read_out (row_of_state row).planned.hold) (plans.has_write_out (row_of_state row).planned.hold) out))
    where
      neither : (a b : Bool) → (a || b) ≡ true → (not a && not b) ≡ false
      neither true b e = refl
      neither false true e = refl
      neither false false e = absurd cc

  quiet_seen : is_busy (row_of_state row).planned.hold ≡ false → is_busy seen.planned.hold ≡ false
  quiet_seen quiet = ap (λ (h : Held). is_busy h.planned.hold) (seen_is row second is) ∙ quiet

  again_open : plans.gives_up (hold_of row.hold) ≡ true → is_busy (row_of_state row).planned.hold ≡ false → is_none (plans.next_again (hold_of row.hold)) ≡ false → has_outcome (row_of_state row).planned ≡ false
  again_open up quiet again = open_if (over_recalled second row.spare (held_of row.hold) row.spare_away alone sound recalled up (quiet_seen quiet) ∙ again)

  module _ (up : plans.gives_up (hold_of row.hold) ≡ true) (quiet : is_busy (row_of_state row).planned.hold ≡ false) (some : is_some row.hold.task ≡ true) (last : plans.next_again (hold_of row.hold) ≡ None) where
    over : has_outcome (row_of_state row).planned ≡ true
    over =
        ap (λ (h : Held). has_outcome h.planned) (sym (seen_is row second is))
        ∙ (λ k. not ((busy row.hold.task some).0 k) && (over_recalled second row.spare (held_of row.hold) row.spare_away alone sound recalled up (quiet_seen quiet) ∙ ap is_none last) k)

    untargeted : (j : ℕ) → (cell_at (hold_of row.hold).cells j).standing ≢ Standing.Target
    untargeted = untargeted_up row.hold row_sound.sound (busy row.hold.task some).1 up

    first : plans.has_computed (hold_of row.hold) ≡ false
    first = recalled_first row second row_sound is recalled live

    given_up : IsEnd (plans.outcome_of (row_of_state row).planned.hold (row_of_state row).planned.hold.kind) (row_of_state row).class end.GivenUp
    given_up =
        subst (λ (h : Held). IsEnd (plans.outcome_of h.planned.hold h.planned.hold.kind) h.class end.GivenUp) (seen_is row second is)
        (subst (λ (o : Outcome). IsEnd o seen.class end.GivenUp)
        (sym (outcome_recalled second row.spare (held_of row.hold) row.spare_away alone sound recalled (busy row.hold.task some).1 up first (quiet_seen quiet) last untargeted)) refl)

    ends : MayEnd (row_of_state row).planned.hold (plans.outcome_of (row_of_state row).planned.hold (row_of_state row).planned.hold.kind)
    ends =
        subst (λ (h : Held). MayEnd h.planned.hold (plans.outcome_of h.planned.hold h.planned.hold.kind)) (seen_is row second is)
        (ends_recalled second row.spare (held_of row.hold) row.spare_away alone sound recalled (busy row.hold.task some).1 up first (quiet_seen quiet) last untargeted)

pub returns-then-is_none-clause-over : goal.returns-then-is_none-clause-over
returns-then-is_none-clause-over c =
    let row = c.args.self.now in
    let second = c.args.second in
    elim c.then-is_none.branch [
      | then-is_none-via-then-is_none w ↦ idle_open row second c.requires.sound c.requires.second c.requires.recalled c.requires.in_sync (from_not _ c.is_none.result c.is_none.ensures w.if-is_none.true)
      | then-is_none-via-else-is_none+then-not-gives_up w ↦ goes_open row second c.requires.sound c.requires.second c.requires.recalled c.requires.in_sync (sym w.gives_up.ensures ∙ w.if-not-gives_up.true)
      | then-is_none-via-else-is_none+else-not-gives_up+then-has_out w ↦ busy_open row second c.requires.sound c.requires.second c.requires.recalled c.requires.in_sync (sym w.has_out.ensures ∙ w.if-has_out.true)
    ]

pub returns-in-Some-clause-over : goal.returns-in-Some-clause-over
returns-in-Some-clause-over c =
    again_open c.args.self.now c.args.second c.requires.sound c.requires.second c.requires.recalled c.requires.in_sync (sym c.gives_up.ensures ∙ c.if-not-gives_up.false) (sym c.has_out.ensures ∙ c.if-has_out.false)
    (ap is_none (sym c.next_again.ensures ∙ ap (option_map Next.ReadAgainAt) c.in-Some.is))

pub returns-in-None-clause-over : goal.returns-in-None-clause-over
returns-in-None-clause-over c =
    let row = c.args.self.now in
    let second = c.args.second in
    let up = sym c.gives_up.ensures ∙ c.if-not-gives_up.false in
    let quiet = sym c.has_out.ensures ∙ c.if-has_out.false in
    let some = from_not_false _ c.is_none.result c.is_none.ensures c.if-is_none.false in
    let last = sym c.next_again.ensures ∙ ap (option_map Next.ReadAgainAt) c.in-None.is in (
      over row second c.requires.sound c.requires.second c.requires.recalled c.requires.in_sync up quiet some last,
      given_up row second c.requires.sound c.requires.second c.requires.recalled c.requires.in_sync up quiet some last,
    )

pub returns-in-None-clause-ends : goal.returns-in-None-clause-ends
returns-in-None-clause-ends c =
    ends c.args.self.now c.args.second c.requires.sound c.requires.second c.requires.recalled c.requires.in_sync (sym c.gives_up.ensures ∙ c.if-not-gives_up.false) (sym c.has_out.ensures ∙ c.if-has_out.false)
    (from_not_false _ c.is_none.result c.is_none.ensures c.if-is_none.false) (sym c.next_again.ensures ∙ ap (option_map Next.ReadAgainAt) c.in-None.is)
