use Rattle.std.proofs.Common.{◌≡◌, inr, false, [], ℕ, ◌<◌, length, sym, ap, subst, ◌∙◌, refl, arith, Some, None}
use Rattle.std.specs.Prelude.{option_map}
use Rattle.std.proofs.lemmas.Bool.{false_from_ne_true}
use Rattle.r6_stripe.specs.Holds.{Hold, Kind, Reading, Standing, cell_at, is_known}
use Rattle.r6_stripe.specs.Plans as plans
use Rattle.r6_stripe.specs.Plans.{Next}
use Rattle.r6_stripe.specs.Replacements.{IsReplacing, held_beside, is_left, with_replacement}
use Rattle.r6_stripe.specs.RowViews.{row_of_state}
use Rattle.r6_stripe.specs.Steps.{Held, IsNone, asked_again}
use Rattle.r6_stripe.specs.Views.{hold_of}
use Rattle.r6_stripe.specs.WholeViews.{IsSoundReplacing, whole_of_state}
use Rattle.r6_stripe.specs.declared.replacement.Replacement.{Replacement}
use Rattle.r6_stripe.proofs.Places.{length-cells_of}
use Rattle.r6_stripe.proofs.ReplacingAnswers.{only_read}
use Rattle.r6_stripe.proofs.ReplacingNext.{again_is, none_again, plain_computed}
use Rattle.r6_stripe.proofs.ReplacingSteps.{again_both, fixed_is, goes_out, unknown_apart}
use Rattle.r6_stripe.proofs.ReplacingWhole.{idle, left_is, row_is, seen_is, source, unclassed, unprepared, with_hold}
use Rattle.r6_stripe.proofs.whole.WholeState.read_again.Goals.{After-first_again}
use Rattle.r6_stripe.proofs.whole.WholeState.read_again.Goals as goal

module _ (c : After-first_again) where
  abbrev r : Replacement
  r = c.args.replacement

  abbrev held : Held
  held = row_of_state c.args.self.now.row

  from : IsSoundReplacing c.args.self.now.row (Some c.args.replacement)
  from = source c.args.self.now c.args.replacement c.requires.sound c.requires.replacement

  seen : whole_of_state c.args.self.now ≡ held_beside c.args.replacement (row_of_state c.args.self.now.row)
  seen = seen_is c.args.self.now c.args.replacement c.requires.sound c.requires.replacement

  plain_hold : held.planned.hold ≡ hold_of c.args.self.now.row.hold
  plain_hold = ap (λ (h : Held). h.planned.hold) (row_is c.args.self.now.row c.args.replacement from)

  computed : plans.has_computed (hold_of c.args.self.now.row.hold) ≡ false
  computed = sym (ap plans.has_computed plain_hold) ∙ plain_computed held r from.1

  module _ (i : ℕ) (some : c.first_again.result ≡ Some i) where
    again : plans.next_again (whole_of_state c.args.self.now).planned.hold ≡ Some (Next.ReadAgainAt i)
    again = sym c.first_again.ensures ∙ ap (option_map Next.ReadAgainAt) some

    still : is_left r.written ≡ false
    still = false_from_ne_true (is_left r.written) (λ left. let e = sym (none_again held r from.1 left) ∙ sym (ap (λ (h : Held). plans.next_again h.planned.hold) seen) ∙ again in cc)

    fixed : (i < length (hold_of c.args.self.now.row.hold).cells) × ((cell_at (hold_of c.args.self.now.row.hold).cells i).standing ≡ Standing.InSync) × ((cell_at (hold_of c.args.self.now.row.hold).cells i).reading ≡ Reading.Fixed)
    fixed = fixed_is (record (hold_of c.args.self.now.row.hold) { kind = Kind.Rebuild c.args.replacement.position }) i
        (sym (ap (λ (h : Hold). plans.next_again (record h { kind = Kind.Rebuild c.args.replacement.position })) plain_hold)
        ∙ sym (again_is held r from.1 c.requires.going still) ∙ sym (ap (λ (h : Held). plans.next_again h.planned.hold) seen) ∙ again)

    reading : (cell_at held.planned.hold.cells i).reading ≡ Reading.Fixed
    reading = ap (λ (h : Hold). (cell_at h.cells i).reading) plain_hold ∙ fixed.2

    inside : i < length held.planned.hold.cells
    inside = omega (arith, fixed.0, ap (λ (h : Hold). length h.cells) plain_hold)

pub ask_again-buffer-requires-clause-place : goal.ask_again-buffer-requires-clause-place
ask_again-buffer-requires-clause-place c =
    let a = (goal.at.ask_again-buffer-requires-clause-place c).After-first_again in
    let s = c.args.self.now.row.hold in
    omega (arith, (fixed a c.in-Some.position c.in-Some.is).0, length-cells_of s.places s.blocks.items)

pub ask_again-buffer-requires-clause-in_sync : goal.ask_again-buffer-requires-clause-in_sync
ask_again-buffer-requires-clause-in_sync c = (fixed (goal.at.ask_again-buffer-requires-clause-in_sync c).After-first_again c.in-Some.position c.in-Some.is).1

pub ask_again-buffer-requires-clause-fixed : goal.ask_again-buffer-requires-clause-fixed
ask_again-buffer-requires-clause-fixed c = (fixed (goal.at.ask_again-buffer-requires-clause-fixed c).After-first_again c.in-Some.position c.in-Some.is).2

pub ask_again-buffer-requires-clause-before_writes : goal.ask_again-buffer-requires-clause-before_writes
ask_again-buffer-requires-clause-before_writes c = computed (goal.at.ask_again-buffer-requires-clause-before_writes c).After-first_again

pub returns-in-None-clause-puts_out : goal.returns-in-None-clause-puts_out
returns-in-None-clause-puts_out c =
    let none : plans.next (whole_of_state c.args.self.now).planned ≡ None = c.requires.next ∙ sym c.first_again.ensures ∙ ap (option_map Next.ReadAgainAt) c.in-None.is in
    (([], tt, tt, refl), subst IsNone (sym none) tt, refl, refl, refl)

pub returns-in-Some-clause-puts_out : goal.returns-in-Some-clause-puts_out
returns-in-Some-clause-puts_out c =
    let a = (goal.at.returns-in-Some-clause-puts_out c).After-first_again in
    let i = c.in-Some.position in (
      inr (
        c.requires.next ∙ again a i c.in-Some.is,
        (λ k. with_replacement (c.requires.replacement k) (left_is c.args.self.now.row c.args.replacement (from a) c.ask_again-buffer.new.self (λ h. asked_again h i) (λ h away. refl) c.ask_again-buffer.ensures.held k))
            ∙ again_both (held a) (r a) (from a).1 i (unknown_apart (held a) (r a) (from a).1 i (ap is_known (reading a i c.in-Some.is)))
            ∙ ap (λ (h : Held). asked_again h i) (sym (seen a)),
      ),
      c.ask_again-buffer.ensures.size ∙ sym (ap (λ (h : Held). h.planned.hold.size) (seen a) ∙ ap (λ (h : Hold). h.size) (plain_hold a)),
    )

pub returns-in-Some-clause-sound : goal.returns-in-Some-clause-sound
returns-in-Some-clause-sound c =
    let a = (goal.at.returns-in-Some-clause-sound c).After-first_again in
    let i = c.in-Some.position in
    let row = c.args.self.now.row in
    let held_is = c.ask_again-buffer.ensures.held in
    record {
      row = with_hold row c.args.replacement c.requires.sound.row (from a) c.ask_again-buffer.new.self row.spare row.spare_away c.ask_again-buffer.ensures.sound
          (ap (λ (h : Held). h.planned.hold.kind) held_is ∙ idle row c.args.replacement c.requires.sound.row (from a))
          (ap (λ (h : Held). h.class) held_is ∙ unclassed row c.args.replacement c.requires.sound.row (from a))
          (c.ask_again-buffer.ensures.prepared ∙ unprepared row c.args.replacement c.requires.sound.row (from a))
          (λ home. c.requires.sound.row.spare home ∙ sym (ap (λ (h : Held). h.planned.hold.size) held_is));
      replacement = subst (IsSoundReplacing (record { hold = c.ask_again-buffer.new.self; second = row.second; spare = row.spare; spare_away = row.spare_away })) (sym c.requires.replacement) (
        (from a).0,
        subst (λ (h : Held). IsReplacing h c.args.replacement) (sym (left_is row c.args.replacement (from a) c.ask_again-buffer.new.self (λ h. asked_again h i) (λ h away. refl) held_is))
            (goes_out (held a) (r a) (from a).1 i Reading.AskedAgain (inside a i c.in-Some.is) (still a i c.in-Some.is) (ap is_known (reading a i c.in-Some.is)) (λ f. cc) refl (λ f. cc) (λ f. f)
            (λ one. only_read (held a) (r a) (from a).1 one i (λ u. let f = sym (reading a i c.in-Some.is) ∙ u in cc))),
      );
    }
