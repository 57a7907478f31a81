use Rattle.std.proofs.Common.{◌≡◌, ◌≢◌, Bool, true, false, ℕ, ◌<◌, ◌≤◌, [], length, get_or, refl, sym, ◌∙◌, ap, subst, arith, Some, None}
use Rattle.std.specs.Prelude.{Option, if◌then◌else◌, option_map}
use Rattle.r6_stripe.specs.Checks.{IsClassed}
use Rattle.r6_stripe.specs.Holds.{cell_at}
use Rattle.r6_stripe.specs.Places.{no_place}
use Rattle.r6_stripe.specs.Plans as plans
use Rattle.r6_stripe.specs.Plans.{Next}
use Rattle.r6_stripe.specs.RowViews.{IsRowSound, row_of_state}
use Rattle.r6_stripe.specs.Seconds.{IsSecondSound, IsSoundBeside, with_second}
use Rattle.r6_stripe.specs.Steps.{Held, IsNone, PutsOut, PutsReadOut, asked, asked_again, is_loss}
use Rattle.r6_stripe.specs.Views.{held_of, hold_of, plan_of}
use Rattle.r6_stripe.specs.declared.command.RowCommand.{RowCommand}
use Rattle.r6_stripe.specs.declared.place.Standing.TheVariants as state
use Rattle.r6_stripe.specs.declared.row.RowState.{RowState}
use Rattle.r6_stripe.specs.declared.second.Second.{Second}
use Rattle.r6_stripe.specs.declared.state.HoldState.{HoldState}
use Rattle.r6_stripe.proofs.Alone.{cells_alone}
use Rattle.r6_stripe.proofs.BesideLosses.{sound_some}
use Rattle.r6_stripe.proofs.BesideRow.{recalled_asked, recalled_first, recalled_home, recalled_in_sync, recalled_classed, recalled_row, recalled_unprepared, seen_is}
use Rattle.r6_stripe.proofs.BesideRecalled.{apart_again, loss_next, none_again, puts_again, puts_anew, puts_lower}
use Rattle.r6_stripe.proofs.BesideOption.{size_option}
use Rattle.r6_stripe.proofs.Checks.{classed_asked, classed_asked_again}
use Rattle.r6_stripe.proofs.Mends.{again_found, is_loss_same, loss_none}
use Rattle.r6_stripe.proofs.Nexts.{IsRead, in_sync_is, read_found, unread_is}
use Rattle.r6_stripe.proofs.Places.{length-cells_of}
use Rattle.r6_stripe.proofs.Steps.{again_parts}
use Rattle.r6_stripe.proofs.row.RowState.next_recalled.Goals as goal

pub gives_up-requires : goal.gives_up-requires
gives_up-requires c = c.requires.sound.sound.fits

pub ask_again-buffer-requires : goal.ask_again-buffer-requires
ask_again-buffer-requires c =
    let s = c.args.self.now.hold in
    let i = c.in_ok-position.position in
    let found = again_found (hold_of s) i (sym c.next_again.ensures ∙ ap (option_map plans.Next.ReadAgainAt) c.in_ok-position.was) in
    let parts = again_parts (hold_of s) i found.2 in
    record {
      sound = c.requires.sound.sound;
      place = omega (arith, found.1, length-cells_of s.places s.blocks.items);
      in_sync = parts.0;
      fixed = parts.1;
      before_writes = found.0;
    }

pub has_too_few-requires : goal.has_too_few-requires
has_too_few-requires c = record { sound = c.requires.sound.sound }

pub returns-then-has_too_few-clause-puts_out : goal.returns-then-has_too_few-clause-puts_out
returns-then-has_too_few-clause-puts_out c =
    let row = c.args.self.now in
    let second = c.args.second in
    let sound = sound_some row second c.requires.sound c.requires.second in
    let is = recalled_row row second c.requires.sound c.requires.second c.requires.recalled c.requires.in_sync in
    let up = sym c.gives_up.ensures ∙ c.if-gives_up.false in
    let lost = sym c.has_too_few.ensures ∙ c.if-has_too_few.true in (
      ([], tt, tt, refl),
      subst (λ (o : Option Second). IsNone (plans.next (with_second o row.spare row.spare_away (held_of row.hold)).planned)) (sym c.requires.second)
          (loss_next second row.spare row.spare_away (held_of row.hold) (cells_alone row.hold.places row.hold.blocks.items) sound is up lost),
      refl,
      refl,
      refl,
    )

pub returns-in_err-position-clause-puts_out : goal.returns-in_err-position-clause-puts_out
returns-in_err-position-clause-puts_out c =
    let row = c.args.self.now in
    let second = c.args.second in
    let sound = sound_some row second c.requires.sound c.requires.second in
    let is = recalled_row row second c.requires.sound c.requires.second c.requires.recalled c.requires.in_sync in
    let up = sym c.gives_up.ensures ∙ c.if-gives_up.true in
    let none = sym c.next_again.ensures ∙ ap (option_map plans.Next.ReadAgainAt) c.in_err-position.was in
    subst (λ (r : Option RowCommand). PutsOut (row_of_state row) r (row_of_state row)) (sym c.from_residual.ensures) (
      ([], tt, tt, refl),
      subst (λ (o : Option Second). IsNone (plans.next (with_second o row.spare row.spare_away (held_of row.hold)).planned)) (sym c.requires.second)
          (none_again second row.spare row.spare_away (held_of row.hold) (cells_alone row.hold.places row.hold.blocks.items) sound is up none),
      refl,
      refl,
      refl,
    )

-- what the second read leaves
again_both : (row : RowState) (second : Second) (i : ℕ) (n : HoldState) → (row_sound : IsRowSound row) → (second_is : row.second ≡ Some second) → second.recalled ≡ true → (get_or row.hold.places second.position no_place).state ≢ state.Out → plans.gives_up (hold_of row.hold) ≡ true →
    plans.next_again (hold_of row.hold) ≡ Some (plans.Next.ReadAgainAt i) → held_of n ≡ asked_again (held_of row.hold) i →
    PutsReadOut (row_of_state row) i (with_second row.second row.spare row.spare_away (held_of n)) × IsSoundBeside (held_of n) row.spare_away row.second
again_both row second i n row_sound second_is recalled live up next asks =
    let sound = sound_some row second row_sound second_is in
    let is = recalled_row row second row_sound second_is recalled live in
    let alone = cells_alone row.hold.places row.hold.blocks.items in
    let fixed = (again_parts (hold_of row.hold) i (again_found (hold_of row.hold) i next).2).1 in
    let both = puts_again second row.spare row.spare_away (held_of row.hold) alone sound is i (held_of n) up next (apart_again second row.spare row.spare_away (held_of row.hold) alone sound is i fixed) asks in
    subst (λ (o : Option Second). PutsReadOut (with_second o row.spare row.spare_away (held_of row.hold)) i (with_second o row.spare row.spare_away (held_of n)) × IsSoundBeside (held_of n) row.spare_away o) (sym second_is) both

pub returns-then-gives_up-clause-puts_out : goal.returns-then-gives_up-clause-puts_out
returns-then-gives_up-clause-puts_out c =
    let row = c.args.self.now in (
      (again_both row c.args.second c.in_ok-position.position c.ask_again-buffer.new.self c.requires.sound c.requires.second c.requires.recalled c.requires.in_sync (sym c.gives_up.ensures ∙ c.if-gives_up.true)
          (sym c.next_again.ensures ∙ ap (option_map plans.Next.ReadAgainAt) c.in_ok-position.was) c.ask_again-buffer.ensures.held).0,
      c.ask_again-buffer.ensures.size ∙ sym (size_option row.second row.spare row.spare_away (held_of row.hold)),
    )

pub returns-then-gives_up-clause-sound : goal.returns-then-gives_up-clause-sound
returns-then-gives_up-clause-sound c =
    let row = c.args.self.now in
    let s = row.hold in
    let i = c.in_ok-position.position in
    let next = sym c.next_again.ensures ∙ ap (option_map plans.Next.ReadAgainAt) c.in_ok-position.was in
    let found = again_found (hold_of s) i next in
    record {
      sound = c.ask_again-buffer.ensures.sound;
      classed = subst (λ (h : Held). IsClassed h.planned.hold h.class) (sym c.ask_again-buffer.ensures.held) (classed_asked_again (hold_of s) s.class i found.1 (again_parts (hold_of s) i found.2).1 c.requires.sound.classed);
      prepared = λ e. absurd (recalled_unprepared row c.args.second c.requires.sound c.requires.second c.requires.recalled c.requires.in_sync (sym c.ask_again-buffer.ensures.prepared ∙ e));
      spare = λ e. c.requires.sound.spare e ∙ sym (ap (λ (h : Held). h.planned.hold.size) c.ask_again-buffer.ensures.held);
      second = (again_both row c.args.second i c.ask_again-buffer.new.self c.requires.sound c.requires.second c.requires.recalled c.requires.in_sync (sym c.gives_up.ensures ∙ c.if-gives_up.true) next c.ask_again-buffer.ensures.held).1;
    }

pub next_read_below-requires-clause-none : goal.next_read_below-requires-clause-none
next_read_below-requires-clause-none c = recalled_first c.args.self.now c.args.second c.requires.sound c.requires.second c.requires.recalled c.requires.in_sync

-- the read that comes next
read_is : (row : RowState) (second : Second) (i : ℕ) → IsRowSound row → row.second ≡ Some second → second.recalled ≡ true → (get_or row.hold.places second.position no_place).state ≢ state.Out →
    plans.first_from (plans.is_next_read (plan_of row.hold.plan) (hold_of row.hold)) 0 (length (hold_of row.hold).cells) ≡ Some i → IsRead (plan_of row.hold.plan) (hold_of row.hold) i
read_is row second i sound is recalled live first =
    read_found (plan_of row.hold.plan) (hold_of row.hold) i (cells_alone row.hold.places row.hold.blocks.items)
    (sym (λ k. if recalled_first row second sound is recalled live k then None else option_map plans.Next.ReadAt (first k)))

pub ask-buffer-requires-clause-in_sync : goal.ask-buffer-requires-clause-in_sync
ask-buffer-requires-clause-in_sync c = in_sync_is _ (read_is c.args.self.now c.args.second c.in-Some.position c.requires.sound c.requires.second c.requires.recalled c.requires.in_sync c.in-Some.ensures.0).in_sync

pub ask-buffer-requires-clause-unread : goal.ask-buffer-requires-clause-unread
ask-buffer-requires-clause-unread c = unread_is _ (read_is c.args.self.now c.args.second c.in-Some.position c.requires.sound c.requires.second c.requires.recalled c.requires.in_sync c.in-Some.ensures.0).unread

pub ask-buffer-requires-clause-before_writes : goal.ask-buffer-requires-clause-before_writes
ask-buffer-requires-clause-before_writes c = recalled_first c.args.self.now c.args.second c.requires.sound c.requires.second c.requires.recalled c.requires.in_sync

pub ask-buffer-requires-clause-wanted : goal.ask-buffer-requires-clause-wanted
ask-buffer-requires-clause-wanted c = (read_is c.args.self.now c.args.second c.in-Some.position c.requires.sound c.requires.second c.requires.recalled c.requires.in_sync c.in-Some.ensures.0).wanted

pub ask-buffer-requires-clause-lacks : goal.ask-buffer-requires-clause-lacks
ask-buffer-requires-clause-lacks c = (read_is c.args.self.now c.args.second c.in-Some.position c.requires.sound c.requires.second c.requires.recalled c.requires.in_sync c.in-Some.ensures.0).lacks

no_loss : (row : RowState) (b : Bool) → b ≡ is_loss (plans.next_loss (hold_of row.hold)) → b ≡ false → plans.next_loss (hold_of row.hold) ≡ None
no_loss row b is off = loss_none (plans.next_loss (hold_of row.hold)) (sym (is_loss_same (hold_of row.hold) (cells_alone row.hold.places row.hold.blocks.items)) ∙ sym is ∙ off)

-- what a read of a lower position leaves
lower_both : (row : RowState) (second : Second) (i : ℕ) (n : HoldState) → (row_sound : IsRowSound row) → (second_is : row.second ≡ Some second) → second.recalled ≡ true → (get_or row.hold.places second.position no_place).state ≢ state.Out → plans.gives_up (hold_of row.hold) ≡ false →
    plans.next_loss (hold_of row.hold) ≡ None → plans.first_from (plans.is_next_read (plan_of row.hold.plan) (hold_of row.hold)) 0 (length (hold_of row.hold).cells) ≡ Some i → i < second.position → held_of n ≡ asked (held_of row.hold) i →
    PutsReadOut (row_of_state row) i (with_second row.second row.spare row.spare_away (held_of n)) × IsSoundBeside (held_of n) row.spare_away row.second
lower_both row second i n row_sound second_is recalled live up stays first below asks =
    let both = puts_lower second row.spare row.spare_away (held_of row.hold) (cells_alone row.hold.places row.hold.blocks.items) (sound_some row second row_sound second_is) (recalled_row row second row_sound second_is recalled live)
    (recalled_first row second row_sound second_is recalled live) up stays i (held_of n) first below asks in
    subst (λ (o : Option Second). PutsReadOut (with_second o row.spare row.spare_away (held_of row.hold)) i (with_second o row.spare row.spare_away (held_of n)) × IsSoundBeside (held_of n) row.spare_away o) (sym second_is) both

pub returns-in-Some-clause-puts_out : goal.returns-in-Some-clause-puts_out
returns-in-Some-clause-puts_out c =
    let row = c.args.self.now in (
      (lower_both row c.args.second c.in-Some.position c.ask-buffer.new.self c.requires.sound c.requires.second c.requires.recalled c.requires.in_sync (sym c.gives_up.ensures ∙ c.if-gives_up.false)
          (no_loss row c.has_too_few.result c.has_too_few.ensures c.if-has_too_few.false) c.in-Some.ensures.0 c.in-Some.ensures.1 c.ask-buffer.ensures.held).0,
      c.ask-buffer.ensures.size ∙ sym (size_option row.second row.spare row.spare_away (held_of row.hold)),
    )

pub returns-in-Some-clause-sound : goal.returns-in-Some-clause-sound
returns-in-Some-clause-sound c =
    let row = c.args.self.now in
    let s = row.hold in
    let i = c.in-Some.position in
    let is = read_is row c.args.second i c.requires.sound c.requires.second c.requires.recalled c.requires.in_sync c.in-Some.ensures.0 in
    record {
      sound = c.ask-buffer.ensures.sound;
      classed = subst (λ (h : Held). IsClassed h.planned.hold h.class) (sym c.ask-buffer.ensures.held) (classed_asked (hold_of s) s.class i is.place (unread_is (cell_at (hold_of s).cells i).reading is.unread) c.requires.sound.classed);
      prepared = λ e. absurd (recalled_unprepared row c.args.second c.requires.sound c.requires.second c.requires.recalled c.requires.in_sync (sym c.ask-buffer.ensures.prepared ∙ e));
      spare = λ e. c.requires.sound.spare e ∙ sym (ap (λ (h : Held). h.planned.hold.size) c.ask-buffer.ensures.held);
      second = (lower_both row c.args.second i c.ask-buffer.new.self c.requires.sound c.requires.second c.requires.recalled c.requires.in_sync (sym c.gives_up.ensures ∙ c.if-gives_up.false)
          (no_loss row c.has_too_few.result c.has_too_few.ensures c.if-has_too_few.false) c.in-Some.ensures.0 c.in-Some.ensures.1 c.ask-buffer.ensures.held).1;
    }

pub ask_anew-buffer-requires-clause-in_sync : goal.ask_anew-buffer-requires-clause-in_sync
ask_anew-buffer-requires-clause-in_sync c = recalled_in_sync c.args.self.now c.args.second c.requires.sound c.requires.second c.requires.recalled c.requires.in_sync

pub ask_anew-buffer-requires-clause-asked : goal.ask_anew-buffer-requires-clause-asked
ask_anew-buffer-requires-clause-asked c = recalled_asked c.args.self.now c.args.second c.requires.sound c.requires.second c.requires.recalled c.requires.in_sync

pub ask_anew-buffer-requires-clause-home : goal.ask_anew-buffer-requires-clause-home
ask_anew-buffer-requires-clause-home c = recalled_home c.args.self.now c.args.second c.requires.sound c.requires.second c.requires.recalled c.requires.in_sync

-- what the read itself leaves
anew_both : (row : RowState) (second : Second) (n : HoldState) → (row_sound : IsRowSound row) → (second_is : row.second ≡ Some second) → second.recalled ≡ true → (get_or row.hold.places second.position no_place).state ≢ state.Out → plans.gives_up (hold_of row.hold) ≡ false →
    plans.next_loss (hold_of row.hold) ≡ None → ((i : ℕ) → plans.first_from (plans.is_next_read (plan_of row.hold.plan) (hold_of row.hold)) 0 (length (hold_of row.hold).cells) ≡ Some i → second.position ≤ i) → held_of n ≡ asked (held_of row.hold) second.position →
    PutsReadOut (row_of_state row) second.position (with_second (Some (record second { recalled = false })) row.spare row.spare_away (held_of n)) × IsSecondSound (held_of n) row.spare_away (record second { recalled = false })
anew_both row second n row_sound second_is recalled live up stays past asks =
    let first = plans.first_from (plans.is_next_read (plan_of row.hold.plan) (hold_of row.hold)) 0 (length (hold_of row.hold).cells) in
    let both = puts_anew second row.spare row.spare_away (held_of row.hold) (cells_alone row.hold.places row.hold.blocks.items) (sound_some row second row_sound second_is) (recalled_row row second row_sound second_is recalled live)
    (recalled_first row second row_sound second_is recalled live) up stays first (held_of n) refl past asks in (
      subst (λ (h : Held). PutsReadOut h second.position (with_second (Some (record second { recalled = false })) row.spare row.spare_away (held_of n))) (seen_is row second second_is) both.0,
      both.1,
    )

pub returns-clause-puts_out : goal.returns-clause-puts_out
returns-clause-puts_out c =
    let row = c.args.self.now in (
      (anew_both row c.args.second c.ask_anew-buffer.new.self c.requires.sound c.requires.second c.requires.recalled c.requires.in_sync (sym c.gives_up.ensures ∙ c.if-gives_up.false)
          (no_loss row c.has_too_few.result c.has_too_few.ensures c.if-has_too_few.false) c.in_default.ensures c.ask_anew-buffer.ensures.held).0,
      c.ask_anew-buffer.ensures.size ∙ sym (size_option row.second row.spare row.spare_away (held_of row.hold)),
    )

pub returns-clause-sound : goal.returns-clause-sound
returns-clause-sound c =
    let row = c.args.self.now in
    record {
      sound = c.ask_anew-buffer.ensures.sound;
      classed = recalled_classed row c.args.second c.requires.sound c.requires.second c.requires.recalled c.requires.in_sync c.ask_anew-buffer.new.self c.ask_anew-buffer.ensures.held;
      prepared = λ e. absurd (recalled_unprepared row c.args.second c.requires.sound c.requires.second c.requires.recalled c.requires.in_sync (sym c.ask_anew-buffer.ensures.prepared ∙ e));
      spare = λ e. c.requires.sound.spare e ∙ sym (ap (λ (h : Held). h.planned.hold.size) c.ask_anew-buffer.ensures.held);
      second = (anew_both row c.args.second c.ask_anew-buffer.new.self c.requires.sound c.requires.second c.requires.recalled c.requires.in_sync (sym c.gives_up.ensures ∙ c.if-gives_up.false)
          (no_loss row c.has_too_few.result c.has_too_few.ensures c.if-has_too_few.false) c.in_default.ensures c.ask_anew-buffer.ensures.held).1;
    }
