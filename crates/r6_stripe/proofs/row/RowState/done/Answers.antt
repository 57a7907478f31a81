use Rattle.std.proofs.Common.{◌≡◌, ◌<◌, Bool, true, false, List, length, get_or, refl, sym, ◌∙◌, ap, subst, arith, Some}
use Rattle.std.specs.Prelude.{Option}
use Rattle.r6_recover.specs.declared.class.RowClass.{RowClass}
use Rattle.r6_stripe.specs.Checks.{IsClassed, IsClassAfter}
use Rattle.r6_stripe.specs.Holds.{Hold}
use Rattle.r6_stripe.specs.Plans.{is_out}
use Rattle.r6_stripe.specs.Preparing.{IsPrepared}
use Rattle.r6_stripe.specs.Seconds.{IsSoundBeside, with_second}
use Rattle.r6_stripe.specs.Steps.{Held, answered, is_away}
use Rattle.r6_stripe.specs.Views.{hold_of, held_of}
use Rattle.r6_stripe.specs.declared.row.RowState.{RowState}
use Rattle.r6_stripe.specs.declared.state.HoldState.{HoldState}
use Rattle.r6_stripe.specs.RowViews.{IsRowSound, row_of_state}
use Rattle.r6_stripe.proofs.Alone.{cells_alone}
use Rattle.r6_stripe.proofs.BesideOption.{answered_option, answered_size, away_option, class_after, class_option, sound_answered, sound_class, standing_option, with_class}
use Rattle.r6_stripe.proofs.Checks.{classed_answered, late_same}
use Rattle.r6_stripe.proofs.Places.{length-cells_of}
use Rattle.r6_stripe.proofs.States.{away_at, away_within}
use Rattle.r6_stripe.proofs.WritesLeft.{prepared_answered}
use Rattle.r6_stripe.proofs.row.RowState.done.Goals as goal

-- the buffer of the position is away, also without the second device
here : (row : RowState) (i : Rattle.std.proofs.Common.ℕ) → is_away (row_of_state row) i ≡ true → is_away (held_of row.hold) i ≡ true
here row i away = sym (ap (λ (a : List Bool). get_or a i false) (away_option row.second row.spare row.spare_away (held_of row.hold))) ∙ away

pub answer-requires : goal.answer-requires
answer-requires c =
    let s = c.args.self.now.hold in
    let at = here c.args.self.now c.args.position c.requires.away in
    let inside : c.args.position < length s.places = away_within s.places c.args.position at in
    record {
      sound = c.requires.sound.sound;
      place = inside;
      away = sym (away_at s.places c.args.position inside) ∙ at;
      size = c.requires.size;
    }

pub classify-requires : goal.classify-requires
classify-requires c =
    let s = c.args.self.now.hold in
    let i = c.args.position in
    let held = c.answer.ensures.held in
    let at = here c.args.self.now i c.requires.away in
    let inside : i < length s.places = away_within s.places i at in
    record {
      sound = c.answer.ensures.sound;
      classed = λ class e.
          let was : s.class ≡ Some class = sym (ap (λ (h : Held). h.class) held) ∙ e in
          subst (λ (h : Hold). IsClassed h (Some class)) (sym (ap (λ (h : Held). h.planned.hold) held))
          (classed_answered s i c.args.buffer class c.requires.sound.sound inside (sym (away_at s.places i inside) ∙ at) (subst (λ (o : Option RowClass). IsClassed (hold_of s) o) was c.requires.sound.classed));
    }

pub returns-clause-answered : goal.returns-clause-answered
returns-clause-answered c =
    let row = c.args.self.now in
    let class = c.classify.new.self.class in
    let held = c.classify.ensures.held ∙ ap (λ (h : Held). record h { class = class }) c.answer.ensures.held in
    ap (with_second row.second row.spare row.spare_away) held
    ∙ with_class row.second row.spare row.spare_away (answered (held_of row.hold) c.args.position c.args.buffer) class
    ∙ ap (λ (h : Held). record h { class = class }) (answered_option row.second row.spare row.spare_away (held_of row.hold) (cells_alone row.hold.places row.hold.blocks.items) c.requires.sound.second c.args.position c.args.buffer)
    ∙ ap (λ (o : Option RowClass). record (answered (row_of_state row) c.args.position c.args.buffer) { class = o }) (sym (class_option row.second row.spare row.spare_away (held_of c.classify.new.self)))

pub returns-clause-late : goal.returns-clause-late
returns-clause-late c = λ out.
    let row = c.args.self.now in
    let s = row.hold in
    let i = c.args.position in
    let late = sym (ap (λ t. is_out t) (standing_option row.second row.spare row.spare_away (held_of s) (cells_alone s.places s.blocks.items) c.requires.sound.second i)) ∙ out in
    class_option row.second row.spare row.spare_away (held_of c.classify.new.self)
    ∙ late_same (held_of s) (held_of c.answer.new.self) i c.args.buffer c.classify.new.self.class late c.answer.ensures.held c.requires.sound.classed c.classify.ensures.class
    ∙ sym (class_option row.second row.spare row.spare_away (held_of s))

later_sound : (row : RowState) (i : Rattle.std.proofs.Common.ℕ) (buffer : List Rattle.std.proofs.Common.ℕ) (new : HoldState) → IsRowSound row → is_away (row_of_state row) i ≡ true →
    held_of new ≡ record (answered (held_of row.hold) i buffer) { class = new.class } → IsSoundBeside (held_of new) row.spare_away row.second
later_sound row i buffer new sound away held =
    let at = here row i away in
    let inside : i < length row.hold.places = away_within row.hold.places i at in
    subst (λ (h : Held). IsSoundBeside h row.spare_away row.second) (sym held)
    (sound_class row.second row.spare_away (answered (held_of row.hold) i buffer) new.class
    (sound_answered row.second row.spare_away (held_of row.hold) i buffer (omega (arith, inside, length-cells_of row.hold.places row.hold.blocks.items)) at sound.second))

pub returns-clause-class : goal.returns-clause-class
returns-clause-class c =
    let row = c.args.self.now in
    let new = c.classify.new.self in
    let class = new.class in
    let held = c.classify.ensures.held ∙ ap (λ (h : Held). record h { class = class }) c.answer.ensures.held in
    let after : IsClassAfter (hold_of new) row.hold.class class =
    subst (λ (h : Held). IsClassAfter h.planned.hold row.hold.class class) (sym c.classify.ensures.held)
    (subst (λ (o : Option RowClass). IsClassAfter (hold_of c.answer.new.self) o class) (ap (λ (h : Held). h.class) c.answer.ensures.held) c.classify.ensures.class) in
    subst (λ (o : Option RowClass). IsClassAfter (with_second row.second row.spare row.spare_away (held_of new)).planned.hold o (with_second row.second row.spare row.spare_away (held_of new)).class) (sym (class_option row.second row.spare row.spare_away (held_of row.hold)))
    (subst (λ (o : Option RowClass). IsClassAfter (with_second row.second row.spare row.spare_away (held_of new)).planned.hold row.hold.class o) (sym (class_option row.second row.spare row.spare_away (held_of new)))
    (class_after row.second row.spare row.spare_away (held_of new) (cells_alone new.places new.blocks.items) (later_sound row c.args.position c.args.buffer new c.requires.sound c.requires.away held) row.hold.class class after))

pub returns-clause-sound : goal.returns-clause-sound
returns-clause-sound c =
    let row = c.args.self.now in
    let s = row.hold in
    let i = c.args.position in
    let new = c.classify.new.self in
    let class = new.class in
    let held = c.classify.ensures.held ∙ ap (λ (h : Held). record h { class = class }) c.answer.ensures.held in
    let at = here row i c.requires.away in
    let inside : i < length s.places = away_within s.places i at in
    let unchanged : new.prepared ≡ s.prepared = c.classify.ensures.prepared ∙ c.answer.ensures.prepared in
    record {
      sound = c.classify.ensures.sound;
      classed = c.classify.ensures.classed;
      prepared = λ e. subst (λ (h : Held). IsPrepared h.planned) (sym held) (prepared_answered s i c.args.buffer c.requires.sound.sound inside (sym (away_at s.places i inside) ∙ at) (c.requires.sound.prepared (sym unchanged ∙ e)));
      spare = λ e. c.requires.sound.spare e ∙ sym (ap (λ (h : Held). h.planned.hold.size) held ∙ answered_size (held_of s) i c.args.buffer);
      second = later_sound row i c.args.buffer new c.requires.sound c.requires.away held;
    }
