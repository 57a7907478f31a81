use Rattle.std.proofs.Common.{◌≡◌, ◌<◌, Bool, true, false, List, ℕ, length, get_or, sym, ◌∙◌, ap, subst, arith}
use Rattle.std.specs.Prelude.{not}
use Rattle.std.proofs.lemmas.Bool.{and_parts}
use Rattle.r6_stripe.specs.Checks.{IsClassed}
use Rattle.r6_stripe.specs.Holds.{cell_at}
use Rattle.r6_stripe.specs.Places.{is_read_out}
use Rattle.r6_stripe.specs.Plans.{is_asked, is_out}
use Rattle.r6_stripe.specs.RowViews.{IsRowSound, row_of_state}
use Rattle.r6_stripe.specs.Seconds.{IsSoundBeside, with_second}
use Rattle.r6_stripe.specs.Steps.{Held, is_away}
use Rattle.r6_stripe.specs.Views.{hold_of, held_of}
use Rattle.r6_stripe.specs.declared.row.RowState.{RowState}
use Rattle.r6_stripe.proofs.Alone.{cells_alone}
use Rattle.r6_stripe.proofs.BesideOption.{away_option, failed_option, read_out_option, sound_failed}
use Rattle.r6_stripe.proofs.Checks.{classed_failed}
use Rattle.r6_stripe.proofs.Mends.{asked_is}
use Rattle.r6_stripe.proofs.Places.{length-cells_of}
use Rattle.r6_stripe.proofs.States.{away_at, away_within}
use Rattle.r6_stripe.proofs.row.RowState.fail.Goals as goal

here : (row : RowState) (i : ℕ) → is_away (row_of_state row) i ≡ true → is_away (held_of row.hold) i ≡ true
here row i away = sym (ap (λ (a : List Bool). get_or a i false) (away_option row.second row.spare row.spare_away (held_of row.hold))) ∙ away

asked : (row : RowState) (i : ℕ) → IsRowSound row → is_read_out (cell_at (row_of_state row).planned.hold.cells i) ≡ true → is_read_out (cell_at (hold_of row.hold).cells i) ≡ true
asked row i sound out = read_out_option row.second row.spare row.spare_away (held_of row.hold) (cells_alone row.hold.places row.hold.blocks.items) sound.second i out

pub fail-requires : goal.fail-requires
fail-requires c =
    let row = c.args.self.now in
    let s = row.hold in
    let i = c.args.position in
    let at = here row i c.requires.away in
    let inside : i < length s.places = away_within s.places i at in
    record {
      sound = c.requires.sound.sound;
      place = inside;
      away = sym (away_at s.places i inside) ∙ at;
      asked = asked row i c.requires.sound c.requires.asked;
      size = c.requires.size;
    }

pub returns-clause-held : goal.returns-clause-held
returns-clause-held c =
    let row = c.args.self.now in
    ap (with_second row.second row.spare row.spare_away) c.fail.ensures.held
    ∙ failed_option row.second row.spare row.spare_away (held_of row.hold) (cells_alone row.hold.places row.hold.blocks.items) c.requires.sound.second c.args.position

pub returns-clause-sound : goal.returns-clause-sound
returns-clause-sound c =
    let row = c.args.self.now in
    let s = row.hold in
    let i = c.args.position in
    let at = here row i c.requires.away in
    let inside : i < length s.places = away_within s.places i at in
    let below : i < length (hold_of s).cells = omega (arith, inside, length-cells_of s.places s.blocks.items) in
    let parts = and_parts (not (is_out (cell_at (hold_of s).cells i).standing)) (is_asked (cell_at (hold_of s).cells i).reading) (asked row i c.requires.sound c.requires.asked) in
    record {
      sound = c.fail.ensures.sound;
      classed = subst (λ (h : Held). IsClassed h.planned.hold h.class) (sym c.fail.ensures.held) (classed_failed (hold_of s) s.class i below (asked_is (cell_at (hold_of s).cells i).reading parts.1) c.requires.sound.classed);
      prepared = λ e. absurd (let f = sym c.fail.ensures.prepared ∙ e in cc);
      spare = λ e. c.requires.sound.spare e ∙ sym (ap (λ (h : Held). h.planned.hold.size) c.fail.ensures.held);
      second = subst (λ (h : Held). IsSoundBeside h row.spare_away row.second) (sym c.fail.ensures.held) (sound_failed row.second row.spare_away (held_of s) i below at c.requires.sound.second);
    }
