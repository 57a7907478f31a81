use Rattle.std.proofs.Common.{◌≡◌, true, ℕ, sym, ap, subst, ◌∙◌, Some, None, Option}
use Rattle.r6_stripe.specs.Holds.{cell_at}
use Rattle.r6_stripe.specs.Places.{is_read_out}
use Rattle.r6_stripe.specs.Replacements.{held_beside, with_replacement}
use Rattle.r6_stripe.specs.RowViews.{row_of_state}
use Rattle.r6_stripe.specs.Steps.{Held, failed, is_away}
use Rattle.r6_stripe.specs.WholeViews.{IsSoundReplacing}
use Rattle.r6_stripe.specs.declared.replacement.Replacement.{Replacement}
use Rattle.r6_stripe.specs.declared.row.RowState.{RowState}
use Rattle.r6_stripe.proofs.ReplacingAnswers.{fail_away, fail_both, fail_kept}
use Rattle.r6_stripe.proofs.ReplacingWhole.{read_out_whole}
use Rattle.r6_stripe.proofs.whole.WholeState.fail.Goals as goal

away_plain : (row : RowState) (o : Option Replacement) → IsSoundReplacing row o → (i : ℕ) → is_read_out (cell_at (row_of_state row).planned.hold.cells i) ≡ true → is_away (with_replacement o (row_of_state row)) i ≡ true → is_away (row_of_state row) i ≡ true
away_plain row None sound i out away = away
away_plain row (Some r) sound i out away = sym (fail_away (row_of_state row) r sound.1 i out) ∙ away

held_plain : (row new : RowState) (o : Option Replacement) → IsSoundReplacing row o → (i : ℕ) → is_read_out (cell_at (row_of_state row).planned.hold.cells i) ≡ true → row_of_state new ≡ failed (row_of_state row) i →
    with_replacement o (row_of_state new) ≡ failed (with_replacement o (row_of_state row)) i
held_plain row new None sound i out e = e
held_plain row new (Some r) sound i out e = ap (held_beside r) e ∙ fail_both (row_of_state row) r sound.1 i out

sound_plain : (row new : RowState) (o : Option Replacement) → IsSoundReplacing row o → (i : ℕ) → is_read_out (cell_at (row_of_state row).planned.hold.cells i) ≡ true → row_of_state new ≡ failed (row_of_state row) i → new.second ≡ row.second →
    IsSoundReplacing new o
sound_plain row new None sound i out e same = tt
sound_plain row new (Some r) sound i out e same = (same ∙ sound.0, subst (λ (h : Held). Rattle.r6_stripe.specs.Replacements.IsReplacing h r) (sym e) (fail_kept (row_of_state row) r sound.1 i out))

pub fail-requires : goal.fail-requires
fail-requires c =
    let whole = c.args.self.now in
    let out = sym (read_out_whole whole.row whole.replacement c.requires.sound.replacement c.args.position) ∙ c.requires.asked in
    record {
      sound = c.requires.sound.row;
      away = away_plain whole.row whole.replacement c.requires.sound.replacement c.args.position out c.requires.away;
      asked = out;
      size = c.requires.size;
    }

pub returns-clause-held : goal.returns-clause-held
returns-clause-held c =
    let whole = c.args.self.now in
    let out = sym (read_out_whole whole.row whole.replacement c.requires.sound.replacement c.args.position) ∙ c.requires.asked in
    held_plain whole.row c.fail.new.self whole.replacement c.requires.sound.replacement c.args.position out c.fail.ensures.held

pub returns-clause-sound : goal.returns-clause-sound
returns-clause-sound c =
    let whole = c.args.self.now in
    let out = sym (read_out_whole whole.row whole.replacement c.requires.sound.replacement c.args.position) ∙ c.requires.asked in
    record {
      row = c.fail.ensures.sound;
      replacement = sound_plain whole.row c.fail.new.self whole.replacement c.requires.sound.replacement c.args.position out c.fail.ensures.held c.fail.ensures.second;
    }
