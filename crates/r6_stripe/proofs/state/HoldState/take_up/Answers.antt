use Rattle.std.proofs.Common.{◌≡◌, inl, inr, ℕ, ◌<◌, false, [], length, get_or, sym, ◌∙◌, ap, subst}
use Rattle.std.proofs.lemmas.Bool.{cases_eq}
use Rattle.r6_stripe.specs.Holds.{Cell, Standing, cell_at, no_cell}
use Rattle.r6_stripe.specs.Places.{cell_of, is_lent, no_place, reading_of, standing_of}
use Rattle.r6_stripe.specs.Sound.{Each}
use Rattle.r6_stripe.specs.Views.{hold_of}
use Rattle.r6_stripe.specs.declared.place.ReadState.{ReadState}
use Rattle.r6_stripe.proofs.Places.{cell_at-cells_of}
use Rattle.r6_stripe.proofs.Sources.{target_state, unlent_places}
use Rattle.r6_stripe.proofs.States.{unread_only, unwritten_only}
use Rattle.r6_stripe.proofs.state.HoldState.take_up.Goals as goal

pub returns-clause-sound : goal.returns-clause-sound
returns-clause-sound c =
    let s = c.args.self.now in
    let p = c.args.position in
    let sound = c.requires.sound in
    let unlent : Each (λ position place. is_lent place ≡ false) s.places = unlent_places s c.requires.unlent in
    let at : (j : ℕ) → j < length s.places → cell_at (hold_of s).cells j ≡ cell_of (get_or s.places j no_place) (get_or s.blocks.items j []) = λ j below. cell_at-cells_of s.places s.blocks.items j no_place below in
    record {
      four_or_more = sound.four_or_more;
      at_most = sound.at_most;
      wide = sound.wide;
      sum = sound.sum;
      weighted = sound.weighted;
      fits = c.requires.place;
      at_home = sound.at_home;
      settled = sound.settled;
      cut = c.requires.uncut;
      targets = λ j below t. elim (cases_eq j p) [
        | inl same ↦ same
        | inr apart ↦ absurd ((c.requires.sources j apart).standing (ap (λ (cell : Cell). cell.standing) (at j below) ∙ ap standing_of t))
      ];
      lends = λ j below lent. absurd (let e = sym (unlent j below) ∙ lent in cc);
      lends_last = λ j below lent. absurd (let e = sym (unlent j below) ∙ lent in cc);
      rests = sound.rests;
      computed = false;
      renewed = λ repairs computed. absurd cc;
      course = λ j below. (
        λ apart. (
          unwritten_only (get_or s.places j no_place).write (get_or s.blocks.items j []) (sym (ap (λ (cell : Cell). cell.writing) (at j below)) ∙ (c.requires.sources j apart).writing),
          λ gone. (c.requires.sources j apart).kept (ap (λ (cell : Cell). cell.reading) (at j below) ∙ ap (λ (r : ReadState). reading_of r (get_or s.blocks.items j [])) gone),
        ),
        λ same.
            let is : cell_of (get_or s.places j no_place) (get_or s.blocks.items j []) ≡ record no_cell { standing = Standing.Target } = sym (at j below) ∙ subst (λ (k : ℕ). cell_at (hold_of s).cells k ≡ record no_cell { standing = Standing.Target }) (sym same) c.requires.target in (
              unread_only (get_or s.places j no_place).read (get_or s.blocks.items j []) (ap (λ (cell : Cell). cell.reading) is),
              λ in_sync. (let e = sym in_sync ∙ target_state (get_or s.places j no_place).state (ap (λ (cell : Cell). cell.standing) is) in cc),
              unwritten_only (get_or s.places j no_place).write (get_or s.blocks.items j []) (ap (λ (cell : Cell). cell.writing) is),
            ),
      );
    }
