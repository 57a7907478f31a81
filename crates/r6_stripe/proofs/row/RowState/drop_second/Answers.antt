use Rattle.std.proofs.Common.{◌≡◌, sym, ◌∙◌}
use Rattle.r6_stripe.specs.Seconds.{with_second}
use Rattle.r6_stripe.specs.Steps.{dropped}
use Rattle.r6_stripe.specs.Views.{held_of}
use Rattle.r6_stripe.proofs.Alone.{cells_alone}
use Rattle.r6_stripe.proofs.BesideAnswers.{dropped_both}
use Rattle.r6_stripe.proofs.BesideLosses.{dropped_sound, none_second, second_there, sound_some}
use Rattle.r6_stripe.proofs.row.RowState.drop_second.Goals as goal

pub returns-in_default-clause-held : goal.returns-in_default-clause-held
returns-in_default-clause-held c = absurd (none_second c.args.self.now c.args.position c.in_default.is c.requires.second)

pub returns-in_default-clause-sound : goal.returns-in_default-clause-sound
returns-in_default-clause-sound c = c.requires.sound

pub returns-clause-held : goal.returns-clause-held
returns-clause-held c =
    let row = c.args.self.now in
    let second = c.in-Some.second in
    let sound = sound_some row second c.requires.sound c.in-Some.is in
    let at : c.args.position ≡ second.position = (second_there row second c.args.position c.requires.sound c.in-Some.is c.requires.second).0 in
    dropped_both second row.spare row.spare_away (held_of row.hold) (cells_alone row.hold.places row.hold.blocks.items) sound
    ∙ (λ k. dropped (with_second (sym c.in-Some.is k) row.spare row.spare_away (held_of row.hold)) (sym at k))

pub returns-clause-sound : goal.returns-clause-sound
returns-clause-sound c =
    let row = c.args.self.now in
    let second = c.in-Some.second in
    record {
      sound = c.requires.sound.sound;
      classed = c.requires.sound.classed;
      prepared = c.requires.sound.prepared;
      spare = c.requires.sound.spare;
      second = dropped_sound (held_of row.hold) row.spare_away second (second_there row second c.args.position c.requires.sound c.in-Some.is c.requires.second).1 (sound_some row second c.requires.sound c.in-Some.is);
    }
