use Rattle.std.proofs.Common.{◌≡◌, sym, ap, ◌∙◌}
use Rattle.r6_stripe.specs.Steps.{Held}
use Rattle.r6_stripe.proofs.row.RowState.begin.Goals as goal

pub begin-requires : goal.begin-requires
begin-requires c = record { home = c.requires.home.home; task = c.requires.task }

pub returns-clause-held : goal.returns-clause-held
returns-clause-held c = λ k. record (c.begin.ensures.held k) { second_away = c.requires.home.spare_home k }

pub returns-clause-sound : goal.returns-clause-sound
returns-clause-sound c =
    let same : c.begin.new.self.len ≡ c.args.self.now.hold.len = ap (λ (h : Held). h.planned.hold.size) c.begin.ensures.held in
    record {
      sound = c.begin.ensures.sound;
      classed = c.begin.ensures.classed;
      prepared = λ e. absurd (let f = sym c.begin.ensures.prepared ∙ e in cc);
      spare = λ e. c.requires.home.spare ∙ sym same;
      second = tt;
    }
