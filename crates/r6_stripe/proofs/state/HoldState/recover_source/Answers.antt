use Rattle.std.proofs.Common.{length, get_or}
use Rattle.r6_stripe.specs.Places.{no_place}
use Rattle.r6_stripe.specs.declared.plan.Plan.TheVariants as plan
use Rattle.r6_stripe.proofs.Sources.{no_course}
use Rattle.r6_stripe.proofs.state.HoldState.recover_source.Goals as goal

pub returns-clause-sound : goal.returns-clause-sound
returns-clause-sound c =
    let sound = c.requires.sound in
    let s = c.args.self.now in
    record {
      four_or_more = sound.four_or_more;
      at_most = sound.at_most;
      wide = sound.wide;
      sum = sound.sum;
      weighted = sound.weighted;
      fits = sound.fits;
      at_home = sound.at_home;
      settled = sound.settled;
      cut = sound.cut;
      targets = sound.targets;
      lends = sound.lends;
      lends_last = sound.lends_last;
      rests = sound.rests;
      computed = sound.computed;
      renewed = sound.renewed;
      course = λ i below. no_course plan.Recover s.task (length s.places) sound.computed i (get_or s.places i no_place) c.requires.untasked;
    }
