use Rattle.std.proofs.Common.{◌∙◌, Option, ap, arith, length}
use Rattle.std.specs.Prelude.{option_to_list}
use Rattle.r6_engine.specs.declared.runner.scrub.ScrubUnderWay.{ScrubUnderWay}
use Rattle.r6_engine.proofs.RunnerLemmas.Awaiting.{alike}
use Rattle.r6_engine.proofs.RunnerLemmas.Counting.{turned-counted}
use Rattle.r6_engine.proofs.RunnerLemmas.Done.{gone-scrub}
use Rattle.r6_engine.proofs.runner.runner.Runner.turn_on.Goals as goal

pub returns-clause-goes : goal.returns-clause-goes
returns-clause-goes g c =
    let old = c.args.self.now in
    let new = c.turn-turned.new.self in
    let scrub = c.args.scrub in
    let turned = c.turn-turned.result in
    let h = c.turn-turned.ensures.course in
    let kept = c.turn-turned.ensures.parts in
    let counted = c.turn-turned.ensures.counted in
    record {
      course = λ shape events number numbers geometry snapshot before x.
          gone-scrub shape events geometry number snapshot before numbers old new scrub turned c.requires.under_way h counted.event counted.task x;
      sound = c.turn-turned.ensures.sound;
      counted = turned-counted old.rows new.rows old.shard.core new.shard.core old.scrub old.scrubs_done.items new.scrubs_done.items scrub turned
          c.requires.under_way h.kept.rows h.kept.scrubs_done counted;
      awaited = λ events x.
          alike events old.waits new.waits old.shard.asked.items new.shard.asked.items old.due.items new.due.items h.waits h.asked h.kept.due x;
      parts = record {
        labels = kept.labels;
        room = kept.room;
        site = kept.site;
        handed = kept.handed;
        others = kept.others;
        here = kept.here;
        window = kept.window;
      };
      place = h.lasts.same.1;
    }

pub returns-clause-same : goal.returns-clause-same
returns-clause-same g c =
    let h = c.turn-turned.ensures.course in
    record { pass = c.turn-turned.ensures.pass; place = h.lasts.same.1; room = h.kept.room }

pub returns-clause-count : goal.returns-clause-count
returns-clause-count g c =
    let one = ap (λ (y : Option ScrubUnderWay). length (option_to_list y)) c.requires.under_way in
    let h = c.turn-turned.ensures.course in
    let refused = ap length h.refused in
    let asked = ap length h.asked in
    let passed = ap length h.kept.scrubs_done in
    let handed = ap length h.kept.handed in
    let due = ap length h.kept.due in omega (arith, one, refused, asked, passed, handed, due)

pub invariant_of-self : goal.invariant_of-self
invariant_of-self g c =
    let now = c.turn-turned.new.self in
    let one = ap (λ (y : Option ScrubUnderWay). length (option_to_list y)) (c.turn-turned.ensures.course.kept.scrub ∙ c.requires.under_way) in
    record {
      unskipped = now.unskipped;
      none_gathered = now.none_gathered;
      within = omega (arith, one, now.within);
      others_within = now.others_within;
      shard_room = now.shard_room;
      due_room = now.due_room;
      refused_room = now.refused_room;
      scrubs_room = now.scrubs_room;
      handed_room = now.handed_room;
      others_room = now.others_room;
      parts_room = now.parts_room;
    }
