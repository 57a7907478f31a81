use Rattle.std.proofs.Common.{◌≡◌, ◌+◌, ◌∙◌, refl, sym, subst, arith}
use Rattle.std.proofs.lemmas.Bool.{false≢true}
use Rattle.r6_shard.specs.Counted.{HasPassedRows, rows_of}
use Rattle.r6_shard.proofs.Counting.{passes-same}
use Rattle.r6_shard.proofs.Lasting.{lasts_on}
use Rattle.r6_engine.proofs.RunnerLemmas.Counting.{refused-core}
use Rattle.r6_engine.proofs.RunnerLemmas.Done.{shard-on}
use Rattle.r6_engine.proofs.RunnerLemmas.Parts.{parts-on}
use Rattle.r6_engine.proofs.runner.runner.Runner.turn.Goals as goal

pub returns-in-Err-clause-course : goal.returns-in-Err-clause-course
returns-in-Err-clause-course g c =
    shard-on c.args.self.now c.loop-turned.self c.turn_one.new.self c.loop-turned.invariant.course c.turn_one.ensures.course

pub returns-in-Err-clause-pass : goal.returns-in-Err-clause-pass
returns-in-Err-clause-pass g c = c.turn_one.ensures.pass ∙ c.loop-turned.invariant.pass

pub returns-in-Err-clause-counted : goal.returns-in-Err-clause-counted
returns-in-Err-clause-counted g c =
    let at = c.loop-turned.invariant in
    let mid = c.loop-turned.self.shard.core in
    let new = c.turn_one.new.self.shard.core in
    let refused = c.in-Err.ensures.refused in
    let within = c.loop-turned-test.true in
    record {
      event = refl;
      task = refl;
      before = refl;
      more = at.more;
      passes = λ stopped counted rows x. passes-same mid new refused.same stopped counted (rows + at.more) (at.passes stopped counted rows x);
      lasts = lasts_on c.args.self.now.shard.core mid new at.lasts c.turn_one.ensures.lasts;
      left = λ one. let turned = at.one one in omega (arith, turned, within);
      ended = λ given. refused-core mid new c.args.scrub.task c.in-Err.refusal refused (c.is_ending.ensures.0 given);
    }

pub returns-clause-counted : goal.returns-clause-counted
returns-clause-counted g c =
    let at = c.loop-turned.invariant in
    let all = c.loop-turned-test.false in
    let end = c.loop-turned.auto.turned-end in
    record {
      event = refl;
      task = refl;
      before = refl;
      more = at.more;
      passes = at.passes;
      lasts = at.lasts;
      left = λ one. let turned = at.one one in omega (arith, turned, all, end);
      ended = λ given. absurd (false≢true (sym c.requires ∙ given));
    }

pub loop-turned-preserved : goal.loop-turned-preserved
loop-turned-preserved g c =
    let at = c.loop-turned.invariant in
    let old = c.args.self.now.shard.core in
    let mid = c.loop-turned.self.shard.core in
    let new = c.turn_one.new.self.shard.core in
    let task = c.args.scrub.task in
    let passed = c.in_default.ensures.passed in
    record {
      course = shard-on c.args.self.now c.loop-turned.self c.turn_one.new.self at.course c.turn_one.ensures.course;
      parts = parts-on c.args.self.now c.loop-turned.self c.turn_one.new.self at.parts c.turn_one.ensures.parts;
      sound = λ shape number slot x. c.turn_one.ensures.sound shape number slot (at.sound shape number slot x);
      pass = c.turn_one.ensures.pass ∙ at.pass;
      more = at.more + rows_of task;
      passes = λ stopped counted rows x.
          let sum : rows + at.more + rows_of task ≡ rows + (at.more + rows_of task) = omega arith in
          subst (λ n. HasPassedRows stopped counted n new) sum (passed stopped counted (rows + at.more) (at.passes stopped counted rows x));
      lasts = lasts_on old mid new at.lasts c.turn_one.ensures.lasts;
      one = λ one. let turned = at.one one in omega (arith, turned, one);
    }

pub returns-in-Err-clause-sound : goal.returns-in-Err-clause-sound
returns-in-Err-clause-sound g c = λ shape number slot x.
    c.turn_one.ensures.sound shape number slot (c.loop-turned.invariant.sound shape number slot x)

pub returns-in-Err-clause-parts : goal.returns-in-Err-clause-parts
returns-in-Err-clause-parts g c =
    parts-on c.args.self.now c.loop-turned.self c.turn_one.new.self c.loop-turned.invariant.parts c.turn_one.ensures.parts
