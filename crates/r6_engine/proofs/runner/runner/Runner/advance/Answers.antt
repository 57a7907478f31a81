use Rattle.std.proofs.Common.{◌∙◌}
use Rattle.r6_engine.proofs.RunnerLemmas.Going.{none-then}
use Rattle.r6_engine.proofs.RunnerLemmas.Parts.{parts-on}
use Rattle.r6_engine.proofs.runner.runner.Runner.advance.Goals as goal

pub returns-clause-goes : goal.returns-clause-goes
returns-clause-goes g c =
    let old = c.args.self.now in
    let round = c.round.new.self in
    let begun = c.begin_all.new.self in
    let gone = c.go_on.new.self in
    none-then old gone c.rebuild.new.self
    (none-then old begun gone
    (record {
      course = λ shape events number numbers geometry snapshot before x.
          c.begin_all.ensures.course shape events number numbers geometry snapshot before
          (c.round.ensures.course shape events number numbers geometry snapshot before x);
      sound = λ shape number slot x. c.begin_all.ensures.sound shape number slot (c.round.ensures.sound shape number slot x);
      counted = λ rows x. c.begin_all.ensures.counted rows (c.round.ensures.counted rows x);
      awaited = λ events x. c.begin_all.ensures.awaited events (c.round.ensures.awaited events x);
      parts = parts-on old round begun c.round.ensures.parts c.begin_all.ensures.parts;
      place = c.begin_all.ensures.same.place ∙ c.round.ensures.place;
    })
    c.go_on.ensures.goes)
    c.rebuild.ensures.goes

pub returns-clause-room : goal.returns-clause-room
returns-clause-room g c =
    c.rebuild.ensures.room ∙ c.go_on.ensures.same.room ∙ c.begin_all.ensures.same.room ∙ c.round.ensures.room
