use Rattle.std.proofs.Common.{◌∙◌, sym}
use Rattle.std.proofs.lemmas.Bool.{false≢true}
use Rattle.r6_engine.proofs.RunnerLemmas.Takes.{takes-more}
use Rattle.r6_engine.proofs.runner.run.Taking.go_on.Goals as goal

pub returns-then-not-is_nothing-clause-took : goal.returns-then-not-is_nothing-clause-took
returns-then-not-is_nothing-clause-took g c =
    takes-more g.L.Events.shape g.L.Events.events g.L.Events.sound c.args.self.now.consumer.shard c.args.self.now.consumer.numbers.items
    c.take_all.new.self.consumer.numbers.items c.args.self.now.runner c.take_all.new.self.runner c.go_round-left.new.self c.take_all.ensures.took
    c.go_round-left.ensures.goes

pub returns-clause-took : goal.returns-clause-took
returns-clause-took g c =
    takes-more g.L.Events.shape g.L.Events.events g.L.Events.sound c.args.self.now.consumer.shard c.args.self.now.consumer.numbers.items
    c.take_all.new.self.consumer.numbers.items c.args.self.now.runner c.take_all.new.self.runner c.go_round-left.new.self c.take_all.ensures.took
    c.go_round-left.ensures.goes

pub returns-clause-over : goal.returns-clause-over
returns-clause-over g c = λ e. (
  c.go_round-left.ensures.over (c.is_nothing.ensures.0 c.if-not-is_nothing.false),
  c.take_all.ensures.finished (c.of.ensures.nothing.0 e),
)

pub returns-then-not-is_nothing-clause-over : goal.returns-then-not-is_nothing-clause-over
returns-then-not-is_nothing-clause-over g c = λ e. absurd (false≢true (sym c.if-not-is_nothing.true ∙ c.is_nothing.ensures.1 e))
