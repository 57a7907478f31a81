use Rattle.std.proofs.Common.{◌∙◌}
use Rattle.r6_engine.proofs.RunnerLemmas.Going.{none-then}
use Rattle.r6_engine.proofs.runner.runner.Runner.go_round.Goals as goal

pub returns-clause-goes : goal.returns-clause-goes
returns-clause-goes g c =
    none-then c.args.self.now c.advance-more.new.self c.rests-rests.new.self c.advance-more.ensures.goes
    c.rests-rests.ensures.goes

pub returns-clause-room : goal.returns-clause-room
returns-clause-room g c = c.rests-rests.ensures.room ∙ c.advance-more.ensures.room

pub returns-clause-over : goal.returns-clause-over
returns-clause-over g c = λ e. c.rests-rests.ensures.over (c.of.ensures.nothing.0 e)
