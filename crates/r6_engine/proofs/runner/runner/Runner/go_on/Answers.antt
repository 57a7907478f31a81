use Rattle.r6_engine.proofs.RunnerLemmas.Going.{none-then}
use Rattle.r6_engine.proofs.runner.runner.Runner.go_on.Goals as goal

pub returns-then-is_still-clause-goes : goal.returns-then-is_still-clause-goes
returns-then-is_still-clause-goes g c = none-then c.args.self.now c.is_still.new.self c.end_scrub.new.self c.is_still.ensures.goes c.end_scrub.ensures.goes
