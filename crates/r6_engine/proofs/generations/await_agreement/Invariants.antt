use Rattle.r6_engine.specs.Generations.{HasAgreed}
use Rattle.r6_engine.proofs.EachShard.{AllBelow}
use Rattle.r6_engine.proofs.generations.await_agreement.Given as goal

abbrev pub invariant-loop-runner : goal.invariant-loop-runner
invariant-loop-runner g l = AllBelow l.runner-index (λ runner. HasAgreed l.answers runner.handed.items) l.runners

abbrev pub invariant-loop : goal.invariant-loop
invariant-loop g l = (goal.iterator-loop g).can_next l.iterator' × (goal.iterator-loop g).is_finite l.iterator'
