use Rattle.std.proofs.Common.{arith, subst}
use Rattle.r6_engine.specs.Generations.{HasAgreed}
use Rattle.r6_engine.proofs.EachShard.{all-below, below-more}
use Rattle.r6_engine.proofs.generations.await_agreement.Goals as goal

pub loop-runner-preserved : goal.loop-runner-preserved
loop-runner-preserved g c =
    below-more (λ r. HasAgreed c.args.answers.now r.handed.items) c.args.runners.now c.loop-runner.runner-index c.runner-item.result
    c.loop-runner-test.true c.runner-item.is c.loop-runner.invariant
    (subst (HasAgreed c.args.answers.now) c.as_slice.ensures.value (c.has_agreed.ensures c.if-not-has_agreed.false))

pub returns : goal.returns
returns g c =
    let most = c.loop-runner-test.false in
    all-below (λ r. HasAgreed c.args.answers.now r.handed.items) c.args.runners.now c.loop-runner.runner-index (omega (arith, most))
    c.loop-runner.invariant
