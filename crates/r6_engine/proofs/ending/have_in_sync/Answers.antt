use Rattle.std.proofs.Common.{arith}
use Rattle.r6_engine.specs.Ending.{HasInSync}
use Rattle.r6_engine.proofs.EachShard.{all-below, below-more}
use Rattle.r6_engine.proofs.ending.have_in_sync.Goals as goal

pub loop-runner-preserved : goal.loop-runner-preserved
loop-runner-preserved g c =
    below-more (λ r. HasInSync c.args.slots c.args.snapshot.now r.shard.core) c.args.runners.now c.loop-runner.runner-index c.runner-item.result
    c.loop-runner-test.true c.runner-item.is c.loop-runner.invariant (c.has_in_sync.ensures c.if-not-has_in_sync.false)

pub returns : goal.returns
returns g c = λ all alive.
    let most = c.loop-runner-test.false in
    all-below (λ r. HasInSync c.args.slots c.args.snapshot.now r.shard.core) c.args.runners.now c.loop-runner.runner-index (omega (arith, most))
    c.loop-runner.invariant
