use Rattle.std.proofs.Common.{◌≡◌, arith}
use Rattle.r6_engine.proofs.Alike.{snapshots}
use Rattle.r6_engine.proofs.EachShard.{all-below, below-more}
use Rattle.r6_engine.proofs.ending.have_looked_at.Goals as goal

pub loop-runner-preserved : goal.loop-runner-preserved
loop-runner-preserved g c =
    below-more (λ r. r.shard.last ≡ c.args.snapshot.now) c.args.runners.now c.loop-runner.runner-index c.runner-item.result c.loop-runner-test.true
    c.runner-item.is c.loop-runner.invariant (snapshots c.runner-item.result.shard.last c.args.snapshot.now c.ne.result c.if-ne.false c.ne.ensures)

pub returns : goal.returns
returns g c = λ yes.
    let most = c.loop-runner-test.false in
    all-below (λ r. r.shard.last ≡ c.args.snapshot.now) c.args.runners.now c.loop-runner.runner-index (omega (arith, most)) c.loop-runner.invariant
