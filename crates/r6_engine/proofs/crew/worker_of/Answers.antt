use Rattle.std.proofs.Common.{arith}
use Rattle.r6_engine.proofs.crew.worker_of.Goals as goal

pub returns-clause-pass : goal.returns-clause-pass
returns-clause-pass g c = c.in_ok-exchange.ensures.shard.0

pub returns-clause-fresh : goal.returns-clause-fresh
returns-clause-fresh g c =
    let shard = c.in_ok-exchange.ensures.shard in
    let same = shard.3 in (shard.1, shard.2, omega (arith, same))

pub returns-clause-worker : goal.returns-clause-worker
returns-clause-worker g c =
    let worker = c.in_ok-exchange.ensures.worker in
    c.in_ok-worker.ensures.worker c.in_ok-exchange.exchange worker.0 worker.1 worker.2
