use Rattle.std.proofs.Common.{◌≡◌}
use Rattle.r6_exchange.specs.Workers.{IsWorker}
use Rattle.r6_engine.proofs.post.work_on.Given as goal

abbrev pub invariant-loop : goal.invariant-loop
invariant-loop g l =
    (goal.iterator-loop g).can_next l.iterator' × (goal.iterator-loop g).is_finite l.iterator' × record {
      exchange : l.post.exchange.now ≡ l.fn.post.exchange.now;
      worker : IsWorker g.D.BlockDevice.told g.D.BlockDevice.promised l.post.exchange.now l.post.worker;
    }
