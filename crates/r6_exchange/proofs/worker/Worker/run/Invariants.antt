use Rattle.r6_exchange.specs.Workers.{IsWorker}
use Rattle.r6_exchange.proofs.worker.Worker.run.Given as goal

abbrev pub invariant-loop : goal.invariant-loop
invariant-loop g l =
    (goal.iterator-loop g).can_next l.iterator' × (goal.iterator-loop g).is_finite l.iterator'
    × record { worker : IsWorker g.D.BlockDevice.told g.D.BlockDevice.promised l.exchange l.self }
