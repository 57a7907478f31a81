use Rattle.r6_dev.specs.Memory.{told_by, promised_by}
use Rattle.r6_exchange.specs.Workers.{IsWorker}
use Rattle.r6_engine_tests.proofs.remotes.work.Given as goal

abbrev pub invariant-loop : goal.invariant-loop
invariant-loop g l = IsWorker told_by promised_by l.exchange l.worker
