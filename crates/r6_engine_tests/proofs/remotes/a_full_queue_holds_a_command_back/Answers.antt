use Rattle.r6_engine_tests.proofs.remotes.a_full_queue_holds_a_command_back.Goals as goal

pub overfill-requires-clause-worker : goal.overfill-requires-clause-worker
overfill-requires-clause-worker g c =
    let w = c.in_ok-exchange.ensures.worker in c.in_ok-worker.ensures.worker c.in_ok-exchange.exchange w.0 w.1 w.2
