use Rattle.r6_engine_tests.proofs.joins.the_parts_of_two_workers_come_back.Goals as goal

pub drive-requires-clause-one : goal.drive-requires-clause-one
drive-requires-clause-one g c =
    let w = c.in_ok-first.ensures.worker in c.in_ok-one.ensures.worker c.in_ok-first.first w.0 w.1 w.2

pub drive-requires-clause-two : goal.drive-requires-clause-two
drive-requires-clause-two g c =
    let w = c.in_ok-second.ensures.worker in c.in_ok-two.ensures.worker c.in_ok-second.second w.0 w.1 w.2
