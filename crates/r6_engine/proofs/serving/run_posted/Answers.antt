use Rattle.std.proofs.Common.{refl}
use Rattle.std.proofs.lemmas.Result.{IfOk-at_ok}
use Rattle.r6_engine.proofs.serving.run_posted.Goals as goal

pub run_all-requires-clause-ready : goal.run_all-requires-clause-ready
run_all-requires-clause-ready g c κs within = c.requires.ready

pub returns-clause-run : goal.returns-clause-run
returns-clause-run g c lost window parts steady begun =
    IfOk-at_ok _ c.in_ok-ran-2.was (c.in_ok-ran.ensures.call.0 lost window parts steady begun)

pub returns-clause-stays : goal.returns-clause-stays
returns-clause-stays g c = IfOk-at_ok _ c.in_ok-ran-2.was c.in_ok-ran.ensures.call.1

pub returns-clause-posts : goal.returns-clause-posts
returns-clause-posts g c = (c.in_ok-ran.ensures.done, refl)
