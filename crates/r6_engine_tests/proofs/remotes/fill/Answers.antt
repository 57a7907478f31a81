use Rattle.std.proofs.Common.{arith}
use Rattle.r6_engine_tests.proofs.remotes.fill.Goals as goal

pub give-requires-clause-fresh : goal.give-requires-clause-fresh
give-requires-clause-fresh g c later above =
    let e = c.in_ok-command.ensures in c.has_room.ensures.fresh later (omega (arith, e, above))

pub loop-token-preserved : goal.loop-token-preserved
loop-token-preserved g c =
    let e = c.in_ok-command.ensures in
    record { remote = c.give.ensures.remote; fresh = λ later above. c.give.ensures.fresh later (omega (arith, e, above)) }

pub returns-clause-fresh : goal.returns-clause-fresh
returns-clause-fresh g c later above = c.loop-token.invariant.fresh later (omega (arith, above))
