use Rattle.r6_exchange.specs.Deliveries.{HasRoom}
use Rattle.r6_exchange.specs.Joins.{HasNoEnd}
use Rattle.r6_exchange.proofs.tests.rounds.Given as goal

abbrev pub invariant-loop-round : goal.invariant-loop-round
invariant-loop-round l = record { room : HasRoom 1 l.tasks.items; endless : HasNoEnd l.tasks.items }
