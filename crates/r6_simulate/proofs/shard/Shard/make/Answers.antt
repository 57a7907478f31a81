use Rattle.std.proofs.Common.{refl}
use Rattle.r6_simulate.proofs.Passing.{if_ok}
use Rattle.r6_simulate.proofs.shard.Shard.make.Goals as goal

pub returns-in-Perform-clause-outcome : goal.returns-in-Perform-clause-outcome
returns-in-Perform-clause-outcome g c = rw c.in-Perform.is (c.perform.ensures, refl)

pub returns-in-Answer-clause-outcome : goal.returns-in-Answer-clause-outcome
returns-in-Answer-clause-outcome g c = rw c.in-Answer.is (if_ok c.answer.result _ _ (λ outcome done. (done, refl, refl)) c.answer.ensures.outcome)

pub returns-in-Do-clause-outcome : goal.returns-in-Do-clause-outcome
returns-in-Do-clause-outcome g c = rw c.in-Do.is (if_ok c.perform_and_answer.result _ _ (λ outcome done. (done, refl)) c.perform_and_answer.ensures.outcome)

pub returns-in-Tell-clause-outcome : goal.returns-in-Tell-clause-outcome
returns-in-Tell-clause-outcome g c = rw c.in-Tell.is (c.tell.ensures, refl)

pub returns-in-Look-clause-outcome : goal.returns-in-Look-clause-outcome
returns-in-Look-clause-outcome g c = rw c.in-Look.is (c.look.ensures, refl)

pub returns-in-Turn-clause-outcome : goal.returns-in-Turn-clause-outcome
returns-in-Turn-clause-outcome g c = rw c.in-Turn.is (c.turn.ensures, refl, refl)
