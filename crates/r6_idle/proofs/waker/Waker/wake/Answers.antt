use Rattle.r6_idle.proofs.Balances.{gives}
use Rattle.r6_idle.proofs.waker.Waker.wake.Goals as goal

pub unpark_as-requires-clause-rule : goal.unpark_as-requires-clause-rule
unpark_as-requires-clause-rule c = gives _ _
