use Rattle.r6_idle.proofs.Balances.{takes}
use Rattle.r6_idle.proofs.idle.Idle.sleep.Goals as goal

pub park_as-requires-clause-rule : goal.park_as-requires-clause-rule
park_as-requires-clause-rule g c = takes _ _
