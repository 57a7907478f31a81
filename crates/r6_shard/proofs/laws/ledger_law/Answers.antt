use Rattle.r6_shard.proofs.FromStarts as laws
use Rattle.r6_shard.proofs.laws.ledger_law.Goals as goal

pub returns : goal.returns
returns g c = laws.ledger_law g.P.Performs
