use Rattle.r6_shard.proofs.Behind as laws
use Rattle.r6_shard.proofs.laws.behind_law.Goals as goal

pub returns : goal.returns
returns g c = laws.behind_law g.P.Performs
