use Rattle.r6_shard.proofs.Promises.{memory_law_holds}
use Rattle.r6_shard.proofs.laws.memory_law.Goals as goal

pub returns : goal.returns
returns c = memory_law_holds
