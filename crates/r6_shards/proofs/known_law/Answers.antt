use Rattle.r6_shards.proofs.OneRun as laws
use Rattle.r6_shards.proofs.known_law.Goals as goal

pub returns : goal.returns
returns c = laws.known_law
