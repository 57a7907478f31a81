use Rattle.r6_core.proofs.OneCore as OneCore
use Rattle.r6_core.proofs.laws.counts_of_one_core.Goals as goal

pub returns : goal.returns
returns c = OneCore.counts_of_one_core c.layout_law.ensures c.shard_counts_law.ensures
