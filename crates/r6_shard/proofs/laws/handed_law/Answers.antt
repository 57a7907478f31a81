use Rattle.r6_shard.proofs.FromStarts as laws
use Rattle.r6_shard.proofs.laws.handed_law.Goals as goal

pub returns : goal.returns
returns g c = laws.handed_law g.P.Performs g.D.BlockDevice.told g.D.BlockDevice.promised
