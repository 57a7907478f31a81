use Rattle.r6_exchange.proofs.Joins.{join_law}
use Rattle.r6_exchange.proofs.laws.join_law.Goals as goal

pub returns : goal.returns
returns g c = join_law g.D.BlockDevice.told g.D.BlockDevice.promised
