use Rattle.r6_shard.proofs.Waiting.{sends}
use Rattle.r6_shard.proofs.in_place.InPlacePerforms.send.Goals as goal

pub returns-clause-performer : goal.returns-clause-performer
returns-clause-performer g c = sends g.D.BlockDevice.told g.D.BlockDevice.promised c.args.self.now c.args.command c.requires.room
