use Rattle.r6_shard.proofs.Waiting.{takes-or-not}
use Rattle.r6_shard.proofs.in_place.InPlaceTakesParts.take_in.Goals as goal

pub returns-clause-taken : goal.returns-clause-taken
returns-clause-taken g c =
    let put = c.put_in.ensures in
    takes-or-not g.D.BlockDevice.told g.D.BlockDevice.promised c.args.part c.args.self.now c.put_in.new.self c.put_in.result put.taken put.room
    put.waiting put.full
