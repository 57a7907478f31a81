use Rattle.r6_exchange.proofs.Exchanges.{shard-pushed}
use Rattle.r6_exchange.proofs.exchange.Exchange.send.Goals as goal

pub returns-clause-pass : goal.returns-clause-pass
returns-clause-pass g c =
    shard-pushed g.D.BlockDevice.told g.D.BlockDevice.promised c.args.self.now c.args.pass.now _ _ _ c.requires.pass
    c.requires.room c.push-sent.ensures.end c.push-sent.ensures.pushed
