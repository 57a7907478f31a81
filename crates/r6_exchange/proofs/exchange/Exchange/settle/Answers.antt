use Rattle.r6_exchange.proofs.Exchanges.{received-starts, shard-settled, worker-settled}
use Rattle.r6_exchange.proofs.exchange.Exchange.settle.Goals as goal

pub returns-clause-received : goal.returns-clause-received
returns-clause-received g c =
    received-starts g.D.BlockDevice.told g.D.BlockDevice.promised c.args.self.now c.args.shard.now c.args.worker.now c.hear-2.new.end
    c.acknowledge-received.result c.requires.shard c.acknowledge-received.ensures.acknowledgement.1 c.hear-2.ensures.heard
    c.hear-2.ensures.begins

pub returns-clause-passes : goal.returns-clause-passes
returns-clause-passes g c =
    let told = g.D.BlockDevice.told in
    let promised = g.D.BlockDevice.promised in
    let ex = c.args.self.now in
    let p = c.args.shard.now in
    let q = c.args.worker.now in
    let taken = c.acknowledge-taken.ensures in
    let received = c.acknowledge-received.ensures in (
      shard-settled told promised ex p q c.hear.new.end c.acknowledge-taken.result c.acknowledge-received.new.end c.requires.shard
          c.requires.worker c.hear.ensures.end received.end.0 taken.acknowledgement.1 c.hear.ensures.heard received.end.1
          c.hear.ensures.begins (returns-clause-received g c),
      worker-settled told promised ex q c.acknowledge-taken.new.end c.hear-2.new.end c.acknowledge-received.result c.requires.worker
          taken.end.0 c.hear-2.ensures.end taken.end.1 c.hear-2.ensures.heard,
    )
