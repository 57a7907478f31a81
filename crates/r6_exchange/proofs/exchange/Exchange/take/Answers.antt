use Rattle.r6_exchange.proofs.Deliveries.{task-rule}
use Rattle.r6_exchange.proofs.Exchanges.{worker-popped}
use Rattle.r6_exchange.proofs.exchange.Exchange.take.Goals as goal

pub pop-requires-clause-lawful : goal.pop-requires-clause-lawful
pop-requires-clause-lawful g c = task-rule g.row.D.Denot

pub returns-clause-pass : goal.returns-clause-pass
returns-clause-pass g c =
    worker-popped g.D.BlockDevice.told g.D.BlockDevice.promised c.args.self.now c.args.pass.now c.pop.new.end c.pop.result
    c.requires c.pop.ensures.end c.pop.ensures.popped c.pop.ensures.admitted
