use Rattle.r6_exchange.proofs.Deliveries.{delivery-rule}
use Rattle.r6_exchange.proofs.Exchanges.{heard-at, shard-received}
use Rattle.r6_exchange.proofs.exchange.Exchange.receive.Goals as goal

pub pop-requires-clause-lawful : goal.pop-requires-clause-lawful
pop-requires-clause-lawful g c = delivery-rule g.D.BlockDevice.told g.D.BlockDevice.promised

pub hear-requires-clause-acknowledgement : goal.hear-requires-clause-acknowledgement
hear-requires-clause-acknowledgement g c =
    heard-at g.D.BlockDevice.told g.D.BlockDevice.promised c.args.self.now c.args.pass.now c.pop.new.end
    c.in_ok-completion.field-0 c.requires c.in_ok-completion.ensures.popped c.in_ok-completion.ensures.admitted

pub returns-clause-pass : goal.returns-clause-pass
returns-clause-pass g c =
    shard-received g.D.BlockDevice.told g.D.BlockDevice.promised c.args.self.now c.args.pass.now c.hear.new.end c.pop.new.end
    c.in_ok-completion.field-0 c.requires c.hear.ensures.end c.pop.ensures.end
    c.hear.ensures.heard c.in_ok-completion.ensures.popped c.in_ok-completion.ensures.admitted c.hear.ensures.begins
