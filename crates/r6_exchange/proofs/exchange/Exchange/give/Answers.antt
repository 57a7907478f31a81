use Rattle.r6_exchange.proofs.Exchanges.{delivery-ready, worker-gave, given-full}
use Rattle.r6_exchange.proofs.exchange.Exchange.give.Goals as goal

pub push-requires-clause-admitted : goal.push-requires-clause-admitted
push-requires-clause-admitted g c =
    delivery-ready g.D.BlockDevice.told g.D.BlockDevice.promised c.args.self.now c.args.pass.now
    c.acknowledge-acknowledgement.result c.args.completion c.requires.pass
    c.acknowledge-acknowledgement.ensures.acknowledgement.0 c.acknowledge-acknowledgement.ensures.acknowledgement.1
    c.requires.honest

pub returns-in-Ok-clause-pass : goal.returns-in-Ok-clause-pass
returns-in-Ok-clause-pass g c =
    let told = g.D.BlockDevice.told in
    let promised = g.D.BlockDevice.promised in
    let ex = c.args.self.now in
    let p = c.args.pass.now in
    let said = c.acknowledge-acknowledgement.ensures in
    worker-gave told promised ex p c.acknowledge-acknowledgement.new.end c.push.new.end
    (record { completion = c.args.completion; acknowledgement = c.acknowledge-acknowledgement.result }) c.requires.pass
    said.end.0 c.push.ensures.end said.end.1 c.in-Ok.ensures.pushed
    (delivery-ready told promised ex p c.acknowledge-acknowledgement.result c.args.completion c.requires.pass
    said.acknowledgement.0 said.acknowledgement.1 c.requires.honest)
    c.requires.honest

pub returns-in-Err-clause-full : goal.returns-in-Err-clause-full
returns-in-Err-clause-full g c =
    given-full g.D.BlockDevice.told g.D.BlockDevice.promised c.args.self.now c.args.pass.now c.in-Err.ensures.full
