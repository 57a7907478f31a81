use Rattle.std.proofs.Common.{sym, arith}
use Rattle.r6_engine.proofs.RemoteLemmas.Lines.{same-length, end-at, ends-set, after-receive}
use Rattle.r6_engine.proofs.remote.ends.receive.Goals as goal

pub index_mut-requires : goal.index_mut-requires
index_mut-requires g c =
    let same = same-length g.D.BlockDevice.told g.D.BlockDevice.promised c.args.exchanges.now c.args.passes.now.items c.requires.ends in
    omega (arith, same)

pub receive-requires : goal.receive-requires
receive-requires g c =
    let same = same-length g.D.BlockDevice.told g.D.BlockDevice.promised c.args.exchanges.now c.args.passes.now.items c.requires.ends in
    end-at g.D.BlockDevice.told g.D.BlockDevice.promised c.args.exchanges.now c.args.passes.now.items c.args.worker c.index-exchanges-worker.result
    c.index_mut.result.now c.requires.ends (omega (arith, same)) (sym c.index-exchanges-worker.is) (sym c.index_mut.ensures.value)

pub returns-clause-ends : goal.returns-clause-ends
returns-clause-ends g c =
    let same = same-length g.D.BlockDevice.told g.D.BlockDevice.promised c.args.exchanges.now c.args.passes.now.items c.requires.ends in
    ends-set g.D.BlockDevice.told g.D.BlockDevice.promised c.args.exchanges.now c.args.passes.now.items c.args.worker c.index-exchanges-worker.result
    c.receive.new.pass c.requires.ends (omega (arith, same)) (sym c.index-exchanges-worker.is) c.receive.ensures.pass

pub returns-clause-received : goal.returns-clause-received
returns-clause-received g c =
    let same = same-length g.D.BlockDevice.told g.D.BlockDevice.promised c.args.exchanges.now c.args.passes.now.items c.requires.ends in
    after-receive c.args.passes.now.items c.args.worker c.index_mut.result.now c.receive.new.pass (omega (arith, same)) (sym c.index_mut.ensures.value)
    c.receive.result c.receive.ensures.sent c.receive.ensures.limit c.receive.ensures.received
