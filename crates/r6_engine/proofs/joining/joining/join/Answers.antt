use Rattle.std.proofs.Common.{◌<◌, ◌++◌, [], length, sym, subst, arith, IsPermutation}
use Rattle.r6_exchange.specs.Answering.{labels_in, labels_of}
use Rattle.r6_exchange.specs.Exchanges.{sent_by, received_by}
use Rattle.r6_engine.specs.remote.Lines.{sent_to, received_from}
use Rattle.r6_engine.proofs.RemoteLemmas.Lines.{same-length, pass-at, end-at, ends-set}
use Rattle.r6_engine.proofs.JoiningLemmas.Meeting.{same-said, worker-at, met}
use Rattle.r6_engine.proofs.joining.joining.join.Goals as goal

pub index_mut-requires : goal.index_mut-requires
index_mut-requires g c =
    let same = same-length g.D.BlockDevice.told g.D.BlockDevice.promised c.args.exchanges.now c.args.passes.now.items c.requires.ends in
    omega (arith, same)

pub settle-requires-clause-shard : goal.settle-requires-clause-shard
settle-requires-clause-shard g c =
    let same = same-length g.D.BlockDevice.told g.D.BlockDevice.promised c.args.exchanges.now c.args.passes.now.items c.requires.ends in
    end-at g.D.BlockDevice.told g.D.BlockDevice.promised c.args.exchanges.now c.args.passes.now.items c.args.at c.index-exchanges-at.result
    c.index_mut.result.now c.requires.ends (omega (arith, same)) (sym c.index-exchanges-at.is) (sym c.index_mut.ensures.value)

pub settle-requires-clause-worker : goal.settle-requires-clause-worker
settle-requires-clause-worker g c =
    (worker-at g.D.BlockDevice.told g.D.BlockDevice.promised c.args.exchanges.now c.args.at c.index-exchanges-at.result c.args.worker
    c.requires.worker c.requires.within (sym c.index-exchanges-at.is)).0.pass

pub returns-clause-ends : goal.returns-clause-ends
returns-clause-ends g c =
    let same = same-length g.D.BlockDevice.told g.D.BlockDevice.promised c.args.exchanges.now c.args.passes.now.items c.requires.ends in
    ends-set g.D.BlockDevice.told g.D.BlockDevice.promised c.args.exchanges.now c.args.passes.now.items c.args.at c.index-exchanges-at.result
    c.settle.new.shard c.requires.ends (omega (arith, same)) (sym c.index-exchanges-at.is) c.settle.ensures.passes.0

pub returns-clause-sent : goal.returns-clause-sent
returns-clause-sent g c =
    let same = same-length g.D.BlockDevice.told g.D.BlockDevice.promised c.args.exchanges.now c.args.passes.now.items c.requires.ends in
    same-said sent_by [] c.args.passes.now.items c.args.at c.index_mut.result.now c.settle.new.shard (omega (arith, same))
    (sym c.index_mut.ensures.value) c.settle.ensures.shard.0

pub returns-clause-received : goal.returns-clause-received
returns-clause-received g c =
    let same = same-length g.D.BlockDevice.told g.D.BlockDevice.promised c.args.exchanges.now c.args.passes.now.items c.requires.ends in
    same-said received_by [] c.args.passes.now.items c.args.at c.index_mut.result.now c.settle.new.shard (omega (arith, same))
    (sym c.index_mut.ensures.value) c.settle.ensures.shard.1

pub returns-clause-holds : goal.returns-clause-holds
returns-clause-holds g c =
    let told = g.D.BlockDevice.told in
    let promised = g.D.BlockDevice.promised in
    let passes = c.args.passes.now.items in
    let at = c.args.at in
    let same = same-length told promised c.args.exchanges.now passes c.requires.ends in
    let below : at < length passes = omega (arith, same) in
    (met told promised c.index-exchanges-at.result c.index_mut.result.now c.args.worker (sent_to passes at) (received_from passes at)
    (sym (pass-at sent_by [] passes at c.index_mut.result.now below (sym c.index_mut.ensures.value)))
    (sym (pass-at received_by [] passes at c.index_mut.result.now below (sym c.index_mut.ensures.value)))
    (worker-at told promised c.args.exchanges.now at c.index-exchanges-at.result c.args.worker c.requires.worker c.requires.within
    (sym c.index-exchanges-at.is))
    c.requires.ended c.requires.answered c.settle.ensures.taken c.settle.ensures.received).holds

pub returns-clause-labels : goal.returns-clause-labels
returns-clause-labels g c =
    let told = g.D.BlockDevice.told in
    let promised = g.D.BlockDevice.promised in
    let passes = c.args.passes.now.items in
    let at = c.args.at in
    let same = same-length told promised c.args.exchanges.now passes c.requires.ends in
    let below : at < length passes = omega (arith, same) in
    let worker = worker-at told promised c.args.exchanges.now at c.index-exchanges-at.result c.args.worker c.requires.worker c.requires.within
    (sym c.index-exchanges-at.is) in
    subst (λ tasks. IsPermutation (labels_in tasks) (labels_of c.args.worker.parts.items ++ labels_of c.args.worker.replaced.items))
    (met told promised c.index-exchanges-at.result c.index_mut.result.now c.args.worker (sent_to passes at) (received_from passes at)
    (sym (pass-at sent_by [] passes at c.index_mut.result.now below (sym c.index_mut.ensures.value)))
    (sym (pass-at received_by [] passes at c.index_mut.result.now below (sym c.index_mut.ensures.value)))
    worker c.requires.ended c.requires.answered c.settle.ensures.taken c.settle.ensures.received).took_all
    worker.0.labels
