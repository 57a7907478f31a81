use Rattle.std.proofs.Common.{◌<◌, ◌++◌, ◌∷◌, [], List, length, sym, subst, arith}
use Rattle.r6_exchange.specs.declared.task.WorkerTask.{WorkerTask}
use Rattle.r6_exchange.specs.Deliveries.{HasRoom}
use Rattle.r6_exchange.specs.Exchanges.{sent_by, limit_of}
use Rattle.r6_engine.specs.remote.Lines.{limit_at}
use Rattle.r6_engine.proofs.RemoteLemmas.Lines.{same-length, pass-at, end-at, ends-set, after-send}
use Rattle.r6_engine.proofs.remote.ends.send.Goals as goal

pub index_mut-requires : goal.index_mut-requires
index_mut-requires g c =
    let same = same-length g.D.BlockDevice.told g.D.BlockDevice.promised c.args.exchanges.now c.args.passes.now.items c.requires.ends in
    omega (arith, same)

pub send-requires-clause-pass : goal.send-requires-clause-pass
send-requires-clause-pass g c =
    let same = same-length g.D.BlockDevice.told g.D.BlockDevice.promised c.args.exchanges.now c.args.passes.now.items c.requires.ends in
    end-at g.D.BlockDevice.told g.D.BlockDevice.promised c.args.exchanges.now c.args.passes.now.items c.args.worker c.index-exchanges-worker.result
    c.index_mut.result.now c.requires.ends (omega (arith, same)) (sym c.index-exchanges-worker.is) (sym c.index_mut.ensures.value)

pub send-requires-clause-room : goal.send-requires-clause-room
send-requires-clause-room g c =
    let passes = c.args.passes.now.items in
    let same = same-length g.D.BlockDevice.told g.D.BlockDevice.promised c.args.exchanges.now passes c.requires.ends in
    let below : c.args.worker < length passes = omega (arith, same) in
    subst (λ y. HasRoom y (sent_by c.index_mut.result.now ++ c.args.task ∷ []))
    (pass-at limit_of 0 passes c.args.worker c.index_mut.result.now below (sym c.index_mut.ensures.value))
    (subst (λ (y : List (WorkerTask g.row.D.Denot)). HasRoom (limit_at passes c.args.worker) (y ++ c.args.task ∷ []))
    (pass-at sent_by [] passes c.args.worker c.index_mut.result.now below (sym c.index_mut.ensures.value)) c.requires.room)

pub returns-clause-ends : goal.returns-clause-ends
returns-clause-ends g c =
    let same = same-length g.D.BlockDevice.told g.D.BlockDevice.promised c.args.exchanges.now c.args.passes.now.items c.requires.ends in
    ends-set g.D.BlockDevice.told g.D.BlockDevice.promised c.args.exchanges.now c.args.passes.now.items c.args.worker c.index-exchanges-worker.result
    c.send.new.pass c.requires.ends (omega (arith, same)) (sym c.index-exchanges-worker.is) c.send.ensures.pass

pub returns-clause-sent : goal.returns-clause-sent
returns-clause-sent g c =
    let same = same-length g.D.BlockDevice.told g.D.BlockDevice.promised c.args.exchanges.now c.args.passes.now.items c.requires.ends in
    after-send c.args.passes.now.items c.args.worker c.index_mut.result.now c.send.new.pass (omega (arith, same)) (sym c.index_mut.ensures.value)
    c.args.task c.send.result c.send.ensures.received c.send.ensures.limit c.send.ensures.sent
