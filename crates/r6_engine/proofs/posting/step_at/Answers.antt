use Rattle.std.proofs.Common.{arith, subst, sym}
use Rattle.std.proofs.lemmas.Slice.Zip.{AllZip-long}
use Rattle.std.specs.Prelude.{slice_index_or}
use Rattle.r6_exchange.specs.Workers.{IsWorker}
use Rattle.r6_engine.proofs.Crews.{zip-at, zip-put}
use Rattle.r6_engine.proofs.posting.step_at.Goals as goal

pub index_mut-requires : goal.index_mut-requires
index_mut-requires g c =
    let long = AllZip-long (IsWorker g.D.BlockDevice.told g.D.BlockDevice.promised) c.args.exchanges.now c.args.workers.now.items c.requires.workers in
    let len = c.args.workers.now.ok.0 in
    let within = c.requires.within in
    omega (arith, long, len, within)

pub step-requires : goal.step-requires
step-requires g c =
    let told = g.D.BlockDevice.told in
    let promised = g.D.BlockDevice.promised in
    let exchanges = c.args.exchanges.now in
    let at = c.args.at in
    subst (λ e. IsWorker told promised e c.index_mut.result.now) (sym c.index-exchanges-at.is)
    (subst (IsWorker told promised (slice_index_or exchanges at c.index-exchanges-at.result)) (sym c.index_mut.ensures.value)
    (zip-at (IsWorker told promised) exchanges c.args.workers.now.items at c.index-exchanges-at.result c.index_mut.result.now c.requires.workers
    c.requires.within))

pub returns : goal.returns
returns g c = record {
  workers = zip-put (IsWorker g.D.BlockDevice.told g.D.BlockDevice.promised) c.args.exchanges.now c.args.workers.now.items c.args.at
      c.index-exchanges-at.result c.step.new.self c.requires.workers c.requires.within
      (subst (λ e. IsWorker g.D.BlockDevice.told g.D.BlockDevice.promised e c.step.new.self) c.index-exchanges-at.is c.step.ensures.worker);
}
