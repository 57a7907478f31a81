use Rattle.std.proofs.Common.{◌≡◌, length}
use Rattle.r6_engine.specs.remote.Remotes.{IsRemote, performer_of}
use Rattle.r6_engine.proofs.remote.performing.RemotePerforms.receive.Given as goal

abbrev pub invariant-loop : goal.invariant-loop
invariant-loop g l =
    record {
      remote : IsRemote g.D.BlockDevice.told g.D.BlockDevice.promised l.self;
      performer : performer_of g.D.BlockDevice.told g.D.BlockDevice.promised l.self ≡ performer_of g.D.BlockDevice.told g.D.BlockDevice.promised l.fn.self;
      site : l.self.exchanges.now ≡ l.fn.self.exchanges.now;
      workers : l.workers ≡ length l.self.passes.items;
    }
