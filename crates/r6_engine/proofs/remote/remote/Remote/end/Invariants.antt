use Rattle.std.proofs.Common.{◌≡◌, length}
use Rattle.r6_engine.specs.remote.Lines.{lines_of}
use Rattle.r6_engine.specs.remote.Remotes.{AreShardPasses, performer_of}
use Rattle.r6_engine.proofs.RemoteLemmas.Ending.{HasEndedBelow}
use Rattle.r6_engine.proofs.remote.remote.Remote.end.Given as goal

abbrev pub invariant-loop-worker : goal.invariant-loop-worker
invariant-loop-worker g l =
    record {
      ends : AreShardPasses g.D.BlockDevice.told g.D.BlockDevice.promised l.self.exchanges.now l.self.passes.items;
      ended : HasEndedBelow l.worker (lines_of l.fn.self.passes.items) (lines_of l.self.passes.items);
      performer : performer_of g.D.BlockDevice.told g.D.BlockDevice.promised l.self ≡ performer_of g.D.BlockDevice.told g.D.BlockDevice.promised l.fn.self;
      site : l.self.exchanges.now ≡ l.fn.self.exchanges.now;
      until : l.worker-end ≡ length l.fn.self.passes.items;
    }
