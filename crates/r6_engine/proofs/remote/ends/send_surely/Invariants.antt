use Rattle.std.proofs.Common.{◌≡◌}
use Rattle.r6_engine.specs.remote.Lines.{lines_of}
use Rattle.r6_engine.specs.remote.Remotes.{AreShardPasses}
use Rattle.r6_engine.proofs.remote.ends.send_surely.Given as goal

abbrev pub invariant-loop : goal.invariant-loop
invariant-loop g l =
    (goal.iterator-loop g).can_next l.iterator' × (goal.iterator-loop g).is_finite l.iterator'
    × record {
      ends : AreShardPasses g.D.BlockDevice.told g.D.BlockDevice.promised l.exchanges l.passes.items;
      lines : lines_of l.passes.items ≡ lines_of l.fn.passes.items;
      same : l.task ≡ l.fn.task;
    }
