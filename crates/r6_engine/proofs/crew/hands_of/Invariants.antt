use Rattle.std.proofs.Common.{◌≡◌, ◌≤◌, length, vec_capacity}
use Rattle.std.specs.List.{AllZip}
use Rattle.r6_exchange.specs.Workers.{IsWorker}
use Rattle.r6_engine.specs.remote.Remotes.{AreFresh, AreShardPasses}
use Rattle.r6_engine.proofs.crew.hands_of.Given as goal

abbrev pub invariant-loop-number : goal.invariant-loop-number
invariant-loop-number g l = record {
  ends : AreShardPasses g.D.BlockDevice.told g.D.BlockDevice.promised l.exchanges.items l.ends.items;
  fresh : AreFresh l.fn.room l.ends.items;
  workers : AllZip (IsWorker g.D.BlockDevice.told g.D.BlockDevice.promised) l.exchanges.items l.workers.items;
  as_many : length l.exchanges.items ≡ l.number;
  exchanges_room : l.fn.config.workers ≤ vec_capacity l.exchanges;
  ends_room : l.fn.config.workers ≤ vec_capacity l.ends;
  workers_room : l.fn.config.workers ≤ vec_capacity l.workers;
}
