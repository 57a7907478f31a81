use Rattle.std.proofs.Common.{◌≡◌, ◌≤◌, ◌++◌, List, length, drop, reverse, vec_capacity}
use Rattle.std.specs.List.{AllZip}
use Rattle.r6_exchange.specs.declared.exchange.Exchange.{Exchange}
use Rattle.r6_engine.specs.joining.Crews.{AreWorkers}
use Rattle.r6_engine.specs.Crews.{StandsAt}
use Rattle.r6_engine.proofs.post.next_workers.Given as goal

abbrev pub invariant-loop : goal.invariant-loop
invariant-loop g l = record {
  posts : (others : List (Exchange _)) → AllZip (StandsAt g.D.BlockDevice.told g.D.BlockDevice.promised)
      (l.fn.site.exchanges.items ++ others) (reverse l.fn.posts.items)
      → AllZip (StandsAt g.D.BlockDevice.told g.D.BlockDevice.promised) (drop l.counter l.fn.site.exchanges.items ++ others)
      (reverse l.posts.items);
  workers : AreWorkers g.D.BlockDevice.told g.D.BlockDevice.promised l.fn.site.exchanges.items l.workers.items;
  many : length l.workers.items ≡ l.counter;
  room : length l.fn.site.exchanges.items ≤ vec_capacity l.workers;
}
