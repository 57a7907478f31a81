use Rattle.std.proofs.Common.{◌≡◌, ◌+◌, ◌++◌, List, length, take, vec_capacity}
use Rattle.std.specs.List.{AllZip}
use Rattle.r6_exchange.specs.declared.exchange.Exchange.{Exchange}
use Rattle.r6_engine.specs.Crews.{StandsAt}
use Rattle.r6_engine.proofs.post.post_all.Given as goal

abbrev pub invariant-loop-worker : goal.invariant-loop-worker
invariant-loop-worker g l =
    (goal.iterator-loop-worker g).can_next l.worker-iterator × (goal.iterator-loop-worker g).is_finite l.worker-iterator × record {
      posts : (before : List (Exchange _)) → AllZip (StandsAt g.D.BlockDevice.told g.D.BlockDevice.promised) before l.fn.posts.items
          → AllZip (StandsAt g.D.BlockDevice.told g.D.BlockDevice.promised)
          (before ++ take (length l.yielded) l.fn.site.exchanges.items) l.posts.items;
      many : length l.posts.items ≡ length l.fn.posts.items + length l.yielded;
      room : vec_capacity l.posts ≡ vec_capacity l.fn.posts;
    }
