use Rattle.std.proofs.Common.{◌≡◌, ◌+◌, ◌≤◌, All, drop, length, reverse, vec_capacity}
use Rattle.std.specs.List.{AllZip}
use Rattle.r6_engine.specs.Crews.{StandsAt, exchanges_at}
use Rattle.r6_engine.specs.Ledgers.{AreBack, IsLedgerOf, IsPage}
use Rattle.r6_engine.specs.Replies.{said_by_all, with_all}
use Rattle.r6_engine.proofs.handback.hand_back.Given as goal

abbrev pub invariant-loop-runner : goal.invariant-loop-runner
invariant-loop-runner g l =
    (goal.iterator-loop-runner g).can_next l.runner-iterator × (goal.iterator-loop-runner g).is_finite l.runner-iterator × record {
      said : l.replies.replies.items ≡ with_all l.fn.replies.replies.items (said_by_all l.yielded);
      ledgers : AllZip IsLedgerOf l.yielded l.back.ledgers.items;
      devices : AllZip (AreBack g.D.BlockDevice.told) l.yielded l.back.devices.items;
      pages : All (IsPage l.fn.room) l.pages.items;
      posts : AllZip (StandsAt g.D.BlockDevice.told g.D.BlockDevice.promised)
          (exchanges_at (drop (length l.yielded) l.fn.posting.sites.now)) (reverse l.posts.items);
      as_many : length l.pages.items + length l.yielded ≡ length l.fn.runners.items;
      ledgers_room : length l.fn.runners.items ≤ vec_capacity l.back.ledgers;
      devices_room : length l.fn.runners.items ≤ vec_capacity l.back.devices;
    }
