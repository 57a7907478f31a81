use Rattle.std.proofs.Common.{◌≡◌, vec_capacity}
use Rattle.r6_exchange.specs.Exchanges.{sent_by, limit_of}
use Rattle.r6_exchange.specs.Joins.{IsCollecting}
use Rattle.r6_exchange.proofs.threads.send.Given as goal

abbrev pub invariant-loop : goal.invariant-loop
invariant-loop g l =
    (goal.iterator-loop g).can_next l.iterator' × (goal.iterator-loop g).is_finite l.iterator'
    × record {
      collecting : IsCollecting g.D.BlockDevice.told g.D.BlockDevice.promised l.exchange l.count l.pass l.completions.items (vec_capacity l.completions);
      sent : sent_by l.pass ≡ sent_by l.fn.pass;
      limit : limit_of l.pass ≡ limit_of l.fn.pass;
      same : l.task ≡ l.fn.task;
    }
