use Rattle.std.proofs.Common.{◌≡◌, ◌++◌, length, vec_capacity}
use Rattle.r6_exchange.specs.Deliveries.{HasRoom}
use Rattle.r6_exchange.specs.Exchanges.{sent_by, limit_of}
use Rattle.r6_exchange.specs.Joins.{IsCollecting}
use Rattle.r6_exchange.proofs.threads.send_all.Given as goal

abbrev pub invariant-loop-task : goal.invariant-loop-task
invariant-loop-task g l = record {
  collecting : IsCollecting g.D.BlockDevice.told g.D.BlockDevice.promised l.exchange l.count l.pass l.completions.items (vec_capacity l.completions);
  all : sent_by l.pass ++ l.tasks.items ≡ sent_by l.fn.pass ++ l.fn.tasks.items;
  limit : limit_of l.pass ≡ limit_of l.fn.pass;
  room : HasRoom (limit_of l.pass) (sent_by l.pass ++ l.tasks.items);
}

abbrev pub decreases-loop-task : goal.decreases-loop-task
decreases-loop-task g l = length l.tasks.items
