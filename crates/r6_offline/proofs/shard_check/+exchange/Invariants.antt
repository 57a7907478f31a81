use Rattle.std.proofs.Common.{length}
use Rattle.r6_offline.proofs.shard_check.+exchange.Given as goal

abbrev pub decreases-exchange : goal.decreases-exchange
decreases-exchange g l = length l.checks.now
