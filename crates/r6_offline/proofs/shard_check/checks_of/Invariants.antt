use Rattle.std.proofs.Common.{◌≡◌, ◌≤◌, length, vec_capacity}
use Rattle.r6_offline.specs.ShardChecks.{AreShardChecks}
use Rattle.r6_offline.proofs.shard_check.checks_of.Given as goal

abbrev pub invariant-loop-shard : goal.invariant-loop-shard
invariant-loop-shard g l = record {
  count : length l.checks.items ≡ l.shard;
  each : AreShardChecks l.geometry 0 l.checks.items;
  room : l.geometry.shards ≤ vec_capacity l.checks;
}
