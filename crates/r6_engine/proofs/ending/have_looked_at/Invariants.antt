use Rattle.std.proofs.Common.{◌≡◌}
use Rattle.r6_engine.proofs.EachShard.{AllBelow}
use Rattle.r6_engine.proofs.ending.have_looked_at.Given as goal

abbrev pub invariant-loop-runner : goal.invariant-loop-runner
invariant-loop-runner g l = AllBelow l.runner-index (λ runner. runner.shard.last ≡ l.snapshot) l.runners
