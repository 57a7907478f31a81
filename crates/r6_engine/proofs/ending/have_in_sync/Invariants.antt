use Rattle.r6_engine.specs.Ending.{HasInSync}
use Rattle.r6_engine.proofs.EachShard.{AllBelow}
use Rattle.r6_engine.proofs.ending.have_in_sync.Given as goal

abbrev pub invariant-loop-runner : goal.invariant-loop-runner
invariant-loop-runner g l = AllBelow l.runner-index (λ runner. HasInSync l.slots l.snapshot runner.shard.core) l.runners
