-- What a shard's thread keeps where its pass and another thread's learn from each other.
use Rattle.std.specs.Prelude.{◌≡◌}
use Rattle.r6_health.specs.Passes.{view_of}
use Rattle.r6_shard.specs.Learning as shards
use Rattle.r6_shard.specs.declared.performs.Performs.{Ghosts}
use Rattle.r6_engine.specs.declared.runner.runner.Runner.{Runner}
use Rattle.r6_engine.specs.runner.Going.{TakesNoMore}
use Rattle.r6_engine.specs.runner.Runners.{IsOver}

-- the shard is as it was but for what its pass knows, and so is what was done
pub record KeepsAllElse {P D : Type 0} {g : Ghosts P} (old new : Runner P D g) : Type 0 where
  pub shard : shards.KeepsAllElse old.shard new.shard
  pub goes : TakesNoMore old new
  pub over : IsOver old → IsOver new

-- and its pass knows as much
pub record KeepsAll {P D : Type 0} {g : Ghosts P} (old new : Runner P D g) : Type 0 where
  pub rest : KeepsAllElse old new
  pub view : view_of new.shard.pass ≡ view_of old.shard.pass
