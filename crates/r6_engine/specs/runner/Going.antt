-- What stays while a shard goes on, with what it took from its list or with nothing more (this project's own).
use Rattle.std.specs.Prelude.{◌≡◌, ℕ, List}
use Rattle.r6_layout.specs.Shape.{Shape}
use Rattle.r6_engine.specs.lists.Events.{Event}
use Rattle.r6_engine.specs.declared.runner.runner.Runner.{Runner}
use Rattle.r6_engine.specs.runner.Counted.{KeepsCounted}
use Rattle.r6_engine.specs.runner.Parts.{KeepsOwn, KeepsParts}
use Rattle.r6_engine.specs.runner.Runners.{GoesOn, GoesOnSame}
use Rattle.r6_engine.specs.runner.Sound.{KeepsPromised, KeepsSound}
use Rattle.r6_engine.specs.runner.Waits.{HasAwaited, KeepsAwaited}
use Rattle.r6_shard.specs.declared.performs.Performs.{Ghosts}

-- the shard went on, and took nothing more
pub record TakesNoMore {P D : Type 0} {g : Ghosts P} (old new : Runner P D g) : Type 0 where
  pub course : GoesOnSame old new
  pub sound : KeepsSound old new
  pub counted : KeepsCounted old new
  pub awaited : KeepsAwaited old new
  pub parts : KeepsParts old new
  pub place : new.shard.core.shard ≡ old.shard.core.shard

-- the shard went on, with what it took from its list
pub record TakesOn {P D : Type 0} {g : Ghosts P} (shape : Shape) (events : List Event) (Sound : (shard slot : ℕ) → Type 0)
    (shard : ℕ) (numbers numbers' : List ℕ) (old new : Runner P D g) : Type 0 where
  pub course : GoesOn shape events shard numbers numbers' old new
  pub counted : KeepsCounted old new
  pub awaited : HasAwaited events old → HasAwaited events new
  pub own : KeepsOwn old new
  pub sound : KeepsPromised shape Sound shard old new
