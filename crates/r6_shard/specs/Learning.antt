-- What a shard's pass and others learn from each other.
use Rattle.std.specs.Prelude.{◌≡◌}
use Rattle.r6_health.specs.Passes.{view_of}
use Rattle.r6_shard.specs.declared.performs.Performs.{Ghosts}
use Rattle.r6_shard.specs.declared.shard.Shard.{Shard}

-- the shard is as it was, but for what its pass knows
pub record KeepsAllElse {P : Type 0} {g : Ghosts P} (old new : Shard P g) : Type 0 where
  pub core : new.core ≡ old.core
  pub parts : new.parts ≡ old.parts
  pub asked : new.asked.items ≡ old.asked.items
  pub entries : new.entries.items ≡ old.entries.items
  pub room : new.room ≡ old.room
  pub named : new.named ≡ old.named
  pub last : new.last ≡ old.last
  pub saw_out : new.saw_out ≡ old.saw_out

-- the shard is as it was, and its pass knows as much
pub record KeepsAll {P : Type 0} {g : Ghosts P} (old new : Shard P g) : Type 0 where
  pub rest : KeepsAllElse old new
  pub view : view_of new.pass ≡ view_of old.pass
