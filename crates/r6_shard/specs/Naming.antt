-- When the ledger of a shard names a slot (this project's own).
use Rattle.std.specs.Prelude.{◌≡◌, ℕ, ◌⊎◌, true, Some, slice_set}
use Rattle.r6_world.specs.Steps.{Deliver, Taken}
use Rattle.r6_world.specs.Values.{error_of}
use Rattle.r6_world.specs.declared.values.Command.{Command}
use Rattle.r6_world.specs.declared.values.DeviceFault.{DeviceFault}
use Rattle.r6_core.specs.Shards.{Step}
use Rattle.r6_shard.specs.declared.performs.Performs.{Ghosts}
use Rattle.r6_shard.specs.declared.shard.Shard.{Shard}
use Rattle.r6_shard.specs.Performing.{Failed}

-- The part of a command that was out answered it by a fault, and the core took the error, a read error too, as it takes
-- none of a command that was abandoned: now its slot is named
pub record NamesFailed {P : Type 0} {g : Ghosts P} (old new : Shard P g) : Type 0 where
  pub token : ℕ
  pub command : Command
  pub fault : DeviceFault
  pub was_out : (g.performer old.parts).out token ≡ Some command
  pub failed : Failed (g.performer old.parts).tells (g.performer new.parts).tells command fault
  pub taken : Step old.core (Deliver token (error_of fault.kind) Taken) new.core
  pub named : new.named ≡ slice_set old.named command.slot true

-- no slot is named but one of which a command failed so
abbrev pub NamesFailures : {P : Type 0} {g : Ghosts P} → (old new : Shard P g) → Type 0
NamesFailures old new = (new.named ≡ old.named) ⊎ NamesFailed old new
