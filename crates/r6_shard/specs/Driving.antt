-- What a shard's thread does of commands and calls, one at a time (this project's own).
use Rattle.std.specs.Prelude.{◌≡◌, ◌⊎◌, Bool, true, false, is_err}
use Rattle.r6_health.specs.Passes.{view_of}
use Rattle.r6_health.specs.Views.{Answered}
use Rattle.r6_world.specs.Registers.{Told}
use Rattle.r6_world.specs.Worlds.{as_made}
use Rattle.r6_world.specs.declared.values.Command.{Command}
use Rattle.r6_world.specs.declared.values.Receipt.{Receipt}
use Rattle.r6_core.specs.declared.call.Call.{Call}
use Rattle.r6_core.specs.Shards.{CoreView, call_of, world_shard}
use Rattle.r6_core.specs.Effects as core
use Rattle.r6_core.specs.Effects.{HandsCall, HandsCommand, Hears, IsOldestUntaken, KeepsRequests}
use Rattle.r6_exchange.specs.declared.completion.Completion.{Completion}
use Rattle.r6_shard.specs.declared.performs.Performs.{Ghosts}
use Rattle.r6_shard.specs.declared.shard.Shard.{Shard}
use Rattle.r6_shard.specs.Advances.{Advances}
use Rattle.r6_shard.specs.Kept.{AllAreTaken, named_by}
use Rattle.r6_shard.specs.Performing.{Receives, having_sent}
use Rattle.r6_shard.specs.Shards.{SameLedger}

-- nothing was sent, delivered or told: the shard is as it was, with its requests, and so is what its parts have and do
pub record DoesNothing {P : Type 0} {g : Ghosts P} (old new : Shard P g) : Type 0 where
  pub shard : world_shard new.core ≡ world_shard old.core
  pub requests : KeepsRequests old.core new.core
  pub performer : g.performer new.parts ≡ g.performer old.parts
  pub pass : new.pass ≡ old.pass
  pub named : new.named ≡ old.named
  pub last : new.last ≡ old.last
  pub saw_out : new.saw_out ≡ old.saw_out
  pub ledger : SameLedger old new

-- ---- commands

-- the command that was put out first was taken from the core and is out now, and no other
pub record SendsFirst {P : Type 0} {g : Ghosts P} (old new : Shard P g) : Type 0 where
  pub command : Command
  pub handed : HandsCommand old.core command new.core
  pub first : IsOldestUntaken old.core command.token
  pub sent : g.performer new.parts ≡ having_sent (g.performer old.parts) command
  pub requests : KeepsRequests old.core new.core
  pub saw_out : new.saw_out ≡ old.saw_out

-- no command is left that was put out, or there is no room to send one
abbrev pub NoneToSend : {P : Type 0} {g : Ghosts P} → Shard P g → Type 0
NoneToSend {g = g} shard = AllAreTaken (world_shard shard.core) ⊎ (g.has_room shard.parts ≡ false)

-- a command was sent; or none was, as none was left to send
abbrev pub SendsNext : {P : Type 0} {g : Ghosts P} → Bool → (old new : Shard P g) → Type 0
SendsNext true old new = SendsFirst old new
SendsNext false old new = DoesNothing old new × NoneToSend new

-- a command that was out was answered, the core took its completion, and its slot is named if it failed without having
-- been abandoned
pub record DeliversOne {P : Type 0} {g : Ghosts P} (old new : Shard P g) : Type 0 where
  pub completion : Completion
  pub receipt : Receipt
  pub came : Receives (g.performer old.parts) (g.performer new.parts) completion
  pub delivered : core.Receives old.core completion.token completion.result receipt new.core
  pub named : new.named ≡ named_by (is_err completion.result) receipt completion.slot old.named
  pub saw_out : new.saw_out ≡ old.saw_out

-- a completion was delivered; or none came
abbrev pub ReceivesNext : {P : Type 0} {g : Ghosts P} → Bool → (old new : Shard P g) → Type 0
ReceivesNext true old new = DeliversOne old new
ReceivesNext false old new = DoesNothing old new

-- at some time in between no command was left to send
pub record SendsAll {P : Type 0} {g : Ghosts P} (old new : Shard P g) : Type 0 where
  pub between : Shard P g
  pub before : Advances old between
  pub none : NoneToSend between
  pub since : Advances between new

-- a command was sent, or where none was left to send a completion was delivered; or neither
abbrev pub PerformsNext : {P : Type 0} {g : Ghosts P} → Bool → (old new : Shard P g) → Type 0
PerformsNext {P = P} {g = g} true old new =
    SendsFirst old new ⊎ ((between : Shard P g) × SendsNext false old between × DeliversOne between new)
PerformsNext false old new = SendsAll old new

-- ---- calls at the register

-- the call that was to be made next was taken from the core and made, and the core heard the answer
pub record MakesCall {P : Type 0} {g : Ghosts P} (old new : Shard P g) : Type 0 where
  pub call : Call
  pub answer : Told
  pub between : CoreView
  pub handed : HandsCall old.core call between
  pub answered : Answered (view_of old.pass) (as_made old.number (call_of call)) answer (view_of new.pass)
  pub heard : Hears between call answer new.core
  pub requests : KeepsRequests old.core new.core
  pub parts : new.parts ≡ old.parts
  pub saw_out : new.saw_out ≡ old.saw_out

-- a call was made; or there was none
abbrev pub TellsNext : {P : Type 0} {g : Ghosts P} → Bool → (old new : Shard P g) → Type 0
TellsNext true old new = MakesCall old new
TellsNext false old new = DoesNothing old new
