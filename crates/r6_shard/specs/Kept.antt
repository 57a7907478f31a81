-- What a shard keeps between its calls.
use Rattle.std.specs.Prelude.{◌≡◌, ◌≢◌, ℕ, ◌<◌, ◌≤◌, Bool, true, false, List, [], length, slice_index_or, slice_set, Option, Some, None}
use Rattle.r6_layout.specs.Shape.{Shape}
use Rattle.r6_world.specs.Geometries.{layout_of}
use Rattle.r6_world.specs.Layouts.{Layout, IsRowOf}
use Rattle.r6_world.specs.ShardStates as world
use Rattle.r6_world.specs.ShardStates.{Shard, Request, LossOf}
use Rattle.r6_world.specs.declared.values.Command.{Command}
use Rattle.r6_world.specs.Refusals.{IsToTell, IsInError}
use Rattle.r6_world.specs.declared.values.Receipt.{Receipt}
use Rattle.r6_world.specs.declared.values.Receipt.TheVariants.{Taken, Late}
use Rattle.r6_core.specs.Shards.{CoreView, core_layout, world_shard}

-- requests have the numbers below the count, as many as were accepted
abbrev pub AreNumbered : Shard → (count : ℕ) → Type 0
AreNumbered shard count =
    (shard.accepted ≡ count) × ((id : ℕ) (request : Request) → shard.request id ≡ Some request → id < count)

-- a command that is out was taken and isn't answered: it goes where the core has it, to a row of the shard, with a block
pub record IsOut (shape : Shape) (number : ℕ) (command : ℕ → Option world.Command) (token : ℕ) (c : Command)
    : Type 0 where
  pub there : command token ≢ None
  pub same : (d : world.Command) → command token ≡ Some d
      → (d.taken ≡ true) × (d.slot ≡ c.slot) × (d.generation ≡ c.generation)
  pub slot : c.slot < shape.slots
  pub row : IsRowOf (layout_of shape) number c.row
  pub block : length c.buffer ≡ shape.block

-- of a core's commands those are out that were taken, and no others; and all have numbers below the next
pub record AreOut (shape : Shape) (number : ℕ) (command : ℕ → Option world.Command) (next : ℕ)
    (out : ℕ → Option Command) : Type 0 where
  pub each : (token : ℕ) (c : Command) → out token ≡ Some c → IsOut shape number command token c
  pub all : (token : ℕ) (d : world.Command) → command token ≡ Some d → d.taken ≡ true → out token ≢ None
  pub tokens : (token : ℕ) (d : world.Command) → command token ≡ Some d → token < next

-- no command is left that was put out and not taken
abbrev pub AllAreTaken : Shard → Type 0
AllAreTaken shard = (token : ℕ) (d : world.Command) → shard.command token ≡ Some d → d.taken ≡ true

-- every call that was taken was told
abbrev pub NoneIsUntold : Shard → Type 0
NoneIsUntold shard = shard.untold ≡ None

-- each loss that the shard has to declare is of a named slot
abbrev pub AreNamed : Shard → (named : List Bool) → Type 0
AreNamed shard named =
    (slot generation : ℕ) → IsToTell shard (LossOf slot generation) → slice_index_or named slot false ≡ true

-- each slot on which a hold has a read error to fix is named, since that hold may come to lose it
abbrev pub AreErrorsNamed : Layout → Shard → (named : List Bool) → Type 0
AreErrorsNamed l shard named = (slot : ℕ) → IsInError l shard slot → slice_index_or named slot false ≡ true

-- the slot of a command that failed and wasn't abandoned is named, that of a read error too
abbrev pub named_by : (failed : Bool) → Receipt → (slot : ℕ) → List Bool → List Bool
named_by true Taken slot named = slice_set named slot true
named_by true Late slot named = named
named_by false receipt slot named = named

-- what a core of this number keeps with these commands out, which accepted so many requests
abbrev pub IsKept : CoreView → (out : ℕ → Option Command) → (number : ℕ) → (named : List Bool) → (count : ℕ) → Type 0
IsKept core out number named count =
    (number ≡ core.shard)
    × (core.shape.slots ≤ 32)
    × AreNumbered (world_shard core) count
    × AreOut core.shape core.shard (world_shard core).command (world_shard core).tokens out
    × NoneIsUntold (world_shard core)
    × AreNamed (world_shard core) named
    × (length named ≡ 32)
    × AreErrorsNamed (core_layout core) (world_shard core) named

-- no command is out
abbrev pub NoneIsOut : Shard → Type 0
NoneIsOut shard = (token : ℕ) → shard.command token ≡ None

-- no call is to be made at the register
abbrev pub NoneIsToTell : Shard → Type 0
NoneIsToTell shard = (shard.calls ≡ []) × (shard.untold ≡ None)
