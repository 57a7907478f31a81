-- The shards and the register of an array in memory as it begins. This is the project's own.
use Rattle.std.specs.Prelude.{◌≡◌, ℕ, List, length}
use Rattle.indexmap.specs.IndexMap.{IsEmpty}
use Rattle.r6_layout.specs.Shape.{Shape}
use Rattle.r6_health.specs.Histories.{start_losing}
use Rattle.r6_health.specs.Passes.{view_of}
use Rattle.r6_health.specs.Registers.{starting}
use Rattle.r6_health.specs.Views.{first_of}
use Rattle.r6_health.specs.declared.pass.Pass.{Pass}
use Rattle.r6_core.specs.Effects.{IsMade}
use Rattle.r6_simulate.specs.Devices.{IsAt}
use Rattle.r6_simulate.specs.declared.shard.Shard.{Shard}

-- a shard as it begins: its core is made over a register with no slot lost, with a window of one row, and nothing is in
-- flight
pub record IsFirstShard (shape : Shape) (number : ℕ) (shard : Shard) : Type 0 where
  pub number_is : shard.number ≡ number
  pub core : IsMade shape (starting 0) number shard.core
  pub window : shard.core.window ≡ 1
  pub in_flight : IsEmpty shard.in_flight

pub record AreFirstShards (shape : Shape) (shards : List Shard) : Type 0 where
  pub count : length shards ≡ shape.shards
  pub each : (number : ℕ) (shard : Shard) → IsAt shards number shard → IsFirstShard shape number shard

-- the only pass of a register as it begins, with no slot lost
abbrev pub IsFirstPass : Shape → Pass → Type 0
IsFirstPass shape pass = view_of pass ≡ first_of (start_losing shape.slots shape.shards 0)
