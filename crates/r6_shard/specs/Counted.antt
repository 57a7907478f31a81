-- How many rows the checks and repairs of a shard have passed (md(4): a check reads every row of the array).
use Rattle.std.specs.Prelude.{◌≡◌, ℕ, ◌+◌, ◌≤◌, Bool, true}
use Rattle.r6_world.specs.ShardStates.{IsLive}
use Rattle.r6_world.specs.Counting.{HasPassed, all_counted}
use Rattle.r6_core.specs.declared.turn.Task.{Task}
use Rattle.r6_core.specs.declared.turn.Task.TheVariants as task
use Rattle.r6_core.specs.Shards.{CoreView, core_layout, world_shard}

-- at most two slots are out, and the shard didn't see the failure
abbrev pub IsInService : CoreView → Type 0
IsInService core = IsLive (core_layout core) (world_shard core)

-- the rows that are counted, of whichever class or none
abbrev pub counted_in : CoreView → ℕ
counted_in core = all_counted (world_shard core)

-- the core's shard has passed so many rows, and has counted no more; and in service it has counted so many of them, or
-- more; or it has stopped
pub record HasPassedRows (stopped : Bool) (counted rows : ℕ) (core : CoreView) : Type 0 where
  pub shard : HasPassed (core_layout core) core.shard rows (world_shard core)
  pub most : counted_in core ≤ rows
  pub least : IsInService core → counted ≤ counted_in core
  pub out : stopped ≡ true → IsInService core → ⊥

-- a call passes none, however many were passed before; or so many more
abbrev pub PassesNone : CoreView → CoreView → Type 0
PassesNone old new =
    (stopped : Bool) (counted rows : ℕ) → HasPassedRows stopped counted rows old
    → HasPassedRows stopped counted rows new

abbrev pub PassesMore : (more : ℕ) → CoreView → CoreView → Type 0
PassesMore more old new =
    (stopped : Bool) (counted rows : ℕ) → HasPassedRows stopped counted rows old
    → HasPassedRows stopped counted (rows + more) new

-- a turn of a check or repair passes one row
abbrev pub rows_of : Task → ℕ
rows_of task.Rebuild = 0
rows_of task.Check = 1
rows_of task.Repair = 1
