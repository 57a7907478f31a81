-- Why a shard refuses a request of its run.
use Rattle.std.specs.Prelude.{◌≡◌, ◌≤◌, ◌⊎◌, true, List, [], ◌∷◌}
use Rattle.r6_world.specs.ShardStates.{Counts}
use Rattle.r6_world.specs.declared.values.Op.{Op}
use Rattle.r6_core.specs.declared.refusal.Refusal.{Refusal}
use Rattle.r6_core.specs.declared.refusal.Refusal.TheVariants.{NoSuchBlock, WrongShard, WrongLength, ArrayFailed, Exhausted}
use Rattle.r6_core.specs.Refusals.{HasSubmitFault, IsFirstFault, HasNone}
use Rattle.r6_core.specs.Shards.{CoreView, SameShard, world_shard}

-- no class of rows is counted fewer times, and no fewer rows are skipped
pub record CountsRise (old new : Counts) : Type 0 where
  pub consistent : old.consistent ≤ new.consistent
  pub wrong_p : old.wrong_p ≤ new.wrong_p
  pub wrong_q : old.wrong_q ≤ new.wrong_q
  pub wrong_data : old.wrong_data ≤ new.wrong_data
  pub many : old.many ≤ new.many
  pub skipped : old.skipped ≤ new.skipped

-- what no call of a shard changes, and what none takes back
pub record Lasts (old new : CoreView) : Type 0 where
  pub same : SameShard old new
  pub window : new.window ≡ old.window
  pub failure : (world_shard old).saw_failed ≡ true → (world_shard new).saw_failed ≡ true
  pub tokens : (world_shard old).tokens ≤ (world_shard new).tokens
  pub accepted : (world_shard old).accepted ≤ (world_shard new).accepted
  pub counts : CountsRise (world_shard old).counts (world_shard new).counts

-- what a request may have wrong in itself: its block, its shard, its length
abbrev pub own_faults : List Refusal
own_faults = NoSuchBlock ∷ WrongShard ∷ WrongLength ∷ []

-- what ends the service of a shard: the array has failed, or there are no numbers left
abbrev pub ending_faults : List Refusal
ending_faults = ArrayFailed ∷ Exhausted ∷ []

-- the refusal is one of these two; any other leaves the shard in service
abbrev pub IsEnding : Refusal → Type 0
IsEnding ArrayFailed = record {}
IsEnding Exhausted = record {}
IsEnding _ = ⊥

-- a request is refused for the first thing that it has wrong in itself; if there is none, because the service has
-- ended
abbrev pub IsRefusedFor : CoreView → Op → Refusal → Type 0
IsRefusedFor core o refusal =
    IsFirstFault (HasSubmitFault core o) own_faults refusal
    ⊎ (HasNone (HasSubmitFault core o) own_faults × IsEnding refusal × HasSubmitFault core o refusal)
