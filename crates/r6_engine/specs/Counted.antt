-- What the checks and repairs of an array count, over all shards (md(4): a check reads every row of the array).
use Rattle.std.specs.Prelude.{◌≡◌, ℕ, ◌-◌, ◌==◌, ◌⊎◌, List, All, slice_get, sum_by, Some, if◌then◌else◌}
use Rattle.r6_layout.specs.Shape.{Shape}
use Rattle.r6_health.specs.declared.history.View.{View}
use Rattle.r6_core.specs.Shards.{CoreView}
use Rattle.r6_engine.specs.lists.Events.{Event, Check, Repair}
use Rattle.r6_shard.specs.Counted.{IsInService}
use Rattle.r6_shard.specs.Whole.{SawWithPass}
use Rattle.r6_shard.specs.declared.performs.Performs.{Ghosts}
use Rattle.r6_engine.specs.declared.runner.scrub.ScrubDone.{ScrubDone}
use Rattle.r6_engine.specs.declared.runner.runner.Runner.{Runner}
use Rattle.r6_engine.specs.runner.Counted.{IsUsedUp, rows_in}
use Rattle.r6_engine.specs.runner.Skipping.{SkipNone}

-- the rows that a shard counted for the event with this number, of whichever class or none
abbrev pub rows_for : (event : ℕ) → List ScrubDone → ℕ
rows_for event passed = sum_by (λ p. if p.event == event then rows_in p.after - rows_in p.before else 0) passed

-- a shard may be asked for more
abbrev pub MayGoOn : CoreView → Type 0
MayGoOn core = IsInService core × (IsUsedUp core → ⊥)

-- if all shards may be asked for more, each check and each repair has counted each row of the array once
abbrev pub CountEachRow : {P D : Type 0} {g : Ghosts P} → Shape → List Event → List (Runner P D g) → Type 0
CountEachRow shape events runners =
    All (λ runner. MayGoOn runner.shard.core) runners → (event : ℕ)
    → (slice_get events event ≡ Some Check) ⊎ (slice_get events event ≡ Some Repair)
    → sum_by (λ runner. rows_for event runner.scrubs_done.items) runners ≡ shape.rows

-- unless a shard names a slot, or saw one that wasn't in sync, its checks and repairs skipped no row
abbrev pub EachSkipsNone : {P D : Type 0} {g : Ghosts P} → List (Runner P D g) → Type 0
EachSkipsNone runners =
    All (λ runner. SkipNone runner.shard.named runner.shard.saw_out runner.scrubs_done.items) runners

-- if each slot was in sync at every time that the calling thread has seen, no shard says that it saw one that wasn't
abbrev pub EachSawWithPass : {P D : Type 0} {g : Ghosts P} → (last : View) → List (Runner P D g) → Type 0
EachSawWithPass last runners = All (λ runner. SawWithPass runner.shard.saw_out last) runners
