-- What the counts of one core say.
use Rattle.std.proofs.Common.{◌≡◌, ℕ, ◌+◌, List, [], ◌∷◌, false, refl, sym, ap, ◌∙◌, subst, arith, Option, Some, None}
use Rattle.std.specs.Prelude.{map}
use Rattle.r6_world.specs.Tasks.{Hold}
use Rattle.r6_world.specs.ShardStates.{Shard, IsLive, frames}
use Rattle.r6_world.specs.Layouts.{Layout}
use Rattle.r6_world.specs.Geometries.{layout_of, LayoutLaw}
use Rattle.r6_world.specs.Steps.{AtRest, Take_call, Told}
use Rattle.r6_world.specs.Worlds as worlds
use Rattle.r6_world.specs.Worlds.{World, Devices, Possible, Run, next, started}
use Rattle.r6_world.specs.Laws.{IsByAnyone}
use Rattle.r6_world.specs.Counting.{IsCounted, changes_in, checks_held, holds_check, dropped, ShardCountsLaw}
use Rattle.r6_world.specs.Witness.{after_all}
use Rattle.r6_world.proofs.Tables.{at-entry, not_both}
use Rattle.r6_world.proofs.Laws.Counts.{none-held}
use Rattle.r6_world.proofs.Laws.Quiet.{resting-start, step-rest}
use Rattle.r6_core.specs.Shards.{CoreView, world_shard}
use Rattle.r6_core.specs.Effects.{IsMade}
use Rattle.r6_core.specs.Runs.{Moment, moment_of, cores_after, AreShards, StayShards, IsThis, cores_behind, rows_passed, rows_counted, OneCoreCounts, CountsOfOneCore}
use Rattle.r6_core.proofs.Runs.{runs_of_one_core, own_moments}

-- the world's shards are the cores at the end too
stay_last : (l : Layout) (Ours : ℕ → Type 0) (w : World) (cores : ℕ → CoreView) (moments : List Moment) → StayShards l Ours w cores moments
    → AreShards Ours (after_all l w (map moment_of moments)) (cores_behind cores moments)
stay_last l Ours w cores [] stay = stay
stay_last l Ours w cores (m ∷ moments) stay = stay_last l Ours (next l w (moment_of m)) (cores_after cores m.happening) moments stay.1

no_check : (o : Option Hold) → ((h : Hold) → o ≡ Some h → ⊥) → holds_check o ≡ false
no_check None none = refl
no_check (Some h) none = absurd (none h refl)

-- a live shard at rest with no command out holds no row
none_held_at_rest : (l : Layout) (n : ℕ) (s : Shard) → IsLive l s → AtRest l n s → ((token : ℕ) → s.command token ≡ None) → checks_held s ≡ 0
none_held_at_rest l n s live rest none =
    none-held (λ f. holds_check (s.frame f)) frames
    (λ f. no_check (s.frame f) (λ h e. let x = rest.goes_on live f h e in not_both (s.command x.0) x.1 (none x.0) x.2))

-- in every run each shard is at rest
abbrev AreAtRest : Layout → World → Type 0
AreAtRest l w = (n : ℕ) → AtRest l n (w.shard n)

rests_next : (l : Layout) (w : World) (h : worlds.Happening) (noise : Devices) → Possible l IsByAnyone w h → AreAtRest l w → AreAtRest l (next l w (record { happening = h; noise = noise }))
rests_next l w (worlds.Core n event new) noise p x = at-entry (AtRest l) w.shard n new x (step-rest l n (w.shard n) event new p.2 (x n))
rests_next l w (worlds.Perform n token c) noise p x = x
rests_next l w (worlds.Tell n call answer middle new) noise p x =
    at-entry (AtRest l) w.shard n new x (step-rest l n middle (Told call answer) new p.3 (step-rest l n (w.shard n) (Take_call call) middle p.2 (x n)))
rests_next l w (worlds.Outside call) noise p x = x

resting_after : (l : Layout) (w : World) (moments : List worlds.Moment) → Run l IsByAnyone w moments → AreAtRest l w → AreAtRest l (after_all l w moments)
resting_after l w [] run x = x
resting_after l w (m ∷ moments) run x = resting_after l (next l w m) moments run.1 (rests_next l w m.happening m.noise run.0 x)

counts_of_shard : (l : Layout) (n : ℕ) (start : World) (moments : List Moment) (core : CoreView) → (after_all l start (map moment_of moments)).shard n ≡ world_shard core
    → Run l IsByAnyone start (map moment_of moments) → AreAtRest l start → IsCounted l IsByAnyone n start (map moment_of moments) → OneCoreCounts l n start moments core
counts_of_shard l n start moments core same as_world resting counted =
    let rest : AtRest l n (world_shard core) = subst (AtRest l n) same (resting_after l start (map moment_of moments) as_world resting n) in
    let passed : (run : Run l IsByAnyone start (map moment_of moments)) → rows_passed n moments
    ≡ rows_counted (world_shard core).counts + checks_held (world_shard core) + dropped l (start.shard n) (changes_in l IsByAnyone n start (map moment_of moments) run)
    = λ run. subst
    (λ s. rows_passed n moments ≡ rows_counted s.counts + checks_held s + dropped l (start.shard n) (changes_in l IsByAnyone n start (map moment_of moments) run))
    same (counted run).passed in
    let unfailed : (world_shard core).saw_failed ≡ false → rows_passed n moments ≡ rows_counted (world_shard core).counts + checks_held (world_shard core)
    = λ unseen. let all = passed as_world in
    let none = (counted as_world).none_dropped (ap (λ s. s.saw_failed) same ∙ unseen) in omega (arith, all, none) in
    record {
      is_shard = same;
      counted = counted;
      passed = passed;
      unfailed = unfailed;
      at_rest = λ live none. let all = unfailed live.1 in let held = none_held_at_rest l n (world_shard core) live rest none in omega (arith, all, held);
    }

pub counts_of_one_core : LayoutLaw → ShardCountsLaw → CountsOfOneCore
counts_of_one_core layouts law shape limits n below r device array lawful core made moments run =
    let l = layout_of shape in
    let start = started l r device in
    let as_world = runs_of_one_core shape limits n below r device (λ m. core) (λ m same. subst (λ k. IsMade shape r k core) (sym same) made) moments run in
    counts_of_shard l n start moments (cores_behind (λ m. core) moments n)
    (stay_last l (IsThis n) start (λ m. core) moments as_world.1 n refl) as_world.0 (resting-start l r device).rests
    (law l (layouts shape limits) n below r device array lawful (map moment_of moments) (own_moments l n IsByAnyone start (λ m. core) moments run))
