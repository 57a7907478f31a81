-- A run of cores is a run of the world whose shards they are.
use Rattle.std.proofs.Common.{◌≡◌, ℕ, ◌<◌, List, [], ◌∷◌, map, inl, inr, refl, sym, ap, subst, ◌∙◌}
use Rattle.std.proofs.lemmas.Bool.{cases_eq}
use Rattle.r6_layout.specs.Shape.{Shape}
use Rattle.r6_world.specs.Tables.{put}
use Rattle.r6_world.specs.PlainArray.{Array}
use Rattle.r6_world.specs.Layouts.{Layout}
use Rattle.r6_world.specs.Registers.{RegisterCall}
use Rattle.r6_world.specs.Geometries.{layout_of, LayoutLaw}
use Rattle.r6_world.specs.ShardStates.{Shard}
use Rattle.r6_world.specs.Steps as steps
use Rattle.r6_world.specs.Steps.{Event, Take_call}
use Rattle.r6_world.specs.Worlds as worlds
use Rattle.r6_world.specs.Worlds.{World, Devices, Possible, Run, next, started}
use Rattle.r6_world.specs.Laws.{IsOfOutside, IsByAnyone, IsOfShard, AreOfShard, OfEveryRun, ShardLaw}
use Rattle.r6_world.specs.Sequential.{SequentialLaw}
use Rattle.r6_world.proofs.Tables.{put-same, put-other}
use Rattle.r6_core.specs.Shards.{CoreView, Step, world_shard}
use Rattle.r6_core.specs.Effects.{IsMade}
use Rattle.r6_core.specs.Runs.{Happening, Call, Perform, Tell, Outside, Moment, in_world, moment_of, cores_after, MayHappen, CoresRun, StayShards, AreRuns, IsShard, IsThis, RunsOfCores, RunsOfOneCore, OfEveryRunOfCores, ShardOfCores, SequentialOfCores}

-- the core is of this shard of the array, and is what the world has as the shard
record Is (shape : Shape) (n : ℕ) (shard : Shard) (core : CoreView) : Type 0 where
  geometry : core.shape ≡ shape
  number : core.shard ≡ n
  same : shard ≡ world_shard core

stepped : (shape : Shape) (n : ℕ) (shard : Shard) (core : CoreView) (event : Event) (new : CoreView) → Is shape n shard core → Step core event new
    → steps.Step (layout_of shape) n shard event (world_shard new)
stepped shape n shard core event new is step =
    let of_shape = subst (λ (x : Shape). steps.Step (layout_of x) core.shard (world_shard core) event (world_shard new)) is.geometry step.1 in
    let of_shard = subst (λ (x : ℕ). steps.Step (layout_of shape) x (world_shard core) event (world_shard new)) is.number of_shape in
    subst (λ (x : Shard). steps.Step (layout_of shape) n x event (world_shard new)) (sym is.same) of_shard

-- whatever happens
are_put : (shape : Shape) (shard : ℕ → Shard) (cores : ℕ → CoreView) (k : ℕ) (new : CoreView) → new.shape ≡ shape → new.shard ≡ k
    → (n : ℕ) → Is shape n (shard n) (cores n) → Is shape n (put shard k (world_shard new) n) (put cores k new n)
are_put shape shard cores k new geometry number n is =
    elim (cases_eq n k) [
      | inl here ↦
          let core : put cores k new n ≡ new = put-same cores k new n here in
          record {
            geometry = ap (λ (s : CoreView). s.shape) core ∙ geometry;
            number = ap (λ (s : CoreView). s.shard) core ∙ (number ∙ sym here);
            same = put-same shard k (world_shard new) n here ∙ sym (ap world_shard core);
          }
      | inr elsewhere ↦
          let core : put cores k new n ≡ cores n = put-other cores k new n elsewhere in
          record {
            geometry = ap (λ (s : CoreView). s.shape) core ∙ is.geometry;
            number = ap (λ (s : CoreView). s.shard) core ∙ is.number;
            same = put-other shard k (world_shard new) n elsewhere ∙ (is.same ∙ sym (ap world_shard core));
          }
    ]

module _ (shape : Shape) (Ours : ℕ → Type 0) (Comes : RegisterCall → Type 0) (below : (n : ℕ) → Ours n → n < shape.shards) where
  abbrev Are : World → (ℕ → CoreView) → Type 0
  Are w cores = (n : ℕ) → Ours n → Is shape n (w.shard n) (cores n)

  possible : (w : World) (cores : ℕ → CoreView) → Are w cores → (h : Happening) → MayHappen (layout_of shape) Ours Comes w cores h
      → Possible (layout_of shape) Comes w (in_world h)
  possible w cores are (Call n event new) may = (below n may.0, may.1, stepped shape n (w.shard n) (cores n) event new (are n may.0) may.2)
  possible w cores are (Perform n token c) may = may.1
  possible w cores are (Tell n call answer middle new) may =
      let is = are n may.0 in
      let taken = may.2 in
      let mid : Is shape n (world_shard middle) middle = record { geometry = taken.0.0 ∙ is.geometry; number = taken.0.1 ∙ is.number; same = refl } in (
        below n may.0,
        may.1,
        stepped shape n (w.shard n) (cores n) (Take_call call) middle is taken,
        stepped shape n (world_shard middle) middle (steps.Told call answer) new mid may.3,
      )
  possible w cores are (Outside call) may = may

  still : (w : World) (cores : ℕ → CoreView) → Are w cores → (h : Happening) (noise : Devices) → MayHappen (layout_of shape) Ours Comes w cores h
      → Are (next (layout_of shape) w (moment_of (record { happening = h; noise = noise }))) (cores_after cores h)
  still w cores are (Call k event new) noise may n ours =
      let is = are k may.0 in
      let same = may.2.0 in
      are_put shape w.shard cores k new (same.0 ∙ is.geometry) (same.1 ∙ is.number) n (are n ours)
  still w cores are (Perform k token c) noise may n ours = are n ours
  still w cores are (Tell k call answer middle new) noise may n ours =
      let is = are k may.0 in
      let first = may.2.0 in
      let second = may.3.0 in
      are_put shape w.shard cores k new (second.0 ∙ first.0 ∙ is.geometry) (second.1 ∙ first.1 ∙ is.number) n (are n ours)
  still w cores are (Outside call) noise may n ours = are n ours

  runs : (w : World) (cores : ℕ → CoreView) → Are w cores → (moments : List Moment) → CoresRun (layout_of shape) Ours Comes w cores moments
      → Run (layout_of shape) Comes w (map moment_of moments) × StayShards (layout_of shape) Ours w cores moments
  runs w cores are [] run = (run, λ n ours. (are n ours).same)
  runs w cores are (m ∷ moments) run =
      let on = runs (next (layout_of shape) w (moment_of m)) (cores_after cores m.happening) (still w cores are m.happening m.noise run.0) moments run.1 in
      ((possible w cores are m.happening run.0, on.0), (λ n ours. (are n ours).same, on.1))

  pub are_runs : AreRuns shape Ours Comes
  are_runs r device cores made moments run =
      runs (started (layout_of shape) r device) cores (λ n ours. let is = made n ours in record { geometry = is.geometry; number = is.number; same = sym is.start }) moments run

pub runs_of_cores : RunsOfCores
runs_of_cores shape limits = are_runs shape (IsShard shape) IsOfOutside (λ n below. below)

pub runs_of_one_core : RunsOfOneCore
runs_of_one_core shape limits n below = are_runs shape (IsThis n) IsByAnyone (λ m same. subst (λ k. k < shape.shards) (sym same) below)

-- so a law of the world's runs is one of theirs
pub of_every_run : (Law : Layout → Array → World → List worlds.Moment → Type 0) → LayoutLaw → OfEveryRun Law → OfEveryRunOfCores Law
of_every_run Law layouts law shape limits r device array lawful cores are moments run =
    let as_world = (runs_of_cores shape limits r device cores are moments run).0 in
    law (layout_of shape) (layouts shape limits) r device array lawful (map moment_of moments) as_world

-- all that happens is of the one core
pub own_moments : (l : Layout) (n : ℕ) (Comes : RegisterCall → Type 0) (w : World) (cores : ℕ → CoreView) (moments : List Moment) → CoresRun l (IsThis n) Comes w cores moments
    → AreOfShard n (map moment_of moments)
own_moments l n Comes w cores [] run = record {}
own_moments l n Comes w cores (m ∷ moments) run =
    (own m.happening run.0, own_moments l n Comes (next l w (moment_of m)) (cores_after cores m.happening) moments run.1)
  where
    own : (h : Happening) → MayHappen l (IsThis n) Comes w cores h → IsOfShard n (in_world h)
    own (Call k event new) may = may.0
    own (Perform k token c) may = may.0
    own (Tell k call answer middle new) may = may.0
    own (Outside call) may = record {}

pub shard_of_cores : LayoutLaw → ShardLaw → ShardOfCores
shard_of_cores layouts law shape limits n below r device array lawful core made moments run =
    let l = layout_of shape in
    let start = started l r device in
    let as_world = runs_of_one_core shape limits n below r device (λ m. core) (λ m same. subst (λ k. IsMade shape r k core) (sym same) made) moments run in
    law l (layouts shape limits) n below r device array lawful (map moment_of moments) (own_moments l n IsByAnyone start (λ m. core) moments run) as_world.0

-- of one core alone, one request at a time
pub sequential_of_cores : LayoutLaw → SequentialLaw → SequentialOfCores
sequential_of_cores layouts law shape limits r device array lawful cores are moments run one in_turn few =
    law (layout_of shape) (layouts shape limits) one r device array lawful (map moment_of moments)
    (runs_of_cores shape limits r device cores are moments run).0 in_turn few
