-- What is done with an array is a run of cores.
use Rattle.std.proofs.Common.{◌≡◌, ℕ, ◌<◌, ◌≤◌, List, [], ◌∷◌, ◌++◌, map, refl, sym, ap, ◌∙◌, subst, arith, Some, length, get_or, true}
use Rattle.std.proofs.lemmas.Option.{slice_get-get_or, get_or_from_slice_get}
use Rattle.r6_layout.specs.Shape.{Shape, IsShape}
use Rattle.r6_world.specs.Layouts.{Layout}
use Rattle.r6_world.specs.Geometries.{layout_of}
use Rattle.r6_world.specs.Registers.{Snapshot}
use Rattle.r6_world.specs.Worlds.{World, Devices, started}
use Rattle.r6_world.specs.Laws.{IsOfOutside}
use Rattle.r6_world.specs.Witness.{after_all}
use Rattle.r6_core.specs.Shards.{CoreView}
use Rattle.r6_core.specs.Runs.{moment_of, cores_behind, AreMade, IsShard, CoresRun}
use Rattle.r6_array.specs.Arrays.{ShardView, ArrayView, Has}
use Rattle.r6_array.specs.Runs.{HasComeTo, moments_of}
use Rattle.r6_array.specs.News.{IsNew}
use Rattle.r6_array.specs.Laws.{Deed, Calls, Performs, moments_in, AreDone}
use Rattle.r6_array.proofs.Going.{GoesIn, run-append}

pub runs : (shape : Shape) (w : World) (cores : ℕ → CoreView) (a : ArrayView) → a.shape ≡ shape → HasComeTo a w cores → (deeds : List Deed) → AreDone (layout_of shape) w a deeds
    → CoresRun (layout_of shape) (IsShard shape) IsOfOutside w cores (moments_in deeds)
runs shape w cores a same at [] done = record {}
runs shape w cores a same at (Calls happenings noise new ∷ deeds) done =
    let goes = subst (λ s. GoesIn s a happenings new) same done.0 w cores at noise done.2 in
    run-append (layout_of shape) (IsShard shape) IsOfOutside w cores (moments_of noise happenings) (moments_in deeds) goes.0
    (runs shape (after_all (layout_of shape) w (map moment_of (moments_of noise happenings))) (cores_behind cores (moments_of noise happenings)) new (done.1 ∙ same) goes.1 deeds done.3)
runs shape w cores a same at (Performs n token c noise ∷ deeds) done = (
  (done.0, done.1),
  runs shape _ cores a same (record { register = at.register; cores_are = at.cores_are; settled = at.settled }) deeds done.2,
)

-- the cores of an array, where there is one
abbrev pub cores_of : ShardView → ArrayView → ℕ → CoreView
cores_of s a n = (get_or a.shards n s).core

first_of_all : (shards : List ShardView) → 1 ≤ length shards → ShardView
first_of_all [] h = absurd (omega arith)
first_of_all (s ∷ shards) h = s

pub first_shard : (shape : Shape) (r : Snapshot) (window : ℕ) (a : ArrayView) → IsShape shape → IsNew shape r window a → ShardView
first_shard shape r window a limits new = first_of_all a.shards (let one = limits.shards_allowed.0 in let count = new.shards.count in omega arith)

pub made : (shape : Shape) (r : Snapshot) (window : ℕ) (a : ArrayView) (s : ShardView) → IsNew shape r window a → AreMade shape (IsShard shape) r (cores_of s a)
made shape r window a s new n own =
    let count = new.shards.count in
    (new.shards.made n (get_or a.shards n s) (slice_get-get_or a.shards n s (omega arith))).made

pub begins : (shape : Shape) (r : Snapshot) (device : Devices) (window : ℕ) (a : ArrayView) (s : ShardView) → IsNew shape r window a
    → HasComeTo a (started (layout_of shape) r device) (cores_of s a)
begins shape r device window a s new =
    record {
      register = sym new.register_is;
      cores_are = λ n t has. ap (λ (v : ShardView). v.core) (get_or_from_slice_get a.shards n t s has);
      settled = λ n t has. sym (new.shards.made n t has).settled;
    }
