-- Calls of an array as happenings of a run of cores (this project's own).
use Rattle.std.specs.Prelude.{◌≡◌, ℕ, ◌+◌, List, [], ◌∷◌, map}
use Rattle.r6_layout.specs.Shape.{Shape}
use Rattle.r6_world.specs.Layouts.{Layout}
use Rattle.r6_world.specs.Geometries.{layout_of}
use Rattle.r6_world.specs.Steps.{Event, Deliver, Good}
use Rattle.r6_world.specs.Worlds.{World, Devices, IsBrought, next}
use Rattle.r6_world.specs.Laws.{IsOfOutside}
use Rattle.r6_world.specs.Witness.{after_all}
use Rattle.r6_core.specs.Shards.{CoreView}
use Rattle.r6_core.specs.Runs.{Happening, Call, Perform, Tell, Outside, Moment, moment_of, cores_behind, IsShard, CoresRun}
use Rattle.r6_array.specs.Arrays.{ShardView, ArrayView, Has}

-- A run of cores has come to this array: the cores are its shards', the register is as it has it, and it knows which
-- shards are settled
pub record HasComeTo (a : ArrayView) (w : World) (cores : ℕ → CoreView) : Type 0 where
  pub register : w.register ≡ a.register
  pub cores_are : (n : ℕ) (s : ShardView) → Has a n s → cores n ≡ s.core
  pub settled : (n : ℕ) (s : ShardView) → Has a n s → w.settled n ≡ s.settled

-- what happens, with what stands meanwhile on parts of devices that have answered an error
abbrev pub moments_of : (noise : ℕ → Devices) → List Happening → List Moment
moments_of noise [] = []
moments_of noise (happening ∷ happenings) =
    record { happening = happening; noise = noise 0 } ∷ moments_of (λ k. noise (k + 1)) happenings

-- what is asked of the devices: a good completion is of a command that its device performed, and brings what the
-- device gave
abbrev pub IsHonest : World → Happening → Type 0
IsHonest w (Call n (Deliver token (Good block) receipt) new) = IsBrought (w.flight n token) (w.performed n token) block
IsHonest w happening = record {}

-- so it is at each of these moments, each judged by the world that the moments before it leave
abbrev pub AreHonest : Layout → World → List Moment → Type 0
AreHonest l w [] = record {}
AreHonest l w (m ∷ moments) = IsHonest w m.happening × AreHonest l (next l w (moment_of m)) moments

-- With this every run of cores goes on that has come to the old array, over honest devices, and it comes to the new one
abbrev pub GoesOn : ArrayView → List Happening → ArrayView → Type 0
GoesOn old happenings new =
    (w : World) (cores : ℕ → CoreView) → HasComeTo old w cores → (noise : ℕ → Devices)
    → let l = layout_of old.shape in
    let moments = moments_of noise happenings in
    AreHonest l w moments
    → CoresRun l (IsShard old.shape) IsOfOutside w cores moments
    × HasComeTo new (after_all l w (map moment_of moments)) (cores_behind cores moments)
