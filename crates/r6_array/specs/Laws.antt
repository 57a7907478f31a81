-- The laws of an array, as a program uses it (this project's own).
use Rattle.std.specs.Prelude.{◌≡◌, ℕ, ◌<◌, ◌≤◌, List, [], ◌∷◌, ◌++◌, map}
use Rattle.r6_layout.specs.Shape.{Shape, IsShape}
use Rattle.r6_world.specs.PlainArray.{Array}
use Rattle.r6_world.specs.Layouts.{Layout}
use Rattle.r6_world.specs.Geometries.{layout_of}
use Rattle.r6_world.specs.Registers.{Snapshot}
use Rattle.r6_world.specs.ShardStates.{Command}
use Rattle.r6_world.specs.Worlds as worlds
use Rattle.r6_world.specs.Worlds.{World, Devices, Possible, next, started}
use Rattle.r6_world.specs.Claims.{IsLawfulStart, IsQuiet, AllAnswered}
use Rattle.r6_world.specs.Laws.{ArrayHolds, Explained, AtEach, IsOfOutside, at_start}
use Rattle.r6_world.specs.Sequential.{OneAtATime, FewOut, PlainThroughout}
use Rattle.r6_world.specs.Witness.{after_all}
use Rattle.r6_core.specs.Runs.{Happening, Perform, Moment, moment_of}
use Rattle.r6_array.specs.Arrays.{ArrayView}
use Rattle.r6_array.specs.Runs.{moments_of, AreHonest, GoesOn}
use Rattle.r6_array.specs.News.{IsNew}

-- One thing that is done: a call of the array, with what happens by it and the array that it leaves; or a device
-- performs a command
pub data Deed : Type 0 where
  Calls : List Happening → (noise : ℕ → Devices) → ArrayView → Deed
  Performs : (shard token : ℕ) → Command → (noise : Devices) → Deed

-- what happens by all of them
abbrev pub moments_in : List Deed → List Moment
moments_in [] = []
moments_in (Calls happenings noise new ∷ deeds) = moments_of noise happenings ++ moments_in deeds
moments_in (Performs n token c noise ∷ deeds) =
    record { happening = Perform n token c; noise = noise } ∷ moments_in deeds

-- each call does what its contract says (`GoesOn`), over honest devices, which perform what was handed out
abbrev pub AreDone : Layout → World → ArrayView → List Deed → Type 0
AreDone l w a [] = record {}
AreDone l w a (Calls happenings noise new ∷ deeds) =
    GoesOn a happenings new × (new.shape ≡ a.shape) × AreHonest l w (moments_of noise happenings)
    × AreDone l (after_all l w (map moment_of (moments_of noise happenings))) new deeds
AreDone l w a (Performs n token c noise ∷ deeds) =
    (n < l.shards) × Possible l IsOfOutside w (worlds.Perform n token c)
    × AreDone l (next l w (record { happening = worlds.Perform n token c; noise = noise })) a deeds

-- a law of whatever is done with an array that was made, from every lawful start
abbrev pub OfEveryUse : (Layout → Array → World → List worlds.Moment → Type 0) → Type 0
OfEveryUse Law =
    (shape : Shape) → IsShape shape → (r : Snapshot) (device : Devices) (array : Array)
    → IsLawfulStart (layout_of shape) r device array
    → (window : ℕ) (a : ArrayView) → IsNew shape r window a → (deeds : List Deed)
    → AreDone (layout_of shape) (started (layout_of shape) r device) a deeds
    → Law (layout_of shape) array (started (layout_of shape) r device) (map moment_of (moments_in deeds))

-- The array law: it is explained by requests that act one by one on one plain array, and at each moment the rows, the
-- replies and the rebuilt slots are as that array has them
abbrev pub ArrayOfUses : Type 0
ArrayOfUses =
    OfEveryUse (λ l array start moments. ArrayHolds l start start (at_start array)
    × Explained l (ArrayHolds l) start (at_start array) moments)

-- the quiet law: whenever a shard is quiet, each request that it accepted has its reply ready, or it was taken
abbrev pub QuietOfUses : Type 0
QuietOfUses =
    OfEveryUse
    (λ l array start moments. AtEach l (λ w. (n : ℕ) → n < l.shards → IsQuiet w n → AllAnswered w n) start moments)

-- The sequential law: of one shard, with one request at a time and at most two slots out throughout, the replies are
-- those of the plain array in the order of the requests
abbrev pub SequentialOfUses : Type 0
SequentialOfUses =
    OfEveryUse (λ l array start moments. l.shards ≡ 1 → OneAtATime l start moments → FewOut l start moments
    → PlainThroughout l start (at_start array) moments)
