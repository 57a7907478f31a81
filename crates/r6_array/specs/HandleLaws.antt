-- The laws of shards in threads of their own, as a program uses their handles (this project's own).
use Rattle.std.specs.Prelude.{◌≡◌, ℕ, ◌<◌, List, [], ◌∷◌, ◌++◌, map}
use Rattle.r6_layout.specs.Shape.{Shape, IsShape}
use Rattle.r6_world.specs.Tables.{put}
use Rattle.r6_world.specs.PlainArray.{Array}
use Rattle.r6_world.specs.Layouts.{Layout}
use Rattle.r6_world.specs.Geometries.{layout_of}
use Rattle.r6_world.specs.Registers.{Snapshot, RegisterCall}
use Rattle.r6_world.specs.ShardStates.{Command}
use Rattle.r6_world.specs.Worlds as worlds
use Rattle.r6_world.specs.Worlds.{World, Devices, Possible, next, started}
use Rattle.r6_world.specs.Claims.{IsLawfulStart, IsQuiet, AllAnswered}
use Rattle.r6_world.specs.Laws.{ShardHolds, ArrayHolds, Explained, AtEach, IsOfOutside, IsByAnyone, at_start}
use Rattle.r6_world.specs.Witness.{after_all}
use Rattle.r6_core.specs.Runs.{Happening, Perform, Outside, Moment, moment_of, IsThis, IsShard, OneCoreCounts}
use Rattle.r6_array.specs.Runs.{moments_of, AreHonest}
use Rattle.r6_array.specs.Handles.{HandleView, core_in, IsNewHandle}
use Rattle.r6_array.specs.HandleRuns.{GoesOnAmong}

-- One thing that is done: a call of a shard's handle, with what happens by it, the shard that it leaves and what the
-- register holds then; a device performs a command; or a call comes at the register
pub data HandleDeed : Type 0 where
  Calls : (shard : ℕ) → List Happening → (noise : ℕ → Devices) → HandleView → Snapshot → HandleDeed
  Performs : (shard token : ℕ) → Command → (noise : Devices) → HandleDeed
  Comes : RegisterCall → (noise : Devices) → HandleDeed

-- what happens by all of them
abbrev pub moments_by : List HandleDeed → List Moment
moments_by [] = []
moments_by (Calls n happenings noise new register ∷ deeds) = moments_of noise happenings ++ moments_by deeds
moments_by (Performs n token c noise ∷ deeds) =
    record { happening = Perform n token c; noise = noise } ∷ moments_by deeds
moments_by (Comes call noise ∷ deeds) = record { happening = Outside call; noise = noise } ∷ moments_by deeds

-- the handles, by shard, after all of them
abbrev pub handles_after : (ℕ → HandleView) → List HandleDeed → ℕ → HandleView
handles_after handles [] = handles
handles_after handles (Calls n happenings noise new register ∷ deeds) = handles_after (put handles n new) deeds
handles_after handles (Performs n token c noise ∷ deeds) = handles_after handles deeds
handles_after handles (Comes call noise ∷ deeds) = handles_after handles deeds

-- each call of these handles does what its contract says (`GoesOnBeside`) at the register as it is, over honest devices,
-- which perform what was handed out, beside these calls at the register
abbrev pub AreDoneBy : (Ours : ℕ → Type 0) → (MayCome : RegisterCall → Type 0) → Layout → World → (ℕ → HandleView)
    → List HandleDeed → Type 0
AreDoneBy Ours MayCome l w handles [] = record {}
AreDoneBy Ours MayCome l w handles (Calls n happenings noise new register ∷ deeds) =
    Ours n × GoesOnAmong Ours MayCome (handles n) w.register happenings new register
    × AreHonest l w (moments_of noise happenings)
    × AreDoneBy Ours MayCome l (after_all l w (map moment_of (moments_of noise happenings))) (put handles n new) deeds
AreDoneBy Ours MayCome l w handles (Performs n token c noise ∷ deeds) =
    Ours n × Possible l MayCome w (worlds.Perform n token c)
    × AreDoneBy Ours MayCome l (next l w (record { happening = worlds.Perform n token c; noise = noise })) handles deeds
AreDoneBy Ours MayCome l w handles (Comes call noise ∷ deeds) =
    MayCome call
    × AreDoneBy Ours MayCome l (next l w (record { happening = worlds.Outside call; noise = noise })) handles deeds

-- ---- the handle of one shard

-- a law of whatever is done with the handle of one shard that was made, from every lawful start, while anyone calls at
-- the register
abbrev pub OfOneHandle : (Layout → (shard : ℕ) → Array → World → List Moment → HandleView → Type 0) → Type 0
OfOneHandle Law =
    (shape : Shape) → IsShape shape → (n : ℕ) → n < shape.shards → (r : Snapshot) (device : Devices) (array : Array)
    → IsLawfulStart (layout_of shape) r device array
    → (window : ℕ) (h : HandleView) → IsNewHandle shape r n window h → (deeds : List HandleDeed)
    → AreDoneBy (IsThis n) IsByAnyone (layout_of shape) (started (layout_of shape) r device) (λ m. h) deeds
    → Law (layout_of shape) n array (started (layout_of shape) r device) (moments_by deeds)
    (handles_after (λ m. h) deeds n)

-- The shard law: it is explained by requests that act one by one on one plain array, and at each moment the shard's
-- rows and replies are as that array has them
abbrev pub ShardOfHandle : Type 0
ShardOfHandle =
    OfOneHandle (λ l n array start moments h. ShardHolds l n start start (at_start array)
    × Explained l (ShardHolds l n) start (at_start array) (map moment_of moments))

-- and what the shard's counts say of the checks and repairs that have ended, and of the rows passed over
abbrev pub CountsOfHandle : Type 0
CountsOfHandle = OfOneHandle (λ l n array start moments h. OneCoreCounts l n start moments (core_in h))

-- ---- the handles of all shards

-- a law of whatever is done with the handles of all shards, made at one register, from every lawful start
abbrev pub OfAllHandles : (Layout → Array → World → List worlds.Moment → Type 0) → Type 0
OfAllHandles Law =
    (shape : Shape) → IsShape shape → (r : Snapshot) (device : Devices) (array : Array)
    → IsLawfulStart (layout_of shape) r device array
    → (window : ℕ → ℕ) (handles : ℕ → HandleView)
    → ((n : ℕ) → IsShard shape n → IsNewHandle shape r n (window n) (handles n)) → (deeds : List HandleDeed)
    → AreDoneBy (IsShard shape) IsOfOutside (layout_of shape) (started (layout_of shape) r device) handles deeds
    → Law (layout_of shape) array (started (layout_of shape) r device) (map moment_of (moments_by deeds))

-- the array law, of all shards together
abbrev pub ArrayOfHandles : Type 0
ArrayOfHandles =
    OfAllHandles (λ l array start moments. ArrayHolds l start start (at_start array)
    × Explained l (ArrayHolds l) start (at_start array) moments)

-- and the quiet law: whenever a shard is quiet, each request that it accepted has its reply ready, or it was taken
abbrev pub QuietOfHandles : Type 0
QuietOfHandles =
    OfAllHandles
    (λ l array start moments. AtEach l (λ w. (n : ℕ) → n < l.shards → IsQuiet w n → AllAnswered w n) start moments)
