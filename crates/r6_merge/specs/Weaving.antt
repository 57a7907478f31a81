-- Runs of single shards, each beside calls that anyone makes at the register, woven into one run of the array (this
-- project's own). A run of one shard has each change of the register once: as a call of its own, or as one of somebody
-- else.
use Rattle.std.specs.Prelude.{◌≡◌, ◌≢◌, ℕ, ◌<◌, ◌⊎◌, List, [], ◌∷◌, map, Option, Some, None, Ok, Err}
use Rattle.r6_world.specs.Tables.{put}
use Rattle.r6_world.specs.PlainArray.{Array}
use Rattle.r6_world.specs.Layouts.{Layout, IsLayout, IsRowOf}
use Rattle.r6_world.specs.Registers.{Snapshot, RegisterCall, RegisterAnswer}
use Rattle.r6_world.specs.Worlds.{World, Devices, Happening, Core, Perform, Tell, Outside, Moment, Run, as_made, started}
use Rattle.r6_world.specs.Claims.{IsLawfulStart}
use Rattle.r6_world.specs.Laws.{IsOfOutside, IsByAnyone, ArrayHolds, Explained, at_start}
use Rattle.r6_world.specs.Witness.{after_all}
use Rattle.r6_course.specs.Seen.{LeavesRegister}

-- ---- changes of the register

-- a change of the register: the call, what it was answered, and the shard that made it (none: somebody outside)
pub record Change : Type 0 where
  pub maker : Option ℕ
  pub call : RegisterCall
  pub answer : RegisterAnswer

-- it makes this change, as the shard's run has it: by a call of the shard, which was told the answer, or by a call of
-- somebody else
abbrev pub MakesChange : ℕ → Change → Happening → Type 0
MakesChange n change (Core m event new) = ⊥
MakesChange n change (Perform m token c) = ⊥
MakesChange n change (Tell m call (Ok answer) middle new) =
    (change.maker ≡ Some n) × (m ≡ n) × (as_made m call ≡ change.call) × (answer ≡ change.answer)
MakesChange n change (Tell m call (Err refusal) middle new) = ⊥
MakesChange n change (Outside call) = (change.maker ≢ Some n) × (call ≡ change.call)

-- ---- woven together

-- it makes this change in the run of the array: as its maker's own run has it, if that is a shard, and else as a call
-- from outside
abbrev pub IsOfMaker : Layout → (maker : Option ℕ) → Change → (firsts : ℕ → Happening) → Happening → Type 0
IsOfMaker l None change firsts h = (h ≡ Outside change.call) × IsOfOutside change.call
IsOfMaker l (Some n) change firsts h = (n < l.shards) × (h ≡ firsts n)

-- it is what comes next in the run of one shard, where of each run this is left, and leaves the register as it is
pub record IsStepOfOne (l : Layout) (rest : ℕ → List Moment) (h : Happening) : Type 0 where
  pub shard : ℕ
  pub below : shard < l.shards
  pub first : Moment
  pub tail : List Moment
  pub is : rest shard ≡ first ∷ tail
  pub leaves : LeavesRegister l shard first.happening
  pub same : h ≡ first.happening

-- it makes a change of the register, which comes next in the runs of all shards
pub record IsStepOfAll (l : Layout) (rest : ℕ → List Moment) (h : Happening) : Type 0 where
  pub change : Change
  pub firsts : ℕ → Moment
  pub tails : ℕ → List Moment
  pub is : (n : ℕ) → n < l.shards → rest n ≡ firsts n ∷ tails n
  pub makes : (n : ℕ) → n < l.shards → MakesChange n change (firsts n).happening
  pub here : IsOfMaker l change.maker change (λ n. (firsts n).happening) h

-- What happened in the runs of all shards, in one order: each shard's in its own, and each change of the register once
abbrev pub IsWoven : Layout → (runs : ℕ → List Moment) → List Happening → Type 0
IsWoven l runs [] = (n : ℕ) → n < l.shards → runs n ≡ []
IsWoven l runs (h ∷ happenings) =
    ((one : IsStepOfOne l runs h) × IsWoven l (put runs one.shard one.tail) happenings)
    ⊎ ((all : IsStepOfAll l runs h) × IsWoven l all.tails happenings)

-- ---- what is claimed

-- what happened at these moments
abbrev pub happenings_of : List Moment → List Happening
happenings_of moments = map (λ m. m.happening) moments

-- these moments are a run of the array, with no other calls than from outside, in which this happened; and the law of
-- the array applies to it
pub record IsArrayRun (l : Layout) (start : World) (array : Array) (happenings : List Happening) (moments : List Moment)
    : Type 0 where
  pub are : happenings_of moments ≡ happenings
  pub run : Run l IsOfOutside start moments
  pub first : ArrayHolds l start start (at_start array)
  pub explained : Explained l (ArrayHolds l) start (at_start array) moments

-- all that one shard knows of the world is as in another world
pub record IsSameFor (l : Layout) (n : ℕ) (w v : World) : Type 0 where
  pub shard : w.shard n ≡ v.shard n
  pub register : w.register ≡ v.register
  pub device : (slot generation row : ℕ) → IsRowOf l n row → w.device slot generation row ≡ v.device slot generation row
  pub flight : w.flight n ≡ v.flight n
  pub performed : w.performed n ≡ v.performed n
  pub broken : w.broken n ≡ v.broken n
  pub completed : w.completed ≡ v.completed
  pub lapsed : w.lapsed n ≡ v.lapsed n
  pub unseen : w.unseen n ≡ v.unseen n
  pub settled : w.settled n ≡ v.settled n

-- this is what happens in one run of the array, which ends for each shard as the shard's own run ends
pub record IsRunOfAll (l : Layout) (start : World) (array : Array) (runs : ℕ → List Moment) (happenings : List Happening)
    : Type 0 where
  pub moments : List Moment
  pub one : IsArrayRun l start array happenings moments
  pub ends : (n : ℕ) → n < l.shards → IsSameFor l n (after_all l start moments) (after_all l start (runs n))

-- In whatever order the runs of all shards are woven, that is one run of the array
abbrev pub WeaveLaw : Type 0
WeaveLaw =
    (l : Layout) → IsLayout l → (r : Snapshot) (device : Devices) (array : Array) → IsLawfulStart l r device array
    → (runs : ℕ → List Moment) → ((n : ℕ) → n < l.shards → Run l IsByAnyone (started l r device) (runs n))
    → (happenings : List Happening) → IsWoven l runs happenings
    → IsRunOfAll l (started l r device) array runs happenings
