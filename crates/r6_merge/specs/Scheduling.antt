-- That runs of single shards can be woven, where all have seen beginnings of one list of changes of the register; and
-- what one run of the array has of each shard (this project's own).
use Rattle.std.specs.Prelude.{◌≡◌, ◌≢◌, ℕ, ◌<◌, List, [], ◌∷◌, ◌++◌, ◌==◌, All, Bool, false, if◌then◌else◌, Option, Some, None}
use Rattle.r6_world.specs.Layouts.{Layout, IsLayout, IsRowOf}
use Rattle.r6_world.specs.PlainArray.{Array}
use Rattle.r6_world.specs.Registers.{Snapshot, answer_to, register_after}
use Rattle.r6_world.specs.Worlds.{World, Devices, Happening, Core, Perform, Tell, Outside, Moment, Run, started}
use Rattle.r6_world.specs.Claims.{IsLawfulStart}
use Rattle.r6_world.specs.Laws.{IsOfOutside, IsByAnyone}
use Rattle.r6_world.specs.Witness.{after_all}
use Rattle.r6_course.specs.Seen.{HasChanges}
use Rattle.r6_merge.specs.Weaving.{Change, MakesChange, IsWoven, happenings_of, IsArrayRun}

-- the maker of a change is a shard of the array; else the call is one that may come from outside
abbrev pub IsMadeBy : Layout → (maker : Option ℕ) → Change → Type 0
IsMadeBy l None change = IsOfOutside change.call
IsMadeBy l (Some n) change = n < l.shards

abbrev pub HasMaker : Layout → Change → Type 0
HasMaker l change = IsMadeBy l change.maker change

-- Runs of all shards that have the same changes of the register can be woven
abbrev pub ScheduleLaw : Type 0
ScheduleLaw =
    (l : Layout) (changes : List Change) → All (HasMaker l) changes → (runs : ℕ → List Moment)
    → ((n : ℕ) → n < l.shards → HasChanges (MakesChange n) l n changes (runs n))
    → (happenings : List Happening) × IsWoven l runs happenings

-- ---- what is a shard's own

-- it happens in this shard: in its core, on its devices, or by a call that it makes at the register
abbrev pub is_own : ℕ → Happening → Bool
is_own n (Core m event new) = m == n
is_own n (Perform m token c) = m == n
is_own n (Tell m call answer middle new) = m == n
is_own n (Outside call) = false

-- what happened in this shard, in order
abbrev pub own : ℕ → List Happening → List Happening
own n [] = []
own n (h ∷ happenings) = if is_own n h then h ∷ own n happenings else own n happenings

-- Woven together, each shard has done just what it did in its own run, in the same order
abbrev pub OwnLaw : Type 0
OwnLaw =
    (l : Layout) (runs : ℕ → List Moment) (happenings : List Happening) → IsWoven l runs happenings
    → (n : ℕ) → n < l.shards → own n happenings ≡ own n (happenings_of (runs n))

-- ---- shards that have seen beginnings

-- the changes that the run of a shard has are the first of these, and the later ones are made by others
pub record SawFirst (l : Layout) (n : ℕ) (changes seen later : List Change) (moments : List Moment) : Type 0 where
  pub is : changes ≡ seen ++ later
  pub sees : HasChanges (MakesChange n) l n seen moments
  pub of_others : All (λ (c : Change). c.maker ≢ Some n) later

-- the register after these changes
abbrev pub register_after_all : Layout → Snapshot → List Change → Snapshot
register_after_all l r [] = r
register_after_all l r (change ∷ changes) =
    register_after_all l (register_after l r change.call (answer_to l r change.call)) changes

-- in the one world the shard, the parts that have answered an error, and what the devices have in its rows are as in
-- the other; and the register is as it is there after these later changes
pub record EndsAs (l : Layout) (n : ℕ) (later : List Change) (w v : World) : Type 0 where
  pub shard : w.shard n ≡ v.shard n
  pub register : w.register ≡ register_after_all l v.register later
  pub broken : w.broken n ≡ v.broken n
  pub device : (slot generation row : ℕ) → IsRowOf l n row → w.device slot generation row ≡ v.device slot generation row

-- this is what happens in one run of the array, which has all that the shards did, each in its order, and which ends,
-- for each shard, as its own run ends, but for the changes that the shard hasn't seen
pub record IsRunWithLater (l : Layout) (start : World) (array : Array) (runs : ℕ → List Moment) (later : ℕ → List Change)
    (happenings : List Happening) : Type 0 where
  pub moments : List Moment
  pub one : IsArrayRun l start array happenings moments
  pub own_is : (n : ℕ) → n < l.shards → own n happenings ≡ own n (happenings_of (runs n))
  pub ends : (n : ℕ) → n < l.shards → EndsAs l n (later n) (after_all l start moments) (after_all l start (runs n))

-- Each shard's run, and after it the changes that it hasn't seen, can be woven; and in whatever order they are, that is
-- such a run
pub record HaveOneRun (l : Layout) (start : World) (array : Array) (runs : ℕ → List Moment) (later : ℕ → List Change)
    : Type 0 where
  pub longer : ℕ → List Moment
  pub some : (happenings : List Happening) × IsWoven l longer happenings
  pub every : (happenings : List Happening) → IsWoven l longer happenings
      → IsRunWithLater l start array runs later happenings

-- So it is of runs of all shards that have seen beginnings of one list of changes
abbrev pub OneRunLaw : Type 0
OneRunLaw =
    (l : Layout) → IsLayout l → (r : Snapshot) (device : Devices) (array : Array) → IsLawfulStart l r device array
    → (changes : List Change) → All (HasMaker l) changes
    → (runs : ℕ → List Moment) → ((n : ℕ) → n < l.shards → Run l IsByAnyone (started l r device) (runs n))
    → (seen later : ℕ → List Change)
    → ((n : ℕ) → n < l.shards → SawFirst l n changes (seen n) (later n) (runs n))
    → HaveOneRun l (started l r device) array runs later
