-- The courses of all shards at one register are one run of the array (this project's own).
use Rattle.std.specs.Prelude.{◌≡◌, ◌≢◌, ℕ, ◌<◌, List, [], ◌∷◌, ◌++◌, All, if◌then◌else◌}
use Rattle.r6_health.specs.declared.history.HistoryEntry.{HistoryEntry}
use Rattle.r6_health.specs.Histories.{calls_by}
use Rattle.r6_world.specs.Layouts.{Layout, IsLayout}
use Rattle.r6_world.specs.PlainArray.{Array}
use Rattle.r6_world.specs.Registers.{Snapshot, answer_to, register_after}
use Rattle.r6_world.specs.Worlds.{Devices, Happening, Moment, started}
use Rattle.r6_world.specs.Claims.{IsLawfulStart}
use Rattle.r6_world.specs.Laws.{IsOfOutside}
use Rattle.r6_world.specs.Witness.{after_all}
use Rattle.r6_course.specs.Courses.{Start, Mark, history_after, Stand, AreParts, Follows}
use Rattle.r6_merge.specs.Weaving.{IsWoven, IsArrayRun}
use Rattle.r6_merge.specs.Scheduling.{is_own}

-- the shards of one array begin at one register, with the same devices and the same plain array
abbrev pub start_for : Layout → Snapshot → Devices → Array → (n : ℕ) → Start
start_for l r device array n = record { layout = l; number = n; register = r; device = device; array = array }

-- a shard's course is part of this history of the register: its pass has seen a beginning of it, in which are all calls
-- that the pass made
pub record IsPartOf (log rest : List HistoryEntry) (s : Start) (at : Stand) : Type 0 where
  pub follows : Follows s at
  pub seen : log ≡ at.log ++ rest
  pub own : calls_by at.by log ≡ calls_by at.by at.log

-- a call that no shard's pass made may come from outside
abbrev pub IsAccountedFor : (shards : ℕ) → (ℕ → Stand) → HistoryEntry → Type 0
IsAccountedFor shards at e = ((n : ℕ) → n < shards → e.by ≢ (at n).by) → IsOfOutside e.call

-- what the users of one shard see of what happens in the array: only what happens in their shard leaves marks
abbrev pub history_in : ℕ → List Mark → List Happening → List Mark
history_in n history [] = history
history_in n history (h ∷ happenings) =
    history_in n (if is_own n h then history_after h history else history) happenings

-- the register after the calls of these entries, as the register of one thread answers them
abbrev pub register_since : Layout → Snapshot → List HistoryEntry → Snapshot
register_since l r [] = r
register_since l r (e ∷ log) = register_since l (register_after l r e.call (answer_to l r e.call)) log

-- This is what happens in one run of the array. In it the users of each shard see what they saw; and at its end each
-- shard is as it stands, its parts tell what the devices have, where they have answered no error, and the register is
-- as the calls leave it that a shard hasn't seen
pub record IsRunOfCourses (l : Layout) (r : Snapshot) (device : Devices) (array : Array) (log : List HistoryEntry)
    (at : ℕ → Stand) (happenings : List Happening) : Type 0 where
  pub moments : List Moment
  pub one : IsArrayRun l (started l r device) array happenings moments
  pub seen : (n : ℕ) → n < l.shards → history_in n [] happenings ≡ (at n).history
  pub shard : (n : ℕ) → n < l.shards → (after_all l (started l r device) moments).shard n ≡ (at n).shard
  pub register : (n : ℕ) → n < l.shards → (rest : List HistoryEntry) → log ≡ (at n).log ++ rest
      → (after_all l (started l r device) moments).register ≡ register_since l (at n).register rest
  pub parts : (n : ℕ) → n < l.shards
      → AreParts (start_for l r device array n) (after_all l (started l r device) moments).device
      ((after_all l (started l r device) moments).broken n) (at n).part

-- Each shard has a run of its own; these can be woven; and in whatever order they are, that is one run of the array
pub record AreOneRun (l : Layout) (r : Snapshot) (device : Devices) (array : Array) (log : List HistoryEntry)
    (at : ℕ → Stand) : Type 0 where
  pub runs : ℕ → List Moment
  pub some : (happenings : List Happening) × IsWoven l runs happenings
  pub every : (happenings : List Happening) → IsWoven l runs happenings
      → IsRunOfCourses l r device array log at happenings

-- So it is of the courses of all shards, if each is part of one history of the register, their passes have names of
-- their own, and every other call may come from outside
abbrev pub CoursesLaw : Type 0
CoursesLaw =
    (l : Layout) → IsLayout l → (r : Snapshot) (device : Devices) (array : Array) → IsLawfulStart l r device array
    → (log : List HistoryEntry) (rests : ℕ → List HistoryEntry) (at : ℕ → Stand)
    → ((n : ℕ) → n < l.shards → IsPartOf log (rests n) (start_for l r device array n) (at n))
    → ((n m : ℕ) → n < l.shards → m < l.shards → (at n).by ≡ (at m).by → n ≡ m)
    → All (IsAccountedFor l.shards at) log
    → AreOneRun l r device array log at
