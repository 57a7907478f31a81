-- What calls of a shard's thread do.
use Rattle.std.specs.Prelude.{◌≡◌, ℕ, List, [], ◌∷◌, ◌++◌, Bool, true, false, length, Option}
use Rattle.r6_dev.specs.History.{Telling}
use Rattle.r6_layout.specs.Shape.{Shape}
use Rattle.r6_health.specs.Passes.{view_of}
use Rattle.r6_world.specs.Geometries.{layout_of}
use Rattle.r6_world.specs.PlainArray as world
use Rattle.r6_world.specs.Registers.{Snapshot}
use Rattle.r6_world.specs.Worlds.{Devices}
use Rattle.r6_world.specs.Claims.{IsLawfulStart}
use Rattle.r6_world.specs.Values.{op_of}
use Rattle.r6_core.specs.declared.Op.{Op}
use Rattle.r6_core.specs.Shards.{world_shard}
use Rattle.r6_core.specs.declared.refusal.Refusal.{Refusal}
use Rattle.r6_core.specs.declared.turn.Task.TheVariants as task
use Rattle.r6_core.specs.Refusals.{IsFirstFault, turn_faults}
use Rattle.r6_core.specs.Effects.{HandsReply, HasTaskFault}
use Rattle.r6_core.specs.Order.{HasNoReply}
use Rattle.r6_course.specs.Courses.{Start}
use Rattle.r6_shard.specs.Beginnings.{Hold, start_of}
use Rattle.r6_shard.specs.declared.performs.Performs.{Ghosts}
use Rattle.r6_shard.specs.declared.shard.Shard.{Shard}
use Rattle.r6_shard.specs.declared.ledger.Entry.{Entry}
use Rattle.r6_shard.specs.Courses.{HasCourse, IsOf}
use Rattle.r6_shard.specs.Answering.{AnswersEach}
use Rattle.r6_shard.specs.Replying.{noted_of}
use Rattle.r6_shard.specs.Kept.{NoneIsOut, NoneIsToTell}

-- the shard has had a course from this start, in which these ops were handed in, in this order
abbrev pub CourseOf : {P : Type 0} {g : Ghosts P} → Start → List world.Op → Shard P g → Type 0
CourseOf {g = g} s ops shard =
    HasCourse s shard.core (view_of shard.pass) shard.last.attaches shard.named (g.performer shard.parts).out
    (g.performer shard.parts).tells shard.asked.items shard.entries.items ops

-- whatever its course was, it has gone on
abbrev pub GoesOn : {P : Type 0} {g : Ghosts P} → (old new : Shard P g) → Type 0
GoesOn old new = (s : Start) (ops : List world.Op) → CourseOf s ops old → CourseOf s ops new

-- its ledger is as it was
pub record SameLedger {P : Type 0} {g : Ghosts P} (old new : Shard P g) : Type 0 where
  pub asked : new.asked.items ≡ old.asked.items
  pub entries : new.entries.items ≡ old.entries.items
  pub room : new.room ≡ old.room

-- a request of an event was handed in
pub record Submits {P : Type 0} {g : Ghosts P} (event : ℕ) (op : Op) (old : Shard P g) (id : ℕ) (new : Shard P g)
    : Type 0 where
  pub course : (s : Start) (ops : List world.Op) → CourseOf s ops old → CourseOf s (ops ++ op_of op ∷ []) new
  pub number : id ≡ length old.asked.items
  pub asked : new.asked.items ≡ old.asked.items ++ noted_of event (op_of op) (length old.entries.items) ∷ []
  pub entries : new.entries.items ≡ old.entries.items
  pub room : new.room ≡ old.room
  pub pass : new.pass ≡ old.pass
  pub parts : new.parts ≡ old.parts
  pub last : new.last ≡ old.last

-- the reply to one of the requests was taken, or none was there
abbrev pub Collects : {P : Type 0} {g : Ghosts P} → Bool → (old new : Shard P g) → Type 0
Collects true old new =
    (entry : Entry) × IsOf old.asked.items entry × HandsReply old.core entry.id.0 entry.reply new.core
    × (new.entries.items ≡ old.entries.items ++ entry ∷ [])
Collects false old new = (new.entries.items ≡ old.entries.items) × HasNoReply new.core

-- from every lawful start whose devices hold what is told here a course leads to the shard, in which these ops were
-- handed in
abbrev pub ComesFrom : {P : Type 0} {g : Ghosts P} → Shape → (number : ℕ) → Snapshot
    → (taken : ℕ → ℕ → Option Telling) → List world.Op → Shard P g → Type 0
ComesFrom geometry number snapshot taken ops shard =
    (device : Devices) (array : world.Array) → IsLawfulStart (layout_of geometry) snapshot device array
    → Hold (start_of geometry number snapshot device array) taken
    → CourseOf (start_of geometry number snapshot device array) ops shard

-- what its parts tell is where a course of the shard begins
abbrev pub Begins : {P : Type 0} {g : Ghosts P} → Shape → (number : ℕ) → Snapshot → Shard P g → Type 0
Begins {g = g} geometry number snapshot shard =
    ComesFrom geometry number snapshot (g.performer shard.parts).tells [] shard

-- nothing is left to do: each request is answered, once, no command is out, no call is to be made, and no row is to be
-- rebuilt
pub record Rests {P : Type 0} {g : Ghosts P} (shard : Shard P g) : Type 0 where
  pub answered : length shard.entries.items ≡ length shard.asked.items
  pub each : AnswersEach shard.asked.items shard.entries.items
  pub none_out : NoneIsOut (world_shard shard.core)
  pub none_to_tell : NoneIsToTell (world_shard shard.core)
  pub refusal : Refusal
  pub none_to_rebuild : IsFirstFault (HasTaskFault shard.core task.Rebuild) turn_faults refusal
