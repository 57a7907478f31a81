-- Parts that a shard is given while it runs.
use Rattle.std.specs.Prelude.{◌≡◌, ℕ, ◌<◌, ◌≤◌, List, length, codes, Option}
use Rattle.r6_dev.specs.History.{Telling}
use Rattle.r6_dev.specs.Promises.{Promise}
use Rattle.r6_world.specs.PlainArray as world
use Rattle.r6_world.specs.Worlds.{Devices}
use Rattle.r6_course.specs.Courses as courses
use Rattle.r6_course.specs.Courses.{Start}
use Rattle.r6_course.specs.Steps.{OthersAreAlike}
use Rattle.r6_exchange.specs.declared.task.Part.{Part}
use Rattle.r6_shard.specs.declared.performs.Performs.{Ghosts}
use Rattle.r6_shard.specs.declared.handing.PartRefusal.{PartRefusal}
use Rattle.r6_shard.specs.declared.handing.PartRefusal.TheVariants.{Looked, NoRoom}
use Rattle.r6_shard.specs.declared.handing.RefusedPart.{RefusedPart}
use Rattle.r6_shard.specs.declared.shard.Shard.{Shard}
use Rattle.r6_shard.specs.Here.{StaysHere}
use Rattle.r6_shard.specs.Parts.{TakesIn}
use Rattle.r6_shard.specs.Performing.{Performer}
use Rattle.r6_shard.specs.Shards.{CourseOf, SameLedger}

-- how a refusal is printed
abbrev pub refusal_text : PartRefusal → List ℕ
refusal_text Looked = codes "part: looked at"
refusal_text NoRoom = codes "part: no room"

-- A part is handed in, and nothing else changes. Whatever course led to the old shard, whatever blocks it took the
-- device to have: from the start where the device has what the part tells, one leads to the new
pub record HandsIn {P D : Type 0} {g : Ghosts P} (told : D → Telling) (promised : D → Promise) (part : Part D)
    (earlier : Option (Part D)) (old new : Shard P g) : Type 0 where
  pub unseen : old.last.attaches < part.generation
  pub taken : TakesIn told promised part earlier (g.performer old.parts) (g.performer new.parts)
  pub core : new.core ≡ old.core
  pub pass : new.pass ≡ old.pass
  pub last : new.last ≡ old.last
  pub named : new.named ≡ old.named
  pub saw_out : new.saw_out ≡ old.saw_out
  pub ledger : SameLedger old new
  pub here : StaysHere old new
  pub site : g.site new.parts ≡ g.site old.parts
  pub course : (s : Start) (device : Devices) (ops : List world.Op)
      → OthersAreAlike part.slot part.generation s.device device
      → courses.Tells s (device part.slot part.generation) (told part.device)
      → CourseOf s ops old → CourseOf (record s { device = device }) ops new

-- as many parts were taken up as there is room for
abbrev pub IsFull : Performer → Type 0
IsFull performer = performer.part_room ≤ length performer.labels

-- why a part is refused: what comes first counts
abbrev pub IsRefusedFor : {P D : Type 0} {g : Ghosts P} → PartRefusal → Part D → Shard P g → Type 0
IsRefusedFor Looked part shard = part.generation ≤ shard.last.attaches
IsRefusedFor {g = g} NoRoom part shard =
    (shard.last.attaches < part.generation) × IsFull (g.performer shard.parts)

-- a part is refused: it comes back, and nothing changes
pub record RefusesPart {P D : Type 0} {g : Ghosts P} (part : Part D) (old : Shard P g) (refused : RefusedPart D)
    (new : Shard P g) : Type 0 where
  pub same : new ≡ old
  pub back : refused.part ≡ part
  pub reason : IsRefusedFor refused.refusal part old
