-- Requests that are handed in together, each of its event (this project's own).
use Rattle.std.specs.Prelude.{◌≡◌, ℕ, List, [], ◌∷◌, ◌++◌, length, map}
use Rattle.r6_world.specs.PlainArray as world
use Rattle.r6_world.specs.Values.{op_of}
use Rattle.r6_world.specs.declared.values.Op.{Op}
use Rattle.r6_core.specs.declared.submitting.Submitted.{Submitted}
use Rattle.r6_core.specs.Together as together
use Rattle.r6_course.specs.Courses.{Start}
use Rattle.r6_shard.specs.declared.ledger.Asked.{Asked}
use Rattle.r6_shard.specs.declared.ledger.Asking.{Asking}
use Rattle.r6_shard.specs.declared.performs.Performs.{Ghosts}
use Rattle.r6_shard.specs.declared.shard.Shard.{Shard}
use Rattle.r6_shard.specs.Replying.{noted_of}
use Rattle.r6_shard.specs.Shards.{CourseOf}

-- each of these requests with its event, handed in once so many replies were taken
abbrev pub all_asked : (answered : ℕ) → (events : List ℕ) → List Op → List Asked
all_asked answered [] ops = []
all_asked answered (event ∷ events) [] = []
all_asked answered (event ∷ events) (o ∷ ops) = noted_of event (op_of o) answered ∷ all_asked answered events ops

-- the requests as they are asked for
abbrev pub all_asking : (events : List ℕ) → List Op → List Asking
all_asking [] ops = []
all_asking (event ∷ events) [] = []
all_asking (event ∷ events) (o ∷ ops) = record { event = event; op = o } ∷ all_asking events ops

-- Of the requests in the list the first ones are taken, up to one that is refused, each with its event; the others are
-- left. If none is taken, its core and its ledger are as they were
pub record SubmitsAll {P : Type 0} {g : Ghosts P} (events : List ℕ) (ops left : List Op) (old : Shard P g)
    (submitted : Submitted) (new : Shard P g) : Type 0 where
  pub submits : together.SubmitsAll old.core ops left submitted new.core
  pub course : (s : Start) (before : List world.Op) → CourseOf s before old
      → CourseOf s (before ++ map op_of submits.taken) new
  pub number : submitted.first.0 ≡ length old.asked.items
  pub asked : new.asked.items ≡ old.asked.items ++ all_asked (length old.entries.items) events submits.taken
  pub entries : new.entries.items ≡ old.entries.items
  pub room : new.room ≡ old.room
  pub named : new.named ≡ old.named
  pub saw_out : new.saw_out ≡ old.saw_out
  pub pass : new.pass ≡ old.pass
  pub parts : new.parts ≡ old.parts
  pub last : new.last ≡ old.last
