-- How a shard begins.
use Rattle.std.specs.Prelude.{◌≡◌, ℕ, [], ◌∷◌, Option, Some}
use Rattle.r6_dev.specs.History.{Telling}
use Rattle.r6_layout.specs.Shape.{Shape}
use Rattle.r6_health.specs.declared.history.View.{View}
use Rattle.r6_world.specs.PlainArray.{Array}
use Rattle.r6_world.specs.Geometries.{layout_of}
use Rattle.r6_world.specs.Registers.{Snapshot}
use Rattle.r6_world.specs.Worlds.{Devices}
use Rattle.r6_course.specs.Courses.{Start, Tells}

-- the pass of the shard of this number, which is its name: it has seen nothing yet, made no call and given no name, at a
-- register of this array that began so
pub record IsFirstPass (geometry : Shape) (number : ℕ) (snapshot : Snapshot) (v : View) : Type 0 where
  pub name : v.name ≡ number ∷ []
  pub next : v.next ≡ 0
  pub slots : v.start.slots ≡ geometry.slots
  pub shards : v.start.shards ≡ geometry.shards
  pub began : v.start.snapshot ≡ snapshot
  pub seen : v.seen ≡ []
  pub mine : v.mine ≡ []

-- how a shard of an array of md begins
abbrev pub start_of : Shape → (number : ℕ) → Snapshot → Devices → Array → Start
start_of geometry number snapshot device array =
    record { layout = layout_of geometry; number = number; register = snapshot; device = device; array = array }

-- the devices hold what the parts tell, also those that are attached later
abbrev pub Hold : Start → (ℕ → ℕ → Option Telling) → Type 0
Hold s part =
    (slot generation : ℕ) (telling : Telling) → part slot generation ≡ Some telling
    → Tells s (s.device slot generation) telling
