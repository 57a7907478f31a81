-- An array, as its shards' threads begin (this project's own).
use Rattle.std.specs.Prelude.{◌≡◌, ℕ, ◌≤◌, List, false}
use Rattle.r6_dev.specs.History.{Telling}
use Rattle.r6_layout.specs.Shape.{IsShape, Shape}
use Rattle.r6_health.specs.declared.history.Start.{Start}
use Rattle.r6_health.specs.declared.history.View.{View}
use Rattle.r6_health.specs.Views.{first_of}
use Rattle.r6_world.specs.Registers.{Snapshot}
use Rattle.r6_engine.specs.lists.Events.{Event}
use Rattle.r6_engine.specs.feed.Events.{events_of}
use Rattle.r6_engine.specs.declared.making.Opening.{Opening}

-- it is of this shape, and is to do these events; nothing became of it yet
pub record IsOpening {D : Type 0} (told : D → Telling) (shape : Shape) (events : List Event) (opening : Opening D)
    : Type 0 where
  pub shape_is : opening.geometry.now ≡ shape
  pub limits : IsShape shape
  pub events_are : events_of told opening.events.now ≡ events
  pub window : (1 ≤ opening.window) × (opening.window ≤ 8)
  pub no_attach : opening.start.now.attaches ≡ 0
  pub unfailed : opening.start.now.failed ≡ false

-- ---- the pass of the calling thread

-- this pass, once it has given so many names
abbrev pub having_given : (count : ℕ) → View → View
having_given count v = record v { next = count }

-- the first pass of a register of this array that began so: it has given so many names, and done nothing else
pub record HasNamed (shape : Shape) (snapshot : Snapshot) (count : ℕ) (v : View) : Type 0 where
  pub slots : v.start.slots ≡ shape.slots
  pub shards : v.start.shards ≡ shape.shards
  pub began : v.start.snapshot ≡ snapshot
  pub view : v ≡ having_given count (first_of v.start)

-- the calling thread's pass, once it has named that of each shard
abbrev pub caller_of : Start → View
caller_of s = having_given s.shards (first_of s)
