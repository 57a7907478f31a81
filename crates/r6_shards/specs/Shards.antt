-- The shards of an array, as their threads drive them, are one run of it (this project's own).
use Rattle.std.specs.Prelude.{◌≡◌, ℕ, ◌<◌, List, [], ◌∷◌, Option}
use Rattle.r6_dev.specs.History.{Telling}
use Rattle.r6_layout.specs.Shape.{Shape, IsShape}
use Rattle.r6_health.specs.declared.history.View.{View}
use Rattle.r6_health.specs.Histories.{calls_by, held, StartsWith}
use Rattle.r6_health.specs.Passes.{view_of}
use Rattle.r6_health.specs.Views.{joined, Looks, NoneUngiven}
use Rattle.r6_world.specs.Geometries.{layout_of}
use Rattle.r6_world.specs.PlainArray as world
use Rattle.r6_world.specs.Registers.{Snapshot}
use Rattle.r6_world.specs.Worlds.{Devices}
use Rattle.r6_world.specs.Claims.{IsLawfulStart}
use Rattle.r6_core.specs.Shards.{world_shard}
use Rattle.r6_course.specs.Courses.{Stand}
use Rattle.r6_shard.specs.declared.performs.Performs.{Ghosts}
use Rattle.r6_shard.specs.declared.shard.Shard.{Shard}
use Rattle.r6_shard.specs.Beginnings.{Hold, start_of}
use Rattle.r6_shard.specs.Courses.{Tells}
use Rattle.r6_shard.specs.Shards.{ComesFrom}
use Rattle.r6_merge.specs.Courses.{AreOneRun}
use Rattle.r6_merge.specs.Passes.{IsCaller}

-- the pass of the shard of this number has the number as its name; the calling thread's pass has seen all that it has
-- seen, no call of it since, and none by a pass named below it
pub record IsKnown (last v : View) (number : ℕ) : Type 0 where
  pub name : v.name ≡ number ∷ []
  pub seen : StartsWith last.seen v.seen
  pub none_since : calls_by v.name last.seen ≡ v.mine
  pub none_below : NoneUngiven v.name 0 last.seen

-- So it is of a pass that gave no name and of whose name the history that it saw has its own calls, once the calling
-- thread's has seen all of that, and once it learned what that one has seen and looked once more
abbrev pub KnownLaw : Type 0
KnownLaw =
    (last v w : View) (number : ℕ) → v.name ≡ number ∷ [] → v.next ≡ 0 → calls_by v.name v.seen ≡ v.mine
    → StartsWith last.seen v.seen → Looks (joined v last) w → IsKnown last v number

-- where a shard stands, as its thread's lists tell it and its pass has seen the register
pub record StandsSo {P : Type 0} {g : Ghosts P} (shard : Shard P g) (ops : List world.Op) (at : Stand) : Type 0 where
  pub tells : Tells shard.asked.items shard.entries.items ops at.history
  pub shard_is : at.shard ≡ world_shard shard.core
  pub parts : at.part ≡ (g.performer shard.parts).tells
  pub log : at.log ≡ (view_of shard.pass).seen
  pub register : at.register ≡ held (view_of shard.pass).start (view_of shard.pass).seen

-- from each lawful start from which all of them come
abbrev pub ShardsLaw : {P : Type 0} → Ghosts P → Type 0
ShardsLaw {P = P} g =
    (geometry : Shape) → IsShape geometry
    → (snapshot : Snapshot) (taken : ℕ → ℕ → ℕ → Option Telling) (ops : ℕ → List world.Op) (shards : ℕ → Shard P g)
    → ((n : ℕ) → n < geometry.shards → ComesFrom geometry n snapshot (taken n) (ops n) (shards n))
    → (last : View) → IsCaller geometry.shards last
    → ((n : ℕ) → n < geometry.shards → IsKnown last (view_of (shards n).pass) n)
    → (device : Devices) (array : world.Array) → IsLawfulStart (layout_of geometry) snapshot device array
    → ((n : ℕ) → n < geometry.shards → Hold (start_of geometry n snapshot device array) (taken n))
    → (at : ℕ → Stand) × AreOneRun (layout_of geometry) snapshot device array last.seen at
    × ((n : ℕ) → n < geometry.shards → StandsSo (shards n) (ops n) (at n))
