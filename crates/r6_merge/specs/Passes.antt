-- The shards of an array as the passes of its register know them: one pass for the calling thread, and one for each
-- shard (this project's own).
use Rattle.std.specs.Prelude.{◌≡◌, ℕ, ◌<◌, [], ◌∷◌, All, Contains}
use Rattle.r6_health.specs.declared.history.OwnCall.{OwnCall}
use Rattle.r6_health.specs.declared.history.View.{View}
use Rattle.r6_health.specs.Histories.{calls_by, StartsWith}
use Rattle.r6_health.specs.Views.{Looks, NoneUngiven}
use Rattle.r6_world.specs.Layouts.{Layout, IsLayout}
use Rattle.r6_world.specs.PlainArray.{Array}
use Rattle.r6_world.specs.Registers.{Snapshot}
use Rattle.r6_world.specs.Worlds.{Devices}
use Rattle.r6_world.specs.Claims.{IsLawfulStart}
use Rattle.r6_world.specs.Laws.{IsOfOutside}
use Rattle.r6_course.specs.Courses.{Start, Stand, Follows}
use Rattle.r6_course.specs.Steps.{Knows}
use Rattle.r6_merge.specs.Courses.{start_for, AreOneRun}

-- the calling thread's pass at last: it is the first pass, gave as many names as there are shards, and made only calls
-- that may come from outside
pub record IsCaller (shards : ℕ) (last : View) : Type 0 where
  pub name : last.name ≡ []
  pub next : last.next ≡ shards
  pub own : calls_by last.name last.seen ≡ last.mine
  pub ungiven : NoneUngiven last.name last.next last.seen
  pub outside : All (λ (c : OwnCall). IsOfOutside c.call) last.mine

-- a shard at last: a course leads to where it stands, by what its own pass knows, whose name is the shard's number; the
-- calling thread's pass has seen all that, no call of the shard's pass since, and none by a pass named below it
pub record IsSeenBy (last : View) (s : Start) (v : View) (at : Stand) : Type 0 where
  pub follows : Follows s at
  pub knows : Knows s v at.by at.log at.register
  pub name : v.name ≡ s.number ∷ []
  pub seen : StartsWith last.seen v.seen
  pub none_since : calls_by v.name last.seen ≡ v.mine
  pub none_below : NoneUngiven v.name 0 last.seen

-- The shards are one run of the array: from each lawful start from which a course leads to each of them
abbrev pub PassesLaw : Type 0
PassesLaw =
    (l : Layout) → IsLayout l → (r : Snapshot) (device : Devices) (array : Array) → IsLawfulStart l r device array
    → (last : View) → IsCaller l.shards last → (v : ℕ → View) (at : ℕ → Stand)
    → ((n : ℕ) → n < l.shards → IsSeenBy last (start_for l r device array n) (v n) (at n))
    → AreOneRun l r device array last.seen at

-- How the calling thread comes to know that a shard's pass made no call since, and none is by a name that it didn't
-- give: the shard's pass, which has learned what the calling thread's had seen, looks once more
abbrev pub NoneSinceLaw : Type 0
NoneSinceLaw =
    (last v w : View) → calls_by v.name v.seen ≡ v.mine → StartsWith last.seen v.seen → Looks v w
    → Contains w.heard last.seen
    → (calls_by v.name last.seen ≡ v.mine) × NoneUngiven v.name v.next last.seen
