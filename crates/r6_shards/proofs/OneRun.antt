-- The shards of an array, as their threads drive them, are one run of it.
use Rattle.std.proofs.Common.{ℕ, ◌<◌, ◌≤◌, ◌⊎◌, List, [], ◌∷◌, ◌++◌, Contains, inl, inr, refl, sym, subst, arith}
use Rattle.std.proofs.lemmas.Bool.{cases_lt}
use Rattle.std.proofs.lemmas.List.Elements.{Contains-append_right}
use Rattle.r6_layout.specs.Shape.{Shape, IsShape}
use Rattle.r6_health.specs.declared.history.HistoryEntry.{HistoryEntry}
use Rattle.r6_health.specs.declared.history.View.{View}
use Rattle.r6_health.specs.Passes.{view_of}
use Rattle.r6_health.specs.Views.{joined, NoneUngiven}
use Rattle.r6_world.specs.Geometries.{layout_of}
use Rattle.r6_world.specs.PlainArray as world
use Rattle.r6_world.specs.Registers.{Snapshot}
use Rattle.r6_world.specs.Worlds.{Devices}
use Rattle.r6_world.specs.Claims.{IsLawfulStart}
use Rattle.r6_world.proofs.Geometries.{layouts}
use Rattle.r6_course.specs.Courses.{Stand, first_stand}
use Rattle.r6_shard.specs.declared.performs.Performs.{Ghosts}
use Rattle.r6_shard.specs.declared.shard.Shard.{Shard}
use Rattle.r6_shard.specs.Beginnings.{start_of}
use Rattle.r6_shard.specs.Courses.{stand_of}
use Rattle.r6_shard.specs.Shards.{CourseOf}
use Rattle.r6_merge.specs.Courses.{start_for, AreOneRun}
use Rattle.r6_merge.specs.Passes.{IsCaller, IsSeenBy}
use Rattle.r6_merge.proofs.Passes.{none_since_law, passes_law}
use Rattle.r6_shards.specs.Shards.{IsKnown, KnownLaw, StandsSo, ShardsLaw}

module _ {P : Type 0} (g : Ghosts P) (geometry : Shape) (snapshot : Snapshot) (device : Devices)
    (array : world.Array) (ops : ℕ → List world.Op) (shards : ℕ → Shard P g)
    (all : (n : ℕ) → n < geometry.shards → CourseOf (start_of geometry n snapshot device array) (ops n) (shards n)) where
  -- where a shard stands
  stands : (n : ℕ) → (n < geometry.shards) ⊎ (geometry.shards ≤ n) → Stand
  stands n (inl below) =
      let x = all n below in
      let shard = shards n in
      record
      (stand_of shard.core (view_of shard.pass) shard.last.attaches shard.named (g.performer shard.parts).tells
      x.history)
      { out = x.course.taken }
  stands n (inr above) = first_stand (start_of geometry n snapshot device array) [] (g.performer (shards n).parts).tells

  are-so : (n : ℕ) (c : (n < geometry.shards) ⊎ (geometry.shards ≤ n)) → n < geometry.shards
      → StandsSo (shards n) (ops n) (stands n c)
  unfolding stands
  are-so n (inl below') below =
      record { tells = (all n below').tells; shard_is = refl; parts = refl; log = refl; register = refl }
  are-so n (inr above) below = absurd (omega arith)

  seen-by : (last : View) (n : ℕ) (c : (n < geometry.shards) ⊎ (geometry.shards ≤ n)) → n < geometry.shards
      → IsKnown last (view_of (shards n).pass) n
      → IsSeenBy last (start_for (layout_of geometry) snapshot device array n) (view_of (shards n).pass) (stands n c)
  unfolding stands
  seen-by last n (inl below') below known =
      let x = (all n below').course in
      record {
        follows = x.follows;
        knows = x.pass;
        name = known.name;
        seen = known.seen;
        none_since = known.none_since;
        none_below = known.none_below;
      }
  seen-by last n (inr above) below known = absurd (omega arith)

  pub are-one : IsShape geometry → IsLawfulStart (layout_of geometry) snapshot device array → (last : View)
      → IsCaller geometry.shards last
      → ((n : ℕ) → n < geometry.shards → IsKnown last (view_of (shards n).pass) n)
      → (at : ℕ → Stand) × AreOneRun (layout_of geometry) snapshot device array last.seen at
      × ((n : ℕ) → n < geometry.shards → StandsSo (shards n) (ops n) (at n))
  are-one limits lawful last caller known = (
    (λ n. stands n (cases_lt n geometry.shards)),
    passes_law (layout_of geometry) (layouts geometry limits) snapshot device array lawful last caller
        (λ n. view_of (shards n).pass)
        (λ n. stands n (cases_lt n geometry.shards))
        (λ n below. seen-by last n (cases_lt n geometry.shards) below (known n below)),
    λ n below. are-so n (cases_lt n geometry.shards) below,
  )

pub shards_law : {P : Type 0} (g : Ghosts P) → ShardsLaw g
shards_law g geometry limits snapshot taken ops shards all last caller known device array lawful hold =
    are-one g geometry snapshot device array ops shards (λ n below. all n below device array lawful (hold n below))
    limits lawful last caller known

-- what a pass has learned just now it has heard
heard-now : (v other : View) → Contains (joined v other).heard other.seen
heard-now v other = Contains-append_right (v.heard ++ other.heard) (other.seen ∷ []) other.seen (0, omega arith, refl)

pub known_law : KnownLaw
known_law last v w number name none own seen looks =
    let since = none_since_law last (joined v last) w own seen looks
    (subst (λ (all : List (List HistoryEntry)). Contains all last.seen) (sym looks.grows.heard) (heard-now v last)) in
    record {
      name = name;
      seen = seen;
      none_since = since.0;
      none_below = subst (λ k. NoneUngiven v.name k last.seen) none since.1;
    }
