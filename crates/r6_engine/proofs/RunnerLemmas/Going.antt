-- A shard that goes on, one call after another, and takes nothing more.
use Rattle.std.proofs.Common.{◌∙◌, List, refl, sym, subst, Bool}
use Rattle.r6_core.specs.Shards.{CoreView}
use Rattle.r6_shard.specs.declared.shard.Shard.{Shard}
use Rattle.r6_shard.specs.Here.{HasUsed, StaysHere}
use Rattle.r6_shard.specs.Sound.{IsSound, StaysSound}
use Rattle.r6_shard.specs.Learning.{KeepsAllElse}
use Rattle.r6_shard.specs.declared.performs.Performs.{Ghosts}
use Rattle.r6_engine.specs.declared.runner.runner.Runner.{Runner}
use Rattle.r6_engine.specs.runner.Going.{TakesNoMore}
use Rattle.r6_engine.proofs.RunnerLemmas.Parts.{parts-on}

pub none-same : {P D : Type 0} {g : Ghosts P} (r : Runner P D g) → TakesNoMore r r
none-same r = record {
  course = λ shape events number numbers geometry snapshot before x. x;
  sound = λ shape number slot x. x;
  counted = λ rows x. x;
  awaited = λ events x. x;
  parts = record { labels = refl; room = refl; site = refl; handed = refl; others = refl; here = λ slot x. x; window = refl };
  place = refl;
}

pub none-then : {P D : Type 0} {g : Ghosts P} (a b c : Runner P D g) → TakesNoMore a b
    → TakesNoMore b c → TakesNoMore a c
none-then a b c x y = record {
  course = λ shape events number numbers geometry snapshot before z.
      y.course shape events number numbers geometry snapshot before (x.course shape events number numbers geometry snapshot before z);
  sound = λ shape number slot z. y.sound shape number slot (x.sound shape number slot z);
  counted = λ rows z. y.counted rows (x.counted rows z);
  awaited = λ events z. y.awaited events (x.awaited events z);
  parts = parts-on a b c x.parts y.parts;
  place = y.place ∙ x.place;
}

-- ---- the shard's pass and another learn from each other

pub sound-still : {P : Type 0} {g : Ghosts P} (old new : Shard P g) → KeepsAllElse old new → StaysSound old new
sound-still {g = g} old new kept shape number slot x =
    subst (λ (y : CoreView). IsSound (g.performer new.parts) shape number slot y new.named) (sym kept.core)
    (subst (λ (y : List Bool). IsSound (g.performer new.parts) shape number slot old.core y) (sym kept.named)
    (subst (λ y. IsSound (g.performer y) shape number slot old.core old.named) (sym kept.parts) x))

pub here-still : {P : Type 0} {g : Ghosts P} (old new : Shard P g) → KeepsAllElse old new → StaysHere old new
here-still {g = g} old new kept slot x =
    subst (λ y. HasUsed (g.performer y).labels slot new.core) (sym kept.parts)
    (subst (HasUsed (g.performer old.parts).labels slot) (sym kept.core) x)
