-- What was done stays so where the shard's pass and another learn from each other.
use Rattle.std.proofs.Common.{◌≡◌, ◌∙◌, ap, refl, subst, sym, List, Option}
use Rattle.r6_core.specs.Shards.{CoreView}
use Rattle.r6_shard.specs.Learning as shards
use Rattle.r6_shard.specs.Shards as shard
use Rattle.r6_shard.specs.declared.performs.Performs.{Ghosts}
use Rattle.r6_shard.proofs.Lasting.{lasts_same}
use Rattle.r6_engine.specs.declared.runner.runner.Runner.{Runner}
use Rattle.r6_engine.specs.declared.runner.scrub.ScrubDone.{ScrubDone}
use Rattle.r6_engine.specs.declared.runner.scrub.ScrubUnderWay.{ScrubUnderWay}
use Rattle.r6_engine.specs.runner.Counted.{IsCounting}
use Rattle.r6_engine.specs.runner.Going.{TakesNoMore}
use Rattle.r6_engine.specs.runner.Learning.{KeepsAllElse}
use Rattle.r6_engine.specs.runner.Runners.{KeepsTasks, ShardGoesOn}
use Rattle.r6_engine.proofs.RunnerLemmas.Awaiting.{alike}
use Rattle.r6_engine.proofs.RunnerLemmas.Done.{has-gone, is-like}
use Rattle.r6_engine.proofs.RunnerLemmas.Going.{here-still, none-same, none-then, sound-still}
use Rattle.r6_engine.proofs.RunnerLemmas.Keeping.{rests-still}

module _ {P D : Type 0} {g : Ghosts P} (old new : Runner P D g) (k : shards.KeepsAllElse old.shard new.shard) where
  -- the shard goes on by itself, and all but it is as it was
  stays : shard.GoesOn old.shard new.shard → new.waits ≡ old.waits → new.refused.items ≡ old.refused.items → KeepsTasks old new → ShardGoesOn old new
  stays goes waits refused kept = record {
    course = goes;
    lasts = lasts_same old.shard.core new.shard.core k.core;
    asked = k.asked;
    waits = waits;
    refused = refused;
    kept = kept;
  }

  no-more : ShardGoesOn old new → TakesNoMore old new
  no-more h = record {
    course = λ shape events number numbers geometry snapshot before x.
        is-like shape events geometry number snapshot before numbers new.shard new.shard old.refused.items new.refused.items old.scrub new.scrub
        old.scrubs_done.items new.scrubs_done.items old.handed.items new.handed.items old.due.items new.due.items refl h.refused h.kept.scrub
        h.kept.scrubs_done h.kept.handed h.kept.due
        (has-gone shape events geometry number snapshot before numbers old.shard new.shard old.refused.items old.scrub old.scrubs_done.items
        old.handed.items old.due.items h.course h.lasts h.asked x);
    sound = sound-still old.shard new.shard k;
    counted = λ rows x. (
      h.kept.rows ∙ x.0,
      x.1,
      x.2,
      subst (λ (y : CoreView). IsCounting rows x.1 x.2 y new.scrub new.scrubs_done.items) (sym k.core)
          (subst (λ (y : Option ScrubUnderWay). IsCounting rows x.1 x.2 old.shard.core y new.scrubs_done.items) (sym h.kept.scrub)
          (subst (λ (y : List ScrubDone). IsCounting rows x.1 x.2 old.shard.core old.scrub y) (sym h.kept.scrubs_done) x.3)),
    );
    awaited = λ events x.
        alike events old.waits new.waits old.shard.asked.items new.shard.asked.items old.due.items new.due.items h.waits k.asked h.kept.due x;
    parts = record {
      labels = ap (λ p. (g.performer p).labels) k.parts;
      room = ap (λ p. (g.performer p).part_room) k.parts;
      site = ap g.site k.parts;
      handed = h.kept.handed;
      others = h.kept.others;
      here = here-still old.shard new.shard k;
      window = ap (λ (y : CoreView). y.window) k.core;
    };
    place = ap (λ (y : CoreView). y.shard) k.core;
  }

  pub keeps-else : shard.GoesOn old.shard new.shard → new.waits ≡ old.waits → new.refused.items ≡ old.refused.items → KeepsTasks old new
      → KeepsAllElse old new
  keeps-else goes waits refused kept = record {
    shard = k;
    goes = no-more (stays goes waits refused kept);
    over = λ x. record {
      none_due = kept.due ∙ x.none_due;
      no_scrub = kept.scrub ∙ x.no_scrub;
      rests = rests-still old.shard new.shard k x.rests;
    };
  }

-- ---- one after the other

pub else-same : {P D : Type 0} {g : Ghosts P} (r : Runner P D g) → KeepsAllElse r r
else-same r = record {
  shard = record { core = refl; parts = refl; asked = refl; entries = refl; room = refl; named = refl; last = refl; saw_out = refl };
  goes = none-same r;
  over = λ x. x;
}

pub else-then : {P D : Type 0} {g : Ghosts P} (a b c : Runner P D g) → KeepsAllElse a b → KeepsAllElse b c → KeepsAllElse a c
else-then a b c x y = record {
  shard = record {
    core = y.shard.core ∙ x.shard.core;
    parts = y.shard.parts ∙ x.shard.parts;
    asked = y.shard.asked ∙ x.shard.asked;
    entries = y.shard.entries ∙ x.shard.entries;
    room = y.shard.room ∙ x.shard.room;
    named = y.shard.named ∙ x.shard.named;
    last = y.shard.last ∙ x.shard.last;
    saw_out = y.shard.saw_out ∙ x.shard.saw_out;
  };
  goes = none-then a b c x.goes y.goes;
  over = λ z. y.over (x.over z);
}
