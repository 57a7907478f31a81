use Rattle.std.proofs.Common.{refl, subst}
use Rattle.r6_world.specs.Geometries.{layout_of}
use Rattle.r6_world.specs.Laws.{IsOfOutside, IsByAnyone}
use Rattle.r6_world.specs.Worlds.{started}
use Rattle.r6_core.specs.Runs.{IsThis, IsShard, OneCoreCounts}
use Rattle.r6_array.specs.Handles.{core_in}
use Rattle.r6_array.specs.HandleLaws.{moments_by}
use Rattle.r6_array.proofs.HandleDeeds.{runs, made, made_alone}
use Rattle.r6_array.proofs.uses.handle_laws.Goals as goal

pub returns : goal.returns
returns c = record {
  shard = λ shape limits n there r device array lawful window h new deeds done.
      c.array_law.ensures.shard_of_cores shape limits n there r device array lawful (core_in h) new.shard.made (moments_by deeds)
      (runs shape (IsThis n) IsByAnyone (started (layout_of shape) r device) (λ m. core_in h) (λ m. h) (made_alone shape r n window h new) deeds done).0;
  counts = λ shape limits n there r device array lawful window h new deeds done.
      let x = runs shape (IsThis n) IsByAnyone (started (layout_of shape) r device) (λ m. core_in h) (λ m. h) (made_alone shape r n window h new) deeds done in
      subst (OneCoreCounts (layout_of shape) n (started (layout_of shape) r device) (moments_by deeds)) (x.1.core n refl)
      (c.counts_of_one_core.ensures shape limits n there r device array lawful (core_in h) new.shard.made (moments_by deeds) x.0);
  array = λ shape limits r device array lawful window handles new deeds done.
      c.array_law.ensures.array_of_cores shape limits r device array lawful (λ n. core_in (handles n)) (λ n own. (new n own).shard.made) (moments_by deeds)
      (runs shape (IsShard shape) IsOfOutside (started (layout_of shape) r device) (λ n. core_in (handles n)) handles (made shape (IsShard shape) r window handles new) deeds done).0;
  quiet = λ shape limits r device array lawful window handles new deeds done.
      c.array_law.ensures.quiet_of_cores shape limits r device array lawful (λ n. core_in (handles n)) (λ n own. (new n own).shard.made) (moments_by deeds)
      (runs shape (IsShard shape) IsOfOutside (started (layout_of shape) r device) (λ n. core_in (handles n)) handles (made shape (IsShard shape) r window handles new) deeds done).0;
}
