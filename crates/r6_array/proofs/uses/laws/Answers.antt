use Rattle.r6_world.specs.Geometries.{layout_of}
use Rattle.r6_world.specs.Worlds.{started}
use Rattle.r6_array.specs.Laws.{moments_in}
use Rattle.r6_array.proofs.Deeds.{runs, cores_of, first_shard, made, begins}
use Rattle.r6_array.proofs.uses.laws.Goals as goal

pub returns : goal.returns
returns c = record {
  array = λ shape limits r device array lawful window a new deeds done.
      let s = first_shard shape r window a limits new in
      c.array_law.ensures.array_of_cores shape limits r device array lawful (cores_of s a) (made shape r window a s new) (moments_in deeds)
      (runs shape (started (layout_of shape) r device) (cores_of s a) a new.shape_is (begins shape r device window a s new) deeds done);
  quiet = λ shape limits r device array lawful window a new deeds done.
      let s = first_shard shape r window a limits new in
      c.array_law.ensures.quiet_of_cores shape limits r device array lawful (cores_of s a) (made shape r window a s new) (moments_in deeds)
      (runs shape (started (layout_of shape) r device) (cores_of s a) a new.shape_is (begins shape r device window a s new) deeds done);
  sequential = λ shape limits r device array lawful window a new deeds done.
      let s = first_shard shape r window a limits new in
      c.array_law.ensures.sequential_of_cores shape limits r device array lawful (cores_of s a) (made shape r window a s new) (moments_in deeds)
      (runs shape (started (layout_of shape) r device) (cores_of s a) a new.shape_is (begins shape r device window a s new) deeds done);
}
