use Rattle.std.proofs.Common.{◌≡◌, ◌∙◌, sym, ap, length, arith}
use Rattle.r6_array.specs.Arrays.{ArrayView}
use Rattle.r6_array.proofs.Changes.{unsettles_next, unsettled_all, first_length}
use Rattle.r6_array.proofs.array.Array.unsettle.Goals as goal

pub unsettle_one-requires : goal.unsettle_one-requires
unsettle_one-requires c =
    let same = first_length c.args.self.now c.loop-shard.self c.loop-shard.shard c.loop-shard.invariant.so_far in
    omega (arith, same, c.loop-shard.invariant.end, c.loop-shard-test.true)

pub loop-shard-preserved : goal.loop-shard-preserved
loop-shard-preserved c = record {
  so_far = unsettles_next c.args.self.now c.loop-shard.self c.unsettle_one.new.self c.loop-shard.shard c.loop-shard.invariant.so_far c.unsettle_one.ensures;
  end = c.loop-shard.invariant.end;
}

pub returns : goal.returns
returns c =
    unsettled_all c.args.self.now c.loop-shard.self c.loop-shard.shard c.loop-shard.invariant.so_far (omega (arith, c.loop-shard.invariant.end, c.loop-shard-test.false))
