use Rattle.std.proofs.Common.{◌≡◌, ◌∙◌, ◌*◌, ◌≤◌, ◌+◌, arith, length, rules}
use Rattle.std.proofs.Math.Nat.{mul-le-mul_right}
use Rattle.std.specs.Vec.{vec_len}
use Rattle.r6_run.proofs.Giving.{as_many_given, dropped_more, from_first, none_of_shards, one_shard_more, whole_given}
use Rattle.r6_run.proofs.array.parts_of.Goals as goal

pub loop-init : goal.loop-init
loop-init g c = record {
  given = none_of_shards c.args.slots c.args.opened.items c.in_ok-parts.parts.items c.in_ok-parts.ensures.items;
  rest = c.into_iter-devices.ensures.rest ∙ from_first c.args.slots c.args.opened.items;
  left = search rules;
  room = c.in_ok-parts.ensures.capacity;
}

pub next_parts-requires : goal.next_parts-requires
next_parts-requires g c =
    let more : (c.loop.counter + 1) * c.args.slots ≤ c.args.shards * c.args.slots = mul-le-mul_right c.args.slots (omega (arith, c.loop-test.true)) in
    omega (arith, more, c.loop.invariant.left)

pub push_reserved-requires : goal.push_reserved-requires
push_reserved-requires g c =
    let many : vec_len c.loop.parts ≡ length c.loop.parts.items = search rules in
    omega (arith, many, as_many_given c.loop.counter c.args.slots c.args.opened.items c.loop.parts.items c.loop.invariant.given, c.loop.invariant.room, c.loop-test.true)

pub loop-preserved : goal.loop-preserved
loop-preserved g c = record {
  given = one_shard_more c.loop.counter c.args.slots c.args.opened.items _ c.loop.parts.items _ c.in_ok-next_parts.field-0 c.loop.invariant.given c.loop.invariant.rest
      c.in_ok-next_parts.ensures.parts c.push_reserved.ensures.items;
  rest = dropped_more c.loop.counter c.args.slots c.args.opened.items _ _ c.loop.invariant.rest c.in_ok-next_parts.ensures.rest;
  left = omega (arith, c.in_ok-next_parts.ensures.left, c.loop.invariant.left);
  room = search rules;
}

pub returns : goal.returns
returns g c = whole_given c.loop.counter c.args.shards c.args.slots c.args.opened.items c.loop.parts.items c.loop.auto.counter-end c.loop-test.false c.loop.invariant.given
