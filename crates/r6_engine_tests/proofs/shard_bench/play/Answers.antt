use Rattle.std.proofs.Common.{arith, ◌∙◌, length, refl}
use Rattle.std.proofs.lemmas.Iterator.Adapters.{YieldsList-from_vec}
use Rattle.std.proofs.lemmas.Iterator.Consumers.{YieldsList-turn}
use Rattle.r6_engine_tests.proofs.Passes.{first_at}
use Rattle.r6_engine_tests.proofs.shard_bench.play.Goals as goal

pub play_course-requires : goal.play_course-requires
play_course-requires g c =
    let passes = c.passes_of-passes.result in
    let turn = YieldsList-turn
    (YieldsList-from_vec {s = c.into_iter-pass-iterator.result} passes.items c.into_iter-pass-iterator.ensures.into_iter_gives.0
    (c.into_iter-pass-iterator.ensures.into_iter_gives.1 ∙ passes.ok.0))
    c.loop-pass.yielded c.loop-pass.pass-iterator c.loop-pass.yielded_by c.next.result c.next.new.self c.in-Some.pass c.in-Some.is
    c.next.ensures.steps in
    let at = c.loop-pass.invariant.2 in
    let many = c.passes_of-passes.ensures.many in
    let is = first_at _ c.geometry_of-geometry.result passes.items c.loop-pass.number (length c.loop-pass.yielded) c.in-Some.pass
    c.passes_of-passes.ensures.passes at turn.0 turn.1 in
    record {
      limits = c.geometry_of-geometry.ensures;
      number = omega (arith, turn.0, at, many);
      window = refl;
      pass = is.0;
      first = is.1;
      caller = c.loop-pass.invariant.3;
    }
