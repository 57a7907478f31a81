use Rattle.std.proofs.Common.{arith}
use Rattle.r6_engine.specs.Generations.{HasGeneration}
use Rattle.r6_engine.proofs.EachShard.{all-below, below-next}
use Rattle.r6_engine.proofs.generations.have_generations.Goals as goal

pub loop-part-preserved : goal.loop-part-preserved
loop-part-preserved c =
    below-next HasGeneration c.args.handed.now c.loop-part.part-index _ c.loop-part-test.true c.loop-part.invariant
    (c.has_generation.ensures c.if-not-has_generation.false)

pub returns : goal.returns
returns c = λ all.
    let most = c.loop-part-test.false in
    all-below HasGeneration c.args.handed.now c.loop-part.part-index (omega (arith, most)) c.loop-part.invariant
