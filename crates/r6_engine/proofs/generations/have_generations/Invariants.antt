use Rattle.r6_engine.specs.Generations.{HasGeneration}
use Rattle.r6_engine.proofs.EachShard.{AllBelow}
use Rattle.r6_engine.proofs.generations.have_generations.Given as goal

abbrev pub invariant-loop-part : goal.invariant-loop-part
invariant-loop-part l = AllBelow l.part-index HasGeneration l.handed
