use Rattle.std.proofs.Common.{◌≡◌, drop}
use Rattle.std.specs.Prelude.{◌↔◌}
use Rattle.r6_engine.specs.Generations.{answered_in, handed_in}
use Rattle.r6_engine.proofs.generations.agree.Given as goal

abbrev pub invariant-loop-answer : goal.invariant-loop-answer
invariant-loop-answer l =
    (handed_in l.fn.handed ≡ answered_in l.answers) ↔ (handed_in l.left ≡ answered_in (drop l.answer-index l.answers))
