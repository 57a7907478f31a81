use Rattle.std.proofs.Common.{All}
use Rattle.std.specs.List.{AllZip}
use Rattle.r6_health.specs.Passes.{IsPassOf, view_of}
use Rattle.r6_engine.specs.runner.Going.{TakesNoMore}
use Rattle.r6_engine.specs.Passes.{TakesBack}
use Rattle.r6_engine.proofs.ending.end_all.Given as goal

abbrev pub invariant-loop : goal.invariant-loop
invariant-loop g l =
    (goal.iterator-loop g).can_next l.iterator' × (goal.iterator-loop g).is_finite l.iterator' × record {
      pass : IsPassOf l.register l.pass;
      passes : All (λ runner. IsPassOf l.register runner.shard.pass) l.runners;
      back : TakesBack (view_of l.fn.pass) (view_of l.pass);
      goes : AllZip TakesNoMore l.fn.runners l.runners;
    }
