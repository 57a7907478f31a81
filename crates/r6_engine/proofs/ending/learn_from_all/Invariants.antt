use Rattle.std.proofs.Common.{All}
use Rattle.std.specs.List.{AllZip}
use Rattle.r6_health.specs.Passes.{IsPassOf, view_of}
use Rattle.r6_engine.specs.Passes.{IsHeard, TakesBack}
use Rattle.r6_engine.specs.runner.Learning.{KeepsAllElse}
use Rattle.r6_engine.proofs.EachShard.{AllBelow}
use Rattle.r6_engine.proofs.ending.learn_from_all.Given as goal

abbrev pub invariant-loop-k : goal.invariant-loop-k
invariant-loop-k g l = record {
  pass : IsPassOf l.register l.pass;
  passes : All (λ runner. IsPassOf l.register runner.shard.pass) l.runners;
  back : TakesBack (view_of l.fn.pass) (view_of l.pass);
  kept : AllZip KeepsAllElse l.fn.runners l.runners;
  heard : AllBelow l.k (IsHeard l.register (view_of l.pass)) l.runners;
}
