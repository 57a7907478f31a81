use Rattle.std.proofs.Common.{◌≡◌, All}
use Rattle.std.specs.List.{AllZip}
use Rattle.r6_health.specs.Passes.{IsPassOf}
use Rattle.r6_engine.specs.declared.runner.left.Left.TheVariants.{Nothing}
use Rattle.r6_engine.specs.runner.Going.{TakesNoMore}
use Rattle.r6_engine.specs.runner.Runners.{IsOver}
use Rattle.r6_engine.proofs.EachShard.{AllBelow}
use Rattle.r6_engine.proofs.ending.go_round_all.Given as goal

abbrev pub invariant-loop-k : goal.invariant-loop-k
invariant-loop-k g l = record {
  passes : All (λ runner. IsPassOf l.register runner.shard.pass) l.runners;
  goes : AllZip TakesNoMore l.fn.runners l.runners;
  over : l.left ≡ Nothing → AllBelow l.k IsOver l.runners;
}
