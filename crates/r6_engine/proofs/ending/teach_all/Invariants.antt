use Rattle.std.proofs.Common.{◌≡◌, ◌≤◌, All, slice_index_or, ℕ}
use Rattle.std.specs.List.{AllZip}
use Rattle.r6_health.specs.Passes.{IsPassOf, view_of}
use Rattle.r6_engine.specs.Passes.{IsKnownTo}
use Rattle.r6_engine.specs.declared.runner.runner.Runner.{Runner}
use Rattle.r6_engine.specs.runner.Learning.{KeepsAllElse}
use Rattle.r6_engine.proofs.EachShard.{AllBelow}
use Rattle.r6_engine.proofs.ending.teach_all.Given as goal

abbrev pub invariant-loop-k : goal.invariant-loop-k
invariant-loop-k g l = record {
  pass : IsPassOf l.register l.pass;
  same : view_of l.pass ≡ view_of l.fn.pass;
  passes : All (λ runner. IsPassOf l.register runner.shard.pass) l.runners;
  kept : AllZip KeepsAllElse l.fn.runners l.runners;
  known : AllBelow l.k (IsKnownTo (view_of l.fn.pass)) l.fn.runners;
  rest : (i : ℕ) (d : Runner _ _ _) → l.k ≤ i → slice_index_or l.runners i d ≡ slice_index_or l.fn.runners i d;
}
