use Rattle.std.proofs.Common.{◌≡◌, length}
use Rattle.r6_health.specs.Histories.{start_losing}
use Rattle.r6_health.specs.Passes.{view_of, IsPassOf}
use Rattle.r6_health.specs.Views.{first_of}
use Rattle.r6_engine.specs.Openings.{having_given}
use Rattle.r6_engine_tests.specs.Passes.{AreFirst}
use Rattle.r6_engine_tests.proofs.shard_bench.passes_of.Given as goal

abbrev pub invariant-loop : goal.invariant-loop
invariant-loop g l =
    IsPassOf l.register l.first
    × (view_of l.first ≡ having_given (length l.passes.items) (first_of (start_losing l.geometry.slots l.geometry.shards 0)))
    × AreFirst l.register l.geometry l.passes.items
    × (length l.passes.items ≡ l.counter)
