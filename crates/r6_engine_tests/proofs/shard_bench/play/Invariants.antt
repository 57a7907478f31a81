use Rattle.std.proofs.Common.{◌≡◌, length}
use Rattle.r6_health.specs.Passes.{IsPassOf}
use Rattle.r6_engine_tests.proofs.shard_bench.play.Given as goal

abbrev pub invariant-loop-pass : goal.invariant-loop-pass
invariant-loop-pass g l =
    (goal.iterator-loop-pass g).can_next l.pass-iterator × (goal.iterator-loop-pass g).is_finite l.pass-iterator
    × (l.number ≡ length l.yielded) × IsPassOf l.register l.caller
