use Rattle.r6_health.specs.Passes.{view_of}
use Rattle.r6_engine_tests.proofs.Passes.{next_first}
use Rattle.r6_engine_tests.proofs.runner_bench.take.Goals as goal

pub play-runner-requires-clause-first : goal.play-runner-requires-clause-first
play-runner-requires-clause-first g c =
    next_first c.geometry_of-geometry.result 0 _ (view_of c.split-pass.result) c.register_of-register.ensures.first
    c.split-pass.ensures.newcomer
