use Rattle.r6_engine_tests.specs.Asks.{events_of}
use Rattle.r6_engine_tests.proofs.runner_bench.take.Given as goal

abbrev pub ghosts-play : goal.ghosts-play
ghosts-play g a = record {
  shape = a.place.geometry;
  events = events_of a.asks.now;
  sound = λ shard slot. ⊥;
}
