use Rattle.r6_engine_tests.specs.Asks.{five_events}
use Rattle.r6_layout.specs.Shape.{shape_of}
use Rattle.r6_engine_tests.proofs.lists.each_shard_takes_its_own.Given as goal

abbrev pub ghosts-play : goal.ghosts-play
ghosts-play g a =
    record {
      shape = shape_of 4 1 16 4 2;
      events = five_events;
      sound = λ shard slot. ⊥;
    }
