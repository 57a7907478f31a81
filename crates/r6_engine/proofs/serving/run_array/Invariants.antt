use Rattle.r6_engine.specs.feed.Events.{events_of}
use Rattle.r6_engine.specs.Named.{NewDevicesFailNone}
use Rattle.r6_engine.proofs.serving.run_array.Given as goal

abbrev pub ghosts-run_as : goal.ghosts-run_as
ghosts-run_as g a =
    record {
      shape = a.config.now.geometry;
      events = events_of g.D.BlockDevice.told a.events.items;
      sound = λ shard slot. NewDevicesFailNone g.D.BlockDevice.promised a.config.now.geometry shard slot a.events.items;
    }
