use Rattle.std.proofs.Common.{◌≡◌, ◌++◌, List, length}
use Rattle.std.specs.List.{AllZip}
use Rattle.r6_exchange.specs.declared.task.Part.{Part}
use Rattle.r6_exchange.specs.Workers.{IsWorker}
use Rattle.r6_engine.specs.remote.Remotes.{IsRemote, performer_of}
use Rattle.r6_engine.specs.Crews.{HasTakenUp}
use Rattle.r6_engine.proofs.posting.take_up.Given as goal

abbrev pub invariant-loop-part : goal.invariant-loop-part
invariant-loop-part g l = record {
  remote : IsRemote g.D.BlockDevice.told g.D.BlockDevice.promised l.remote;
  site : l.remote.exchanges.now ≡ l.fn.remote.exchanges.now;
  workers : AllZip (IsWorker g.D.BlockDevice.told g.D.BlockDevice.promised) l.remote.exchanges.now l.workers.items;
  taken : (done : List (Part _)) × (l.fn.parts.items ≡ l.parts.items ++ done)
      × HasTakenUp g.D.BlockDevice.told g.D.BlockDevice.promised done
      (performer_of g.D.BlockDevice.told g.D.BlockDevice.promised l.remote);
  room : (performer_of g.D.BlockDevice.told g.D.BlockDevice.promised l.remote).part_room
      ≡ (performer_of g.D.BlockDevice.told g.D.BlockDevice.promised l.fn.remote).part_room;
  steady : (performer_of g.D.BlockDevice.told g.D.BlockDevice.promised l.remote).steady
      ≡ (performer_of g.D.BlockDevice.told g.D.BlockDevice.promised l.fn.remote).steady;
}

abbrev pub decreases-loop-part : goal.decreases-loop-part
decreases-loop-part g l = length l.parts.items
