use Rattle.std.proofs.Common.{◌≡◌, ◌++◌, ◌≤◌, length, vec_capacity, IsPermutation}
use Rattle.r6_exchange.specs.Answering.{labels_in}
use Rattle.r6_shard.specs.Parts.{labels_of}
use Rattle.r6_engine.specs.remote.Lines.{sent_to, received_from, joined}
use Rattle.r6_engine.specs.remote.Remotes.{AreShardPasses, performer_of}
use Rattle.r6_engine.specs.joining.Crews.{AreWorkers, parts_with_all}
use Rattle.r6_engine.proofs.JoiningLemmas.Collected.{AreCollected}
use Rattle.r6_engine.proofs.joining.joining.take_back.Given as goal

abbrev pub invariant-loop-worker : goal.invariant-loop-worker
invariant-loop-worker g l = record {
  ends : AreShardPasses g.D.BlockDevice.told g.D.BlockDevice.promised l.fn.remote.exchanges.now l.remote.passes.items;
  site : l.remote.exchanges.now ≡ l.fn.remote.exchanges.now;
  sent : sent_to l.remote.passes.items ≡ sent_to l.fn.remote.passes.items;
  received : received_from l.remote.passes.items ≡ received_from l.fn.remote.passes.items;
  workers : AreWorkers g.D.BlockDevice.told g.D.BlockDevice.promised l.fn.remote.exchanges.now l.workers.items;
  fewer : length l.workers.items ≤ length l.fn.workers.items;
  collected : AreCollected g.D.BlockDevice.told (length l.fn.workers.items) (length l.workers.items)
      (performer_of g.D.BlockDevice.told g.D.BlockDevice.promised l.fn.remote).tells l.back.parts.items;
  whole : IsPermutation (parts_with_all l.fn.workers.items)
      (parts_with_all l.workers.items ++ (l.back.parts.items ++ l.back.others.items));
  labels : IsPermutation l.fn.remote.labels.items
      (joined (length l.workers.items) (λ worker. labels_in (sent_to l.fn.remote.passes.items worker))
      ++ (labels_of l.back.parts.items ++ labels_of l.back.others.items));
  parts_room : vec_capacity l.back.parts ≡ vec_capacity l.fn.back.parts;
  others_room : vec_capacity l.back.others ≡ vec_capacity l.fn.back.others;
}

abbrev pub decreases-loop-worker : goal.decreases-loop-worker
decreases-loop-worker g l = length l.workers.items
