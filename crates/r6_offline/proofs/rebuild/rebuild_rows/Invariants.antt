use Rattle.r6_offline.specs.Lent.{KeepPromises, promises_of, target_promises}
use Rattle.r6_offline.specs.Parts.{parts_of}
use Rattle.r6_offline.specs.Rebuilds.{FitsRoom, targets_of}
use Rattle.r6_offline.proofs.RebuildLaws.{Rebuilding}
use Rattle.r6_offline.proofs.rebuild.rebuild_rows.Given as goal

abbrev pub invariant-loop-row : goal.invariant-loop-row
invariant-loop-row g l =
    let told = g.D.BlockDevice.told in
    record {
      room : FitsRoom l.geometry l.room;
      promised : KeepPromises (promises_of g.D.BlockDevice.promised l.fn.parts) (promises_of g.D.BlockDevice.promised l.parts);
      targets : KeepPromises (target_promises g.D.BlockDevice.promised l.fn.targets) (target_promises g.D.BlockDevice.promised l.targets);
      so_far : Rebuilding l.geometry l.target (parts_of told l.fn.parts) (parts_of told l.parts) (targets_of told l.fn.targets) (targets_of told l.targets) l.room.long l.row;
    }
