use Rattle.std.proofs.Common.{◌-◌, ◌≤◌}
use Rattle.r6_offline.specs.Lent.{KeepPromises, promises_of}
use Rattle.r6_offline.specs.Parts.{OnlyRead, parts_of}
use Rattle.r6_offline.specs.Rows.{Fits}
use Rattle.r6_offline.specs.Stretches.{FitsRows}
use Rattle.r6_offline.proofs.PartLaws.{Noted}
use Rattle.r6_offline.proofs.shard_check.check_rows.Given as goal

abbrev pub decreases-loop-row : goal.decreases-loop-row
decreases-loop-row g l = l.end - l.row

abbrev pub invariant-loop-row : goal.invariant-loop-row
invariant-loop-row g l = record {
  within : l.row ≤ l.end;
  stretch : FitsRows l.geometry l.stretch;
  room : Fits l.geometry l.check.reader;
  only_read : OnlyRead (parts_of g.D.BlockDevice.told l.fn.parts) (parts_of g.D.BlockDevice.told l.parts);
  promised : KeepPromises (promises_of g.D.BlockDevice.promised l.fn.parts) (promises_of g.D.BlockDevice.promised l.parts);
  noted : Noted l.geometry (parts_of g.D.BlockDevice.told l.fn.parts) l.first l.row l.report;
}
