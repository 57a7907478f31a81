use Rattle.std.proofs.Common.{◌≡◌, length}
use Rattle.r6_offline.specs.Lent.{KeepPromises, promises_of}
use Rattle.r6_offline.specs.Parts.{OnlyRead, parts_of}
use Rattle.r6_offline.specs.RowChecks.{AllFit, AreRead}
use Rattle.r6_offline.proofs.batch.read_batch.Given as goal

abbrev pub invariant-loop-index : goal.invariant-loop-index
invariant-loop-index g l = record {
  count : length l.batch ≡ length l.fn.batch;
  room : AllFit l.geometry l.batch;
  only_read : OnlyRead (parts_of g.D.BlockDevice.told l.fn.parts) (parts_of g.D.BlockDevice.told l.parts);
  promised : KeepPromises (promises_of g.D.BlockDevice.promised l.fn.parts) (promises_of g.D.BlockDevice.promised l.parts);
  read : AreRead l.geometry (parts_of g.D.BlockDevice.told l.fn.parts) l.row l.index l.batch;
}
