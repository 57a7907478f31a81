use Rattle.r6_offline.specs.Lent.{KeepPromises, promises_of}
use Rattle.r6_offline.specs.Parts.{parts_of}
use Rattle.r6_offline.specs.Rows.{Fits}
use Rattle.r6_offline.proofs.RowLaws.{SlotsRead}
use Rattle.r6_offline.proofs.row.RowReader.read_row.Given as goal

abbrev pub invariant-loop-slot : goal.invariant-loop-slot
invariant-loop-slot g l = record {
  room : Fits l.geometry l.self;
  promised : KeepPromises (promises_of g.D.BlockDevice.promised l.fn.parts) (promises_of g.D.BlockDevice.promised l.parts);
  read : SlotsRead l.geometry (parts_of g.D.BlockDevice.told l.fn.parts) (parts_of g.D.BlockDevice.told l.parts) l.row l.slot l.known l.self.blocks;
}
