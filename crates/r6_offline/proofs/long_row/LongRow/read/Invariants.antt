use Rattle.std.proofs.Common.{◌≡◌}
use Rattle.r6_offline.specs.Lent.{KeepPromises, promises_of}
use Rattle.r6_offline.specs.Parts.{OnlyRead, parts_of}
use Rattle.r6_offline.specs.Stretches.{FitsLongRow, PositionsKnown}
use Rattle.r6_offline.proofs.long_row.LongRow.read.Given as goal

abbrev pub invariant-loop-position : goal.invariant-loop-position
invariant-loop-position g l = record {
  places : FitsLongRow l.geometry l.self;
  rows : l.self.rows ≡ l.fn.self.rows;
  end : l.self.end ≡ l.fn.self.end;
  only_read : OnlyRead (parts_of g.D.BlockDevice.told l.fn.parts) (parts_of g.D.BlockDevice.told l.parts);
  promised : KeepPromises (promises_of g.D.BlockDevice.promised l.fn.parts) (promises_of g.D.BlockDevice.promised l.parts);
  read : PositionsKnown l.geometry (parts_of g.D.BlockDevice.told l.fn.parts) l.row l.fn.self.rows l.known l.self.blocks;
}
