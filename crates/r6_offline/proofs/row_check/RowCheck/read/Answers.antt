use Rattle.std.proofs.Common.{true, refl}
use Rattle.r6_offline.specs.Lent.{promises_of}
use Rattle.r6_offline.specs.Parts.{parts_of}
use Rattle.r6_offline.specs.declared.row_check.RowCheck.{RowCheck}
use Rattle.r6_offline.proofs.CheckLaws.{read_absent, read_whole}
use Rattle.r6_offline.proofs.LentLaws.{keep_none}
use Rattle.r6_offline.proofs.RowLaws.{only_read_none}
use Rattle.r6_offline.proofs.row_check.RowCheck.read.Goals as goal

pub returns-in-Ok-clause-read : goal.returns-in-Ok-clause-read
returns-in-Ok-clause-read g c =
    let told = g.D.BlockDevice.told in
    let read = c.in-Ok.ensures in
    let check : RowCheck = record { reader = c.read_row.new.self; is_whole = true; finding = c.args.self.now.finding } in
    read_whole c.args.geometry.now (parts_of told c.args.parts.now) (parts_of told c.read_row.new.parts) c.args.row _ check refl
    read.room.count c.if-has_absent.ensures read.read

pub has_absent-requires : goal.has_absent-requires
has_absent-requires g c = record { row_within = c.requires.row_within; parts = c.requires.parts }

pub read_row-requires : goal.read_row-requires
read_row-requires g c = record { row_within = c.requires.row_within; parts = c.requires.parts; room = c.requires.room }

pub returns-then-has_absent : goal.returns-then-has_absent
returns-then-has_absent g c =
    let parts = parts_of g.D.BlockDevice.told c.args.parts.now in
    record {
      room = c.requires.room;
      only_read = only_read_none parts;
      read = read_absent c.args.geometry.now parts c.args.row _ refl c.if-has_absent.ensures;
      fails = tt;
      alone = tt;
      promised = keep_none (promises_of g.D.BlockDevice.promised c.args.parts.now);
    }

pub returns-in-Err : goal.returns-in-Err
returns-in-Err g c = record {
  room = c.in-Err.ensures.room;
  only_read = tt;
  read = tt;
  fails = c.in-Err.ensures.fails;
  alone = c.in-Err.ensures.alone;
  promised = c.read_row.ensures.promised;
}

pub returns-in-Ok-clause-room : goal.returns-in-Ok-clause-room
returns-in-Ok-clause-room g c = c.in-Ok.ensures.room

pub returns-in-Ok-clause-only_read : goal.returns-in-Ok-clause-only_read
returns-in-Ok-clause-only_read g c = c.in-Ok.ensures.read.only_read

pub returns-in-Ok-clause-fails : goal.returns-in-Ok-clause-fails
returns-in-Ok-clause-fails g c = tt

pub returns-in-Ok-clause-alone : goal.returns-in-Ok-clause-alone
returns-in-Ok-clause-alone g c = tt

pub returns-in-Ok-clause-promised : goal.returns-in-Ok-clause-promised
returns-in-Ok-clause-promised g c = c.read_row.ensures.promised
