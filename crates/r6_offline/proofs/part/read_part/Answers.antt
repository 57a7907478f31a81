use Rattle.std.proofs.Common.{None, refl, is_some, get_or, length, ap, ◌∙◌}
use Rattle.std.proofs.lemmas.Bool.{false≢true}
use Rattle.std.proofs.lemmas.List.{get_or_default}
use Rattle.r6_offline.proofs.LentLaws.{answered_at, keep_absent, keep_set, part_failed, unpromised_at}
use Rattle.r6_offline.proofs.RowLaws.{part_absent, part_read}
use Rattle.r6_offline.proofs.part.read_part.Goals as goal

pub returns-in-Ok : goal.returns-in-Ok
returns-in-Ok g c =
    let parts = c.args.parts.now in
    let is = get_or_default parts c.args.number None c.index-parts-number.result c.requires ∙ c.in-Some.is in
    record {
      same_length = c.in-Ok.ensures.same_length;
      fails = tt;
      read = part_read g.D.BlockDevice.told parts c.args.number c.args.row c.read.new.buffer c.in-Some.device c.read.new.self c.requires is c.in-Ok.ensures.answers;
      alone = tt;
      sound = tt;
      kind = tt;
      promised = keep_set g.D.BlockDevice.promised parts c.args.number c.in-Some.device c.read.new.self c.requires is c.read.ensures.promised;
    }

pub returns-in-Err : goal.returns-in-Err
returns-in-Err g c =
    let is = get_or_default c.args.parts.now c.args.number None c.index-parts-number.result c.requires ∙ c.in-Some.is in
    record {
      same_length = c.in-Err.ensures.same_length;
      fails = (ap is_some is, λ same. c.in-Err.ensures.faults (cc same));
      read = tt;
      alone = part_failed g.D.BlockDevice.told c.args.parts.now c.args.number c.in-Some.device c.read.new.self c.requires is;
      sound = unpromised_at g.D.BlockDevice.promised (get_or c.args.parts.now c.args.number None) c.in-Some.device c.args.row (length c.args.block.now) is
          (λ covers. false≢true (c.in-Err.ensures.sound covers));
      kind = answered_at g.D.BlockDevice.promised (get_or c.args.parts.now c.args.number None) c.in-Some.device c.args.row c.in-Err.fault is c.in-Err.ensures.kind;
      promised = keep_set g.D.BlockDevice.promised c.args.parts.now c.args.number c.in-Some.device c.read.new.self c.requires is c.read.ensures.promised;
    }

pub returns-in-None : goal.returns-in-None
returns-in-None g c =
    let parts = c.args.parts.now in
    let none = get_or_default parts c.args.number None c.index-parts-number.result c.requires ∙ c.in-None.is in
    record { same_length = refl; fails = tt; read = part_absent g.D.BlockDevice.told parts c.args.number c.args.row c.args.block.now c.index-parts-number.result none; alone = tt; sound = tt; kind = tt; promised = keep_absent g.D.BlockDevice.promised parts c.args.number c.index-parts-number.result }
