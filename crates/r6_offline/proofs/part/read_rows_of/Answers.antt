use Rattle.std.proofs.Common.{◌∙◌, [], None}
use Rattle.std.proofs.lemmas.Bool.{false≢true}
use Rattle.std.proofs.lemmas.List.{get_or_default}
use Rattle.r6_offline.proofs.LentLaws.{keep_absent, keep_set}
use Rattle.r6_offline.proofs.RowLaws.{part_absent}
use Rattle.r6_offline.proofs.StretchLaws.{part_only_read, part_rows_read}
use Rattle.r6_offline.proofs.part.read_rows_of.Goals as goal

pub returns-in-Some : goal.returns-in-Some
returns-in-Some g c =
    let parts = c.args.parts.now in
    let told = g.D.BlockDevice.told in
    let is = get_or_default parts c.args.number None c.index-parts-number.result c.requires ∙ c.in-Some.is in
    record {
      only_read = part_only_read told parts c.args.number c.args.row c.args.count c.read_rows.new.bytes c.in-Some.device c.read_rows.new.self
          c.read_rows.result c.requires is c.read_rows.ensures.answers;
      read = part_rows_read told parts c.args.number c.args.row c.args.count c.read_rows.new.bytes c.in-Some.device c.read_rows.new.self
          c.read_rows.result c.requires is c.read_rows.ensures.answers;
      promised = keep_set g.D.BlockDevice.promised parts c.args.number c.in-Some.device c.read_rows.new.self c.requires is c.read_rows.ensures.promised;
    }

pub returns-in-None : goal.returns-in-None
returns-in-None g c =
    let parts = c.args.parts.now in
    let none = get_or_default parts c.args.number None c.index-parts-number.result c.requires ∙ c.in-None.is in
    record {
      only_read = (part_absent g.D.BlockDevice.told parts c.args.number c.args.row [] c.index-parts-number.result none).only_read;
      read = λ yes'. absurd (false≢true yes');
      promised = keep_absent g.D.BlockDevice.promised parts c.args.number c.index-parts-number.result;
    }
