use Rattle.std.proofs.Common.{ap, ◌∙◌}
use Rattle.r6_recover.specs.Rows.{block_at}
use Rattle.r6_offline.specs.Lent.{promises_of}
use Rattle.r6_offline.specs.Parts.{parts_of}
use Rattle.r6_offline.proofs.LentLaws.{keep_none}
use Rattle.r6_offline.proofs.RebuildLaws.{cause_since, fails_since, restored_alone}
use Rattle.r6_offline.proofs.RowLaws.{fits_swapped, only_read_both}
use Rattle.r6_offline.proofs.rebuild.restore_block.Goals as goal

pub returns-then-give-clause-restored : goal.returns-then-give-clause-restored
returns-then-give-clause-restored g c = (c.give.ensures.restored c.if-give.true, c.give.ensures.rows)

pub returns-in-Err-clause-fails : goal.returns-in-Err-clause-fails
returns-in-Err-clause-fails g c =
    let told = g.D.BlockDevice.told in
    fails_since c.args.geometry.now c.args.target c.args.row (parts_of told c.args.parts.now) (parts_of told c.give.new.parts)
    (parts_of told c.restore_row.new.parts) c.in-Err.fault c.give.ensures.only_read c.in-Err.ensures.fails

pub returns-in-Err-clause-cause : goal.returns-in-Err-clause-cause
returns-in-Err-clause-cause g c targets =
    let told = g.D.BlockDevice.told in
    let promised = g.D.BlockDevice.promised in
    cause_since c.args.geometry.now c.args.target (parts_of told c.args.parts.now) (parts_of told c.give.new.parts) (promises_of promised c.args.parts.now)
    (promises_of promised c.give.new.parts) targets targets c.args.row c.in-Err.fault c.give.ensures.only_read c.give.ensures.promised
    (keep_none targets) (c.in-Err.ensures.cause targets)

pub returns-clause-room : goal.returns-clause-room
returns-clause-room g c =
    let fits = c.restore_row.ensures.room in
    record {
      reader = fits_swapped c.args.geometry.now c.restore_row.new.reader _ c.position_at-position.result c.restore_row.new.reader.block fits
          c.position_at-position.ensures.within fits.block c.swap_block.ensures.row c.swap_block.ensures.block;
      long = c.give.ensures.places;
    }

pub returns-clause-only_read : goal.returns-clause-only_read
returns-clause-only_read g c =
    let told = g.D.BlockDevice.told in
    only_read_both (parts_of told c.args.parts.now) (parts_of told c.give.new.parts) (parts_of told c.restore_row.new.parts)
    c.give.ensures.only_read c.in_default.ensures.only_read

pub returns-clause-restored : goal.returns-clause-restored
returns-clause-restored g c =
    let told = g.D.BlockDevice.told in (
      restored_alone c.args.geometry.now c.args.target (parts_of told c.args.parts.now) (parts_of told c.give.new.parts) c.args.row c.args.room.now.long
          c.restore_row.new.reader.blocks c.swap_block.new.block c.requires.row_within c.give.ensures.only_read
          (c.swap_block.ensures.block ∙ ap (block_at c.restore_row.new.reader.blocks) c.position_at-position.ensures.value) c.in_default.ensures.restored,
      c.give.ensures.rows,
    )
