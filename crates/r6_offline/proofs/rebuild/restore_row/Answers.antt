use Rattle.std.proofs.Common.{◌<◌, None, get_or, inr, refl, arith}
use Rattle.r6_dev.specs.declared.fault.Fault.TheVariants.{Gone}
use Rattle.r6_offline.specs.Lent.{promises_of}
use Rattle.r6_offline.specs.Parts.{parts_of}
use Rattle.r6_offline.proofs.LentLaws.{same_there}
use Rattle.r6_offline.proofs.RebuildLaws.{restored_row, source_cause, source_fails, target_cause, target_fails, too_few}
use Rattle.r6_offline.proofs.rebuild.restore_row.Goals as goal

pub returns-in-Err-clause-fails : goal.returns-in-Err-clause-fails
returns-in-Err-clause-fails g c =
    let told = g.D.BlockDevice.told in
    let read = c.in-Err.ensures in
    source_fails c.args.geometry.now c.args.target c.args.row (promises_of g.D.BlockDevice.promised c.args.parts.now) (parts_of told c.args.parts.now) (parts_of told c.read_row.new.parts) c.in-Err.fault
    read.limits c.requires.row_within c.requires.absent read.fails read.alone

pub returns-in-Ok-restore-clause-restored : goal.returns-in-Ok-restore-clause-restored
returns-in-Ok-restore-clause-restored g c =
    let told = g.D.BlockDevice.told in
    let read = c.in-Ok.ensures in
    let some : 0 < c.args.geometry.now.slots = omega (arith, c.requires.target) in
    restored_row c.args.geometry.now (parts_of told c.args.parts.now) (parts_of told c.read_row.new.parts) c.args.row c.in-Ok.known
    c.read_row.new.self.blocks c.restore.new.row read.limits read.room.count (read.room.long 0 some) read.read c.in-Ok-restore.ensures.restored

pub returns-in-Err-clause-cause : goal.returns-in-Err-clause-cause
returns-in-Err-clause-cause g c =
    let told = g.D.BlockDevice.told in
    let promised = g.D.BlockDevice.promised in
    let read = c.in-Err.ensures in
    source_cause c.args.geometry.now c.args.target c.args.row (promises_of promised c.args.parts.now) (parts_of told c.args.parts.now)
    (parts_of told c.read_row.new.parts) c.in-Err.fault read.limits c.requires.row_within c.requires.absent
    (λ n. same_there told promised (get_or c.args.parts.now n None)) read.fails read.alone

pub returns-in-Err-restore-clause-fails : goal.returns-in-Err-restore-clause-fails
returns-in-Err-restore-clause-fails g c =
    let told = g.D.BlockDevice.told in
    target_fails c.args.geometry.now c.args.target c.args.row (parts_of told c.args.parts.now) (parts_of told c.read_row.new.parts) Gone
    c.requires.target c.in-Ok.ensures.read.only_read (λ same. cc)

pub returns-in-Err-restore-clause-cause : goal.returns-in-Err-restore-clause-cause
returns-in-Err-restore-clause-cause g c =
    let told = g.D.BlockDevice.told in
    let read = c.in-Ok.ensures in
    let few = too_few c.args.geometry.now (parts_of told c.args.parts.now) (parts_of told c.read_row.new.parts) c.args.row c.in-Ok.known
    c.read_row.new.self.blocks read.room.count read.read (c.in-Err-restore.ensures.refused.0 refl) in
    λ targets.
    target_cause c.args.geometry.now c.args.target c.args.row (parts_of told c.args.parts.now) (promises_of g.D.BlockDevice.promised c.args.parts.now)
    targets Gone
    (λ two. absurd (few two)) (inr (refl, few))
