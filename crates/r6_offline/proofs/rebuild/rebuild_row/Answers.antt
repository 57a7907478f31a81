use Rattle.std.proofs.Common.{ℕ, ◌<◌, inl, inr, refl, sym, subst, ◌∙◌}
use Rattle.std.specs.Prelude.{IfSome}
use Rattle.r6_dev.specs.Promises.{Covers, MayAnswer}
use Rattle.r6_offline.specs.Lent.{promises_of, target_promises}
use Rattle.r6_offline.specs.Parts.{parts_of}
use Rattle.r6_offline.specs.Rebuilds.{PartWritten, targets_of}
use Rattle.r6_offline.proofs.LentLaws.{keep_none}
use Rattle.r6_offline.proofs.RebuildLaws.{target_cause, target_fails}
use Rattle.r6_offline.proofs.rebuild.rebuild_row.Goals as goal

pub restore_block-requires : goal.restore_block-requires
restore_block-requires g c = record {
  row_within = c.requires.row_within;
  parts = c.requires.parts;
  target = c.requires.target;
  absent = c.requires.absent;
  room = c.requires.room;
}

pub write_part-requires : goal.write_part-requires
write_part-requires g c =
    subst (λ (n : ℕ). c.shard_of-shard.result < n) (sym c.requires.targets) c.shard_of-shard.ensures.owner.is_shard

pub returns-in-Ok : goal.returns-in-Ok
returns-in-Ok g c =
    let told = g.D.BlockDevice.told in
    let before = targets_of told c.args.targets.now in
    let after = targets_of told c.write_part.new.targets in
    let block = c.restore_block.new.room.reader.block in
    record {
      room = c.restore_block.ensures.room;
      rebuilt = record {
        only_read = c.in_default.ensures.only_read;
        block = block;
        restored = c.in_default.ensures.restored.0;
        written = subst (λ (shard : ℕ). PartWritten before after shard c.args.row block) c.shard_of-shard.ensures.value c.in-Ok.ensures.written;
        ahead = c.in_default.ensures.restored.1;
      };
      fails = tt;
      promised = (c.restore_block.ensures.promised, c.write_part.ensures.targets);
      unwritten = tt;
    }

pub returns-in-Err : goal.returns-in-Err
returns-in-Err g c = record {
  room = c.restore_block.ensures.room;
  rebuilt = tt;
  fails = (c.in-Err.ensures.fails, c.in-Err.ensures.cause (target_promises g.D.BlockDevice.promised c.args.targets.now));
  promised = (c.restore_block.ensures.promised, keep_none (target_promises g.D.BlockDevice.promised c.args.targets.now));
  unwritten = λ _ _. refl;
}

pub returns-in-Err-write_part : goal.returns-in-Err-write_part
returns-in-Err-write_part g c =
    let told = g.D.BlockDevice.told in
    let promised = g.D.BlockDevice.promised in
    record {
      room = c.restore_block.ensures.room;
      rebuilt = tt;
      fails = (
        target_fails c.args.geometry.now c.args.target c.args.row (parts_of told c.args.parts.now)
            (parts_of told c.restore_block.new.parts) c.in-Err-write_part.fault c.requires.target c.in_default.ensures.only_read
            c.in-Err-write_part.ensures.of_write,
        target_cause c.args.geometry.now c.args.target c.args.row (parts_of told c.args.parts.now) (promises_of promised c.args.parts.now)
            (target_promises promised c.args.targets.now) c.in-Err-write_part.fault
            (λ _.
            subst (λ (shard : ℕ). IfSome (target_promises promised c.args.targets.now shard) (λ promise. ¬ Covers promise c.args.row c.args.geometry.now.block))
            c.shard_of-shard.ensures.value
            (subst (λ (long : ℕ). IfSome (target_promises promised c.args.targets.now c.shard_of-shard.result) (λ promise. ¬ Covers promise c.args.row long))
            c.restore_block.ensures.room.reader.block
            c.in-Err-write_part.ensures.sound))
            (inl (subst (λ (shard : ℕ). IfSome (target_promises promised c.args.targets.now shard) (λ promise. MayAnswer promise c.args.row c.in-Err-write_part.fault))
            c.shard_of-shard.ensures.value c.in-Err-write_part.ensures.kind)),
      );
      promised = (c.restore_block.ensures.promised, c.write_part.ensures.targets);
      unwritten = λ shard spared. elim spared [
        | inl apart ↦ absurd (apart refl)
        | inr apart ↦ c.write_part.ensures.others shard (λ same. apart (same ∙ c.shard_of-shard.ensures.value))
      ];
    }
