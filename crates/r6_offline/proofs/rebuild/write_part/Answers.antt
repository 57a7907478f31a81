use Rattle.std.proofs.Common.{length}
use Rattle.r6_offline.proofs.TargetLaws.{not_of_read, part_written, target_answered, target_unpromised, targets_apart, targets_keep}
use Rattle.r6_offline.proofs.rebuild.write_part.Goals as goal

pub returns : goal.returns
returns g c =
    let told = g.D.BlockDevice.told in
    let targets = c.args.targets.now in
    record {
      written = part_written told targets c.args.shard c.args.row c.args.block.now c.index-targets-shard.result
          c.write.new.self c.write.result c.requires c.write.ensures.answers;
      others = λ other apart. targets_apart told targets c.args.shard c.write.new.self other apart;
      sound = target_unpromised g.D.BlockDevice.promised targets c.args.shard c.args.row (length c.args.block.now) c.index-targets-shard.result
          c.write.result c.requires c.write.ensures.sound;
      kind = target_answered g.D.BlockDevice.promised targets c.args.shard c.args.row c.index-targets-shard.result c.write.result c.requires
          c.write.ensures.kind;
      targets = targets_keep g.D.BlockDevice.promised targets c.args.shard c.write.new.self c.index-targets-shard.result c.requires c.write.ensures.promised;
      of_write = not_of_read c.write.result c.write.ensures.faults;
    }
