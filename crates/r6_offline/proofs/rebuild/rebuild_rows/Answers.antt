use Rattle.std.proofs.Common.{◌≡◌, ℕ, ◌<◌, None, sym, subst, arith}
use Rattle.r6_layout.specs.Layout.{shard_of}
use Rattle.r6_offline.specs.declared.rebuild.Rebuilt.{Rebuilt}
use Rattle.r6_offline.specs.Lent.{IsNamed, OnlyReadBut, promises_of, target_promises}
use Rattle.r6_offline.specs.Parts.{part_number, parts_of}
use Rattle.r6_offline.specs.Rebuilds.{IsRebuilt, IsSoundRebuild, targets_of}
use Rattle.r6_offline.proofs.LentLaws.{but_none, but_since, keep_both, keep_none}
use Rattle.r6_offline.proofs.TargetLaws.{targets_there}
use Rattle.r6_offline.proofs.RebuildLaws.{Rebuilding, cause_since, rebuilding_none, rebuilding_next, rebuilt_at_end, rebuilt_at_fault, sound_at_end, sound_at_fault}
use Rattle.r6_offline.proofs.rebuild.rebuild_rows.Goals as goal

pub loop-row-init : goal.loop-row-init
loop-row-init g c =
    let told = g.D.BlockDevice.told in
    record {
      room = c.requires.room;
      promised = keep_none (promises_of g.D.BlockDevice.promised c.args.parts.now);
      targets = keep_none (target_promises g.D.BlockDevice.promised c.args.targets.now);
      so_far = rebuilding_none c.args.geometry.now c.args.target (parts_of told c.args.parts.now) (targets_of told c.args.targets.now)
          c.args.room.now.long c.requires.none;
    }

pub returns-in-Err-clause-rebuilt : goal.returns-in-Err-clause-rebuilt
returns-in-Err-clause-rebuilt g c =
    let shape = c.args.geometry.now in
    let told = g.D.BlockDevice.told in
    let row = c.loop-row.row in
    let started = parts_of told c.args.parts.now in
    let targets = targets_of told c.args.targets.now in
    let before = targets_of told c.loop-row.targets in
    let after = targets_of told c.rebuild_row.new.targets in
    let within : row < shape.rows = omega (arith, c.loop-row-test.true, c.rows-row-end.ensures.value) in
    subst (IsRebuilt shape c.args.target started targets after) (sym c.ended.ensures)
    (rebuilt_at_fault shape c.args.target started (parts_of told c.loop-row.parts) (parts_of told c.rebuild_row.new.parts) targets before after
    c.loop-row.room.long row c.in-Err.fault
    c.loop-row.invariant.so_far within c.in-Err.ensures.fails.0 c.in-Err.ensures.unwritten)

pub returns-in-Err-clause-kept : goal.returns-in-Err-clause-kept
returns-in-Err-clause-kept g c =
    let shape = c.args.geometry.now in
    let told = g.D.BlockDevice.told in
    let started = parts_of told c.args.parts.now in
    let after = parts_of told c.rebuild_row.new.parts in
    let number = part_number shape (shard_of shape c.loop-row.row) c.in-Err.fault.slot in
    subst (λ (rebuilt : Rebuilt). OnlyReadBut (IsNamed shape rebuilt.fault) started after) (sym c.ended.ensures)
    (but_since (λ n. n ≡ number) started (parts_of told c.loop-row.parts) after c.loop-row.invariant.so_far.only_read c.in-Err.ensures.fails.0.kept)

pub returns-in-Err-clause-sound : goal.returns-in-Err-clause-sound
returns-in-Err-clause-sound g c =
    let shape = c.args.geometry.now in
    let told = g.D.BlockDevice.told in
    let promised = g.D.BlockDevice.promised in
    let row = c.loop-row.row in
    let started = parts_of told c.args.parts.now in
    let promises = promises_of promised c.args.parts.now in
    let targets = target_promises promised c.args.targets.now in
    let within : row < shape.rows = omega (arith, c.loop-row-test.true, c.rows-row-end.ensures.value) in
    subst (λ (rebuilt : Rebuilt). IsSoundRebuild shape c.args.target started promises targets rebuilt.fault) (sym c.ended.ensures)
    (sound_at_fault shape c.args.target started promises targets row c.in-Err.fault c.rows-row-end.ensures.limits within c.in-Err.ensures.fails.0.within
    (λ shard below. targets_there promised c.args.targets.now shard (subst (λ (n : ℕ). shard < n) (sym c.requires.targets) below))
    (cause_since shape c.args.target started (parts_of told c.loop-row.parts) promises (promises_of promised c.loop-row.parts) targets
    (target_promises promised c.loop-row.targets) row c.in-Err.fault c.loop-row.invariant.so_far.only_read c.loop-row.invariant.promised
    c.loop-row.invariant.targets c.in-Err.ensures.fails.1))

pub returns-in-Err-clause-promised : goal.returns-in-Err-clause-promised
returns-in-Err-clause-promised g c =
    let promised = g.D.BlockDevice.promised in
    keep_both (promises_of promised c.args.parts.now) (promises_of promised c.loop-row.parts) (promises_of promised c.rebuild_row.new.parts)
    c.loop-row.invariant.promised c.rebuild_row.ensures.promised.0

pub returns-in-Err-clause-targets : goal.returns-in-Err-clause-targets
returns-in-Err-clause-targets g c =
    let promised = g.D.BlockDevice.promised in
    keep_both (target_promises promised c.args.targets.now) (target_promises promised c.loop-row.targets) (target_promises promised c.rebuild_row.new.targets)
    c.loop-row.invariant.targets c.rebuild_row.ensures.promised.1

pub loop-row-preserved : goal.loop-row-preserved
loop-row-preserved g c =
    let shape = c.args.geometry.now in
    let told = g.D.BlockDevice.told in
    let promised = g.D.BlockDevice.promised in
    let row = c.loop-row.row in
    let within : row < shape.rows = omega (arith, c.loop-row-test.true, c.rows-row-end.ensures.value) in
    record {
      room = c.rebuild_row.ensures.room;
      promised = keep_both (promises_of promised c.args.parts.now) (promises_of promised c.loop-row.parts) (promises_of promised c.rebuild_row.new.parts)
          c.loop-row.invariant.promised c.rebuild_row.ensures.promised.0;
      targets = keep_both (target_promises promised c.args.targets.now) (target_promises promised c.loop-row.targets)
          (target_promises promised c.rebuild_row.new.targets) c.loop-row.invariant.targets c.rebuild_row.ensures.promised.1;
      so_far = rebuilding_next shape c.args.target (parts_of told c.args.parts.now) (parts_of told c.loop-row.parts) (parts_of told c.rebuild_row.new.parts)
          (targets_of told c.args.targets.now) (targets_of told c.loop-row.targets) (targets_of told c.rebuild_row.new.targets)
          c.loop-row.room.long c.rebuild_row.new.room.long row c.rows-row-end.ensures.limits within c.loop-row.invariant.so_far c.in-Ok.ensures.rebuilt;
    }

pub returns-clause-rebuilt : goal.returns-clause-rebuilt
returns-clause-rebuilt g c =
    let shape = c.args.geometry.now in
    let told = g.D.BlockDevice.told in
    let started = parts_of told c.args.parts.now in
    let now = parts_of told c.loop-row.parts in
    let targets = targets_of told c.args.targets.now in
    let after = targets_of told c.loop-row.targets in
    let all : c.loop-row.row ≡ shape.rows = omega (arith, c.loop-row-test.false, c.loop-row.auto.row-end, c.rows-row-end.ensures.value) in
    subst (λ (n : ℕ). IsRebuilt shape c.args.target started targets after (record { rows = n; fault = None })) (sym c.rows.ensures.value)
    (rebuilt_at_end shape c.args.target started now targets after c.loop-row.room.long
    (subst (λ (n : ℕ). Rebuilding shape c.args.target started now targets after c.loop-row.room.long n) all c.loop-row.invariant.so_far))

pub returns-clause-kept : goal.returns-clause-kept
returns-clause-kept g c =
    let told = g.D.BlockDevice.told in
    but_none (λ _. ⊥) (parts_of told c.args.parts.now) (parts_of told c.loop-row.parts) c.loop-row.invariant.so_far.only_read

pub returns-clause-sound : goal.returns-clause-sound
returns-clause-sound g c =
    let promised = g.D.BlockDevice.promised in
    sound_at_end c.args.geometry.now c.args.target (parts_of g.D.BlockDevice.told c.args.parts.now) (promises_of promised c.args.parts.now)
    (target_promises promised c.args.targets.now)

pub returns-clause-promised : goal.returns-clause-promised
returns-clause-promised g c = c.loop-row.invariant.promised

pub returns-clause-targets : goal.returns-clause-targets
returns-clause-targets g c = c.loop-row.invariant.targets
