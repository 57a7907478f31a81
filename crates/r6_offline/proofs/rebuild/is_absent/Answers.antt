use borrow.Author.Count.{below_more}
use Rattle.std.proofs.Common.{◌≡◌, ℕ, ◌+◌, ◌*◌, ◌<◌, false, is_some, length, sym, ap, ◌∙◌, arith}
use Rattle.r6_offline.specs.Parts.{part_number, parts_of}
use Rattle.r6_offline.proofs.FileLaws.{number_below, number_fits, number_within, part_told}
use Rattle.r6_offline.proofs.rebuild.is_absent.Goals as goal

pub overflow_mul-shard : goal.overflow_mul-shard
overflow_mul-shard g c =
    let shape = c.args.geometry.now in
    let limits = c.slots.ensures.limits in
    let in_shards : c.loop-shard.shard < shape.shards = omega (arith, c.loop-shard-test.true, c.shards-shard-end.ensures.value) in
    omega (arith, number_fits shape c.loop-shard.shard 0 c.slots.result limits c.slots.ensures.value in_shards (omega (arith, limits.slots_allowed.0)))

pub overflow_add-shard : goal.overflow_add-shard
overflow_add-shard g c =
    let shape = c.args.geometry.now in
    let in_shards : c.loop-shard.shard < shape.shards = omega (arith, c.loop-shard-test.true, c.shards-shard-end.ensures.value) in
    omega (arith, number_fits shape c.loop-shard.shard c.args.slot c.slots.result c.slots.ensures.limits c.slots.ensures.value in_shards c.requires.slot)

pub bounds-parts-shard : goal.bounds-parts-shard
bounds-parts-shard g c =
    let shape = c.args.geometry.now in
    let in_shards : c.loop-shard.shard < shape.shards = omega (arith, c.loop-shard-test.true, c.shards-shard-end.ensures.value) in
    omega (arith, c.requires.parts, number_within shape c.loop-shard.shard c.args.slot c.slots.result c.slots.ensures.value in_shards c.requires.slot)

pub returns-then-is_some : goal.returns-then-is_some
returns-then-is_some g c =
    let shape = c.args.geometry.now in
    let shard = c.loop-shard.shard in
    let slot = c.args.slot in
    let at : shard * c.slots.result + slot ≡ part_number shape shard slot = ap (λ (n : ℕ). shard * n + slot) c.slots.ensures.value in
    let in_shards : shard < shape.shards = omega (arith, c.loop-shard-test.true, c.shards-shard-end.ensures.value) in
    let below : part_number shape shard slot < length c.args.parts.now =
    omega (arith, c.requires.parts, number_below shape shard slot in_shards c.requires.slot) in (
      shard,
      in_shards,
      part_told g.D.BlockDevice.told c.args.parts.now (shard * c.slots.result + slot) (part_number shape shard slot) c.index-parts-shard.result at below
          c.index-parts-shard.is ∙ sym c.if-is_some.ensures,
    )

pub loop-shard-preserved : goal.loop-shard-preserved
loop-shard-preserved g c =
    let shape = c.args.geometry.now in
    let told = g.D.BlockDevice.told in
    let parts = c.args.parts.now in
    let shard = c.loop-shard.shard in
    let slot = c.args.slot in
    let at : shard * c.slots.result + slot ≡ part_number shape shard slot = ap (λ (n : ℕ). shard * n + slot) c.slots.ensures.value in
    let in_shards : shard < shape.shards = omega (arith, c.loop-shard-test.true, c.shards-shard-end.ensures.value) in
    let below : part_number shape shard slot < length parts =
    omega (arith, c.requires.parts, number_below shape shard slot in_shards c.requires.slot) in
    below_more (λ (k : ℕ). is_some (parts_of told parts (part_number shape k slot)) ≡ false) shard c.loop-shard.invariant
    (part_told told parts (shard * c.slots.result + slot) (part_number shape shard slot) c.index-parts-shard.result at below c.index-parts-shard.is
    ∙ sym c.if-is_some.ensures)

pub returns : goal.returns
returns g c shard within = c.loop-shard.invariant shard (omega (arith, within))
