use borrow.Author.Count.{below_more, below_none}
use Rattle.std.proofs.Common.{◌≡◌, ℕ, ◌+◌, ◌*◌, ◌<◌, true, is_some, length, ap, subst, ◌∙◌, arith}
use Rattle.r6_layout.specs.Layout.{shard_of}
use Rattle.r6_offline.specs.Parts.{part_number, parts_of}
use Rattle.r6_offline.proofs.FileLaws.{number_below, number_fits, number_within, part_told}
use Rattle.r6_offline.proofs.row_check.has_absent.Goals as goal

pub shard_of-requires : goal.shard_of-requires
shard_of-requires g c = c.requires.row_within

pub loop-slot-init : goal.loop-slot-init
loop-slot-init g c =
    let shape = c.args.geometry.now in
    below_none (λ (slot : ℕ). is_some (parts_of g.D.BlockDevice.told c.args.parts.now (part_number shape (shard_of shape c.args.row) slot)) ≡ true)

pub overflow_mul-first : goal.overflow_mul-first
overflow_mul-first g c =
    let limits = c.slots.ensures.limits in
    omega (arith, number_fits c.args.geometry.now c.shard_of.result 0 c.slots.result limits c.slots.ensures.value c.shard_of.ensures.owner.is_shard (omega (arith, limits.slots_allowed.0)))

pub overflow_add-first : goal.overflow_add-first
overflow_add-first g c =
    let in_slots : c.loop-slot.slot < c.args.geometry.now.slots = omega (arith, c.loop-slot-test.true, c.slots-slot-end.ensures.value) in
    omega (arith, number_fits c.args.geometry.now c.shard_of.result c.loop-slot.slot c.slots.result c.slots.ensures.limits c.slots.ensures.value c.shard_of.ensures.owner.is_shard in_slots)

pub bounds-parts-first : goal.bounds-parts-first
bounds-parts-first g c =
    let in_slots : c.loop-slot.slot < c.args.geometry.now.slots = omega (arith, c.loop-slot-test.true, c.slots-slot-end.ensures.value) in
    omega (arith, c.requires.parts, number_within c.args.geometry.now c.shard_of.result c.loop-slot.slot c.slots.result c.slots.ensures.value c.shard_of.ensures.owner.is_shard in_slots)

pub returns-then-is_none : goal.returns-then-is_none
returns-then-is_none g c =
    let shape = c.args.geometry.now in
    let slot = c.loop-slot.slot in
    let shard = shard_of shape c.args.row in
    let in_slots : slot < shape.slots = omega (arith, c.loop-slot-test.true, c.slots-slot-end.ensures.value) in
    let in_shards : shard < shape.shards = subst (λ (s : ℕ). s < shape.shards) c.shard_of.ensures.value c.shard_of.ensures.owner.is_shard in
    let below : part_number shape shard slot < length c.args.parts.now =
    omega (arith, c.requires.parts, number_below shape shard slot in_shards in_slots) in
    let at : c.shard_of.result * c.slots.result + slot ≡ part_number shape shard slot =
    ap (λ (s : ℕ). s * c.slots.result + slot) c.shard_of.ensures.value ∙ ap (λ (n : ℕ). shard * n + slot) c.slots.ensures.value in (
      slot,
      in_slots,
      part_told g.D.BlockDevice.told c.args.parts.now (c.shard_of.result * c.slots.result + slot) (part_number shape shard slot) c.index-parts-first.result at below
          c.index-parts-first.is ∙ c.if-is_none.ensures,
    )

pub loop-slot-preserved : goal.loop-slot-preserved
loop-slot-preserved g c =
    let shape = c.args.geometry.now in
    let told = g.D.BlockDevice.told in
    let parts = c.args.parts.now in
    let slot = c.loop-slot.slot in
    let shard = shard_of shape c.args.row in
    let in_slots : slot < shape.slots = omega (arith, c.loop-slot-test.true, c.slots-slot-end.ensures.value) in
    let in_shards : shard < shape.shards = subst (λ (s : ℕ). s < shape.shards) c.shard_of.ensures.value c.shard_of.ensures.owner.is_shard in
    let below : part_number shape shard slot < length parts =
    omega (arith, c.requires.parts, number_below shape shard slot in_shards in_slots) in
    let at : c.shard_of.result * c.slots.result + slot ≡ part_number shape shard slot =
    ap (λ (s : ℕ). s * c.slots.result + slot) c.shard_of.ensures.value ∙ ap (λ (n : ℕ). shard * n + slot) c.slots.ensures.value in
    below_more (λ (k : ℕ). is_some (parts_of told parts (part_number shape shard k)) ≡ true) slot c.loop-slot.invariant
    (part_told told parts (c.shard_of.result * c.slots.result + slot) (part_number shape shard slot) c.index-parts-first.result at below c.index-parts-first.is
    ∙ c.if-is_none.ensures)

pub returns : goal.returns
returns g c slot within =
    c.loop-slot.invariant slot (omega (arith, within, c.loop-slot-test.false, c.slots-slot-end.ensures.value))
