use Rattle.std.proofs.Common.{◌≡◌, ℕ, ◌+◌, ◌<◌, ◌≤◌, sym, ap, subst, ◌∙◌, arith}
use Rattle.r6_offline.specs.Lent.{promises_of}
use Rattle.r6_offline.specs.Parts.{parts_of}
use Rattle.r6_offline.specs.Rows.{marked}
use Rattle.r6_offline.proofs.LentLaws.{alone_since, keep_both, keep_none}
use Rattle.r6_offline.proofs.RowLaws.{SlotsRead, slots_read_none, slots_read_next, row_read, read_fails_since}
use Rattle.r6_offline.proofs.row.RowReader.read_row.Goals as goal

pub loop-slot-init : goal.loop-slot-init
loop-slot-init g c =
    let shape = c.args.geometry.now in
    let parts = parts_of g.D.BlockDevice.told c.args.parts.now in
    let blocks = c.args.self.now.blocks in
    record {
      room = c.requires.room;
      promised = keep_none (promises_of g.D.BlockDevice.promised c.args.parts.now);
      read = subst (λ known. SlotsRead shape parts parts c.args.row 0 known blocks) (sym c.none-known.ensures) (slots_read_none shape parts c.args.row blocks);
    }

pub loop-slot-preserved : goal.loop-slot-preserved
loop-slot-preserved g c =
    let shape = c.args.geometry.now in
    let told = g.D.BlockDevice.told in
    let row = c.args.row in
    let slot = c.loop-slot.slot in
    let old = parts_of told c.args.parts.now in
    let now = parts_of told c.loop-slot.parts in
    let next = parts_of told c.read_slot.new.parts in
    let known = c.loop-slot.known in
    let before = c.loop-slot.self.blocks in
    let after = c.read_slot.new.self.blocks in
    let in_slots : slot < shape.slots = omega (arith, c.loop-slot-test.true, c.slots-slot-end.ensures.value) in
    let few : shape.slots ≤ 32 = c.slots-slot-end.ensures.limits.slots_allowed.1 in
    let so_far = c.loop-slot.invariant.read in
    let there = c.in-Ok.there in
    let promised = g.D.BlockDevice.promised in
    record {
      room = c.read_slot.ensures.room;
      promised = keep_both (promises_of promised c.args.parts.now) (promises_of promised c.loop-slot.parts) (promises_of promised c.read_slot.new.parts)
          c.loop-slot.invariant.promised c.read_slot.ensures.promised;
      read =
          subst (λ known'. SlotsRead shape old next row (slot + 1) known' after) (sym (c.mark.ensures ∙ ap (λ (p : ℕ). marked known p there) c.position_at.ensures.value))
          (slots_read_next shape old now next row slot known there before after in_slots few so_far c.in-Ok.ensures.read);
    }

pub returns-clause-read : goal.returns-clause-read
returns-clause-read g c =
    let shape = c.args.geometry.now in
    let told = g.D.BlockDevice.told in
    let old = parts_of told c.args.parts.now in
    let now = parts_of told c.loop-slot.parts in
    let known = c.loop-slot.known in
    let blocks = c.loop-slot.self.blocks in
    let all : c.loop-slot.slot ≡ shape.slots = omega (arith, c.loop-slot-test.false, c.loop-slot.auto.slot-end, c.slots-slot-end.ensures.value) in
    row_read shape old now c.args.row known blocks (subst (λ (n : ℕ). SlotsRead shape old now c.args.row n known blocks) all c.loop-slot.invariant.read)

pub read_slot-requires : goal.read_slot-requires
read_slot-requires g c = record {
  row_within = c.requires.row_within;
  slot_within = subst (λ (n : ℕ). c.loop-slot.slot < n) c.slots-slot-end.ensures.value c.loop-slot-test.true;
  parts = c.loop-slot.auto.parts ∙ c.requires.parts;
  room = c.loop-slot.invariant.room;
}

pub position_at-requires : goal.position_at-requires
position_at-requires g c = record {
  row_within = c.requires.row_within;
  slot_within = subst (λ (n : ℕ). c.loop-slot.slot < n) c.slots-slot-end.ensures.value c.loop-slot-test.true;
}

pub mark-requires : goal.mark-requires
mark-requires g c = omega (arith, c.position_at.ensures.within, c.slots-slot-end.ensures.limits.slots_allowed.1)

pub returns-in-Err : goal.returns-in-Err
returns-in-Err g c =
    let told = g.D.BlockDevice.told in
    let promised = g.D.BlockDevice.promised in
    record {
      room = c.read_slot.ensures.room;
      read = tt;
      fails = read_fails_since c.args.geometry.now (parts_of told c.args.parts.now) (parts_of told c.loop-slot.parts) c.args.row
          (record { slot = c.loop-slot.slot; fault = c.in-Err.fault }) c.loop-slot.invariant.read.only_read c.in-Err.ensures.fails;
      alone = alone_since c.args.geometry.now (promises_of promised c.args.parts.now) (promises_of promised c.loop-slot.parts)
          (parts_of told c.args.parts.now) (parts_of told c.loop-slot.parts) (parts_of told c.read_slot.new.parts) c.args.row
          (record { slot = c.loop-slot.slot; fault = c.in-Err.fault }) c.loop-slot.invariant.promised c.loop-slot.invariant.read.only_read
          c.in-Err.ensures.alone;
      promised = keep_both (promises_of promised c.args.parts.now) (promises_of promised c.loop-slot.parts) (promises_of promised c.read_slot.new.parts)
          c.loop-slot.invariant.promised c.read_slot.ensures.promised;
      limits = c.slots-slot-end.ensures.limits;
    }

pub returns-clause-room : goal.returns-clause-room
returns-clause-room g c = c.loop-slot.invariant.room

pub returns-clause-fails : goal.returns-clause-fails
returns-clause-fails g c = tt

pub returns-clause-limits : goal.returns-clause-limits
returns-clause-limits g c = c.slots-slot-end.ensures.limits

pub returns-clause-alone : goal.returns-clause-alone
returns-clause-alone g c = tt

pub returns-clause-promised : goal.returns-clause-promised
returns-clause-promised g c = c.loop-slot.invariant.promised
