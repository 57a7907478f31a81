use Rattle.std.proofs.Common.{◌≡◌, ℕ, ◌+◌, ◌*◌, Bool, None, get_or, is_some, length, refl, sym, ap, subst, ◌∙◌, arith}
use Rattle.std.proofs.lemmas.Bool.{false≢true}
use Rattle.std.proofs.lemmas.Result.{err_from_is_err_and}
use Rattle.r6_layout.specs.Layout.{shard_of}
use Rattle.r6_offline.specs.Lent.{promises_of}
use Rattle.r6_offline.specs.Parts.{PartRead, parts_of, part_number}
use Rattle.r6_offline.specs.Rows.{SlotRead}
use Rattle.r6_offline.proofs.FileLaws.{is_some_told, number_fits, number_within}
use Rattle.r6_offline.proofs.LentLaws.{failed_at}
use Rattle.r6_offline.proofs.RowLaws.{fits_swapped, slot_read}
use Rattle.r6_offline.proofs.row.RowReader.read_slot.Goals as goal

pub overflow_mul-number : goal.overflow_mul-number
overflow_mul-number g c =
    let limits = c.slots.ensures.limits in
    omega (arith, number_fits c.args.geometry.now c.shard_of.result 0 c.slots.result limits c.slots.ensures.value c.shard_of.ensures.owner.is_shard (omega (arith, limits.slots_allowed.0)))

pub overflow_add-number : goal.overflow_add-number
overflow_add-number g c =
    omega (arith, number_fits c.args.geometry.now c.shard_of.result c.args.slot c.slots.result c.slots.ensures.limits c.slots.ensures.value c.shard_of.ensures.owner.is_shard c.requires.slot_within)

pub read_part-requires : goal.read_part-requires
read_part-requires g c =
    omega (arith, c.requires.parts, number_within c.args.geometry.now c.shard_of.result c.args.slot c.slots.result c.slots.ensures.value c.shard_of.ensures.owner.is_shard c.requires.slot_within)

pub returns-in_err-there : goal.returns-in_err-there
returns-in_err-there g c =
    let told = g.D.BlockDevice.told in
    let shape = c.args.geometry.now in
    let parts = c.args.parts.now in
    let slot = c.args.slot in
    let at : c.shard_of.result * c.slots.result + slot ≡ part_number shape (shard_of shape c.args.row) slot =
    ap (λ (s : ℕ). s * c.slots.result + slot) c.shard_of.ensures.value ∙ ap (λ (n : ℕ). shard_of shape c.args.row * n + slot) c.slots.ensures.value in
    let p = err_from_is_err_and c.from_residual.result c.from_residual.ensures.1 in
    let fails = c.in_err-there.ensures.fails in
    record {
      room = record {
        count = c.requires.room.count;
        long = c.requires.room.long;
        block = c.read_part.ensures.same_length ∙ c.requires.room.block;
      };
      read = rw p.1 tt;
      fails = rw (p.1, p.2) (record {
        within = c.requires.slot_within;
        is_there = ap (λ (n : ℕ). is_some (parts_of told parts n)) (sym at)
            ∙ is_some_told told (get_or parts (c.shard_of.result * c.slots.result + slot) None) ∙ fails.0;
        of_read = fails.1;
      });
      alone = rw (p.1, p.2) (failed_at shape (promises_of g.D.BlockDevice.promised parts) (parts_of told parts) (parts_of told c.read_part.new.parts)
          c.args.row _ (c.shard_of.result * c.slots.result + slot) (length c.args.self.now.block) at c.requires.room.block
          c.in_err-there.ensures.alone c.in_err-there.ensures.sound c.in_err-there.ensures.kind);
      promised = c.read_part.ensures.promised;
    }

pub returns-else-there : goal.returns-else-there
returns-else-there g c =
    let told = g.D.BlockDevice.told in
    let shape = c.args.geometry.now in
    let slot = c.args.slot in
    let at : c.shard_of.result * c.slots.result + slot ≡ part_number shape (shard_of shape c.args.row) slot =
    ap (λ (s : ℕ). s * c.slots.result + slot) c.shard_of.ensures.value ∙ ap (λ (n : ℕ). shard_of shape c.args.row * n + slot) c.slots.ensures.value in
    let read = c.in_ok-there.ensures.read in
    record {
      room = record {
        count = c.requires.room.count;
        long = c.requires.room.long;
        block = c.read_part.ensures.same_length ∙ c.requires.room.block;
      };
      read = record {
        only_read = read.only_read;
        gives = λ yes'. absurd (false≢true (sym c.if-there.false ∙ yes'));
        is_there = read.is_there ∙ ap (λ (n : ℕ). is_some (parts_of told c.args.parts.now n)) at;
        others = λ position apart. refl;
      };
      fails = tt;
      alone = tt;
      promised = c.read_part.ensures.promised;
    }

pub position_at-position-requires : goal.position_at-position-requires
position_at-position-requires g c = record { row_within = c.requires.row_within; slot_within = c.requires.slot_within }

pub swap_block-requires : goal.swap_block-requires
swap_block-requires g c =
    let room = c.requires.room in
    record {
      within = omega (arith, c.position_at-position.ensures.within, room.count);
      same = c.read_part.ensures.same_length ∙ room.block ∙ sym (room.long 0 (omega (arith, c.requires.slot_within)));
    }

pub returns-then-there-clause-read : goal.returns-then-there-clause-read
returns-then-there-clause-read g c =
    let told = g.D.BlockDevice.told in
    let shape = c.args.geometry.now in
    let row = c.args.row in
    let slot = c.args.slot in
    let number : ℕ = c.shard_of.result * c.slots.result + slot in
    let at : number ≡ part_number shape (shard_of shape row) slot =
    ap (λ (s : ℕ). s * c.slots.result + slot) c.shard_of.ensures.value ∙ ap (λ (n : ℕ). shard_of shape row * n + slot) c.slots.ensures.value in
    let position = c.position_at-position.result in
    let before = c.args.self.now.blocks in
    let block = c.read_part.new.block in
    let old = parts_of told c.args.parts.now in
    let new = parts_of told c.read_part.new.parts in
    subst (λ (there : Bool). SlotRead shape old new row slot there before c.swap_block.new.self) (sym c.if-there.true)
    (slot_read shape old new row slot number position before c.swap_block.new.self block c.slots.ensures.limits c.requires.row_within c.requires.slot_within c.requires.room.count
    at c.position_at-position.ensures.value
    c.swap_block.ensures.row
    (subst (λ (there : Bool). PartRead old new number row there block) c.if-there.true c.in_ok-there.ensures.read))

pub returns-then-there-clause-room : goal.returns-then-there-clause-room
returns-then-there-clause-room g c =
    fits_swapped c.args.geometry.now c.args.self.now _ c.position_at-position.result c.read_part.new.block c.requires.room
    c.position_at-position.ensures.within (c.read_part.ensures.same_length ∙ c.requires.room.block) c.swap_block.ensures.row
    c.swap_block.ensures.block

pub returns-then-there-clause-fails : goal.returns-then-there-clause-fails
returns-then-there-clause-fails g c = tt

pub returns-then-there-clause-alone : goal.returns-then-there-clause-alone
returns-then-there-clause-alone g c = tt

pub returns-then-there-clause-promised : goal.returns-then-there-clause-promised
returns-then-there-clause-promised g c = c.read_part.ensures.promised
