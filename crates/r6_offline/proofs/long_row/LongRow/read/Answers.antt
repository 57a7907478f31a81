use Rattle.std.proofs.Common.{◌≡◌, ℕ, ◌*◌, ◌<◌, true, length, set, refl, sym, ap, subst, ◌∙◌, arith}
use Rattle.std.proofs.lemmas.List.{length-set}
use Rattle.r6_recover.specs.Rows.{block_at}
use Rattle.r6_offline.specs.Lent.{promises_of}
use Rattle.r6_offline.specs.Parts.{parts_of}
use Rattle.r6_offline.specs.Stretches.{PositionRead, PositionsKnown}
use Rattle.r6_offline.proofs.LentLaws.{keep_both, keep_none}
use Rattle.r6_offline.proofs.LongRowLaws.{known_next, known_none}
use Rattle.r6_offline.proofs.RowLaws.{only_read_both, only_read_none}
use Rattle.r6_offline.proofs.StretchLaws.{long_set, position_since}
use Rattle.r6_offline.proofs.long_row.LongRow.read.Goals as goal

pub loop-position-init : goal.loop-position-init
loop-position-init g c =
    let started = parts_of g.D.BlockDevice.told c.args.parts.now in
    record {
      places = c.requires.places;
      rows = refl;
      end = refl;
      only_read = only_read_none started;
      promised = keep_none (promises_of g.D.BlockDevice.promised c.args.parts.now);
      read = subst (λ known. PositionsKnown c.args.geometry.now started c.args.row c.args.self.now.rows known c.args.self.now.blocks) (sym c.none-known.ensures)
          (known_none c.args.geometry.now started c.args.row c.args.self.now.rows c.args.self.now.blocks);
    }

pub returns-then-not-read_position-clause-only_read : goal.returns-then-not-read_position-clause-only_read
returns-then-not-read_position-clause-only_read g c =
    let told = g.D.BlockDevice.told in
    only_read_both (parts_of told c.args.parts.now) (parts_of told c.loop-position.parts) (parts_of told c.read_position.new.parts)
    c.loop-position.invariant.only_read c.read_position.ensures.only_read

pub returns-then-not-read_position-clause-promised : goal.returns-then-not-read_position-clause-promised
returns-then-not-read_position-clause-promised g c =
    let promised = g.D.BlockDevice.promised in
    keep_both (promises_of promised c.args.parts.now) (promises_of promised c.loop-position.parts) (promises_of promised c.read_position.new.parts)
    c.loop-position.invariant.promised c.read_position.ensures.promised

pub loop-position-preserved : goal.loop-position-preserved
loop-position-preserved g c =
    let shape = c.args.geometry.now in
    let told = g.D.BlockDevice.told in
    let promised = g.D.BlockDevice.promised in
    let so_far = c.loop-position.invariant in
    let places = so_far.places in
    let blocks = c.loop-position.self.blocks in
    let position = c.loop-position.position in
    let rows = c.args.self.now.rows in
    let bytes = c.read_position.new.bytes.items in
    let started = parts_of told c.args.parts.now in
    let now = parts_of told c.loop-position.parts in
    let below : position < shape.slots = omega (arith, c.loop-position-test.true, c.slots-position-end.ensures.value) in
    let within : position < length blocks = omega (arith, below, places.count) in
    let is : c.swap_with_vec.new.self ≡ bytes = c.swap_with_vec.ensures.block in
    let long : length c.swap_with_vec.new.self ≡ c.loop-position.self.rows * shape.block = ap length is ∙ c.read_position.ensures.room ∙ places.bytes in
    let read : PositionRead shape now c.args.row rows position bytes =
    subst (λ (n : ℕ). PositionRead shape now c.args.row n position bytes) so_far.rows (c.read_position.ensures.read c.if-not-read_position.false) in
    record {
      places = record {
        count = ap length c.swap_block.ensures.row ∙ length-set blocks position c.swap_with_vec.new.self ∙ places.count;
        long = subst (λ (after : _). (k : ℕ) → k < shape.slots → length (block_at after k) ≡ c.loop-position.self.rows * shape.block) (sym c.swap_block.ensures.row)
            (long_set blocks position shape.slots (c.loop-position.self.rows * shape.block) c.swap_with_vec.new.self places.count long places.long);
        bytes = ap length c.swap_with_vec.ensures.vec ∙ places.block;
        block = ap length c.swap_block.ensures.block ∙ places.long position below;
        end = places.end;
      };
      rows = so_far.rows;
      end = so_far.end;
      only_read = only_read_both started now (parts_of told c.read_position.new.parts) so_far.only_read c.read_position.ensures.only_read;
      promised = keep_both (promises_of promised c.args.parts.now) (promises_of promised c.loop-position.parts) (promises_of promised c.read_position.new.parts)
          so_far.promised c.read_position.ensures.promised;
      read = subst (λ known. PositionsKnown shape started c.args.row rows known c.swap_block.new.self) (sym c.insert.ensures)
          (subst (PositionsKnown shape started c.args.row rows (set c.loop-position.known position true)) (sym c.swap_block.ensures.row)
          (known_next shape started c.args.row rows position c.loop-position.known blocks c.swap_with_vec.new.self within so_far.read
          (subst (PositionRead shape started c.args.row rows position) (sym is)
          (position_since shape started now c.args.row rows position bytes so_far.only_read read))));
    }
