use Rattle.std.proofs.Common.{◌≡◌, ℕ, ◌*◌, ◌<◌, [], length, refl, sym, ap, subst, ◌∙◌, arith}
use Rattle.std.proofs.lemmas.List.{get_or_default, length-set}
use Rattle.r6_offline.specs.Lent.{promises_of}
use Rattle.r6_offline.specs.Parts.{parts_of}
use Rattle.r6_offline.specs.Stretches.{PositionRead}
use Rattle.r6_offline.proofs.LentLaws.{keep_both, keep_none}
use Rattle.r6_offline.proofs.RowLaws.{only_read_both, only_read_none}
use Rattle.r6_offline.proofs.StretchLaws.{long_set, position_since, positions_next}
use Rattle.r6_offline.proofs.stretch.Stretch.read.Goals as goal

pub loop-position-init : goal.loop-position-init
loop-position-init g c = record {
  places = c.requires.places;
  rows = refl;
  only_read = only_read_none (parts_of g.D.BlockDevice.told c.args.parts.now);
  promised = keep_none (promises_of g.D.BlockDevice.promised c.args.parts.now);
  read = λ position below. absurd (omega (arith, below));
}

pub read_position-requires : goal.read_position-requires
read_position-requires g c = record {
  rows = (omega (arith, c.requires.some, c.loop-position.invariant.rows), omega (arith, c.requires.within, c.loop-position.invariant.rows));
  chunk = omega (arith, c.requires.chunk, c.loop-position.invariant.rows);
  position = omega (arith, c.loop-position-test.true, c.slots-position-end.ensures.value);
  parts = omega (arith, c.requires.parts, c.loop-position.auto.parts);
}

pub returns-then-not-read_position-clause-only_read : goal.returns-then-not-read_position-clause-only_read
returns-then-not-read_position-clause-only_read g c =
    let told = g.D.BlockDevice.told in
    only_read_both (parts_of told c.args.parts.now) (parts_of told c.loop-position.parts) (parts_of told c.read_position.new.parts)
    c.loop-position.invariant.only_read c.read_position.ensures.only_read

pub returns-then-not-read_position-clause-promised : goal.returns-then-not-read_position-clause-promised
returns-then-not-read_position-clause-promised g c =
    let promised = g.D.BlockDevice.promised in
    keep_both (promises_of promised c.args.parts.now) (promises_of promised c.loop-position.parts) (promises_of promised c.read_position.new.parts)
    c.loop-position.invariant.promised c.read_position.ensures.promised

pub swap_with_vec-requires : goal.swap_with_vec-requires
swap_with_vec-requires g c =
    let places = c.loop-position.invariant.places in
    let blocks = c.loop-position.self.blocks.items in
    let position = c.loop-position.position in
    let below : position < c.args.geometry.now.slots = omega (arith, c.loop-position-test.true, c.slots-position-end.ensures.value) in
    let within : position < length blocks = omega (arith, below, places.count) in
    c.read_position.ensures.room ∙ places.bytes ∙ sym (places.long position below)
    ∙ sym (ap length (c.index_mut.ensures.value ∙ get_or_default blocks position c.index_mut.result.now [] within))

pub loop-position-preserved : goal.loop-position-preserved
loop-position-preserved g c =
    let shape = c.args.geometry.now in
    let told = g.D.BlockDevice.told in
    let promised = g.D.BlockDevice.promised in
    let so_far = c.loop-position.invariant in
    let places = so_far.places in
    let blocks = c.loop-position.self.blocks.items in
    let position = c.loop-position.position in
    let rows = c.args.self.now.rows in
    let bytes = c.read_position.new.bytes.items in
    let started = parts_of told c.args.parts.now in
    let now = parts_of told c.loop-position.parts in
    let below : position < shape.slots = omega (arith, c.loop-position-test.true, c.slots-position-end.ensures.value) in
    let within : position < length blocks = omega (arith, below, places.count) in
    let is : c.swap_with_vec.new.self ≡ bytes = c.swap_with_vec.ensures.block in
    let long : length c.swap_with_vec.new.self ≡ c.loop-position.self.rows * shape.block = ap length is ∙ c.read_position.ensures.room ∙ places.bytes in
    let read : PositionRead shape now c.args.row rows position bytes =
    subst (λ (n : ℕ). PositionRead shape now c.args.row n position bytes) so_far.rows (c.read_position.ensures.read c.if-not-read_position.false) in
    record {
      places = record {
        count = length-set blocks position c.swap_with_vec.new.self ∙ places.count;
        long = long_set blocks position shape.slots (c.loop-position.self.rows * shape.block) c.swap_with_vec.new.self places.count long places.long;
        bytes = ap length (c.swap_with_vec.ensures.vec ∙ c.index_mut.ensures.value ∙ get_or_default blocks position c.index_mut.result.now [] within) ∙ places.long position below;
      };
      rows = so_far.rows;
      only_read = only_read_both started now (parts_of told c.read_position.new.parts) so_far.only_read c.read_position.ensures.only_read;
      promised = keep_both (promises_of promised c.args.parts.now) (promises_of promised c.loop-position.parts) (promises_of promised c.read_position.new.parts)
          so_far.promised c.read_position.ensures.promised;
      read = positions_next shape started c.args.row rows position blocks c.swap_with_vec.new.self within so_far.read
          (subst (PositionRead shape started c.args.row rows position) (sym is)
          (position_since shape started now c.args.row rows position bytes so_far.only_read read));
    }
