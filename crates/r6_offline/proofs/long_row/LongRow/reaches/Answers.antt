use Rattle.std.proofs.Common.{◌≡◌, ℕ, ◌+◌, ◌-◌, ◌*◌, ◌<◌, ◌≤◌, length, sym, ap, subst, ◌∙◌, arith}
use Rattle.std.proofs.lemmas.List.{length-set}
use Rattle.r6_kernels.specs.Blocks.{piece}
use Rattle.r6_layout.specs.Layout.{position_at}
use Rattle.r6_recover.specs.Rows.{block_at}
use Rattle.r6_offline.specs.Parts.{parts_of}
use Rattle.r6_offline.specs.Rebuilds.{devices_of}
use Rattle.r6_offline.proofs.LongRowLaws.{restored_pieces}
use Rattle.r6_offline.proofs.StretchLaws.{long_set}
use Rattle.r6_offline.proofs.long_row.LongRow.reaches.Goals as goal

pub returns-clause-places : goal.returns-clause-places
returns-clause-places g c =
    let shape = c.args.geometry.now in
    let read = c.in-Some.ensures.places in
    let blocks = c.restore.new.row in
    let position = c.position_at-position.result in
    let long = c.read.new.self.rows * shape.block in
    let count : length blocks ≡ shape.slots = c.restore.ensures.lengths.count ∙ read.count in
    let each : (k : ℕ) → k < shape.slots → length (block_at blocks k) ≡ long = λ k below. c.restore.ensures.lengths.each k ∙ read.long k below in
    record {
      count = ap length c.swap_block.ensures.row ∙ length-set blocks position c.read.new.self.block ∙ count;
      long = subst (λ (after : _). (k : ℕ) → k < shape.slots → length (block_at after k) ≡ long) (sym c.swap_block.ensures.row)
          (long_set blocks position shape.slots long c.read.new.self.block count read.block each);
      bytes = read.bytes;
      block = ap length c.swap_block.ensures.block ∙ each position c.position_at-position.ensures.within;
      end = omega arith;
    }

pub returns-clause-restored : goal.returns-clause-restored
returns-clause-restored g c full are tell held at from below =
    let shape = c.args.geometry.now in
    let parts = parts_of g.D.BlockDevice.told c.args.parts.now in
    let row = c.args.row in
    let rows = c.args.self.now.rows in
    let begins = c.begins_at.ensures.whole c.if-not-begins_at.false in
    let within : row + rows ≤ shape.rows = omega (arith, begins.1, c.rows.ensures.value) in
    let read = c.in-Some.ensures in
    let same : c.read.new.self.rows ≡ rows = read.rows.0 in
    let under : at - row < rows = omega (arith, from, below, same) in
    let position = c.position_at-position.result in
    let block : c.swap_block.new.block ≡ block_at c.restore.new.row (position_at shape row c.args.target) =
    c.swap_block.ensures.block ∙ ap (block_at c.restore.new.row) c.position_at-position.ensures.value in
    ap (piece ((at - row) * shape.block) shape.block) block
    ∙ restored_pieces shape parts row rows c.args.target c.in-Some.known c.read.new.self.blocks c.restore.new.row c.begins_at.ensures.limits begins.2 within
    c.requires.target read.places.count (λ position inside. read.places.long position inside ∙ ap (λ (n : ℕ). n * shape.block) same)
    read.read c.in-Ok.ensures.restored full are tell (at - row) under
    ∙ ap (devices_of shape full c.args.target) (omega (arith, from))
