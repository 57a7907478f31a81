use Rattle.std.proofs.Common.{◌≡◌, ℕ, ◌+◌, ◌*◌, ◌<◌, ◌≤◌, List, Some, ap, arith, length, subst, sym, ◌∙◌}
use Rattle.std.specs.List.{All}
use Rattle.r6_dev.specs.History.{Block}
use Rattle.r6_recover.specs.Classes.{HasClass}
use Rattle.r6_recover.specs.Rows.{block_length}
use Rattle.r6_recover.specs.declared.class.RowClass.TheVariants.{Consistent}
use Rattle.r6_offline.specs.Parts.{parts_of}
use Rattle.r6_offline.specs.Reports.{IsFinding}
use Rattle.r6_offline.proofs.StretchLaws.{found_consistent, one_length}
use Rattle.r6_offline.proofs.stretch.Stretch.consistent_to.Goals as goal

pub has_right_parities-requires-clause-count : goal.has_right_parities-requires-clause-count
has_right_parities-requires-clause-count g c =
    omega (arith, ap length c.as_slice.ensures.value, c.read.ensures.places.count, c.begins_at.ensures.limits.slots_allowed.0)

pub has_right_parities-requires-clause-long : goal.has_right_parities-requires-clause-long
has_right_parities-requires-clause-long g c =
    let places = c.read.ensures.places in
    subst (λ (blocks : List Block). All (λ block. length block ≡ block_length blocks) blocks) (sym c.as_slice.ensures.value)
    (one_length c.read.new.self.blocks.items c.args.geometry.now.slots (c.read.new.self.rows * c.args.geometry.now.block) places.count places.long)

pub returns-clause-consistent : goal.returns-clause-consistent
returns-clause-consistent g c =
    let shape = c.args.geometry.now in
    let parts = parts_of g.D.BlockDevice.told c.args.parts.now in
    let rows = c.args.self.now.rows in
    let places = c.read.ensures.places in
    let begins = c.begins_at.ensures.whole c.if-not-begins_at.false in
    let class = subst (λ (blocks : List Block). HasClass blocks Consistent) c.as_slice.ensures.value (c.has_right_parities.ensures.0 c.if-not-has_right_parities.false) in
    subst (λ (n : ℕ). (at : ℕ) → c.args.row ≤ at → at < c.args.row + n → IsFinding shape parts at (Some Consistent)) (sym c.read.ensures.rows)
    (found_consistent shape parts c.args.row rows c.read.new.self.blocks.items c.begins_at.ensures.limits begins.2 places.count
    (λ position within. places.long position within ∙ ap (λ (n : ℕ). n * shape.block) c.read.ensures.rows)
    (c.read.ensures.read c.if-not-read.false) class)
