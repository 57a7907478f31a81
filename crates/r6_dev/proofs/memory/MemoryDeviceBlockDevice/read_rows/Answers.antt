use Rattle.std.proofs.Common.{◌≡◌, ◌+◌, ◌*◌, ◌-◌, ◌<◌, ◌≤◌, ℕ, List, [], arith, ap, length, refl, rules, subst, ◌∙◌}
use Rattle.std.proofs.lemmas.List.{get_or_default}
use Rattle.std.proofs.lemmas.List.Elements.{All-get_or}
use Rattle.std.proofs.lemmas.Nat.{row_fits}
use Rattle.r6_dev.specs.History.{AreTogether}
use Rattle.r6_dev.specs.Memory.{Memory, blocks_from}
use Rattle.r6_dev.proofs.Together.{FirstTogether, all_together, one_more}
use Rattle.r6_dev.proofs.memory.MemoryDeviceBlockDevice.read_rows.Goals as goal

pub loop-index-preserved : goal.loop-index-preserved
loop-index-preserved c =
    let size = c.self.inside.block in
    let blocks = c.self.inside.blocks.items in
    let index = c.loop-index.index in
    let bytes = c.loop-index.bytes in
    let below = c.loop-index-test.true in
    let product : c.in-Some-checked_mul.len ≡ c.args.count * size = search rules in
    let whole : length bytes ≡ c.args.count * size = c.loop-index.auto.bytes ∙ c.if-bytes-len.false ∙ product in
    let fits = row_fits index size c.args.count size below (omega arith) in
    let within : index * size ≤ length bytes = omega (arith, whole, fits) in
    let place : c.in-Some.first + index < length blocks = omega (arith, below, c.if-count-len.false, c.len.ensures, c.self.inside.blocks.ok.0) in
    let is = c.copy_from_slice.ensures.after ∙ c.as_slice-block.ensures ∙ c.index.ensures
    ∙ get_or_default blocks (c.in-Some.first + index) c.index.result.now [] place in
    let long = ap length is ∙ All-get_or (λ (block : List ℕ). length block ≡ size) blocks (c.in-Some.first + index) [] place c.self.invariant.sized in
    one_more c.in-Some.first size index (index * size + size - index * size) blocks bytes c.copy_from_slice.new.self (omega arith) within long is c.loop-index.invariant

pub returns-clause-answers : goal.returns-clause-answers
returns-clause-answers c =
    let memory = c.args.self.now in
    let first = c.in-Some.first in
    let size = c.self.inside.block in
    let blocks = c.self.inside.blocks.items in
    let bytes = c.loop-index.bytes in
    let there = c.in-Some.ensures.there in
    let product : c.in-Some-checked_mul.len ≡ c.args.count * size = search rules in
    let whole : length bytes ≡ c.args.count * size = c.loop-index.auto.bytes ∙ c.if-bytes-len.false ∙ product in
    let ends : c.loop-index.index ≡ c.args.count = omega (arith, c.loop-index-test.false, c.loop-index.auto.index-end) in
    let at : c.args.row ≡ memory.first + first = omega (arith, there) in
    let many = ap (λ (m : Memory). length m.blocks) c.self.view_is in
    let within : first + c.args.count ≤ length blocks = omega (arith, c.if-count-len.false, c.len.ensures, c.self.inside.blocks.ok.0, there, many) in
    let pieces = subst (λ (n : ℕ). FirstTogether first size n blocks bytes) ends c.loop-index.invariant in (
      subst (λ (all : List (List ℕ)). AreTogether (blocks_from memory.first all) c.args.row c.args.count bytes) (ap (λ (m : Memory). m.blocks) c.self.view_is)
          (all_together c.args.row memory.first first size c.args.count blocks bytes at within whole pieces),
      refl,
    )
