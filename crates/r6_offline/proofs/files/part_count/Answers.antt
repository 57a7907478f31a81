use Rattle.std.proofs.Common.{ℕ, ◌*◌, ap, ◌∙◌}
use Rattle.r6_offline.proofs.files.part_count.Goals as goal

pub returns-clause-value : goal.returns-clause-value
returns-clause-value c =
    let shape = c.args.geometry.now in
    let slots : ℕ = c.slots.result in
    ap (λ (shards : ℕ). shards * slots) c.shards.ensures.value ∙ ap (λ (slots : ℕ). shape.shards * slots) c.slots.ensures.value
