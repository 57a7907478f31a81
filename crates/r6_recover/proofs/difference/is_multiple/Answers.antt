use Rattle.std.proofs.Common.{ℕ, List, ap, ◌∙◌}
use Rattle.r6_kernels.specs.Blocks.{block_sum, scale}
use Rattle.r6_recover.proofs.DifferenceLaws.{multiple, none_set, taken_back}
use Rattle.r6_recover.proofs.difference.is_multiple.Goals as goal

pub returns-clause-multiple : goal.returns-clause-multiple
returns-clause-multiple c =
    let q : List ℕ = c.args.q.now in
    let p : List ℕ = c.args.p.now in
    multiple q p c.scale_add.new.dst c.args.constant.0 c.is_none-is_zero.result c.requires
    (c.scale_add.ensures.sum ∙ ap (λ (factor : ℕ). block_sum q (scale factor p)) c.new-factor.ensures)
    (none_set c.scale_add.new.dst c.first_set.result c.is_none-is_zero.result c.first_set.ensures c.is_none-is_zero.ensures)

pub returns-clause-kept : goal.returns-clause-kept
returns-clause-kept c =
    let p : List ℕ = c.args.p.now in
    c.scale_add-2.ensures.sum ∙ ap (λ (sum : List ℕ). block_sum sum (scale c.new-factor.result p)) c.scale_add.ensures.sum
    ∙ taken_back c.args.q.now p c.new-factor.result c.requires
