use Rattle.std.proofs.Common.{◌<◌, ℕ, List, [], length, sym, ap, subst, ◌∙◌}
use Rattle.std.proofs.lemmas.List.{get_or_read}
use Rattle.r6_recover.specs.Rows.{block_at}
use Rattle.r6_recover.proofs.row.RowBuf.swap_block.Goals as goal

pub returns-clause-block : goal.returns-clause-block
returns-clause-block c =
    let within = subst (λ (row : List (List ℕ)). c.args.position < length row) (sym c.self.view_is) c.requires.within in
    c.swap.ensures.y_after
    ∙ get_or_read c.self.inside.blocks.items c.args.position c.index_mut.result.now within c.index_mut.ensures.value []
    ∙ ap (λ (row : List (List ℕ)). block_at row c.args.position) c.self.view_is
