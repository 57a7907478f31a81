use Rattle.std.proofs.Common.{◌+◌, ℕ, Bool, if◌then◌else◌, ap, sym, subst, ◌∙◌}
use Rattle.std.proofs.lemmas.Bool.{ne_eqb}
use Rattle.r6_layout.specs.Layout.{first_row, shard_of}
use Rattle.r6_world.specs.Layouts.{IsRowOf}
use Rattle.r6_core.specs.Shards.{layout_in}
use Rattle.r6_core.proofs.Fresh.{first_row_own}
use Rattle.r6_core.proofs.Turning.{next_own}
use Rattle.r6_core.proofs.state.State.row_behind.Goals as goal

pub returns-then-row-rows-clause-own : goal.returns-then-row-rows-clause-own
returns-then-row-rows-clause-own c =
    let s = c.args.self.now in
    subst (IsRowOf (layout_in s) s.frames.shard) (sym (c.shard_rows-rows.ensures.start ∙ (λ i. first_row (c.geometry.ensures i) (c.shard.ensures i))))
    (first_row_own s.frames.geometry s.frames.shard c.requires.sound.shape c.requires.sound.shard)

pub returns-else-row-rows-clause-own : goal.returns-else-row-rows-clause-own
returns-else-row-rows-clause-own c =
    let s = c.args.self.now in
    next_own s.frames.geometry s.frames.shard c.args.row c.requires.sound.shape c.requires.row
    (λ e. c.if-row-rows.false (e ∙ sym (c.shard_rows-rows.ensures.end ∙ (λ i. first_row (c.geometry.ensures i) (c.shard.ensures i + 1)))))

pub returns-else-row-rows-clause-behind : goal.returns-else-row-rows-clause-behind
returns-else-row-rows-clause-behind c =
    let s = c.args.self.now in
    let shape = s.frames.geometry in
    let row = c.args.row in
    let end = first_row shape (shard_of shape row + 1) in
    let end_is =
    c.shard_rows-rows.ensures.end ∙ (λ i. first_row (c.geometry.ensures i) (c.shard.ensures i + 1))
    ∙ sym (ap (λ (shard : ℕ). first_row shape (shard + 1)) c.requires.row.1) in
    sym
    (ap (λ (b : Bool). if b then first_row shape (shard_of shape row) else row + 1)
    (ne_eqb (row + 1) end (λ e. c.if-row-rows.false (e ∙ sym end_is))))
