use Rattle.std.proofs.Common.{◌≡◌, Bool, true, nat_lt, sym, ap, ◌∙◌}
use Rattle.std.specs.Prelude.{if◌then◌else◌}
use Rattle.std.proofs.lemmas.Bool.{lt-ltb}
use Rattle.r6_layout.specs.Layout.{row_of, shard_of}
use Rattle.r6_layout.specs.Shape.{blocks}
use Rattle.r6_simulate.proofs.array.Simulation.shard_of_block.Goals as goal

pub returns-in-Some-clause-value : goal.returns-in-Some-clause-value
returns-in-Some-clause-value c =
    let shape = c.args.self.now.geometry in
    let block = c.args.block in
    let inside : nat_lt block (blocks shape) ≡ true = lt-ltb block (blocks shape) c.in-Some.ensures.within in
    c.in-Some.ensures.shard ∙ ap (shard_of shape) c.in-Some.ensures.row
    ∙ ap (λ (is : Bool). if is then shard_of shape (row_of shape block) else 0) (sym inside)
