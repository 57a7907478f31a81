use Rattle.std.proofs.Common.{◌≡◌, sym, ap, ◌∙◌, Some, None}
use Rattle.r6_waiters.specs.Line.{entries_of}
use Rattle.r6_core.specs.Batches.{block_written}
use Rattle.r6_core.proofs.RowWrites.{found_key}
use Rattle.r6_core.proofs.state.State.join_one.Goals as goal

-- a read has no key
pub returns-in-Some : goal.returns-in-Some
returns-in-Some c =
    let key = found_key c.block_of-block.result (entries_of c.args.self.now.waiting) c.in-Some.field-0 (sym c.take.ensures.value ∙ c.in-Some.is) in
    absurd (let none : None ≡ Some c.block_of-block.result = sym (ap block_written c.in-Read.is) ∙ key in cc none)
