use Rattle.std.specs.List.{All}
use Rattle.r6_stripe.specs.Batches.{IsEntryFor}
use Rattle.r6_parts_tests.proofs.bench.batch_of.Given as goal

abbrev pub invariant-loop-index : goal.invariant-loop-index
invariant-loop-index l = All (IsEntryFor l.count 16) l.batch.blocks
