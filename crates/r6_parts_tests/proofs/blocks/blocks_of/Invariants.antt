use Rattle.std.proofs.Common.{◌≡◌, length}
use Rattle.std.specs.List.{All}
use Rattle.r6_parts_tests.proofs.blocks.blocks_of.Given as goal

abbrev pub invariant-loop-first : goal.invariant-loop-first
invariant-loop-first l = All (λ block. length block ≡ l.len) l.blocks.items
