use Rattle.std.proofs.Common.{◌≡◌, length}
use Rattle.r6_parts_tests.proofs.stretch_rebuilds.parts_of.Given as goal

abbrev pub invariant-loop-number : goal.invariant-loop-number
invariant-loop-number l = length l.parts.items ≡ l.number
