use Rattle.std.proofs.Common.{◌≡◌, length}
use Rattle.r6_engine_tests.proofs.sleepers.parts_of.Given as goal

abbrev pub invariant-loop : goal.invariant-loop
invariant-loop g l = length l.parts.items ≡ l.counter
