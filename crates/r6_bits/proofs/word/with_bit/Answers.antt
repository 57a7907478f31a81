use Rattle.std.proofs.Common.{w64}
use Rattle.r6_bits.proofs.Words.{set-with, set-without}
use Rattle.r6_bits.proofs.word.with_bit.Goals as goal

pub returns-then-is_in : goal.returns-then-is_in
returns-then-is_in c i inside = rw c.if-is_in.true (set-with w64 c.args.bits c.args.number i c.requires)

pub returns-else-is_in : goal.returns-else-is_in
returns-else-is_in c i inside = rw c.if-is_in.false (set-without w64 c.args.bits c.args.number i c.requires inside)
