use Rattle.std.proofs.Common.{w64}
use Rattle.r6_bits.proofs.Words.{set-without, less-without}
use Rattle.r6_bits.proofs.word.take_lowest.Goals as goal

pub returns-clause-left : goal.returns-clause-left
returns-clause-left c i inside = set-without w64 c.args.bits.now c.in_ok-number.number i c.in_ok-number.ensures.0 inside

pub returns-clause-less : goal.returns-clause-less
returns-clause-less c = less-without w64 c.args.bits.now c.in_ok-number.number c.in_ok-number.ensures.0 c.in_ok-number.ensures.1
