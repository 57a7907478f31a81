use Rattle.std.proofs.Common.{arith}
use Rattle.r6_shard.proofs.shard.has_other.Goals as goal

pub returns-clause-none : goal.returns-clause-none
returns-clause-none c = λ none slot below. c.loop-slot.invariant slot (omega (arith, below, c.loop-slot-test.false))
