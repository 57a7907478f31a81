use Rattle.std.proofs.Common.{arith}
use Rattle.r6_frames.proofs.turns.left_of.Goals as goal

pub returns-else-steps-slot-clause-within : goal.returns-else-steps-slot-clause-within
returns-else-steps-slot-clause-within c = omega (arith, c.if-steps-slot.false)
