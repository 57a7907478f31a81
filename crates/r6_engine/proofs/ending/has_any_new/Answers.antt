use Rattle.std.proofs.Common.{arith}
use Rattle.r6_engine.proofs.ending.has_any_new.Goals as goal

pub returns : goal.returns
returns c = λ no slot generation below is.
    c.loop-slot.invariant slot generation (let most = c.loop-slot-test.false in omega (arith, below, most)) is
