use Rattle.std.proofs.Common.{arith}
use Rattle.r6_array.proofs.member.Member.room.Goals as goal

pub overflow_sub-result : goal.overflow_sub-result
overflow_sub-result c = omega (arith, c.len.ensures, c.self.invariant.count, c.self.invariant.room)

pub returns : goal.returns
returns c = rw (← c.self.view_is) (omega (arith, c.len.ensures, c.self.invariant.count, c.self.invariant.room))
