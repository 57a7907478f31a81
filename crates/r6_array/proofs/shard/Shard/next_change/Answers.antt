use Rattle.std.proofs.Common.{sym}
use Rattle.r6_array.proofs.Members.{first_none}
use Rattle.r6_array.proofs.shard.Shard.next_change.Goals as goal

pub returns-in-Some : goal.returns-in-Some
returns-in-Some c = rw (← c.self.view_is) (sym c.self.invariant.number_is, sym c.in-Some.ensures)

pub returns-in-None : goal.returns-in-None
returns-in-None c = rw (← c.self.view_is) (first_none _ (sym c.in-None.ensures))
