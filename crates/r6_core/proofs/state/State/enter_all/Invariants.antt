use Rattle.std.proofs.Common.{◌≡◌, length}
use Rattle.std.specs.VecDeque.{deque_capacity}
use Rattle.r6_core.specs.Together.{HaveEntered}
use Rattle.r6_core.proofs.state.State.enter_all.Given as goal

abbrev pub invariant-loop-op : goal.invariant-loop-op
invariant-loop-op l =
    HaveEntered l.fn.self l.fn.ops.items l.ops.items l.self × (deque_capacity l.ops ≡ deque_capacity l.fn.ops)

abbrev pub decreases-loop-op : goal.decreases-loop-op
decreases-loop-op l = length l.ops.items
