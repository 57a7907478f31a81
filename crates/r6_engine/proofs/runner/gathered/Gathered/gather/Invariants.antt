use Rattle.std.proofs.Common.{◌≡◌, ◌≤◌, ◌++◌, length}
use Rattle.std.specs.VecDeque.{deque_capacity}
use Rattle.r6_engine.specs.runner.Together.{all_due}
use Rattle.r6_engine.proofs.runner.gathered.Gathered.gather.Given as goal

abbrev pub invariant-loop-due : goal.invariant-loop-due
invariant-loop-due l = record {
  taken : l.fn.due.items ≡ all_due l.waits l.self.events.items l.self.ops.items ++ l.due.items;
  few : length l.self.ops.items ≤ l.most;
  room : deque_capacity l.due ≡ deque_capacity l.fn.due;
}

abbrev pub decreases-loop-due : goal.decreases-loop-due
decreases-loop-due l = length l.due.items
