use Rattle.std.proofs.Common.{◌≡◌, drop}
use Rattle.std.specs.VecDeque.{deque_capacity}
use Rattle.r6_shard.proofs.submitting.take_off.Given as goal

abbrev pub invariant-loop : goal.invariant-loop
invariant-loop l = record {
  rest : l.events.items ≡ drop l.counter l.fn.events.items;
  room : deque_capacity l.events ≡ deque_capacity l.fn.events;
}
