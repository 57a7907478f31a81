use Rattle.std.proofs.Common.{◌≡◌, ◌≤◌, take, deque_capacity}
use Rattle.std.specs.Prelude.{drop}
use Rattle.r6_array.specs.Together.{with_named}
use Rattle.r6_array.proofs.member.name_all.Given as goal

abbrev pub invariant-loop : goal.invariant-loop
invariant-loop l = record {
  so_far : l.table ≡ with_named l.fn.table (take l.counter l.fn.names.items);
  left : l.names.items ≡ drop l.counter l.fn.names.items;
  capacity : deque_capacity l.names ≡ deque_capacity l.fn.names;
  within : l.counter ≤ l.count;
}
