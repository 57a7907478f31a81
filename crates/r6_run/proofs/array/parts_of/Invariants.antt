use Rattle.std.proofs.Common.{◌≡◌, ◌≤◌, ◌+◌, ◌*◌, drop, vec_capacity}
use Rattle.std.specs.Vec.Iter.{into_iter_items, into_iter_len}
use Rattle.r6_run.specs.Arrays.{AreGiven}
use Rattle.r6_run.proofs.array.parts_of.Given as goal

abbrev pub invariant-loop : goal.invariant-loop
invariant-loop g l = record {
  given : AreGiven l.counter l.slots l.fn.opened.items l.parts.items;
  rest : into_iter_items l.devices ≡ drop (l.counter * l.slots) l.fn.opened.items;
  left : into_iter_len l.devices + l.counter * l.slots ≡ l.shards * l.slots;
  room : l.shards ≤ vec_capacity l.parts;
}
