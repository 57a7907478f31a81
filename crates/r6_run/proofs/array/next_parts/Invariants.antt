use Rattle.std.proofs.Common.{◌≡◌, ◌+◌}
use Rattle.std.specs.Vec.Iter.{into_iter_items, into_iter_len}
use Rattle.r6_run.proofs.Giving.{Gives}
use Rattle.r6_run.proofs.array.next_parts.Given as goal

abbrev pub invariant-loop-slot : goal.invariant-loop-slot
invariant-loop-slot g l = record {
  gives : Gives l.slots (into_iter_items l.initial.devices) l.slot (into_iter_items l.devices) l.parts.items;
  left : into_iter_len l.devices + l.slot ≡ into_iter_len l.initial.devices;
}
