use Rattle.std.proofs.Common.{◌≡◌, ◌≤◌, length, vec_capacity}
use Rattle.std.specs.List.{filter_map, range_with_len}
use Rattle.r6_engine.specs.Ledgers.{in_sync_at}
use Rattle.r6_engine.proofs.handback.add_in_sync.Given as goal

abbrev pub invariant-loop-slot : goal.invariant-loop-slot
invariant-loop-slot l =
    (l.in_sync.items ≡ filter_map (in_sync_at l.core) (range_with_len 0 l.slot)) × (length l.in_sync.items ≤ l.slot)
    × (l.fn.slots ≤ vec_capacity l.in_sync)
