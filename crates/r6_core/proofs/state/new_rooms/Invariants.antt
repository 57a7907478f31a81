use Rattle.std.proofs.Common.{◌≡◌, ◌≤◌, [], replicate, vec_capacity}
use Rattle.r6_core.proofs.state.new_rooms.Given as goal

abbrev pub invariant-loop : goal.invariant-loop
invariant-loop l =
    record {
      made : l.rooms.items ≡ replicate l.counter [];
      room : 64 ≤ vec_capacity l.rooms;
    }
