use Rattle.std.proofs.Common.{◌≡◌, ◌≤◌, replicate, vec_capacity}
use Rattle.r6_frames.proofs.frames.spare_frames.Given as goal

abbrev pub invariant-loop : goal.invariant-loop
invariant-loop l =
    record {
      spare : l.spare.items ≡ replicate l.counter (record { count = l.slots; size = l.block });
      room : 64 ≤ vec_capacity l.spare;
    }
