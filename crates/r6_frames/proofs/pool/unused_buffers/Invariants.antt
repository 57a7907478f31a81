use Rattle.std.proofs.Common.{◌≡◌, ◌≤◌, replicate, vec_capacity}
use Rattle.r6_frames.specs.Directs.{unused}
use Rattle.r6_frames.proofs.pool.unused_buffers.Given as goal

abbrev pub invariant-loop : goal.invariant-loop
invariant-loop l =
    record {
      made : l.buffers.items ≡ replicate l.counter (unused l.block);
      room : 64 ≤ vec_capacity l.buffers;
    }
