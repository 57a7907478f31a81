use Rattle.std.proofs.Common.{◌≡◌, ◌≤◌, vec_capacity}
use Rattle.r6_frames.specs.Uses.{none_held}
use Rattle.r6_frames.proofs.frames.free_frames.Given as goal

abbrev pub invariant-loop : goal.invariant-loop
invariant-loop l =
    record {
      uses : l.uses.items ≡ none_held l.counter;
      room : 64 ≤ vec_capacity l.uses;
    }
