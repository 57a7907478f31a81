use Rattle.std.proofs.Common.{◌≡◌, ◌++◌, ℕ, List, length, slice_index, drop}
use Rattle.std.specs.List.{All}
use Rattle.r6_kernels.specs.Blocks.{p_of}
use Rattle.r6_kernels.specs.Lanes.{SpanHolds}
use Rattle.r6_kernels.proofs.span.Span.with_all.Given as goal

abbrev pub invariant-loop-i : goal.invariant-loop-i
invariant-loop-i l =
    (blocks : List (List ℕ)) → SpanHolds l.fn.self l.at (slice_index (p_of l.len blocks)) → All (λ b. length b ≡ l.len) blocks
    → SpanHolds l.sum l.at (slice_index (p_of l.len (drop l.i l.before ++ blocks)))
