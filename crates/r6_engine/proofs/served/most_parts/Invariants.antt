use Rattle.std.proofs.Common.{◌<◌, ◌≤◌, ℕ, slice_index_or}
use Rattle.r6_engine.proofs.served.most_parts.Given as goal

abbrev pub invariant-loop-crew : goal.invariant-loop-crew
invariant-loop-crew g l =
    (k : ℕ) (d : _) → k < l.crew-index → (slice_index_or l.fn.crews k d).room ≤ l.most
