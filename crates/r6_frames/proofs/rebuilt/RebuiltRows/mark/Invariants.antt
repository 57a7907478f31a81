use Rattle.std.proofs.Common.{◌≡◌, ℕ, ◌<◌, ◌≤◌, length}
use Rattle.r6_frames.specs.Rebuilt.{next_row, next_without}
use Rattle.r6_frames.proofs.rebuilt.RebuiltRows.mark.Given as goal

abbrev pub invariant-loop-number : goal.invariant-loop-number
invariant-loop-number l =
    record {
      count : length l.self.next ≡ 8;
      start : l.self.start ≡ l.fn.self.start;
      shifted : (number : ℕ) → number < l.number → next_row l.self number ≡ next_without l.fn.self l.row number;
      still : (number : ℕ) → l.number ≤ number → next_row l.self number ≡ next_row l.fn.self number;
    }
