use Rattle.std.proofs.Common.{List, ℕ}
use Rattle.std.specs.Io.KnownBytes.{Appends}
use Rattle.r6_run.proofs.Printing.{Prints}
use Rattle.r6_run.proofs.lines.write_lines.Given as goal

abbrev pub invariant-loop-reply : goal.invariant-loop-reply
invariant-loop-reply g l =
    (printed : List ℕ) × Appends (g.W.Write.contents l.initial.out) (g.W.Write.contents l.out) printed
    × Prints l.replies printed l.number l.reply-index
