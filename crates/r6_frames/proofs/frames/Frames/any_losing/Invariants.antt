use Rattle.r6_frames.specs.Owed.{LosesUnreadable}
use Rattle.r6_bits.proofs.Words.{AllOut}
use Rattle.r6_frames.proofs.frames.Frames.any_losing.Given as goal

abbrev pub invariant-loop-frame : goal.invariant-loop-frame
invariant-loop-frame l = AllOut l.used (λ frame. LosesUnreadable l.self frame → ⊥)

abbrev pub decreases-loop-frame : goal.decreases-loop-frame
decreases-loop-frame l = l.used
