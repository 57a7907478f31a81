use Rattle.r6_frames.specs.Calls.{IsHolder}
use Rattle.r6_bits.proofs.Words.{AllOut}
use Rattle.r6_frames.proofs.frames.Frames.holder.Given as goal

abbrev pub invariant-loop-frame : goal.invariant-loop-frame
invariant-loop-frame l = AllOut l.likely (λ frame. IsHolder l.self l.row frame → ⊥)

abbrev pub decreases-loop-frame : goal.decreases-loop-frame
decreases-loop-frame l = l.likely
