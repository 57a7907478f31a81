use Rattle.std.proofs.Common.{true}
use Rattle.r6_core.specs.Inside.{count_rows}
use Rattle.r6_core.proofs.Settling.{IsSettling}
use Rattle.r6_core.proofs.state.State.settle.Given as goal

abbrev pub invariant-loop-frame : goal.invariant-loop-frame
invariant-loop-frame l = IsSettling l.fn.self l.self

-- a row less is held
abbrev pub decreases-loop-frame : goal.decreases-loop-frame
decreases-loop-frame l = count_rows (λ job. true) l.self.frames.uses
