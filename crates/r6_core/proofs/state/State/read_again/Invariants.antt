use Rattle.std.proofs.Common.{length}
use Rattle.r6_frames.specs.Directs.{read_requests}
use Rattle.r6_core.proofs.HandedBack.{IsHandingBack}
use Rattle.r6_core.proofs.state.State.read_again.Given as goal

abbrev pub invariant-loop-request : goal.invariant-loop-request
invariant-loop-request l = IsHandingBack l.initial.self l.self

-- a read less is there
abbrev pub decreases-loop-request : goal.decreases-loop-request
decreases-loop-request l = length (read_requests l.self.frames)
