use Rattle.r6_frames.proofs.FirstStopped.{IsFirst}
use Rattle.r6_frames.proofs.frames.Frames.first_stopped.Given as goal

abbrev pub invariant-loop-number : goal.invariant-loop-number
invariant-loop-number l = IsFirst l.initial.self l.number l.first
