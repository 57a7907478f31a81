use Rattle.std.proofs.Common.{◌∙◌, not, ap, w64, arith}
use Rattle.r6_bits.proofs.Words.{set-not}
use Rattle.r6_frames.proofs.frames.Frames.used_frames.Goals as goal

pub returns-clause-sound : goal.returns-clause-sound
returns-clause-sound c = rw (← c.self.view_is) c.self.invariant.0

pub returns-clause-used : goal.returns-clause-used
returns-clause-used c frame inside =
    rw (← c.self.view_is) (set-not w64 c.self.inside.free_frames frame (omega arith) inside ∙ ap not (c.self.invariant.1.marked.free frame inside))
