use Rattle.std.proofs.Common.{◌∙◌, ap}
use Rattle.r6_bits.specs.Words.{is_set}
use Rattle.r6_frames.proofs.frames.Frames.likely_frames.Goals as goal

pub returns-clause-sound : goal.returns-clause-sound
returns-clause-sound c = rw (← c.self.view_is) c.self.invariant.0

pub returns-clause-frames : goal.returns-clause-frames
returns-clause-frames c frame inside =
    rw (← c.self.view_is) (ap (λ bits. is_set bits frame) c.frames_for.ensures ∙ c.self.invariant.1.marked.rows c.args.row frame inside)
