use Rattle.std.proofs.Common.{ap}
use Rattle.r6_frames.specs.FramesState.{Commands}
use Rattle.r6_frames.proofs.Held.{held_within}
use Rattle.r6_frames.proofs.StillLive.{still_live}
use Rattle.r6_frames.proofs.frames.Frames.finish.Goals as goal

pub is_over-requires : goal.is_over-requires
is_over-requires c = held_within c.args.self.now.uses c.args.frame c.requires.held.0 c.requires.held.1

pub close-requires-clause-held : goal.close-requires-clause-held
close-requires-clause-held c = c.requires.held

pub close-requires-clause-over : goal.close-requires-clause-over
close-requires-clause-over c = λ _. c.is_over.ensures.over.0 c.if-not-is_over.false

pub returns-clause-live : goal.returns-clause-live
returns-clause-live c =
    let ends = c.close.ensures.ends c.requires.live in
    still_live c.args.self.now c.close.new.self ends.shard.0 c.close.ensures.same c.requires.live

pub returns-clause-ends : goal.returns-clause-ends
returns-clause-ends c = c.close.ensures.ends c.requires.live

pub returns-clause-marks : goal.returns-clause-marks
returns-clause-marks c = c.close.ensures.marks c.requires.live

pub returns-clause-others : goal.returns-clause-others
returns-clause-others c = c.close.ensures.others

pub returns-clause-directs : goal.returns-clause-directs
returns-clause-directs c = c.close.ensures.directs

pub returns-clause-owed : goal.returns-clause-owed
returns-clause-owed c = (c.close.ensures.owed.0, ap (λ (commands : Commands). commands.next) c.close.ensures.owed.1)
