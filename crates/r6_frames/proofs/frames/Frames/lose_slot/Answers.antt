use Rattle.r6_frames.proofs.Losing.{loses_slot}
use Rattle.r6_frames.proofs.frames.Frames.lose_slot.Goals as goal

pub returns-clause-loses : goal.returns-clause-loses
returns-clause-loses c = loses_slot c.args.self.now c.args.slot c.take_out.new.self c.take_out.ensures.takes
