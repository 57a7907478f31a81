use Rattle.r6_engine.proofs.JoiningLemmas.Ends.{is-ended}
use Rattle.r6_engine.proofs.joining.joining.end.Goals as goal

pub returns-clause-ended : goal.returns-clause-ended
returns-clause-ended g c =
    is-ended g.D.BlockDevice.told g.D.BlockDevice.promised c.args.remote.now c.end.new.self c.requires.remote
    c.end.ensures.ends c.end.ensures.ended c.end.ensures.first (c.end.ensures.answered c.requires.idle) c.end.ensures.performer
