use Rattle.r6_world.proofs.Tied
use Rattle.r6_world.proofs.ties_law.Goals as goal

pub returns : goal.returns
returns c = Tied.tied
