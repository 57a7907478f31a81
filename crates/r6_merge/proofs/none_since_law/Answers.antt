use Rattle.r6_merge.proofs.Passes as passes
use Rattle.r6_merge.proofs.none_since_law.Goals as goal

pub returns : goal.returns
returns c = passes.none_since_law
