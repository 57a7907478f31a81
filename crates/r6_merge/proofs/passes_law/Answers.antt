use Rattle.r6_merge.proofs.Passes as passes
use Rattle.r6_merge.proofs.passes_law.Goals as goal

pub returns : goal.returns
returns c = passes.passes_law
