use Rattle.r6_merge.proofs.Later as later
use Rattle.r6_merge.proofs.one_run_law.Goals as goal

pub returns : goal.returns
returns c = later.one_run_law
