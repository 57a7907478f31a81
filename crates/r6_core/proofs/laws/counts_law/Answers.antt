use Rattle.r6_world.specs.Counting.{AreCounted}
use Rattle.r6_core.proofs.Runs.{of_every_run}
use Rattle.r6_core.proofs.laws.counts_law.Goals as goal

pub returns-clause-counts_of_cores : goal.returns-clause-counts_of_cores
returns-clause-counts_of_cores c = of_every_run AreCounted c.layout_law.ensures c.counts_law.ensures
