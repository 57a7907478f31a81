use Rattle.std.proofs.Common.{ℕ, ◌<◌}
use Rattle.r6_world.specs.Laws.{ArrayHolds, Explained, AtEach, at_start}
use Rattle.r6_world.specs.Claims.{IsQuiet, AllAnswered}
use Rattle.r6_core.proofs.Runs.{runs_of_cores, runs_of_one_core, of_every_run, shard_of_cores, sequential_of_cores}
use Rattle.r6_core.proofs.laws.array_law.Goals as goal

pub returns-clause-cores : goal.returns-clause-cores
returns-clause-cores c = runs_of_cores

pub returns-clause-array_of_cores : goal.returns-clause-array_of_cores
returns-clause-array_of_cores c =
    of_every_run (λ l array start moments. ArrayHolds l start start (at_start array) × Explained l (ArrayHolds l) start (at_start array) moments) c.layout_law.ensures c.world_law.ensures

pub returns-clause-quiet_of_cores : goal.returns-clause-quiet_of_cores
returns-clause-quiet_of_cores c =
    of_every_run (λ l array start moments. AtEach l (λ w. (n : ℕ) → n < l.shards → IsQuiet w n → AllAnswered w n) start moments) c.layout_law.ensures c.quiet_law.ensures

pub returns-clause-sequential_of_cores : goal.returns-clause-sequential_of_cores
returns-clause-sequential_of_cores c = sequential_of_cores c.layout_law.ensures c.sequential_law.ensures

pub returns-clause-one_core : goal.returns-clause-one_core
returns-clause-one_core c = runs_of_one_core

pub returns-clause-shard_of_cores : goal.returns-clause-shard_of_cores
returns-clause-shard_of_cores c = shard_of_cores c.layout_law.ensures c.shard_law.ensures
