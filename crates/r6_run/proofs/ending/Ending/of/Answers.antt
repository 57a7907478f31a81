use Rattle.std.proofs.Common.{Bool, if◌then◌else◌, ap}
use Rattle.r6_run.specs.declared.ending.Ending.TheVariants.{InService, Failed}
use Rattle.r6_run.proofs.ending.Ending.of.Goals as goal

pub returns-then-failed : goal.returns-then-failed
returns-then-failed c = ap (λ (failed : Bool). if failed then Failed else InService) c.if-failed.ensures
