-- How a run ends (this project's own).
use Rattle.std.specs.Prelude.{if◌then◌else◌}
use Rattle.r6_health.specs.Registers.{has_failed}
use Rattle.r6_world.specs.Registers.{Snapshot}
use Rattle.r6_run.specs.declared.ending.Ending.{Ending}
use Rattle.r6_run.specs.declared.ending.Ending.TheVariants.{InService, Failed}

abbrev pub ending_of : Snapshot → Ending
ending_of snapshot = if has_failed snapshot then Failed else InService
