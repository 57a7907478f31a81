use Rattle.std.proofs.Common.{take}
use Rattle.std.specs.List.{AllZip}
use Rattle.r6_run.specs.Runs.{IsAsked}
use Rattle.r6_run.proofs.events.events_of.Given as goal

abbrev pub invariant-loop-entry : goal.invariant-loop-entry
invariant-loop-entry g l = AllZip (IsAsked l.geometry) (take l.entry-index l.script) l.events.items
