use Rattle.std.proofs.Common.{ap, sym}
use Rattle.r6_command.specs.CommandLine.{asked_of, script_of}
use Rattle.r6_command.specs.declared.invocation.Invocation.{Invocation}
use Rattle.r6_command.proofs.invocation.Invocation.script.Goals as goal

pub returns-in-Run : goal.returns-in-Run
returns-in-Run c = sym (ap (λ (i : Invocation). script_of (asked_of i)) c.in-Run.is)
