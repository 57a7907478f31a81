-- The statuses with which the program ends. They are this project's own.
use Rattle.std.specs.Prelude.{ℕ, Option, None, Some}
use Rattle.r6_offline.specs.declared.report.Report.{Report}
use Rattle.r6_offline.specs.declared.report.WrongRow.{WrongRow}
use Rattle.r6_execute.specs.declared.fault.Fault.{Fault}
use Rattle.r6_execute.specs.declared.fault.Fault.TheVariants.{NotText, Unreadable, Settings, Script, Device, Output, Memory, Thread}
use Rattle.r6_execute.specs.declared.ending.Ending.{Ending}
use Rattle.r6_execute.specs.declared.ending.Ending.TheVariants.{Good, Failed, Wrong}
use Rattle.r6_run.specs.declared.ending.Ending as run
use Rattle.r6_run.specs.declared.ending.Ending.TheVariants as served
use Rattle.r6_simulate.specs.declared.simulation.Ending as play
use Rattle.r6_simulate.specs.declared.simulation.Ending.TheVariants as played
use Rattle.r6_settings.specs.declared.fault.SettingsFault.TheVariants as settings
use Rattle.r6_script.specs.declared.script.ScriptFault.TheVariants as script

-- the status of a fault: the command line, settings and scripts, output and devices, memory and threads
abbrev pub status_of : Fault → ℕ
status_of NotText = 2
status_of (Unreadable input) = 3
status_of (Settings settings.Memory) = 5
status_of (Settings fault) = 3
status_of (Script script.Memory) = 5
status_of (Script fault) = 3
status_of (Device slot fault) = 4
status_of Output = 4
status_of Memory = 5
status_of Thread = 5

-- the status of a command that met no fault
abbrev pub status_of_ending : Ending → ℕ
status_of_ending Good = 0
status_of_ending Failed = 1
status_of_ending Wrong = 1

-- a script that was played
abbrev pub ending_of : play.Ending → Ending
ending_of played.InService = Good
ending_of played.Failed = Failed

-- a script that was run
abbrev pub ending_of_run : run.Ending → Ending
ending_of_run served.InService = Good
ending_of_run served.Failed = Failed

-- a check: whether a row was found that isn't consistent
abbrev pub ending_of_first : Option WrongRow → Ending
ending_of_first None = Good
ending_of_first (Some wrong) = Wrong

abbrev pub ending_of_report : Report → Ending
ending_of_report report = ending_of_first report.first_wrong
