-- What the program says of a fault. The lines are this project's own.
use Rattle.std.specs.Prelude.{ℕ, List, ◌++◌, codes, decimal}
use Rattle.r6_dev.specs.Faults.{number_of}
use Rattle.r6_offline.specs.declared.error.EngineError.{EngineError}
use Rattle.r6_offline.specs.declared.error.EngineError.TheVariants as pass
use Rattle.r6_run.specs.declared.fault.RunFault.{RunFault}
use Rattle.r6_run.specs.declared.fault.RunFault.TheVariants as run
use Rattle.r6_script.specs.Script as script
use Rattle.r6_settings.specs.Faults as settings
use Rattle.r6_simulate.specs.declared.fault.SimulationFault.{SimulationFault}
use Rattle.r6_simulate.specs.declared.fault.SimulationFault.TheVariants as simulation
use Rattle.r6_execute.specs.declared.fault.Fault.{Fault}
use Rattle.r6_execute.specs.declared.fault.Fault.TheVariants.{NotText, Unreadable, Settings, Script, Device, Output, Memory, Thread}
use Rattle.r6_execute.specs.declared.fault.Input.{Input}
use Rattle.r6_execute.specs.declared.fault.Input.TheVariants as input

-- how a file is named
abbrev pub name_of : Input → List ℕ
name_of input.Settings = codes "settings"
name_of input.Script = codes "script"

-- how a fault is printed
abbrev pub fault_text : Fault → List ℕ
fault_text NotText = codes "raid6: the command line is not UTF-8"
fault_text (Unreadable file) = name_of file ++ codes ": unreadable"
fault_text (Settings fault) = settings.fault_text fault
fault_text (Script fault) = script.fault_text fault
fault_text (Device slot fault) = codes "device " ++ decimal slot ++ codes " fault " ++ decimal (number_of fault)
fault_text Output = codes "output"
fault_text Memory = codes "memory"
fault_text Thread = codes "thread"

-- the program's fault, where a script isn't played to its end
abbrev pub fault_of : SimulationFault → Fault
fault_of simulation.Output = Output
fault_of simulation.Memory = Memory

-- the program's fault, where a pass over the devices isn't made
abbrev pub fault_of_pass : EngineError → Fault
fault_of_pass (pass.Device slot fault) = Device slot fault
fault_of_pass pass.NoMemory = Memory
fault_of_pass pass.ThreadRefused = Thread

-- the program's fault, where a script isn't run
abbrev pub fault_of_run : RunFault → Fault
fault_of_run (run.Device slot fault) = Device slot fault
fault_of_run run.Output = Output
fault_of_run run.Memory = Memory
fault_of_run run.Thread = Thread
