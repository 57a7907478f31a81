-- Why a script isn't run, by what the crates below say (this project's own).
use Rattle.std.specs.Prelude.{◌≡◌, ◌⊎◌, ℕ, ◌<◌, ◌==◌, Bool, false, true, List}
use Rattle.std.specs.List.{list_any}
use Rattle.r6_dev.specs.OpenErrors.{IsOpenError}
use Rattle.r6_dev.specs.declared.file.OpenError.TheVariants as refused
use Rattle.r6_offline.specs.declared.error.EngineError.{EngineError}
use Rattle.r6_offline.specs.declared.error.EngineError.TheVariants as engine
use Rattle.r6_offline.specs.Parts.{is_lost}
use Rattle.r6_script.specs.declared.run_event.RunEvent.{RunEvent}
use Rattle.r6_script.specs.declared.run_event.RunEvent.TheVariants.{Attach, Replace}
use Rattle.r6_run.specs.declared.fault.RunFault.{RunFault}
use Rattle.r6_run.specs.declared.fault.RunFault.TheVariants.{Device, Memory, Output, Thread}

abbrev pub fault_of : EngineError → RunFault
fault_of (engine.Device slot fault) = Device slot fault
fault_of engine.NoMemory = Memory
fault_of engine.ThreadRefused = Thread

-- whether an event brings a slot a new device
abbrev pub brings : (slot : ℕ) → RunEvent → Bool
brings slot (Attach named path) = named == slot
brings slot (Replace named path) = named == slot
brings slot event = false

-- the device of a slot of the array that isn't lost, or one that the script brings the slot, can't be opened or
-- measured, or has another length
abbrev pub IsDeviceFault : (slots : ℕ) → (lost : List ℕ) → List RunEvent → (slot : ℕ) → Type 0
IsDeviceFault slots lost script slot =
    ((slot < slots) × (is_lost lost slot ≡ false)) ⊎ (list_any (brings slot) script ≡ true)

abbrev pub IsRunningFault : (slots : ℕ) → (lost : List ℕ) → List RunEvent → RunFault → Type 0
IsRunningFault slots lost script (Device slot fault) =
    IsDeviceFault slots lost script slot × IsOpenError (refused.Device fault)
IsRunningFault slots lost script Output = Unit {0}
IsRunningFault slots lost script Memory = Unit {0}
IsRunningFault slots lost script Thread = Unit {0}
