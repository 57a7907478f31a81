-- The errors of the passes, by number (this project's own).
use Rattle.std.specs.Prelude.{◌≡◌, ℕ, ◌<◌, false, List, ⊤}
use Rattle.r6_dev.specs.OpenErrors.{IsOpenError}
use Rattle.r6_dev.specs.declared.fault.Fault.TheVariants.{WriteFault}
use Rattle.r6_dev.specs.declared.file.OpenError.TheVariants as refused
use Rattle.r6_offline.specs.Parts.{is_lost}
use Rattle.r6_offline.specs.declared.error.EngineError.{EngineError}
use Rattle.r6_offline.specs.declared.error.EngineError.TheVariants.{NoMemory, ThreadRefused, Device}
use Rattle.r6_threads.specs.declared.run.NotBegun.{NotBegun}
use Rattle.r6_threads.specs.declared.run.NotBegun.TheVariants as threads

abbrev pub number_of : EngineError → ℕ
number_of NoMemory = 1
number_of ThreadRefused = 2
number_of (Device _ _) = 3

-- why the device of a slot is not opened: it can't be opened or measured, or has another length
abbrev pub IsSlotFault : (slot : ℕ) → EngineError → Type 0
IsSlotFault slot NoMemory = ⊤
IsSlotFault slot ThreadRefused = ⊥
IsSlotFault slot (Device named fault) = (named ≡ slot) × IsOpenError (refused.Device fault)

-- why the devices of an array are not opened: that of a slot of the array, which isn't lost, can't be opened or
-- measured, or has another length
abbrev pub IsOpeningFault : (slots : ℕ) → (lost : List ℕ) → EngineError → Type 0
IsOpeningFault slots lost NoMemory = ⊤
IsOpeningFault slots lost ThreadRefused = ⊥
IsOpeningFault slots lost (Device slot fault) =
    (slot < slots) × (is_lost lost slot ≡ false) × IsOpenError (refused.Device fault)

-- and why they are not made
abbrev pub IsMakingFault : (slots : ℕ) → EngineError → Type 0
IsMakingFault slots NoMemory = ⊤
IsMakingFault slots ThreadRefused = ⊥
IsMakingFault slots (Device slot fault) = (slot < slots) × (fault ≡ WriteFault)

-- why no thread of a check was begun
abbrev pub of_refusal : NotBegun → EngineError
of_refusal threads.NoMemory = NoMemory
of_refusal threads.ThreadRefused = ThreadRefused

abbrev pub IsRefusal : EngineError → Type 0
IsRefusal NoMemory = ⊤
IsRefusal ThreadRefused = ⊤
IsRefusal (Device slot fault) = ⊥
