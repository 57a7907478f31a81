-- How a command ends, over the text of its settings file and that of its script where these are known. The
-- commands are this project's own.
use Rattle.std.specs.Prelude.{◌≡◌, ◌≢◌, ◌⊎◌, ◌<◌, ◌++◌, ℕ, Bool, true, false, List, [], ◌∷◌, length, Option, None, Some, Ok, Err, IfSome, IsErr}
use Rattle.std.specs.Io.KnownBytes.{Appends, Keeps}
use Rattle.r6_command.specs.CommandLine.{Asked, geometry, create, verify, simulate, run}
use Rattle.r6_dev.specs.FilePart.{FilePart}
use Rattle.r6_dev.specs.declared.fault.Fault.TheVariants.{WriteFault}
use Rattle.r6_dev.specs.declared.file.Access.TheVariants.{Read}
use Rattle.r6_offline.specs.Errors.{IsOpeningFault}
use Rattle.r6_offline.specs.Files.{AreOpened}
use Rattle.r6_offline.specs.Parts.{parts_of, tells_nothing}
use Rattle.r6_offline.specs.Reports.{IsReport}
use Rattle.r6_offline.specs.declared.error.EngineError.{EngineError}
use Rattle.r6_offline.specs.declared.error.EngineError.TheVariants as pass
use Rattle.r6_offline.specs.declared.report.Report.{Report}
use Rattle.r6_offline.specs.declared.report.RowFault.{RowFault}
use Rattle.r6_layout.specs.Shape.{IsShape, Shape}
use Rattle.r6_run.specs.Faults.{IsRunningFault}
use Rattle.r6_run.specs.Runs.{HasRun}
use Rattle.r6_run.specs.declared.ending.Ending as run_ending
use Rattle.r6_run.specs.declared.fault.RunFault.TheVariants as run_fault
use Rattle.r6_script.specs.RunScript as run_scripts
use Rattle.r6_script.specs.declared.run_event.RunEvent as run_script
use Rattle.r6_script.specs.Script.{Explains, Said, Say, lines_of}
use Rattle.r6_script.specs.declared.script.ScriptFault.{ScriptFault}
use Rattle.r6_settings.specs.declared.fault.SettingsFault.TheVariants as settings
use Rattle.r6_settings.specs.Settings.{Values, settings_in}
use Rattle.r6_execute.specs.declared.ending.Ending.{Ending}
use Rattle.r6_execute.specs.declared.ending.Ending.TheVariants as ending
use Rattle.r6_execute.specs.declared.fault.Fault.{Fault}
use Rattle.r6_execute.specs.declared.fault.Fault.TheVariants.{Unreadable, Settings, Script, Device, Output, Memory, Thread}
use Rattle.r6_execute.specs.declared.fault.Input.TheVariants as input
use Rattle.r6_execute.specs.Faults.{fault_text}
use Rattle.r6_execute.specs.Layouts.{layout_text}
use Rattle.r6_execute.specs.Reports.{created_text, report_text}
use Rattle.r6_execute.specs.Status.{ending_of, ending_of_report, ending_of_run}
use Rattle.r6_simulate.specs.Plays as plays
use Rattle.r6_simulate.specs.declared.simulation.Ending as simulation
use Rattle.r6_verify.specs.Shards.{with_shards}

abbrev pub Text : Type 0
Text = List ℕ

-- ---- the faults of a file

abbrev pub IsSettingsFault : (with_devices : Bool) → Option Text → Fault → Type 0
IsSettingsFault with_devices text (Unreadable file) = file ≡ input.Settings
IsSettingsFault with_devices text (Settings fault) =
    IfSome text (λ t. fault ≢ settings.Memory → settings_in with_devices t ≡ Err fault)
IsSettingsFault with_devices text Memory = Unit {0}
IsSettingsFault with_devices text _ = ⊥

-- what is wrong with a script of the kind that is explained so
abbrev pub IsScriptFault : (Explains : List Text → ScriptFault → Type 0) → Option Text → Fault → Type 0
IsScriptFault Explains text (Unreadable file) = file ≡ input.Script
IsScriptFault Explains text (Script fault) = IfSome text (λ t. Explains (lines_of t) fault)
IsScriptFault Explains text Memory = Unit {0}
IsScriptFault Explains text _ = ⊥

-- ---- the faults of a command

-- a script is not played to its end
abbrev pub IsPlayingFault : Fault → Type 0
IsPlayingFault Output = Unit {0}
IsPlayingFault Memory = Unit {0}
IsPlayingFault _ = ⊥

-- the file of a slot of the array is there already, or can't be made
abbrev pub IsMakingFault : Values → Fault → Type 0
IsMakingFault values (Device slot fault) = (slot < length values.devices) × (fault ≡ WriteFault)
IsMakingFault values Memory = Unit {0}
IsMakingFault values _ = ⊥

-- the fault that a check met, if it met one
abbrev pub fault_met : Option RowFault → Option Fault
fault_met None = None
fault_met (Some met) = Some (Device met.slot met.fault)

-- why a check of the devices has no report: that of a slot that isn't lost can't be opened, or there is no memory or no
-- thread
abbrev pub IsCheckFault : Values → EngineError → Type 0
IsCheckFault values pass.NoMemory = Unit {0}
IsCheckFault values pass.ThreadRefused = Unit {0}
IsCheckFault values (pass.Device slot fault) =
    IsOpeningFault values.shape.slots values.lost (pass.Device slot fault)

-- the devices of the slots that aren't lost were opened at their paths, for reading alone, by so many shards as the
-- array may have, and the report of their rows names this fault
pub record IsMet (values : Values) (fault : Fault) : Type 0 where
  pub shards : ℕ
  pub devices : List (Option FilePart)
  pub report : Report
  pub shape : IsShape (with_shards values.shape shards)
  pub opened : AreOpened (with_shards values.shape shards) values.devices values.lost Read devices
  pub reported : IsReport (with_shards values.shape shards) (parts_of tells_nothing devices) report
  pub met : fault_met report.fault ≡ Some fault

-- the file of a slot that isn't lost can't be opened, or the check met a fault of it
abbrev pub IsReadingFault : Values → Fault → Type 0
IsReadingFault values (Device slot fault) =
    IsCheckFault values (pass.Device slot fault) ⊎ IsMet values (Device slot fault)
IsReadingFault values Memory = Unit {0}
IsReadingFault values Thread = Unit {0}
IsReadingFault values _ = ⊥

-- a script is not run: the device of a slot that isn't lost, or a new one that the script names, can't be had, or there
-- is no memory or no thread
abbrev pub IsServingFault : Values → List run_script.RunEvent → Fault → Type 0
IsServingFault values events (Device slot fault) =
    IsRunningFault values.shape.slots values.lost events (run_fault.Device slot fault)
IsServingFault values events Memory = Unit {0}
IsServingFault values events Thread = Unit {0}
IsServingFault values events _ = ⊥

-- ---- how a command ends; `old` and `new` are what its standard output holds before and after it

-- the layout of the settings' shape was printed
abbrev pub HasPrinted : (settings_text old new : Option Text) → Type 0
HasPrinted settings_text old new = (values : Values)
    × IfSome settings_text (λ text. settings_in false text ≡ Ok values) × Appends old new (layout_text values.shape)

-- what a script says was played, which ends as its array does; one without events prints nothing
abbrev pub Plays : Said → (old new : Option Text) → Ending → Type 0
Plays None old new end = (end ≡ ending.Good) × Keeps old new
Plays (Some said) old new end =
    (played : simulation.Ending) × (end ≡ ending_of played) × plays.HasPlayed said.0 said.1 old played new

-- the script was played
abbrev pub HasPlayed : (script_text old new : Option Text) → Ending → Type 0
HasPlayed script_text old new end =
    (said : Said) × IfSome script_text (λ text. Say (lines_of text) said) × Plays said old new end

-- the device files of the settings were made
abbrev pub HasCreated : (settings_text old new : Option Text) → Type 0
HasCreated settings_text old new = (values : Values)
    × IfSome settings_text (λ text. settings_in true text ≡ Ok values) × Appends old new (created_text values.shape)

-- a report was printed
abbrev pub HasReported : Shape → Report → (old new : Option Text) → Ending → Type 0
HasReported shape report old new end = Appends old new (report_text shape report) × (end ≡ ending_of_report report)

-- the devices of the slots that aren't lost were opened at their paths, for reading alone, by so many shards as the
-- array may have; every row of them was gone over and is counted, and the report was printed
abbrev pub HasVerified : (settings_text old new : Option Text) → Ending → Type 0
HasVerified settings_text old new end =
    (values : Values) × (shards : ℕ) × (devices : List (Option FilePart)) × (report : Report)
    × IfSome settings_text (λ text. settings_in true text ≡ Ok values)
    × IsShape (with_shards values.shape shards)
    × AreOpened (with_shards values.shape shards) values.devices values.lost Read devices
    × IsReport (with_shards values.shape shards) (parts_of tells_nothing devices) report × (report.fault ≡ None)
    × HasReported values.shape report old new end

-- the events of the script were run on the array of the settings, and their lines printed
abbrev pub HasServed : (settings_text script_text old new : Option Text) → Ending → Type 0
HasServed settings_text script_text old new end =
    (values : Values) × (events : List run_script.RunEvent) × (ended : run_ending.Ending)
    × IfSome settings_text (λ text. settings_in true text ≡ Ok values)
    × IfSome script_text (λ text. run_scripts.SayRun (lines_of text) events)
    × HasRun values events old new ended × (end ≡ ending_of_run ended)

abbrev pub EndsAs : Asked → (settings_text script_text old new : Option Text) → Ending → Type 0
EndsAs (geometry path) settings_text script_text old new ending.Good = HasPrinted settings_text old new
EndsAs (create path) settings_text script_text old new ending.Good = HasCreated settings_text old new
EndsAs (verify path) settings_text script_text old new end = HasVerified settings_text old new end
EndsAs (simulate path) settings_text script_text old new end = HasPlayed script_text old new end
EndsAs (run config script) settings_text script_text old new end = HasServed settings_text script_text old new end
EndsAs _ settings_text script_text old new _ = ⊥

abbrev pub IsDone : Asked → (settings_text script_text old new : Option Text) → Type 0
IsDone asked settings_text script_text old new = EndsAs asked settings_text script_text old new ending.Good

-- the array of a script has failed, or a row that was read isn't consistent
abbrev pub IsAmiss : Asked → (settings_text script_text old new : Option Text) → Type 0
IsAmiss asked settings_text script_text old new = EndsAs asked settings_text script_text old new ending.Failed
    ⊎ EndsAs asked settings_text script_text old new ending.Wrong

-- a fault of the settings, and want of memory, come before anything is printed
abbrev pub StopsGeometry : (settings_text old new : Option Text) → Fault → Type 0
StopsGeometry settings_text old new fault =
    (IsSettingsFault false settings_text fault × Keeps old new) ⊎ (fault ≡ Output)

-- a fault of the script comes before anything is printed
abbrev pub StopsPlay : (script_text old new : Option Text) → Fault → Type 0
StopsPlay script_text old new fault =
    (IsScriptFault Explains script_text fault × Keeps old new) ⊎ IsPlayingFault fault

-- a fault of the settings or of a device comes before anything is printed
abbrev pub StopsOnDevices : (IsOf : Values → Fault → Type 0) → (settings_text old new : Option Text) → Fault → Type 0
StopsOnDevices IsOf settings_text old new fault =
    (IsSettingsFault true settings_text fault × Keeps old new)
    ⊎ ((values : Values) × IfSome settings_text (λ text. settings_in true text ≡ Ok values) × IsOf values fault
    × Keeps old new)
    ⊎ (fault ≡ Output)

abbrev pub StopsCreate : (settings_text old new : Option Text) → Fault → Type 0
StopsCreate settings_text old new fault = StopsOnDevices IsMakingFault settings_text old new fault

-- the report was not printed, or not whole
abbrev pub StopsReport : (old new : Option Text) → Fault → Type 0
StopsReport old new fault = ((fault ≡ Memory) × Keeps old new) ⊎ (fault ≡ Output)

abbrev pub StopsVerify : (settings_text old new : Option Text) → Fault → Type 0
StopsVerify settings_text old new fault = StopsOnDevices IsReadingFault settings_text old new fault

-- a script that can be read is not run, or its lines are not printed; a device's fault comes before anything is
abbrev pub StopsRun : Values → (script_text old new : Option Text) → Fault → Type 0
StopsRun values script_text old new fault = (events : List run_script.RunEvent)
    × IfSome script_text (λ text. run_scripts.SayRun (lines_of text) events)
    × ((IsServingFault values events fault × Keeps old new) ⊎ (fault ≡ Output))

-- a fault of the settings comes before one of the script, and that before one of a device, and before anything is
-- printed
abbrev pub StopsServing : (settings_text script_text old new : Option Text) → Fault → Type 0
StopsServing settings_text script_text old new fault =
    (IsSettingsFault true settings_text fault × Keeps old new)
    ⊎ ((values : Values) × IfSome settings_text (λ text. settings_in true text ≡ Ok values)
    × ((IsScriptFault run_scripts.ExplainsRun script_text fault × Keeps old new)
    ⊎ StopsRun values script_text old new fault))

abbrev pub EndsBy : Asked → (settings_text script_text old new : Option Text) → Fault → Type 0
EndsBy (geometry path) settings_text script_text old new fault = StopsGeometry settings_text old new fault
EndsBy (simulate path) settings_text script_text old new fault = StopsPlay script_text old new fault
EndsBy (create path) settings_text script_text old new fault = StopsCreate settings_text old new fault
EndsBy (verify path) settings_text script_text old new fault = StopsVerify settings_text old new fault
EndsBy (run config script) settings_text script_text old new fault =
    StopsServing settings_text script_text old new fault

-- ---- what is read

-- the text decides no settings
abbrev pub AreWrong : (with_devices : Bool) → (settings_text : Option Text) → Type 0
AreWrong with_devices None = ⊥
AreWrong with_devices (Some text) = IsErr (settings_in with_devices text)

-- `simulate` alone reads its script whatever the settings say, since it has none
abbrev pub IsUnread : {T : Type 0} → Asked → (settings_text : Option Text) → (old new : T) → Type 0
IsUnread (simulate script) settings_text old new = Unit {0}
IsUnread (run config script) settings_text old new = AreWrong true settings_text → new ≡ old
IsUnread asked settings_text old new = new ≡ old

-- ---- standard error

-- on which `verify` alone may show how far it is
abbrev pub IsSilent : Asked → (old new : Option Text) → Type 0
IsSilent (verify path) old new = Unit {0}
IsSilent asked old new = new ≡ old

-- the line of a fault was written there, unless that was refused
abbrev pub IsTold : Asked → (old new : Option Text) → (is_refused : Bool) → Fault → Type 0
IsTold asked old new is_refused fault = (shown : Option Text) × IsSilent asked old shown
    × (is_refused ≡ false → Appends shown new (fault_text fault ++ 10 ∷ []))
