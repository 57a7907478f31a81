-- Passes over devices that a fault stops.
use Rattle.std.proofs.Common.{◌≡◌, true, ℕ, List, length, Option, None, Some, Result, Ok, Err, IfErr, IfSome, inl, inr, refl, sym, subst}
use Rattle.std.specs.Prelude.{IsErrAnd}
use Rattle.std.specs.Io.KnownBytes.{Keeps}
use Rattle.std.proofs.lemmas.Result.{err_from_is_err_and}
use Rattle.r6_offline.specs.Errors as pass
use Rattle.r6_offline.specs.declared.error.EngineError.{EngineError}
use Rattle.r6_offline.specs.declared.error.EngineError.TheVariants.{NoMemory, ThreadRefused, Device}
use Rattle.r6_offline.specs.declared.report.Report.{Report}
use Rattle.r6_offline.specs.declared.report.RowFault.{RowFault}
use Rattle.r6_settings.specs.Settings.{Values, settings_in}
use Rattle.r6_execute.specs.Commands.{IsCheckFault, IsMakingFault, IsMet, IsReadingFault, IsSettingsFault, StopsOnDevices, StopsReport, StopsVerify, fault_met}
use Rattle.r6_execute.specs.Faults.{fault_of_pass}
use Rattle.r6_execute.specs.declared.fault.Fault.{Fault}
use Rattle.r6_execute.proofs.Verified.{IsOfThoseNotLost}
use Rattle.r6_execute.specs.declared.fault.Fault.TheVariants as told

pub keeps_same : (held : Option (List ℕ)) → Keeps held held
keeps_same None = tt
keeps_same (Some bytes) = refl

-- nothing was printed, and the fault is one of the settings' file
pub stops_at_settings : (IsOf : Values → Fault → Type 0) (text held : Option (List ℕ)) (fault : Fault) → IsSettingsFault true text fault
    → StopsOnDevices IsOf text held held fault
stops_at_settings IsOf text held fault is = inl (is, keeps_same held)

-- .. or one of these settings
pub stops_by : (IsOf : Values → Fault → Type 0) (text held : Option (List ℕ)) (values : Values) (fault : Fault)
    → IfSome text (λ t. settings_in true t ≡ Ok values) → IsOf values fault → StopsOnDevices IsOf text held held fault
stops_by IsOf text held values fault said is = inr (inl (values, said, is, keeps_same held))

-- what holds of a fault holds of it as it is told on
pub told_on : {T : Type 0} (Holds : Fault → Type 0) (result : Result T Fault) (fault : Fault) → Holds fault
    → IsErrAnd result (λ told. told ≡ fault) → IfErr result Holds
told_on Holds result fault holds fails =
    let told = err_from_is_err_and result fails in
    subst (λ r. IfErr r Holds) (sym told.1) (subst Holds (sym told.2) holds)

-- devices that were not opened, or not checked
pub unopened : (values : Values) (error : EngineError) → pass.IsOpeningFault values.shape.slots values.lost error → IsCheckFault values error
unopened values NoMemory is = tt
unopened values ThreadRefused is = absurd is
unopened values (Device slot fault) is = is

pub unbegun : {T : Type 0} (values : Values) (result : Result T EngineError) → IfErr result pass.IsRefusal → IfErr result (IsCheckFault values)
unbegun values (Ok done) is = tt
unbegun values (Err NoMemory) is = tt
unbegun values (Err ThreadRefused) is = tt
unbegun values (Err (Device slot fault)) is = absurd is

pub unchecked : (values : Values) (error : EngineError) → IsCheckFault values error → IsReadingFault values (fault_of_pass error)
unchecked values NoMemory is = tt
unchecked values ThreadRefused is = tt
unchecked values (Device slot fault) is = inl is

pub making : (values : Values) (error : EngineError) → pass.IsMakingFault (length values.devices) error → IsMakingFault values (fault_of_pass error)
making values NoMemory is = tt
making values ThreadRefused is = absurd is
making values (Device slot fault) is = is

-- a fault that a check met is a device's
met_case : (values : Values) (fault : Fault) (met : Option RowFault) → fault_met met ≡ Some fault → (IsMet values fault → IsReadingFault values fault)
met_case values fault None is = absurd (cc)
met_case values fault (Some met) is =
    let same : told.Device met.slot met.fault ≡ fault = cc in
    subst (λ f. IsMet values f → IsReadingFault values f) same (λ names. inr names)

pub reading : (values : Values) (report : Report) (fault : Fault) → IsOfThoseNotLost values report → fault_met report.fault ≡ Some fault
    → IsReadingFault values fault
reading values report fault of_devices is = met_case values fault report.fault is (record {
  shards = of_devices.0;
  devices = of_devices.1;
  report = report;
  shape = of_devices.2;
  opened = of_devices.3;
  reported = of_devices.4;
  met = is;
})

none_met : (met : Option RowFault) → fault_met met ≡ None → met ≡ None
none_met None is = refl
none_met (Some met) is = absurd (cc)

-- a check that met no fault
pub met_none : (report : Report) → fault_met report.fault ≡ None → report.fault ≡ None
met_none report is = none_met report.fault is

-- a report that is not printed, or not whole
pub not_reported : (text old new : Option (List ℕ)) (values : Values) → IfSome text (λ t. settings_in true t ≡ Ok values) → (fault : Fault)
    → StopsReport old new fault → StopsVerify text old new fault
not_reported text old new values said fault (inl memory) =
    inr (inl (values, said, subst (IsReadingFault values) (sym memory.0) tt, memory.1))
not_reported text old new values said fault (inr refused) = inr (inr refused)
