-- Devices that were verified.
use Rattle.std.proofs.Common.{◌≡◌, true, ℕ, List, Option, None, Result, Ok, Err, IfOk, IfSome}
use Rattle.r6_dev.specs.FilePart.{FilePart}
use Rattle.r6_dev.specs.declared.file.Access.TheVariants.{Read}
use Rattle.r6_layout.specs.Shape.{IsShape}
use Rattle.r6_offline.specs.Files.{AreOpened}
use Rattle.r6_offline.specs.Parts.{parts_of, tells_nothing}
use Rattle.r6_offline.specs.Reports.{IsReport}
use Rattle.r6_offline.specs.declared.report.Report.{Report}
use Rattle.r6_settings.specs.Settings.{Values, settings_in}
use Rattle.r6_verify.specs.Shards.{with_shards}
use Rattle.r6_execute.specs.declared.ending.Ending.{Ending}
use Rattle.r6_execute.specs.Commands.{HasReported, HasVerified}

-- a report of the devices of the slots that aren't lost, opened for reading alone by some number of shards
abbrev pub IsOfThoseNotLost : Values → Report → Type 0
IsOfThoseNotLost values report = (shards : ℕ) × (devices : List (Option FilePart)) × IsShape (with_shards values.shape shards)
    × AreOpened (with_shards values.shape shards) values.devices values.lost Read devices
    × IsReport (with_shards values.shape shards) (parts_of tells_nothing devices) report

pub checked : {E : Type 0} (result : Result Report E) (values : Values) (shards : ℕ) (devices : List (Option FilePart))
    → IsShape (with_shards values.shape shards) → AreOpened (with_shards values.shape shards) values.devices values.lost Read devices
    → IfOk result (IsReport (with_shards values.shape shards) (parts_of tells_nothing devices)) → IfOk result (IsOfThoseNotLost values)
checked (Ok report) values shards devices shape opened is = (shards, devices, shape, opened, is)
checked (Err error) values shards devices shape opened is = tt

-- the report that was printed is that of these devices
pub verified : (text old new : Option (List ℕ)) (values : Values) (report : Report)
    → IfSome text (λ t. settings_in true t ≡ Ok values) → IsOfThoseNotLost values report
    → report.fault ≡ None → (end : Ending) → HasReported values.shape report old new end → HasVerified text old new end
verified text old new values report said of_devices whole end printed =
    (values, of_devices.0, of_devices.1, report, said, of_devices.2, of_devices.3, of_devices.4, whole, printed)
