use Rattle.std.proofs.Common.{map, string_bytes, subst}
use Rattle.r6_dev.specs.declared.file.Access.TheVariants.{Read}
use Rattle.r6_layout.specs.Shape.{IsShape, Shape}
use Rattle.r6_offline.specs.Files.{AreOpened}
use Rattle.r6_offline.specs.Parts.{parts_of, tells_nothing}
use Rattle.r6_offline.specs.Reports.{IsReport}
use Rattle.r6_settings.specs.Settings.{values_of}
use Rattle.std.specs.Prelude.{IfOk}
use Rattle.r6_verify.specs.Shards.{allowed_shards}
use Rattle.r6_execute.proofs.Stopped.{unbegun}
use Rattle.r6_execute.proofs.Verified.{checked}
use Rattle.r6_execute.proofs.devices.check_devices.Goals as goal

pub returns-clause-ok : goal.returns-clause-ok
returns-clause-ok g c =
    let values = values_of c.args.config.now in
    let devices = c.in_ok-parts.parts.items in
    let is = c.with_shards-geometry.ensures.value in
    let shape : Shape = c.with_shards-geometry.result in
    let of_paths : AreOpened shape values.devices c.as_slice-2.result.now Read devices =
    subst (λ paths. AreOpened shape (map string_bytes paths) c.as_slice-2.result.now Read devices) c.as_slice.ensures.value c.in_ok-parts.ensures.opened in
    let opened : AreOpened shape values.devices values.lost Read devices =
    subst (λ lost. AreOpened shape values.devices lost Read devices) c.as_slice-2.ensures.value of_paths in
    checked c.verify_watched.result values (allowed_shards values.shape c.processors.result) devices
    (subst IsShape is c.with_shards-geometry.ensures.limits)
    (subst (λ it. AreOpened it values.devices values.lost Read devices) is opened)
    (subst (λ it. IfOk c.verify_watched.result (IsReport it (parts_of tells_nothing devices))) is c.verify_watched.ensures.report)

pub returns-clause-err : goal.returns-clause-err
returns-clause-err g c = unbegun (values_of c.args.config.now) c.verify_watched.result c.verify_watched.ensures.err
