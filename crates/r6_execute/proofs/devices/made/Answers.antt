use Rattle.std.proofs.Common.{◌≡◌, ◌∙◌, ℕ, length, ap, sym, subst}
use Rattle.std.proofs.lemmas.List.{length-map}
use Rattle.std.specs.Prelude.{string_bytes}
use Rattle.r6_offline.specs.Errors as pass
use Rattle.r6_settings.specs.Settings.{values_of}
use Rattle.r6_execute.specs.Commands.{IsMakingFault}
use Rattle.r6_execute.specs.Faults.{fault_of_pass}
use Rattle.r6_execute.proofs.Stopped.{making, told_on}
use Rattle.r6_execute.proofs.devices.made.Goals as goal

pub returns-in_err-create_files-clause-err : goal.returns-in_err-create_files-clause-err
returns-in_err-create_files-clause-err g c =
    let values = values_of c.args.config.now in
    let error = c.in_err-create_files.field-0.0 in
    let as_many : length c.as_slice.result.now ≡ length values.devices =
    ap length c.as_slice.ensures.value ∙ sym (length-map c.args.config.now.devices.items string_bytes) in
    told_on (IsMakingFault values) c.from_residual-in_err-create_files.result (fault_of_pass error)
    (making values error (subst (λ (count : ℕ). pass.IsMakingFault count error) as_many c.in_err-create_files.ensures))
    c.from_residual-in_err-create_files.ensures.1
