use Rattle.std.proofs.Common.{◌≡◌, ◌≢◌, Ok, Err, List, ℕ, string_bytes}
use Rattle.r6_settings.specs.Settings.{settings_in, values_of}
use Rattle.r6_settings.specs.declared.fault.SettingsFault.TheVariants as settings
use Rattle.r6_execute.specs.Commands.{IsSettingsFault}
use Rattle.r6_execute.specs.declared.fault.Fault.TheVariants.{Settings}
use Rattle.r6_execute.proofs.Known.{of_file, same_read, unread_settings}
use Rattle.r6_execute.proofs.Stopped.{told_on}
use Rattle.r6_execute.proofs.read.read_settings.Goals as goal

pub returns-in_err-text-clause-err : goal.returns-in_err-text-clause-err
returns-in_err-text-clause-err g c =
    let known = g.R.Read.remaining c.args.reader.now in
    let fault = c.in_err-text.field-0.0 in
    told_on (IsSettingsFault c.args.with_devices known) c.from_residual.result fault
    (unread_settings c.args.with_devices known fault c.in_err-text.ensures.err)
    c.from_residual.ensures.1

pub returns-in_err-settings-clause-err : goal.returns-in_err-settings-clause-err
returns-in_err-settings-clause-err g c =
    let known = g.R.Read.remaining c.args.reader.now in
    let text = c.as_str.result.now in
    let fault = c.in_err-settings.field-0.0 in
    let read = same_read known (string_bytes c.in_ok-text.text) text c.as_str.ensures.value c.in_ok-text.ensures.ok in
    told_on (IsSettingsFault c.args.with_devices known) c.from_residual-in_err-settings.result (Settings fault)
    (of_file (λ (these : List ℕ). fault ≢ settings.Memory → settings_in c.args.with_devices these ≡ Err fault) known text read c.in_err-settings.ensures.err)
    c.from_residual-in_err-settings.ensures.1

pub returns-clause-ok : goal.returns-clause-ok
returns-clause-ok g c =
    let known = g.R.Read.remaining c.args.reader.now in
    let text = c.as_str.result.now in
    let read = same_read known (string_bytes c.in_ok-text.text) text c.as_str.ensures.value c.in_ok-text.ensures.ok in
    of_file (λ (these : List ℕ). settings_in c.args.with_devices these ≡ Ok (values_of c.in_ok-settings.field-0)) known text read c.in_ok-settings.ensures.ok
