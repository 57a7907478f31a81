use Rattle.std.proofs.Common.{sym, ◌∙◌}
use Rattle.std.proofs.lemmas.Result.{IfErr-weaker, IfOk-weaker}
use Rattle.r6_settings.specs.Settings.{values_of}
use Rattle.r6_execute.specs.Commands.{HasReported, HasVerified, IsReadingFault, StopsReport, StopsVerify}
use Rattle.r6_execute.specs.Faults.{fault_of_pass}
use Rattle.r6_execute.proofs.Stopped.{met_none, not_reported, reading, stops_at_settings, stops_by, told_on, unchecked}
use Rattle.r6_execute.proofs.Verified.{verified}
use Rattle.r6_execute.proofs.devices.verify.Goals as goal

pub returns-clause-ok : goal.returns-clause-ok
returns-clause-ok g c =
    let text = g.S.Read.remaining c.args.settings.now in
    let old = g.W.Write.contents c.args.out.now in
    let new = g.W.Write.contents c.print_report.new.out in
    let values = values_of c.in_ok-config.config in
    let report = c.in_ok-report.report in
    IfOk-weaker c.print_report.result (HasReported values.shape report old new) (HasVerified text old new)
    (verified text old new values report c.in_ok-config.ensures.ok c.in_ok-report.ensures.ok
    (met_none report (sym c.met_by.ensures ∙ c.in-None.is)))
    c.print_report.ensures.ok

pub returns-clause-err : goal.returns-clause-err
returns-clause-err g c =
    let text = g.S.Read.remaining c.args.settings.now in
    let old = g.W.Write.contents c.args.out.now in
    let new = g.W.Write.contents c.print_report.new.out in
    IfErr-weaker c.print_report.result (StopsReport old new) (StopsVerify text old new)
    (not_reported text old new (values_of c.in_ok-config.config) c.in_ok-config.ensures.ok)
    c.print_report.ensures.err

pub returns-in_err-config-clause-err : goal.returns-in_err-config-clause-err
returns-in_err-config-clause-err g c =
    let text = g.S.Read.remaining c.args.settings.now in
    let held = g.W.Write.contents c.args.out.now in
    let fault = c.in_err-config.field-0.0 in
    told_on (StopsVerify text held held) c.from_residual.result fault (stops_at_settings IsReadingFault text held fault c.in_err-config.ensures.err)
    c.from_residual.ensures.1

pub returns-in_err-report-clause-err : goal.returns-in_err-report-clause-err
returns-in_err-report-clause-err g c =
    let text = g.S.Read.remaining c.args.settings.now in
    let held = g.W.Write.contents c.args.out.now in
    let values = values_of c.in_ok-config.config in
    let error = c.in_err-report.field-0.0 in
    told_on (StopsVerify text held held) c.from_residual-in_err-report.result (fault_of_pass error)
    (stops_by IsReadingFault text held values (fault_of_pass error) c.in_ok-config.ensures.ok (unchecked values error c.in_err-report.ensures.err))
    c.from_residual-in_err-report.ensures.1

pub returns-in-Some-clause-err : goal.returns-in-Some-clause-err
returns-in-Some-clause-err g c =
    let values = values_of c.in_ok-config.config in
    stops_by IsReadingFault (g.S.Read.remaining c.args.settings.now) (g.W.Write.contents c.args.out.now) values _ c.in_ok-config.ensures.ok
    (reading values c.in_ok-report.report c.in-Some.fault c.in_ok-report.ensures.ok (sym c.met_by.ensures ∙ c.in-Some.is))
