use Rattle.std.proofs.Common.{◌∙◌, subst}
use Rattle.std.proofs.lemmas.Result.{on_ok_weaker}
use Rattle.std.specs.Io.KnownBytes.{Appends}
use Rattle.r6_settings.specs.Settings.{values_of}
use Rattle.r6_execute.specs.Commands.{HasCreated, IsMakingFault, StopsCreate}
use Rattle.r6_execute.proofs.Stopped.{stops_at_settings, stops_by, told_on}
use Rattle.r6_execute.proofs.devices.create.Goals as goal

pub returns-clause-ok : goal.returns-clause-ok
returns-clause-ok g c =
    let text = g.S.Read.remaining c.args.settings.now in
    let old = g.W.Write.contents c.args.out.now in
    let new = g.W.Write.contents c.print.new.out in
    let told : Appends old new c.as_str.result.now → HasCreated text old new = λ appends. (
      values_of c.in_ok-config.config,
      c.in_ok-config.ensures.ok,
      subst (Appends old new) (c.as_str.ensures.value ∙ c.in_ok-text.ensures.ok) appends,
    ) in
    on_ok_weaker c.print.result told c.print.ensures.written

pub returns-in_err-config-clause-err : goal.returns-in_err-config-clause-err
returns-in_err-config-clause-err g c =
    let text = g.S.Read.remaining c.args.settings.now in
    let held = g.W.Write.contents c.args.out.now in
    let fault = c.in_err-config.field-0.0 in
    told_on (StopsCreate text held held) c.from_residual.result fault (stops_at_settings IsMakingFault text held fault c.in_err-config.ensures.err)
    c.from_residual.ensures.1

pub returns-in_err-text-clause-err : goal.returns-in_err-text-clause-err
returns-in_err-text-clause-err g c =
    let text = g.S.Read.remaining c.args.settings.now in
    let held = g.W.Write.contents c.args.out.now in
    let fault = c.in_err-text.field-0.0 in
    told_on (StopsCreate text held held) c.from_residual-in_err-text.result fault
    (stops_by IsMakingFault text held (values_of c.in_ok-config.config) fault c.in_ok-config.ensures.ok c.in_err-text.ensures.err)
    c.from_residual-in_err-text.ensures.1
