use Rattle.std.proofs.lemmas.Result.{IfErr-weaker, IfOk-weaker}
use Rattle.r6_execute.specs.Commands.{HasServed, StopsServing}
use Rattle.r6_settings.specs.Settings.{values_of}
use Rattle.r6_execute.proofs.Known.{never_wrong}
use Rattle.r6_execute.proofs.Served.{ServesFor, StopsFor, by_settings}
use Rattle.r6_execute.proofs.Stopped.{told_on}
use Rattle.r6_execute.proofs.commands.serve.Goals as goal

pub returns-clause-ok : goal.returns-clause-ok
returns-clause-ok g c =
    let settings = g.S.Read.remaining c.args.settings.now in
    let script = g.T.Read.remaining c.args.script.now in
    let old = g.W.Write.contents c.args.out.now in
    let new = g.W.Write.contents c.run_script.new.out in
    IfOk-weaker c.run_script.result (ServesFor (values_of c.in_ok-config.config) script old new) (HasServed settings script old new)
    (λ ending served. served settings c.in_ok-config.ensures.ok)
    c.run_script.ensures.ok

pub returns-clause-err : goal.returns-clause-err
returns-clause-err g c =
    let settings = g.S.Read.remaining c.args.settings.now in
    let script = g.T.Read.remaining c.args.script.now in
    let old = g.W.Write.contents c.args.out.now in
    let new = g.W.Write.contents c.run_script.new.out in
    IfErr-weaker c.run_script.result (StopsFor (values_of c.in_ok-config.config) script old new) (StopsServing settings script old new)
    (λ fault stops. stops settings c.in_ok-config.ensures.ok)
    c.run_script.ensures.err

pub returns-clause-unread : goal.returns-clause-unread
returns-clause-unread g c wrong =
    absurd (never_wrong (g.S.Read.remaining c.args.settings.now) (values_of c.in_ok-config.config) c.in_ok-config.ensures.ok wrong)

pub returns-in_err-config-clause-err : goal.returns-in_err-config-clause-err
returns-in_err-config-clause-err g c =
    let settings = g.S.Read.remaining c.args.settings.now in
    let script = g.T.Read.remaining c.args.script.now in
    let held = g.W.Write.contents c.args.out.now in
    let fault = c.in_err-config.field-0.0 in
    told_on (StopsServing settings script held held) c.from_residual.result fault
    (by_settings settings script held fault c.in_err-config.ensures.err)
    c.from_residual.ensures.1
