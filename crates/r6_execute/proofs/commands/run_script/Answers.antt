use Rattle.std.proofs.Common.{string_bytes}
use Rattle.std.proofs.lemmas.Result.{IfErr-weaker, IfOk-weaker}
use Rattle.r6_settings.specs.Settings.{values_of}
use Rattle.r6_execute.proofs.Known.{same_read}
use Rattle.r6_execute.proofs.Served.{ServesAnyhow, ServesFor, StopsAnyhow, StopsFor, by_reading}
use Rattle.r6_execute.proofs.Stopped.{told_on}
use Rattle.r6_execute.proofs.commands.run_script.Goals as goal

pub returns-clause-ok : goal.returns-clause-ok
returns-clause-ok g c =
    let values = values_of c.args.config.now in
    let script = g.T.Read.remaining c.args.script.now in
    let read = same_read script (string_bytes c.in_ok-text.text) c.as_str.result.now c.as_str.ensures.value c.in_ok-text.ensures.ok in
    let old = g.W.Write.contents c.args.out.now in
    let new = g.W.Write.contents c.run_text.new.out in
    IfOk-weaker c.run_text.result (ServesAnyhow values c.as_str.result.now old new) (ServesFor values script old new)
    (λ ending served settings said. served settings script said read)
    c.run_text.ensures.ok

pub returns-clause-err : goal.returns-clause-err
returns-clause-err g c =
    let values = values_of c.args.config.now in
    let script = g.T.Read.remaining c.args.script.now in
    let read = same_read script (string_bytes c.in_ok-text.text) c.as_str.result.now c.as_str.ensures.value c.in_ok-text.ensures.ok in
    let old = g.W.Write.contents c.args.out.now in
    let new = g.W.Write.contents c.run_text.new.out in
    IfErr-weaker c.run_text.result (StopsAnyhow values c.as_str.result.now old new) (StopsFor values script old new)
    (λ fault stops settings said. stops settings script said read)
    c.run_text.ensures.err

pub returns-in_err-text-clause-err : goal.returns-in_err-text-clause-err
returns-in_err-text-clause-err g c =
    let values = values_of c.args.config.now in
    let script = g.T.Read.remaining c.args.script.now in
    let held = g.W.Write.contents c.args.out.now in
    let fault = c.in_err-text.field-0.0 in
    told_on (StopsFor values script held held) c.from_residual.result fault
    (λ settings said. by_reading settings script values said held fault c.in_err-text.ensures.err)
    c.from_residual.ensures.1
