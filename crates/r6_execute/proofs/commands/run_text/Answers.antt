use Rattle.std.proofs.Common.{List, ℕ}
use Rattle.r6_script.specs.RunScript.{SayRun}
use Rattle.r6_script.specs.Script.{lines_of}
use Rattle.r6_settings.specs.Settings.{values_of}
use Rattle.r6_execute.specs.Faults.{fault_of_run}
use Rattle.r6_execute.specs.declared.fault.Fault.TheVariants.{Script}
use Rattle.r6_execute.proofs.Known.{of_file}
use Rattle.r6_execute.proofs.Served.{StopsAnyhow, by_output, by_run, by_script, run_kept}
use Rattle.r6_execute.proofs.Stopped.{told_on}
use Rattle.r6_execute.proofs.commands.run_text.Goals as goal

pub returns-clause-ok : goal.returns-clause-ok
returns-clause-ok g c settings script said read =
    let config = c.args.config.now in
    let events = c.in_ok-events.events.items in
    let ending = c.in_ok-ending.ending in
    let old = g.W.Write.contents c.args.out.now in
    let mid = g.W.Write.contents c.run.new.out in
    let has_run = c.in_ok-ending.ensures.ok in (
      values_of config,
      events,
      ending,
      said,
      of_file (λ (text : List ℕ). SayRun (lines_of text) events) script c.args.text.now read c.in_ok-events.ensures.ok,
      run_kept (values_of config) events ending old mid (g.W.Write.contents c.finish.new.out) has_run c.finish.ensures.kept,
      c.from.ensures,
    )

pub returns-in_err-events-clause-err : goal.returns-in_err-events-clause-err
returns-in_err-events-clause-err g c =
    let values = values_of c.args.config.now in
    let text = c.args.text.now in
    let held = g.W.Write.contents c.args.out.now in
    let fault = c.in_err-events.field-0.0 in
    told_on (StopsAnyhow values text held held) c.from_residual.result (Script fault)
    (λ settings script said read. by_script settings script values said held text fault read c.in_err-events.ensures.err)
    c.from_residual.ensures.1

pub returns-in_err-ending-clause-err : goal.returns-in_err-ending-clause-err
returns-in_err-ending-clause-err g c =
    let values = values_of c.args.config.now in
    let events = c.in_ok-events.events.items in
    let old = g.W.Write.contents c.args.out.now in
    let new = g.W.Write.contents c.run.new.out in
    let fault = c.in_err-ending.field-0.0 in
    let is = c.in_err-ending.ensures.err in
    told_on (StopsAnyhow values c.args.text.now old new) c.from_residual-in_err-ending.result (fault_of_run fault)
    (λ settings script said read. by_run settings script values said old new c.args.text.now events read c.in_ok-events.ensures.ok fault is c.in_err-ending.ensures.kept)
    c.from_residual-in_err-ending.ensures.1

pub returns-in_err-finish-clause-err : goal.returns-in_err-finish-clause-err
returns-in_err-finish-clause-err g c =
    let values = values_of c.args.config.now in
    let old = g.W.Write.contents c.args.out.now in
    let new = g.W.Write.contents c.finish.new.out in
    let fault = c.in_err-finish.field-0.0 in
    told_on (StopsAnyhow values c.args.text.now old new) c.from_residual-in_err-finish.result fault
    (λ settings script said read. by_output settings script values said old new c.args.text.now c.in_ok-events.events.items read c.in_ok-events.ensures.ok fault c.in_err-finish.ensures.refused)
    c.from_residual-in_err-finish.ensures.1
