use Rattle.std.proofs.Common.{subst, sym}
use Rattle.std.specs.Io.KnownBytes.{Appends}
use Rattle.r6_settings.specs.Settings.{values_of}
use Rattle.r6_run.specs.Runs.{HasRun, report_text}
use Rattle.r6_run.proofs.running.run.Goals as goal

pub returns-in-Ok-clause-ok : goal.returns-in-Ok-clause-ok
returns-in-Ok-clause-ok g c =
    let config = c.args.config.now in
    let script = c.args.script.items in
    let served = c.in_ok-served.served in
    let old = g.W.Write.contents c.args.out.now in
    let new = g.W.Write.contents c.write_report.new.out in
    let written = subst (λ replies. Appends old new (report_text config.geometry replies served.snapshot))
    c.deref.ensures.value c.in-Ok.ensures in
    subst (HasRun (values_of config) script old new) (sym c.of-ending.ensures) (c.in_ok-served.ensures.ok old new written)
