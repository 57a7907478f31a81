use Rattle.std.proofs.Common.{◌∙◌, subst}
use Rattle.std.specs.Io.KnownBytes.{Appends}
use Rattle.r6_execute.proofs.devices.print_report.Goals as goal

pub returns-clause-ok : goal.returns-clause-ok
returns-clause-ok g c = (
  subst (Appends (g.W.Write.contents c.args.out.now) (g.W.Write.contents c.print.new.out)) (c.as_str.ensures.value ∙ c.in_ok-text.ensures)
      c.in_ok-print.ensures.written,
  c.of_report.ensures,
)
