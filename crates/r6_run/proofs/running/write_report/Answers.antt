use Rattle.r6_run.specs.Lines.{state_text}
use Rattle.r6_run.proofs.Given.{both_written}
use Rattle.r6_run.proofs.running.write_report.Goals as goal

pub returns : goal.returns
returns g c =
    both_written c.write_state.result _ _ _ _ (state_text c.args.geometry.now.slots c.args.snapshot.now)
    c.in_ok-write_lines.ensures c.write_state.ensures
