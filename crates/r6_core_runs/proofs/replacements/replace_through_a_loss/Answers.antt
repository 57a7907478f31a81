use Rattle.r6_core_runs.proofs.ReplacementRuns.{by_loss_of_old}
use Rattle.r6_core_runs.proofs.replacements.replace_through_a_loss.Goals as goal

pub returns : goal.returns
returns c =
    record {
      run = by_loss_of_old c.in_ok-core.core c.look_beside.new.core c.restore_row.new.core c.declare_loss.new.core c.report.new.core c.read_new.new.core c.args.blocks
          c.in_ok-back.back c.in_ok-core.register c.in_ok-replacing.replacing c.in_ok-lost.lost c.in_ok-rebuilt.rebuilt c.in_ok-core.ensures c.in_ok-replacing.ensures
          c.in_ok-restore_row.ensures c.in_ok-declare_loss.ensures c.in_ok-report.ensures c.in_ok-lost.ensures c.in_ok-rebuilt.ensures c.in_ok-back.ensures;
    }
