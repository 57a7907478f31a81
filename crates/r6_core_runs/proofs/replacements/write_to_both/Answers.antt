use Rattle.std.proofs.Common.{subst}
use Rattle.r6_layout.specs.PlainArray.{Block}
use Rattle.r6_core_runs.specs.Replacements.{CopiesRow, WritesBoth}
use Rattle.r6_core_runs.proofs.ReplacementRuns.{by_write_to_both}
use Rattle.r6_core_runs.proofs.replacements.write_to_both.Goals as goal

pub returns : goal.returns
returns c =
    record {
      run = by_write_to_both c.in_ok-core.core c.look_beside.new.core c.copy_row.new.core c.report.new.core c.write_both.new.core c.see_done.new.core c.args.block c.args.row
          c.in_ok-core.register c.in_ok-replacing.replacing c.in_ok-replaced.replaced c.in_ok-core.ensures c.in_ok-replacing.ensures
          (subst (λ (b : Block). CopiesRow c.args.block b c.look_beside.new.core c.copy_row.new.core) c.in_ok-copy.ensures c.in_ok-copy_row.ensures)
          c.in_ok-report.ensures c.in_ok-replaced.ensures
          (subst (λ (b : Block). WritesBoth b c.args.row c.report.new.core c.write_both.new.core) c.in_ok-new_data.ensures c.in_ok-write_both.ensures)
          c.in_ok-back.ensures;
    }
