use Rattle.r6_core_runs.proofs.ReplacementRuns.{by_replacement}
use Rattle.r6_core_runs.specs.Replacements.{CopiesRow, ReadsNew}
use Rattle.std.proofs.Common.{subst}
use Rattle.r6_layout.specs.PlainArray.{Block}
use Rattle.r6_core_runs.proofs.replacements.replace_in_service.Goals as goal

pub returns : goal.returns
returns c =
    let same = c.in_ok-copy.ensures in
    record {
      run = by_replacement c.in_ok-core.core c.look_beside.new.core c.copy_row.new.core c.report.new.core c.read_new.new.core c.args.block c.in_ok-back.back
          c.in_ok-core.register c.in_ok-replacing.replacing c.in_ok-replaced.replaced c.in_ok-core.ensures c.in_ok-replacing.ensures
          (subst (λ (b : Block). CopiesRow c.args.block b c.look_beside.new.core c.copy_row.new.core) same c.in_ok-copy_row.ensures)
          c.in_ok-report.ensures c.in_ok-replaced.ensures
          (subst (λ (b : Block). ReadsNew c.in_ok-replaced.replaced b c.in_ok-back.back c.report.new.core c.read_new.new.core) same c.in_ok-back.ensures);
    }
