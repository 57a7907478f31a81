use Rattle.std.proofs.Common.{subst}
use Rattle.r6_layout.specs.PlainArray.{Block}
use Rattle.r6_core_runs.specs.Replacements.{LosesNew, ReadsOld}
use Rattle.r6_core_runs.proofs.ReplacementRuns.{by_loss_of_new}
use Rattle.r6_core_runs.proofs.replacements.replace_in_vain.Goals as goal

pub returns : goal.returns
returns c =
    let same = c.in_ok-again.ensures in
    record {
      run = by_loss_of_new c.in_ok-core.core c.look_beside.new.core c.lose_new.new.core c.read_old.new.core c.args.block c.in_ok-back.back
          c.in_ok-core.register c.in_ok-replacing.replacing c.in_ok-kept.kept c.in_ok-core.ensures c.in_ok-replacing.ensures
          (subst (λ (b : Block). LosesNew c.args.block b c.look_beside.new.core c.lose_new.new.core) same c.in_ok-lose_new.ensures) c.in_ok-kept.ensures
          (subst (λ (b : Block). ReadsOld c.in_ok-kept.kept b c.in_ok-back.back c.lose_new.new.core c.read_old.new.core) same c.in_ok-back.ensures);
    }
