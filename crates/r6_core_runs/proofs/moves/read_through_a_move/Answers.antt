use Rattle.std.proofs.Common.{subst}
use Rattle.r6_layout.specs.PlainArray.{Block}
use Rattle.r6_core_runs.specs.Replacements.{CopiesRow}
use Rattle.r6_core_runs.specs.Moves.{ReadsMoved}
use Rattle.r6_core_runs.proofs.MoveRuns.{by_move}
use Rattle.r6_core_runs.proofs.moves.read_through_a_move.Goals as goal

pub returns : goal.returns
returns c =
    record {
      run = by_move c.in_ok-core.core c.look_beside.new.core c.copy_row.new.core c.report.new.core c.meet_errors.new.core c.read_moved.new.core c.declare_moved.new.core c.see_block.new.core
          c.args.block c.args.q c.in_ok-back.back
          c.in_ok-core.register c.in_ok-replacing.replacing c.in_ok-replaced.replaced c.in_ok-one_lost.one_lost c.in_ok-two_lost.two_lost c.in_ok-core.ensures c.in_ok-replacing.ensures
          (subst (λ (b : Block). CopiesRow c.args.block b c.look_beside.new.core c.copy_row.new.core) c.in_ok-copy.ensures c.in_ok-copy_row.ensures)
          c.in_ok-report.ensures c.in_ok-replaced.ensures c.in_ok-meet_errors.ensures
          (subst (λ (b : Block). ReadsMoved c.args.q b c.meet_errors.new.core c.read_moved.new.core) c.in_ok-again.ensures c.in_ok-read_moved.ensures)
          c.in_ok-declare_moved.ensures c.in_ok-one_lost.ensures c.in_ok-two_lost.ensures c.in_ok-back.ensures;
    }
