use Rattle.std.proofs.Common.{subst}
use Rattle.r6_layout.specs.PlainArray.{Block}
use Rattle.r6_core_runs.specs.Rebuilds.{ReadsBack}
use Rattle.r6_core.proofs.Callers.{if_some}
use Rattle.r6_core_runs.proofs.rebuilds.rebuild.Goals as goal

pub returns : goal.returns
returns c =
    if_some c.read_back.result _ _
    (λ block back. record {
      attached = c.in_ok-attached.attached;
      here = c.replace.new.first;
      there = c.replace.new.second;
      replaced = c.in_ok-attached.ensures;
      whole = c.in_ok-rebuilt.rebuilt;
      asked = c.rebuild_both.new.first;
      rebuilds = c.in_ok-rebuilt.ensures.rebuilt;
      back = subst (λ (b : Block). ReadsBack c.in_ok-rebuilt.rebuilt b block c.rebuild_both.new.first c.read_back.new.core) c.in_ok-rebuilt.ensures.restored back;
    }) c.read_back.ensures
