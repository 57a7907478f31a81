use Rattle.std.proofs.Common.{◌∙◌, ap}
use Rattle.r6_simulate.specs.declared.devices.Blocks.{Blocks}
use Rattle.r6_simulate.proofs.Adding.{one_more_first}
use Rattle.r6_simulate.proofs.devices.Devices.new.Goals as goal

pub loop-slot-preserved : goal.loop-slot-preserved
loop-slot-preserved c =
    let i = c.loop-slot.invariant in
    let adds = c.in_ok-add.ensures.added in
    record {
      attached = one_more_first c.args.geometry.now _ _ _ i.attached i.rows i.block adds;
      rows = adds.rows.0 ∙ i.rows;
      block = ap (λ (blocks : Blocks). blocks.len) adds.rows.1 ∙ i.block;
    }
