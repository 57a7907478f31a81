use Rattle.std.proofs.Common.{◌≡◌, ◌-◌, rules, slice_set}
use Rattle.r6_simulate.proofs.Filling.{writes_row}
use Rattle.r6_simulate.proofs.devices.Devices.device_of.Goals as goal

pub loop-row-preserved : goal.loop-row-preserved
loop-row-preserved c =
    let written : c.write.new.self ≡ record c.loop-row.device { blocks = slice_set c.loop-row.device.blocks (c.loop-row.row - c.loop-row.device.first) c.in_ok-block.block } = search rules in
    writes_row _ _ _ _ c.loop-row.device _ c.in_ok-block.block c.loop-row-test.true c.loop-row.invariant c.in_ok-block.ensures written
