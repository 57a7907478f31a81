use Rattle.std.proofs.Common.{◌≡◌}
use Rattle.r6_simulate.proofs.Filling.{half_filled}
use Rattle.r6_simulate.proofs.devices.Devices.device_of.Given as goal

abbrev pub invariant-loop-row : goal.invariant-loop-row
invariant-loop-row l = l.device ≡ half_filled l.self.rows l.self.blocks.len l.byte l.row
