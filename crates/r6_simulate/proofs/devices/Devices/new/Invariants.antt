use Rattle.std.proofs.Common.{◌≡◌, map}
use Rattle.std.specs.List.{range_with_len}
use Rattle.r6_simulate.specs.Devices.{first_device}
use Rattle.r6_simulate.proofs.devices.Devices.new.Given as goal

abbrev pub invariant-loop-slot : goal.invariant-loop-slot
invariant-loop-slot l = record {
  attached : l.devices.attached.items ≡ map (first_device l.fn.geometry) (range_with_len 0 l.slot);
  rows : l.devices.rows ≡ l.fn.geometry.rows;
  block : l.devices.blocks.len ≡ l.fn.geometry.block;
}
