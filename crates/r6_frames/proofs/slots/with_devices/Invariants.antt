use Rattle.std.proofs.Common.{◌≡◌, replicate}
use Rattle.r6_frames.specs.Slots.{slot_before}
use Rattle.r6_frames.specs.declared.slots.Device.TheVariants as device
use Rattle.r6_frames.proofs.InPlace.{mapped_to}
use Rattle.r6_frames.proofs.slots.with_devices.Given as goal

abbrev pub invariant-loop-slot : goal.invariant-loop-slot
invariant-loop-slot l = l.slots ≡ mapped_to slot_before l.slot l.devices (replicate 32 (slot_before device.Missing))
