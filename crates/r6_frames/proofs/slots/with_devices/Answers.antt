use Rattle.std.proofs.Common.{◌≡◌, List, length, set, ap, ◌∙◌, refl, arith, slice_index_or, replicate}
use Rattle.r6_frames.specs.Slots.{slot_before}
use Rattle.r6_frames.specs.declared.slots.Device.{Device}
use Rattle.r6_frames.specs.declared.slots.Device.TheVariants as device
use Rattle.r6_frames.specs.declared.slots.Slot.{Slot}
use Rattle.r6_frames.proofs.InPlace.{mapped-more, mapped-all}
use Rattle.r6_frames.proofs.slots.with_devices.Goals as goal

-- what stands in an array where it ends
abbrev no_device : Device
no_device = device.Synced 0

abbrev blank : List Slot
blank = replicate 32 (slot_before device.Missing)

pub loop-slot-init : goal.loop-slot-init
loop-slot-init c = refl

pub loop-slot-preserved : goal.loop-slot-preserved
loop-slot-preserved c =
    let devices = c.args.devices in
    let slot = c.loop-slot.slot in
    ap (λ (now : List Slot). set now slot (slot_before (slice_index_or devices slot no_device))) c.loop-slot.invariant
    ∙ mapped-more slot_before slot devices blank no_device (omega arith) c.loop-slot-test.true

pub returns : goal.returns
returns c =
    let all : length c.args.devices ≡ 32 = omega arith in
    c.loop-slot.invariant ∙ mapped-all slot_before c.loop-slot.slot c.args.devices blank (omega arith) c.loop-slot-test.false
