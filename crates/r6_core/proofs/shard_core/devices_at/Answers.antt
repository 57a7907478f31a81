use Rattle.std.proofs.Common.{ap, sym, ◌∙◌, refl, arith, inl, inr}
use Rattle.std.proofs.lemmas.Bool.{cases_lt}
use Rattle.std.proofs.lemmas.List.{get_or-replicate}
use Rattle.r6_world.specs.Worlds.{slot_at_start}
use Rattle.r6_frames.specs.declared.slots.Device.TheVariants as device
use Rattle.r6_frames.specs.Slots as slots
use Rattle.r6_core.proofs.Fresh.{past_devices}
use Rattle.r6_core.proofs.shard_core.devices_at.Goals as goal

pub loop-slot-init : goal.loop-slot-init
loop-slot-init c = record {
  beyond = λ some. absurd (omega arith);
  many = refl;
  made = λ slot below. absurd (omega arith);
  ahead = λ slot low high. ap slots.state_of (get_or-replicate 32 slot device.Missing (device.Synced 0) high);
}

pub returns : goal.returns
returns c slot =
    let is = c.loop-slot.invariant in
    let all = c.loop-slot-test.false in
    elim (cases_lt slot 32) [
      | inl below ↦ is.made slot (omega arith)
      | inr past ↦ past_devices c.loop-slot.devices slot (omega (arith, is.many)) ∙ sym (ap slot_at_start (is.beyond (omega arith) slot past))
    ]
