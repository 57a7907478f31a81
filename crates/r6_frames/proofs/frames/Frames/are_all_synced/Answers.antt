use Rattle.std.proofs.Common.{◌≡◌, ℕ, arith}
use borrow.Author.Count.{below_more}
use Rattle.r6_frames.specs.declared.slots.Device.TheVariants.{Synced}
use Rattle.r6_frames.specs.Slots.{slot_in}
use Rattle.r6_frames.proofs.frames.Frames.are_all_synced.Goals as goal

pub loop-slot-init : goal.loop-slot-init
loop-slot-init c = λ slot below. absurd (omega arith)

pub loop-slot-preserved : goal.loop-slot-preserved
loop-slot-preserved c =
    below_more (λ slot. (generation : ℕ) × ((slot_in c.self.inside.slots slot).device ≡ Synced generation)) c.loop-slot.slot c.loop-slot.invariant
    (_, c.in-Synced.is)

pub returns : goal.returns
returns c = rw (← c.self.view_is) (λ _ slot below. c.loop-slot.invariant slot (omega arith))
