use Rattle.std.proofs.Common.{◌≡◌, Some}
use Rattle.r6_frames.specs.declared.frames.HeldRow.{HeldRow}
use Rattle.r6_frames.specs.Views.{hold_at}
use Rattle.r6_frames.proofs.GivenOver.{IsGivingOver}
use Rattle.r6_frames.proofs.frames.Frames.give_over.Given as goal

abbrev pub invariant-loop-position : goal.invariant-loop-position
invariant-loop-position l = (h : HeldRow) → hold_at l.initial.self.uses l.frame ≡ Some h → IsGivingOver l.initial.self h l.position l.losses.items l.self
