-- A shard is live as long as its slots stay as they are.
use Rattle.std.proofs.Common.{◌≡◌, ℕ, ◌≤◌, sym, subst, ◌∙◌}
use Rattle.r6_frames.specs.FramesState.{FramesState}
use Rattle.r6_frames.specs.Slots.{count_out}
use Rattle.r6_frames.specs.Views.{AreLive}
use Rattle.r6_frames.specs.Calls.{KeepsSlots}

pub still_live : (old new : FramesState) → new.geometry ≡ old.geometry → KeepsSlots old new → AreLive old → AreLive new
still_live old new geometry same live = (
  subst (λ (n : ℕ). n ≤ 2) (λ i. count_out (sym same.0 i) (sym geometry i).slots) live.0,
  same.1 ∙ live.1,
)
