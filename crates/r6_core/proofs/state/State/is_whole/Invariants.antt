use Rattle.std.proofs.Common.{◌≡◌, ◌<◌, ℕ, true}
use Rattle.r6_stripe.specs.Plans.{is_in_sync}
use Rattle.r6_world.specs.ShardStates.{standing_of}
use Rattle.r6_frames.specs.Slots.{states_of}
use Rattle.r6_core.proofs.state.State.is_whole.Given as goal

abbrev pub invariant-loop-slot : goal.invariant-loop-slot
invariant-loop-slot l = (slot : ℕ) → slot < l.slot → is_in_sync (standing_of (states_of l.self.frames.slots slot) l.row) ≡ true
