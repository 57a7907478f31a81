-- A row is held for its rebuild on a new device.
use Rattle.std.proofs.Common.{ℕ, ◌<◌}
use Rattle.r6_world.specs.Layouts.{IsRowOf}
use Rattle.r6_world.specs.Changes.{Start, Allowed}
use Rattle.r6_frames.specs.declared.rebuilt.Target.{Target}
use Rattle.r6_frames.specs.Rebuilt.{is_rebuilt}
use Rattle.r6_frames.specs.Slots.{slot_in}
use Rattle.r6_frames.specs.Views.{rebuild_task}
use Rattle.r6_frames.specs.Calls.{IsNextOn}
use Rattle.r6_frames.proofs.BegunFor.{may_rebuild, unbuilt_on}
use Rattle.r6_core.specs.declared.state.State.{State}
use Rattle.r6_core.specs.Shards.{layout_in, state_of}
use Rattle.r6_core.specs.Inside.{CanHold, IsSound}
use Rattle.r6_core.proofs.HeldTurns.{turn_allowed}
use Rattle.r6_core.proofs.Rebuilding.{on_world}

pub rebuild_allowed : (s : State) (target : Target) (frame row : ℕ) → IsSound s → CanHold s.frames row frame → IsRowOf (layout_in s) s.frames.shard row → target.slot < s.frames.geometry.slots
    → IsNextOn s.frames target row → Allowed (layout_in s) s.frames.shard (state_of s) (Start frame row (rebuild_task target))
rebuild_allowed s target frame row sound can own below on =
    turn_allowed s (rebuild_task target) frame row sound can own (
      below,
      is_rebuilt on.rebuilt,
      on_world (slot_in s.frames.slots target.slot).device target.generation on.rebuilt on.device,
      unbuilt_on s.frames target row sound.frames on,
    )
    (may_rebuild s.frames target row sound.frames own below on).may_begin
