use Rattle.std.proofs.Common.{◌≡◌, ◌≤◌}
use Rattle.r6_layout.specs.Shape.{data_slots}
use Rattle.r6_frames.specs.Writes.{Entry}
use Rattle.r6_core.specs.Inside.{IsFirst}
use Rattle.r6_core.proofs.Joining.{IsAt}
use Rattle.r6_core.proofs.state.State.join.Given as goal

abbrev pub invariant-loop-index : goal.invariant-loop-index
invariant-loop-index l =
    (write : Entry) × IsFirst l.fn.self.frames l.fn.place l.fn.writes write × IsAt l.fn.self l.fn.place write l.index l.writes l.self
    × (l.place ≡ l.fn.place) × (l.index-end ≡ data_slots l.fn.self.frames.geometry) × (l.index ≤ l.index-end)
