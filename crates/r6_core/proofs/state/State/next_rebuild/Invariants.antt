use Rattle.std.proofs.Common.{ℕ, ◌<◌}
use Rattle.r6_core.specs.Shards.{core_with}
use Rattle.r6_core.specs.Rebuilds.{MayRebuild}
use Rattle.r6_core.proofs.state.State.next_rebuild.Given as goal

abbrev pub invariant-loop-slot : goal.invariant-loop-slot
invariant-loop-slot l = (other another earlier : ℕ) → other < l.slot → MayRebuild (core_with l.window l.self) l.window other another earlier → ⊥
