use Rattle.std.proofs.Common.{◌≡◌, ◌++◌}
use Rattle.std.specs.Prelude.{take}
use Rattle.circular_buffer.specs.Buffer.{buffer}
use Rattle.r6_core.proofs.GivingOver.{declared}
use Rattle.r6_core.proofs.state.State.lose_over.Given as goal

abbrev pub invariant-loop-index : goal.invariant-loop-index
invariant-loop-index l =
    let before = l.initial.self.calls in
    l.self ≡ record l.initial.self { calls = buffer (before.items ++ declared (take l.index l.losses.items)) before.capacity }
