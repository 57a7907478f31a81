use Rattle.r6_frames.specs.Slots.{AreSynced}
use Rattle.r6_frames.proofs.frames.Frames.are_all_synced.Given as goal

abbrev pub invariant-loop-slot : goal.invariant-loop-slot
invariant-loop-slot l = AreSynced l.slot l.self-inside.slots
