use Rattle.std.proofs.Common.{ℕ, List, take}
use Rattle.std.specs.Io.KnownBytes.{Appends}
use Rattle.r6_simulate.specs.Plays.{Course}
use Rattle.r6_simulate.proofs.simulation.play_all.Given as goal

abbrev pub invariant-loop-event : goal.invariant-loop-event
invariant-loop-event g l =
    (lines : List ℕ) × Course l.initial.simulation (take l.event-index l.script.events.items) lines l.simulation
    × Appends (g.W.Write.contents l.initial.out) (g.W.Write.contents l.out) lines
