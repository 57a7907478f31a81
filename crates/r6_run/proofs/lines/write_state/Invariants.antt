use Rattle.std.specs.Io.KnownBytes.{Appends}
use Rattle.r6_script.specs.Texts.{texts_below}
use Rattle.r6_run.specs.Lines.{slot_text}
use Rattle.r6_run.proofs.lines.write_state.Given as goal

abbrev pub invariant-loop-slot : goal.invariant-loop-slot
invariant-loop-slot g l =
    Appends (g.W.Write.contents l.initial.out) (g.W.Write.contents l.out) (texts_below (slot_text l.snapshot) l.slot)
