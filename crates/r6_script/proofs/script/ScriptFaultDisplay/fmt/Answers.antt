use Rattle.r6_script.proofs.script.ScriptFaultDisplay.fmt.Goals as goal

pub returns-in-Line-clause-writes : goal.returns-in-Line-clause-writes
returns-in-Line-clause-writes g c plain ok = rw c.in-Line.is (c.write.ensures.writes plain ok)
