use Rattle.r6_core.proofs.refusal.RefusalDisplay.fmt.Goals as goal

pub returns-clause-writes : goal.returns-clause-writes
returns-clause-writes g c plain ok = rw (← c.number.ensures, ← c.name.ensures) (c.write.ensures.writes plain ok)
