use Rattle.r6_engine.proofs.crew.crew_of.Goals as goal

pub returns-clause-crew : goal.returns-clause-crew
returns-clause-crew g c =
    let made = c.in_ok-exchanges.ensures in
    record { some = c.requires; as_many = made.as_many; ends = made.ends; fresh = made.fresh; each = made.workers }
