use Rattle.r6_recover.proofs.factors.weight_back.Goals as goal

pub returns : goal.returns
returns c = c.exp.ensures
