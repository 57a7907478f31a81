use Rattle.r6_course.proofs.Witness as witness
use Rattle.r6_course.proofs.witness_law.Goals as goal

pub returns : goal.returns
returns c = witness.witness_law
