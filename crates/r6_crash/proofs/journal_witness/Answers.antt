use Rattle.r6_crash.proofs.Witness.{journal_witness}
use Rattle.r6_crash.proofs.journal_witness.Goals as goal

pub returns : goal.returns
returns c = journal_witness
