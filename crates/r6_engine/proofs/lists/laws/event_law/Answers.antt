use Rattle.r6_engine.proofs.ListLemmas.Sharing.{shares_out}
use Rattle.r6_engine.proofs.lists.laws.event_law.Goals as goal

pub returns : goal.returns
returns c = shares_out
