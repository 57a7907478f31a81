use Rattle.r6_exchange.proofs.Next.{next_law, all_received_law, renews_none}
use Rattle.r6_exchange.proofs.laws.next_law.Goals as goal

pub returns-clause-next : goal.returns-clause-next
returns-clause-next g c = next_law g.D.BlockDevice.told g.D.BlockDevice.promised

pub returns-clause-all_received : goal.returns-clause-all_received
returns-clause-all_received g c = all_received_law g.D.BlockDevice.told g.D.BlockDevice.promised

pub returns-clause-renewed : goal.returns-clause-renewed
returns-clause-renewed g c = renews_none
