use Rattle.r6_exchange.proofs.Histories.{honesty_law, sound_law, once_law}
use Rattle.r6_exchange.proofs.laws.history_law.Goals as goal

pub returns-clause-honest : goal.returns-clause-honest
returns-clause-honest g c = honesty_law g.D.BlockDevice.told g.D.BlockDevice.promised c.history_law.ensures

pub returns-clause-once : goal.returns-clause-once
returns-clause-once g c = once_law g.D.BlockDevice.told g.D.BlockDevice.promised

pub returns-clause-sound : goal.returns-clause-sound
returns-clause-sound g c = sound_law g.D.BlockDevice.told g.D.BlockDevice.promised
