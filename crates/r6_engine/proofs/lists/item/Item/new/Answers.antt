use Rattle.std.proofs.Common.{refl}
use Rattle.r6_engine.proofs.lists.item.Item.new.Goals as goal

pub invariant_of-result : goal.invariant_of-result
invariant_of-result g c = record { of_event = c.requires.task; promised = c.requires.promised }

pub returns : goal.returns
returns g c = record { place = (refl, refl, refl); work = refl }
