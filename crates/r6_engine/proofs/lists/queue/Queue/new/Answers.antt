use Rattle.r6_engine.proofs.ListLemmas.Entries.{due-rule}
use Rattle.r6_engine.proofs.lists.queue.Queue.new.Goals as goal

pub new-requires-clause-lawful : goal.new-requires-clause-lawful
new-requires-clause-lawful g c = due-rule g.L.Events.shape g.L.Events.events
