use Rattle.std.proofs.Common.{ap, filter, ◌∙◌}
use Rattle.r6_engine.specs.lists.Events.{asks_at}
use Rattle.r6_engine.proofs.ListLemmas.Tasks.{requests_taken}
use Rattle.r6_engine.proofs.lists.consumer.Consumer.settle.Goals as goal

pub returns-clause-requests : goal.returns-clause-requests
returns-clause-requests g c =
    ap (filter (asks_at g.L.Events.events)) (c.args.self.whole c.requires.finished)
    ∙ requests_taken g.L.Events.shape c.args.self.shard g.L.Events.events
