use Rattle.std.proofs.Common.{◌∙◌}
use Rattle.r6_exchange.proofs.Deliveries.{task-rule, delivery-rule}
use Rattle.r6_exchange.proofs.Exchanges.{shard-begins, worker-begins}
use Rattle.r6_exchange.proofs.exchange.Exchange.new.Goals as goal

pub new-requires-clause-lawful : goal.new-requires-clause-lawful
new-requires-clause-lawful g c = task-rule g.row.D.Denot

pub new-requires-2-clause-lawful : goal.new-requires-2-clause-lawful
new-requires-2-clause-lawful g c = delivery-rule g.D.BlockDevice.told g.D.BlockDevice.promised

pub returns-clause-shard : goal.returns-clause-shard
returns-clause-shard g c =
    let t = c.in_ok-tasks.ensures in
    let a = c.in_ok-completions.ensures in
    shard-begins g.D.BlockDevice.told g.D.BlockDevice.promised _ _ c.args.room c.acknowledge.result c.acknowledge.ensures.end.0
    a.reader.0 (c.acknowledge.ensures.end.1 ∙ t.writer.1) a.reader.1 c.acknowledge.ensures.acknowledgement.0

pub returns-clause-worker : goal.returns-clause-worker
returns-clause-worker g c =
    let t = c.in_ok-tasks.ensures in
    let a = c.in_ok-completions.ensures in
    worker-begins g.D.BlockDevice.told g.D.BlockDevice.promised _ _ c.args.room c.acknowledge.result t.reader.0
    a.writer.0 t.reader.1 a.writer.1 c.acknowledge.ensures.acknowledgement.0
