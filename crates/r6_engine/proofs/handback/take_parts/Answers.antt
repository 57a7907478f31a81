use Rattle.std.proofs.Common.{◌∙◌, ap, length, sym}
use Rattle.r6_engine.proofs.Crews.{ends-long}
use Rattle.r6_engine.proofs.handback.take_parts.Goals as goal

pub take_back-requires-clause-as_many : goal.take_back-requires-clause-as_many
take_back-requires-clause-as_many g c =
    c.next_workers-workers.ensures.as_many ∙ sym (ap length (c.end.ensures.site ∙ c.requires.meets))
    ∙ sym (ends-long g.D.BlockDevice.told g.D.BlockDevice.promised c.end.new.remote.exchanges.now c.end.new.remote.passes.items
    c.end.ensures.ended.ends)
