use Rattle.std.proofs.Common.{sym, refl, ◌∙◌}
use Rattle.r6_engine.proofs.ListLemmas.Queues.{may-end, producer-ended, ended-same, ended-is, ended-full}
use Rattle.r6_engine.proofs.lists.queue.Queue.end.Goals as goal

pub push-requires-clause-admitted : goal.push-requires-clause-admitted
push-requires-clause-admitted g c =
    may-end g.L.Events.shape g.L.Events.events c.args.self.now c.args.producer.now c.requires.producer c.requires.all c.requires.«open»

pub returns-clause-producer : goal.returns-clause-producer
returns-clause-producer g c =
    producer-ended g.L.Events.shape g.L.Events.events c.args.self.now c.args.producer.now c.push.result c.push.new.end
    c.requires.producer c.push.ensures.end c.push.ensures.pushed
    (may-end g.L.Events.shape g.L.Events.events c.args.self.now c.args.producer.now c.requires.producer c.requires.all c.requires.«open»)

pub returns-clause-same : goal.returns-clause-same
returns-clause-same g c = (refl, ended-same g.L.Events.shape g.L.Events.events c.args.producer.now c.push.result c.push.new.end c.push.ensures.pushed)

pub returns-clause-ended : goal.returns-clause-ended
returns-clause-ended g c =
    ended-is g.L.Events.shape g.L.Events.events c.args.producer.now c.push.result c.push.new.end c.requires.«open» c.push.ensures.pushed
    ∙ sym c.is_ok.ensures.value

pub returns-clause-full : goal.returns-clause-full
returns-clause-full g c = λ refused.
    ended-full g.L.Events.shape g.L.Events.events c.args.producer.now c.push.result _ c.requires.«open» c.push.ensures.full
    (sym c.is_ok.ensures.value ∙ refused)
