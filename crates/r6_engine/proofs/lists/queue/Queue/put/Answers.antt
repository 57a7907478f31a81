use Rattle.std.proofs.Common.{ap, refl, ◌∙◌}
use Rattle.r6_queues.specs.declared.ends.Ends.{Ends}
use Rattle.r6_engine.specs.lists.Entries.{has_end}
use Rattle.r6_engine.proofs.ListLemmas.Queues.{may-put, not-over, producer-put, put-more, still-put, is-full}
use Rattle.r6_engine.proofs.lists.queue.Queue.put.Goals as goal

pub push-requires-clause-admitted : goal.push-requires-clause-admitted
push-requires-clause-admitted g c =
    may-put g.L.Events.shape g.L.Events.events c.args.self.now c.args.producer.now c.args.item c.requires.producer c.requires.next

pub returns-in-Ok-clause-producer : goal.returns-in-Ok-clause-producer
returns-in-Ok-clause-producer g c =
    producer-put g.L.Events.shape g.L.Events.events c.args.self.now c.args.producer.now _ c.push.new.end c.requires.producer
    c.push.ensures.end c.in-Ok.ensures.pushed
    (may-put g.L.Events.shape g.L.Events.events c.args.self.now c.args.producer.now c.args.item c.requires.producer c.requires.next)

pub returns-in-Ok-clause-put : goal.returns-in-Ok-clause-put
returns-in-Ok-clause-put g c =
    put-more g.L.Events.shape g.L.Events.events c.args.producer.now c.args.item c.push.new.end c.in-Ok.ensures.pushed

pub returns-in-Ok-clause-same : goal.returns-in-Ok-clause-same
returns-in-Ok-clause-same g c = (
  refl,
  still-put g.L.Events.shape g.L.Events.events c.args.producer.now c.args.item c.push.new.end c.in-Ok.ensures.pushed
      (not-over g.L.Events.shape g.L.Events.events c.args.self.now c.args.producer.now c.args.item c.requires.producer c.requires.next),
)

pub returns-in-Err-Given-clause-same : goal.returns-in-Err-Given-clause-same
returns-in-Err-Given-clause-same g c = (
  refl,
  ap (λ (v : Ends _ _). has_end v.pushed) c.in-Err-Given.ensures.pushed.1
      ∙ not-over g.L.Events.shape g.L.Events.events c.args.self.now c.args.producer.now c.args.item c.requires.producer c.requires.next,
)

pub returns-in-Err-Given-clause-full : goal.returns-in-Err-Given-clause-full
returns-in-Err-Given-clause-full g c =
    is-full g.L.Events.shape g.L.Events.events c.args.producer.now _
    (not-over g.L.Events.shape g.L.Events.events c.args.self.now c.args.producer.now c.args.item c.requires.producer c.requires.next)
    c.in-Err-Given.ensures.full
