use Rattle.std.proofs.Common.{◌++◌, ◌∷◌, [], ◌∙◌, sym, subst}
use Rattle.r6_engine.specs.lists.Queues.{IsConsumerIn}
use Rattle.r6_engine.specs.NewQueues.{HaveBegun}
use Rattle.r6_engine.proofs.NewQueues.{begun-more, last-in}
use Rattle.r6_engine.proofs.lines.Lines.add.Goals as goal

pub returns-clause-begun : goal.returns-clause-begun
returns-clause-begun g c =
    let shape = g.L.Events.shape in
    let events = g.L.Events.events in
    let old = c.args.self.now in
    let made = c.in_ok-queue.ensures in
    subst (λ qs. HaveBegun shape events qs c.push_reserved-2.new.self.items) (sym c.push_reserved.ensures.items)
    (subst (λ ps. HaveBegun shape events (old.queues.items ++ c.in_ok-queue.queue ∷ []) ps) (sym c.push_reserved-2.ensures.items)
    (begun-more shape events old.queues.items old.producers.items c.in_ok-queue.queue c.in_ok-queue.producer c.requires.begun made.producer
    (made.empty.0 ∙ c.requires.next, made.empty.1, made.empty.2)))

pub returns-clause-consumer : goal.returns-clause-consumer
returns-clause-consumer g c =
    subst (λ qs. IsConsumerIn qs c.in_ok-queue.consumer) (sym c.push_reserved.ensures.items)
    (last-in c.args.self.now.queues.items c.in_ok-queue.queue c.in_ok-queue.consumer c.in_ok-queue.ensures.consumer
    (c.in_ok-queue.ensures.fresh.0 ∙ c.requires.next))
