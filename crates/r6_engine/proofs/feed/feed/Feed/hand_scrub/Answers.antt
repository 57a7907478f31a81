use Rattle.std.proofs.Common.{◌+◌, ◌∙◌, sym, subst, ap}
use Rattle.r6_engine.specs.feed.Events.{event_of_scrub}
use Rattle.r6_engine.proofs.FeedLemmas.Scrubs.{passes_over, answered_by_shards}
use Rattle.r6_engine.proofs.FeedLemmas.Asked.{next_within, one_wait, none_asked}
use Rattle.r6_engine.specs.feed.Feeds.{AreAt}
use Rattle.r6_engine.proofs.FeedLemmas.Putting.{at_front}
use Rattle.r6_engine.proofs.feed.feed.Feed.hand_scrub.Goals as goal

pub invariant_of-self-clause-within : goal.invariant_of-self-clause-within
invariant_of-self-clause-within g c = next_within g.L.Events.events c.args.self.now.number (event_of_scrub c.args.task) c.requires.next

pub invariant_of-self-clause-waited : goal.invariant_of-self-clause-waited
invariant_of-self-clause-waited g c =
    ap (λ n. n + 1) c.args.self.now.waited
    ∙ sym (one_wait g.L.Events.events c.args.self.now.number (event_of_scrub c.args.task) c.requires.next (passes_over c.args.task))

pub invariant_of-self-clause-asked : goal.invariant_of-self-clause-asked
invariant_of-self-clause-asked g c =
    c.args.self.now.asked ∙ sym (none_asked g.L.Events.shape g.L.Events.events c.args.self.now.number (event_of_scrub c.args.task) c.requires.next (answered_by_shards g.L.Events.shape c.args.task))

pub returns-clause-at : goal.returns-clause-at
returns-clause-at g c =
    let shape = g.L.Events.shape in
    let events = g.L.Events.events in
    let queues = c.args.shards.now.queues.now in
    at_front shape events queues (c.args.self.now.number + 1) c.hand_scrub.new.producers _ _
    (c.args.self.now.producers.ok.0 ∙ c.requires.at.shards)
    (subst (λ at. AreAt shape events queues (at.number + 1) c.hand_scrub.new.producers) c.position-at.ensures c.hand_scrub.ensures.at)
