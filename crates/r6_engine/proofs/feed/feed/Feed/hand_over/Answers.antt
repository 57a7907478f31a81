use Rattle.std.proofs.Common.{◌∙◌, refl, sym}
use Rattle.r6_engine.specs.lists.Events.{Request, Serves}
use Rattle.r6_engine.proofs.FeedLemmas.Requests.{of_shard, of_no_other, not_answered_here}
use Rattle.r6_engine.proofs.FeedLemmas.Asked.{next_within, no_wait, none_asked}
use Rattle.r6_engine.proofs.FeedLemmas.Promised.{request-promised}
use Rattle.r6_engine.proofs.FeedLemmas.Putting.{among, at-shard, handed_one, is-next, put-one}
use Rattle.r6_engine.proofs.feed.feed.Feed.hand_over.Goals as goal

pub invariant_of-self-clause-within : goal.invariant_of-self-clause-within
invariant_of-self-clause-within g c = next_within g.L.Events.events c.args.self.now.number (Request c.args.op) c.requires.next

pub invariant_of-self-clause-waited : goal.invariant_of-self-clause-waited
invariant_of-self-clause-waited g c =
    c.args.self.now.waited ∙ sym (no_wait g.L.Events.events c.args.self.now.number (Request c.args.op) c.requires.next refl)

pub invariant_of-self-clause-asked : goal.invariant_of-self-clause-asked
invariant_of-self-clause-asked g c =
    c.args.self.now.asked ∙ sym (none_asked g.L.Events.shape g.L.Events.events c.args.self.now.number (Request c.args.op) c.requires.next (not_answered_here g.L.Events.shape c.args.op c.requires.within))

pub new-item-requires-clause-promised : goal.new-item-requires-clause-promised
new-item-requires-clause-promised g c =
    request-promised g.D.BlockDevice.promised g.L.Events.shape g.L.Events.sound c.args.shard c.args.op c.work_of.result c.work_of.ensures

pub put-requires-clause-producer : goal.put-requires-clause-producer
put-requires-clause-producer g c =
    (at-shard g.L.Events.shape g.L.Events.events c.args.shards.now.queues.now c.args.self.now.number c.args.self.now.producers.items c.args.shard _
    c.requires.at (among c.args.shard g.L.Events.shape c.args.self.now.producers.items c.requires.at.shards c.requires.shard.0)
    c.index_mut.ensures.value).at

pub put-requires-clause-next : goal.put-requires-clause-next
put-requires-clause-next g c =
    let shape = g.L.Events.shape in
    let events = g.L.Events.events in
    let queues = c.args.shards.now.queues.now in
    let was = at-shard shape events queues c.args.self.now.number c.args.self.now.producers.items c.args.shard c.index_mut.result.now
    c.requires.at (among c.args.shard shape c.args.self.now.producers.items c.requires.at.shards c.requires.shard.0) c.index_mut.ensures.value in
    is-next shape events queues c.args.shard c.args.self.now.number (Request c.args.op) (Serves c.args.op) c.index_mut.result.now
    c.new-item.result was c.requires.next (of_shard shape c.args.shard c.args.op c.requires.within c.requires.shard.1)
    c.new-item.ensures.place.0 c.new-item.ensures.place.1

pub returns-clause-at : goal.returns-clause-at
returns-clause-at g c =
    let shape = g.L.Events.shape in
    let events = g.L.Events.events in
    let queues = c.args.shards.now.queues.now in
    let number = c.args.self.now.number in
    let below = among c.args.shard shape c.args.self.now.producers.items c.requires.at.shards c.requires.shard.0 in
    let was = at-shard shape events queues number c.args.self.now.producers.items c.args.shard c.index_mut.result.now
    c.requires.at below c.index_mut.ensures.value in
    handed_one shape events queues number (Request c.args.op) (Serves c.args.op) c.args.self.now.producers.items c.args.shard
    c.put.new.producer c.requires.at c.requires.next (of_no_other shape c.args.shard c.args.op c.requires.shard.1) below
    (put-one shape events queues c.args.shard number (Request c.args.op) (Serves c.args.op) c.index_mut.result.now c.put.new.producer _ was
    c.requires.next (of_shard shape c.args.shard c.args.op c.requires.within c.requires.shard.1)
    c.new-item.ensures.place.1 c.put.ensures.producer c.put.ensures.put c.put.ensures.same)
