use Rattle.std.proofs.Common.{◌≡◌, ◌<◌, ◌∙◌, length, get_or, ap, arith}
use Rattle.std.proofs.lemmas.List.{length-set}
use Rattle.r6_engine.specs.feed.Events.{event_of_scrub}
use Rattle.r6_engine.specs.feed.Feeds.{HasPut}
use Rattle.r6_engine.proofs.FeedLemmas.Putting.{each-first, each-last, each-next, is-next, its-turn, put-one}
use Rattle.r6_engine.proofs.FeedLemmas.Scrubs.{handed_to_all, duty_of_scrub}
use Rattle.r6_engine.proofs.FeedLemmas.Promised.{pass-promised}
use Rattle.r6_engine.proofs.feed.shards.Shards.hand_scrub.Goals as goal

pub loop-shard-init : goal.loop-shard-init
loop-shard-init g c = record {
  shards = c.requires.at.shards;
  each = each-first (HasPut g.L.Events.shape g.L.Events.events c.args.self.now.queues.now) c.args.producers.now c.args.at.number c.requires.at.each;
}

pub put-requires-clause-producer : goal.put-requires-clause-producer
put-requires-clause-producer g c =
    let shard = c.loop-shard.shard in
    let producers = c.loop-shard.producers in
    let test = c.loop-shard-test.true in
    let long = c.loop-shard.auto.producers in
    let below : shard < length producers = omega (arith, test, long) in
    (its-turn (HasPut g.L.Events.shape g.L.Events.events c.args.self.now.queues.now) producers shard c.args.at.number
    (get_or producers shard c.index-producers-shard.result) c.loop-shard.invariant.each below
    (ap (get_or producers shard) c.index-producers-shard.is)).at

pub put-requires-clause-next : goal.put-requires-clause-next
put-requires-clause-next g c =
    let shape = g.L.Events.shape in
    let events = g.L.Events.events in
    let queues = c.args.self.now.queues.now in
    let shard = c.loop-shard.shard in
    let producers = c.loop-shard.producers in
    let was = get_or producers shard c.index-producers-shard.result in
    let test = c.loop-shard-test.true in
    let long = c.loop-shard.auto.producers in
    let below : shard < length producers = omega (arith, test, long) in
    is-next shape events queues shard c.args.at.number (event_of_scrub c.args.task) (duty_of_scrub c.args.task) was c.new-item.result
    (its-turn (HasPut shape events queues) producers shard c.args.at.number was c.loop-shard.invariant.each below
    (ap (get_or producers shard) c.index-producers-shard.is))
    c.requires.next (handed_to_all shape shard c.args.task) c.new-item.ensures.place.0 c.new-item.ensures.place.1

pub loop-shard-preserved : goal.loop-shard-preserved
loop-shard-preserved g c =
    let shape = g.L.Events.shape in
    let events = g.L.Events.events in
    let queues = c.args.self.now.queues.now in
    let shard = c.loop-shard.shard in
    let producers = c.loop-shard.producers in
    let was = get_or producers shard c.index-producers-shard.result in
    let test = c.loop-shard-test.true in
    let long = c.loop-shard.auto.producers in
    let below : shard < length producers = omega (arith, test, long) in
    record {
      shards = length-set producers shard c.put.new.producer ∙ c.loop-shard.invariant.shards;
      each = each-next (HasPut shape events queues) producers shard c.args.at.number c.put.new.producer c.loop-shard.invariant.each below
          (put-one shape events queues shard c.args.at.number (event_of_scrub c.args.task) (duty_of_scrub c.args.task) was c.put.new.producer _
          (its-turn (HasPut shape events queues) producers shard c.args.at.number was c.loop-shard.invariant.each below
          (ap (get_or producers shard) c.index-producers-shard.is))
          c.requires.next (handed_to_all shape shard c.args.task) c.new-item.ensures.place.1 c.put.ensures.producer c.put.ensures.put
          c.put.ensures.same);
    }

pub new-item-requires-clause-promised : goal.new-item-requires-clause-promised
new-item-requires-clause-promised g c =
    pass-promised g.D.BlockDevice.promised g.L.Events.shape g.L.Events.sound c.loop-shard.shard c.args.task c.work.result c.work.ensures

pub returns : goal.returns
returns g c =
    let test = c.loop-shard-test.false in
    let long = c.loop-shard.auto.producers in
    let most = c.loop-shard.auto.shard-end in
    let ends : length c.loop-shard.producers ≡ c.loop-shard.shard = omega (arith, test, long, most) in
    record {
      at = record {
        shards = c.loop-shard.invariant.shards;
        each = each-last (HasPut g.L.Events.shape g.L.Events.events c.args.self.now.queues.now) c.loop-shard.producers c.loop-shard.shard
            c.args.at.number ends c.loop-shard.invariant.each;
      };
    }
