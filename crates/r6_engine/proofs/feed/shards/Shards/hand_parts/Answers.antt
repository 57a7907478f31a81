use Rattle.std.proofs.Common.{◌≡◌, ◌+◌, ◌∙◌, Some, length, get_or, refl, sym, ap, subst, arith}
use Rattle.std.proofs.lemmas.List.{length-set, length_push}
use Rattle.std.proofs.lemmas.Iterator.Adapters.{YieldsList-from_vec}
use Rattle.std.proofs.lemmas.Iterator.Consumers.{YieldsList-end, YieldsList-turn}
use Rattle.r6_engine.specs.lists.Events.{Bring, Takes_up, task}
use Rattle.r6_engine.specs.feed.Events.{part_for}
use Rattle.r6_engine.specs.feed.Feeds.{HasPut}
use Rattle.r6_engine.proofs.FeedLemmas.Putting.{among_parts, duty_is, each-first, each-last, each-next, is-next, its-turn, put-one}
use Rattle.std.specs.Prelude.{None, option_map, slice_get, unwrap_or}
use Rattle.std.proofs.lemmas.Option.{slice_get_read}
use Rattle.r6_engine.proofs.FeedLemmas.Promised.{part-promised}
use Rattle.r6_engine.proofs.feed.shards.Shards.hand_parts.Goals as goal

pub loop-part-init : goal.loop-part-init
loop-part-init g c = (
  tt,
  tt,
  record {
    shard_is = refl;
    shards = c.requires.at.shards;
    each = each-first (HasPut g.L.Events.shape g.L.Events.events c.args.self.now.queues.now) c.args.producers.now c.args.at.number c.requires.at.each;
  },
)

pub put-requires-clause-shard : goal.put-requires-clause-shard
put-requires-clause-shard g c =
    let turn = YieldsList-turn
    (YieldsList-from_vec {s = c.into_iter-part-iterator.result} c.args.device.parts.items c.into_iter-part-iterator.ensures.into_iter_gives.0
    (c.into_iter-part-iterator.ensures.into_iter_gives.1 ∙ c.args.device.parts.ok.0))
    c.loop-part.yielded c.loop-part.part-iterator c.loop-part.yielded_by c.next.result c.next.new.self c.in-Some.part c.in-Some.is
    c.next.ensures.steps in
    let below = among_parts c.loop-part.shard _ _ _ _ c.loop-part.invariant.2.shard_is turn.0 c.requires.whole c.loop-part.invariant.2.shards in
    let place = c.new-item.ensures.place.0 in
    let shards = c.loop-part.invariant.2.shards in
    omega (arith, below, place, shards)

pub put-requires-clause-producer : goal.put-requires-clause-producer
put-requires-clause-producer g c =
    let shape = g.L.Events.shape in
    let events = g.L.Events.events in
    let queues = c.args.self.now.queues.now in
    let shard = c.loop-part.shard in
    let producers = c.loop-part.producers in
    let parts = c.args.device.parts.items in
    let event = Bring c.requires.next.0 c.args.device.slot (part_for g.D.BlockDevice.told parts) in
    let duty = Takes_up c.args.device.slot (part_for g.D.BlockDevice.told parts shard) in
    let was = get_or producers shard c.index-producers-shard.result in
    let at = c.loop-part.invariant.2 in
    let turn = YieldsList-turn
    (YieldsList-from_vec {s = c.into_iter-part-iterator.result} c.args.device.parts.items c.into_iter-part-iterator.ensures.into_iter_gives.0
    (c.into_iter-part-iterator.ensures.into_iter_gives.1 ∙ c.args.device.parts.ok.0))
    c.loop-part.yielded c.loop-part.part-iterator c.loop-part.yielded_by c.next.result c.next.new.self c.in-Some.part c.in-Some.is
    c.next.ensures.steps in
    let below = among_parts shard _ _ _ _ at.shard_is turn.0 c.requires.whole at.shards in
    let has = its-turn (HasPut shape events queues) producers shard c.args.at.number was at.each below
    (ap (get_or producers shard) c.index-producers-shard.is) in
    has.at

pub put-requires-clause-next : goal.put-requires-clause-next
put-requires-clause-next g c =
    let shape = g.L.Events.shape in
    let events = g.L.Events.events in
    let queues = c.args.self.now.queues.now in
    let shard = c.loop-part.shard in
    let producers = c.loop-part.producers in
    let parts = c.args.device.parts.items in
    let event = Bring c.requires.next.0 c.args.device.slot (part_for g.D.BlockDevice.told parts) in
    let duty = Takes_up c.args.device.slot (part_for g.D.BlockDevice.told parts shard) in
    let was = get_or producers shard c.index-producers-shard.result in
    let at = c.loop-part.invariant.2 in
    let turn = YieldsList-turn
    (YieldsList-from_vec {s = c.into_iter-part-iterator.result} c.args.device.parts.items c.into_iter-part-iterator.ensures.into_iter_gives.0
    (c.into_iter-part-iterator.ensures.into_iter_gives.1 ∙ c.args.device.parts.ok.0))
    c.loop-part.yielded c.loop-part.part-iterator c.loop-part.yielded_by c.next.result c.next.new.self c.in-Some.part c.in-Some.is
    c.next.ensures.steps in
    let below = among_parts shard _ _ _ _ at.shard_is turn.0 c.requires.whole at.shards in
    let has = its-turn (HasPut shape events queues) producers shard c.args.at.number was at.each below
    (ap (get_or producers shard) c.index-producers-shard.is) in
    is-next shape events queues shard c.args.at.number event duty was c.new-item.result has c.requires.next.1 refl
    c.new-item.ensures.place.0 c.new-item.ensures.place.1

pub loop-part-preserved : goal.loop-part-preserved
loop-part-preserved g c =
    let shape = g.L.Events.shape in
    let events = g.L.Events.events in
    let queues = c.args.self.now.queues.now in
    let shard = c.loop-part.shard in
    let producers = c.loop-part.producers in
    let parts = c.args.device.parts.items in
    let event = Bring c.requires.next.0 c.args.device.slot (part_for g.D.BlockDevice.told parts) in
    let duty = Takes_up c.args.device.slot (part_for g.D.BlockDevice.told parts shard) in
    let was = get_or producers shard c.index-producers-shard.result in
    let at = c.loop-part.invariant.2 in
    let turn = YieldsList-turn
    (YieldsList-from_vec {s = c.into_iter-part-iterator.result} c.args.device.parts.items c.into_iter-part-iterator.ensures.into_iter_gives.0
    (c.into_iter-part-iterator.ensures.into_iter_gives.1 ∙ c.args.device.parts.ok.0))
    c.loop-part.yielded c.loop-part.part-iterator c.loop-part.yielded_by c.next.result c.next.new.self c.in-Some.part c.in-Some.is
    c.next.ensures.steps in
    let below = among_parts shard _ _ _ _ at.shard_is turn.0 c.requires.whole at.shards in
    let has = its-turn (HasPut shape events queues) producers shard c.args.at.number was at.each below
    (ap (get_or producers shard) c.index-producers-shard.is) in (
      tt,
      tt,
      record {
        shard_is = ap (λ n. n + 1) at.shard_is ∙ sym (length_push c.loop-part.yielded c.in-Some.part);
        shards = length-set producers shard c.put.new.producer ∙ at.shards;
        each = each-next (HasPut shape events queues) producers shard c.args.at.number c.put.new.producer at.each below
            (put-one shape events queues shard c.args.at.number event duty was c.put.new.producer _ has c.requires.next.1 refl
            c.new-item.ensures.place.1 c.put.ensures.producer c.put.ensures.put c.put.ensures.same);
      },
    )

pub new-item-requires-clause-promised : goal.new-item-requires-clause-promised
new-item-requires-clause-promised g c =
    let parts = c.args.device.parts.items in
    let turn = YieldsList-turn
    (YieldsList-from_vec {s = c.into_iter-part-iterator.result} c.args.device.parts.items c.into_iter-part-iterator.ensures.into_iter_gives.0
    (c.into_iter-part-iterator.ensures.into_iter_gives.1 ∙ c.args.device.parts.ok.0))
    c.loop-part.yielded c.loop-part.part-iterator c.loop-part.yielded_by c.next.result c.next.new.self c.in-Some.part c.in-Some.is
    c.next.ensures.steps in
    part-promised g.D.BlockDevice.promised g.L.Events.shape g.L.Events.sound c.loop-part.shard c.args.device.slot c.args.device.generation c.in-Some.part
    (λ sound. c.requires.promised c.loop-part.shard sound c.in-Some.part
    (subst (λ n. slice_get parts n ≡ Some c.in-Some.part) (sym c.loop-part.invariant.2.shard_is)
    (slice_get_read parts (length parts) (length c.loop-part.yielded) c.in-Some.part refl turn.0 turn.1)))

pub new-item-requires-clause-task : goal.new-item-requires-clause-task
new-item-requires-clause-task g c =
    let told = g.D.BlockDevice.told in
    let parts = c.args.device.parts.items in
    let slot = c.args.device.slot in
    let shard = c.loop-part.shard in
    let number = c.args.at.number in
    let turn = YieldsList-turn
    (YieldsList-from_vec {s = c.into_iter-part-iterator.result} c.args.device.parts.items c.into_iter-part-iterator.ensures.into_iter_gives.0
    (c.into_iter-part-iterator.ensures.into_iter_gives.1 ∙ c.args.device.parts.ok.0))
    c.loop-part.yielded c.loop-part.part-iterator c.loop-part.yielded_by c.next.result c.next.new.self c.in-Some.part c.in-Some.is
    c.next.ensures.steps in
    let own : slice_get parts shard ≡ Some c.in-Some.part =
    subst (λ n. slice_get parts n ≡ Some c.in-Some.part) (sym c.loop-part.invariant.2.shard_is)
    (slice_get_read parts (length parts) (length c.loop-part.yielded) c.in-Some.part refl turn.0 turn.1) in
    duty_is g.L.Events.shape shard g.L.Events.events number (Bring c.requires.next.0 slot (part_for told parts)) (Takes_up slot (part_for told parts shard))
    c.requires.next.1 refl
    ∙ ap (λ waits. Some (task number waits (Takes_up slot (part_for told parts shard)))) (sym c.requires.waits)
    ∙ ap (λ part. Some (task number c.args.at.waits (Takes_up slot (unwrap_or (option_map told part) None)))) own

pub bounds-producers-shard : goal.bounds-producers-shard
bounds-producers-shard g c =
    let turn = YieldsList-turn
    (YieldsList-from_vec {s = c.into_iter-part-iterator.result} c.args.device.parts.items c.into_iter-part-iterator.ensures.into_iter_gives.0
    (c.into_iter-part-iterator.ensures.into_iter_gives.1 ∙ c.args.device.parts.ok.0))
    c.loop-part.yielded c.loop-part.part-iterator c.loop-part.yielded_by c.next.result c.next.new.self c.in-Some.part c.in-Some.is
    c.next.ensures.steps in
    among_parts c.loop-part.shard _ _ _ _ c.loop-part.invariant.2.shard_is turn.0 c.requires.whole c.loop-part.invariant.2.shards

pub returns : goal.returns
returns g c =
    let end = YieldsList-end
    (YieldsList-from_vec {s = c.into_iter-part-iterator.result} c.args.device.parts.items c.into_iter-part-iterator.ensures.into_iter_gives.0
    (c.into_iter-part-iterator.ensures.into_iter_gives.1 ∙ c.args.device.parts.ok.0))
    c.loop-part.yielded c.loop-part.part-iterator c.loop-part.yielded_by c.next.result c.next.new.self c.in-None.is
    c.next.ensures.steps in
    let at = c.loop-part.invariant.2 in
    record {
      at = record {
        shards = at.shards;
        each = each-last (HasPut g.L.Events.shape g.L.Events.events c.args.self.now.queues.now) c.loop-part.producers c.loop-part.shard
            c.args.at.number (at.shards ∙ sym (at.shard_is ∙ end.1 ∙ c.requires.whole)) at.each;
      };
    }
