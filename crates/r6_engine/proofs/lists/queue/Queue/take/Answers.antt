use Rattle.std.proofs.Common.{sym, ap, ◌∙◌, length, refl}
use Rattle.std.proofs.lemmas.Bool.{false≢true}
use Rattle.crossbeam_queue.specs.Passes.{view}
use Rattle.r6_queues.specs.declared.ends.Ends.{Ends}
use Rattle.r6_engine.specs.lists.Events.{tasks_of}
use Rattle.r6_engine.proofs.ListLemmas.Entries.{due-rule, last-of, before-end}
use Rattle.r6_engine.proofs.ListLemmas.Queues.{due-with, numbers-now, numbers-over, taken-first, no-more, room-for, room-kept}
use Rattle.r6_engine.proofs.lists.queue.Queue.take.Goals as goal

pub pop-requires-clause-lawful : goal.pop-requires-clause-lawful
pop-requires-clause-lawful g c = due-rule g.L.Events.shape g.L.Events.events

pub push_reserved-requires : goal.push_reserved-requires
push_reserved-requires g c =
    let shape = g.L.Events.shape in
    let events = g.L.Events.events in
    let old = c.args.consumer.now in
    let popped = c.in_ok-item.ensures.popped in
    let of = ap (λ (v : Ends _ _). v.about) popped ∙ old.of_shard in
    let now = numbers-now shape events (view old.end) (view c.pop.new.end) c.in_ok-item.field-0 c.in-Given.item old.numbers.items _ popped
    c.in-Given.is old.kept refl in
    room-for _ old.numbers.items c.in-Given.item.number _ _ old.numbers.ok.0
    (no-more shape events old.shard (view c.pop.new.end) _ of c.in_ok-item.ensures.admitted now) old.room

pub invariant_of-consumer-in-Given : goal.invariant_of-consumer-in-Given
invariant_of-consumer-in-Given g c =
    let shape = g.L.Events.shape in
    let events = g.L.Events.events in
    let old = c.args.consumer.now in
    let popped = c.in_ok-item.ensures.popped in
    let of = ap (λ (v : Ends _ _). v.about) popped ∙ old.of_shard in
    let now = numbers-now shape events (view old.end) (view c.pop.new.end) c.in_ok-item.field-0 c.in-Given.item old.numbers.items
    c.push_reserved.new.self.items popped c.in-Given.is old.kept c.push_reserved.ensures.items in
    record {
      takes = ap (λ (v : Ends _ _). v.pops) popped ∙ old.takes;
      of_shard = of;
      kept = now;
      taken = taken-first shape events old.shard (view c.pop.new.end) _ of c.in_ok-item.ensures.admitted now;
      whole = λ over. absurd (false≢true (sym c.if-consumer.false ∙ over));
      room = room-kept (length (tasks_of shape old.shard events)) _ _ c.push_reserved.ensures.capacity old.room;
    }

pub invariant_of-consumer-in-End : goal.invariant_of-consumer-in-End
invariant_of-consumer-in-End g c =
    let shape = g.L.Events.shape in
    let events = g.L.Events.events in
    let old = c.args.consumer.now in
    let popped = c.in_ok-item.ensures.popped in
    let of = ap (λ (v : Ends _ _). v.about) popped ∙ old.of_shard in
    record {
      takes = ap (λ (v : Ends _ _). v.pops) popped ∙ old.takes;
      of_shard = of;
      kept = numbers-over shape events (view old.end) (view c.pop.new.end) c.in_ok-item.field-0 old.numbers.items popped c.in-End.is old.kept;
      taken = old.taken;
      whole = λ over. sym old.kept ∙ before-end old.shard (view old.end).popped _
          (due-with shape events old.shard (view old.end) (view c.pop.new.end) c.in_ok-item.field-0 _ of popped c.in-End.is c.in_ok-item.ensures.admitted);
      room = old.room;
    }

pub returns-in-Given-clause-of_shard : goal.returns-in-Given-clause-of_shard
returns-in-Given-clause-of_shard g c =
    let shape = g.L.Events.shape in
    let events = g.L.Events.events in
    let old = c.args.consumer.now in
    let popped = c.in_ok-item.ensures.popped in
    let of = ap (λ (v : Ends _ _). v.about) popped ∙ old.of_shard in
    last-of old.shard (view old.end).popped c.in-Given.item _
    (due-with shape events old.shard (view old.end) (view c.pop.new.end) c.in_ok-item.field-0 _ of popped c.in-Given.is c.in_ok-item.ensures.admitted)
