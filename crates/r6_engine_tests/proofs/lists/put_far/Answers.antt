use Rattle.std.proofs.Common.{◌≡◌, [], ◌∷◌, ◌++◌, ◌∙◌, ap}
use Rattle.r6_engine.specs.lists.Queues.{put_by}
use Rattle.r6_engine_tests.proofs.Queued.{next-of, numbers-of-five}
use Rattle.r6_engine_tests.proofs.lists.put_far.Goals as goal

pub put-requires-clause-next : goal.put-requires-clause-next
put-requires-clause-next g c =
    let shape = g.L.Events.shape in
    let events = g.L.Events.events in
    next-of shape events c.args.producer c.new.result 1 1 [] (2 ∷ 3 ∷ 4 ∷ []) c.requires.fresh.0 c.new.ensures.place.0 c.requires.fresh.1
    c.new.ensures.place.1 (numbers-of-five shape events 1 c.requires.shape c.requires.events)

pub put-requires-2-clause-next : goal.put-requires-2-clause-next
put-requires-2-clause-next g c =
    let shape = g.L.Events.shape in
    let events = g.L.Events.events in
    next-of shape events c.put.new.producer c.new-2.result 1 2 (1 ∷ []) (3 ∷ 4 ∷ []) (c.put.ensures.same.0 ∙ c.requires.fresh.0)
    c.new-2.ensures.place.0
    (c.put.ensures.put ∙ ap (λ ns. ns ++ c.new.result.number ∷ []) c.requires.fresh.1 ∙ ap (λ n. n ∷ []) c.new.ensures.place.1)
    c.new-2.ensures.place.1 (numbers-of-five shape events 1 c.requires.shape c.requires.events)

pub put-requires-3-clause-next : goal.put-requires-3-clause-next
put-requires-3-clause-next g c =
    let shape = g.L.Events.shape in
    let events = g.L.Events.events in
    let one : put_by c.put.new.producer ≡ 1 ∷ [] =
    c.put.ensures.put ∙ ap (λ ns. ns ++ c.new.result.number ∷ []) c.requires.fresh.1 ∙ ap (λ n. n ∷ []) c.new.ensures.place.1 in
    next-of shape events c.put-2.new.producer c.new-3.result 1 3 (1 ∷ 2 ∷ []) (4 ∷ [])
    (c.put-2.ensures.same.0 ∙ c.put.ensures.same.0 ∙ c.requires.fresh.0) c.new-3.ensures.place.0
    (c.put-2.ensures.put ∙ ap (λ ns. ns ++ c.new-2.result.number ∷ []) one ∙ ap (λ n. 1 ∷ n ∷ []) c.new-2.ensures.place.1)
    c.new-3.ensures.place.1 (numbers-of-five shape events 1 c.requires.shape c.requires.events)
