use Rattle.std.proofs.Common.{[], ◌∷◌, ◌++◌, ◌∙◌, ap}
use Rattle.r6_engine_tests.proofs.Queued.{next-of, numbers-of-five}
use Rattle.r6_engine_tests.proofs.lists.put_near.Goals as goal

pub put-requires-clause-next : goal.put-requires-clause-next
put-requires-clause-next g c =
    let shape = g.L.Events.shape in
    let events = g.L.Events.events in
    next-of shape events c.args.producer c.new.result 0 0 [] (2 ∷ 4 ∷ []) c.requires.fresh.0 c.new.ensures.place.0 c.requires.fresh.1
    c.new.ensures.place.1 (numbers-of-five shape events 0 c.requires.shape c.requires.events)

pub put-requires-2-clause-next : goal.put-requires-2-clause-next
put-requires-2-clause-next g c =
    let shape = g.L.Events.shape in
    let events = g.L.Events.events in
    next-of shape events c.put.new.producer c.new-2.result 0 2 (0 ∷ []) (4 ∷ []) (c.put.ensures.same.0 ∙ c.requires.fresh.0)
    c.new-2.ensures.place.0
    (c.put.ensures.put ∙ ap (λ ns. ns ++ c.new.result.number ∷ []) c.requires.fresh.1 ∙ ap (λ n. n ∷ []) c.new.ensures.place.1)
    c.new-2.ensures.place.1 (numbers-of-five shape events 0 c.requires.shape c.requires.events)
