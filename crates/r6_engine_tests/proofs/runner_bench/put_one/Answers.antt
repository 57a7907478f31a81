use Rattle.std.proofs.Common.{◌≡◌, ◌∙◌, [], ◌∷◌, Some, None, ap}
use Rattle.r6_layout.specs.Shape.{Shape}
use Rattle.r6_dev.specs.Memory.{told_by}
use Rattle.r6_engine.specs.lists.Events.{duty_of}
use Rattle.r6_engine.specs.lists.Lists.{duty_in}
use Rattle.r6_engine.proofs.FeedLemmas.Putting.{is-next, put-none, put-one, task_is}
use Rattle.r6_engine_tests.specs.Asks.{event_of}
use Rattle.r6_engine_tests.proofs.Queued.{in-one}
use Rattle.r6_engine_tests.proofs.runner_bench.put_one.Goals as goal

pub new-requires-clause-promised : goal.new-requires-clause-promised
new-requires-clause-promised g c = λ slot generation part e sound. absurd (c.requires.none_promised 0 slot sound)

pub put-requires-clause-next : goal.put-requires-clause-next
put-requires-clause-next g c =
    let shape = g.L.Events.shape in
    let due : duty_of shape 0 (event_of c.args.ask) ≡ Some (duty_in told_by c.in-Some.work) =
    ap (λ (s : Shape). duty_of s 0 (event_of c.args.ask)) c.requires.shape ∙ c.in-Some.ensures in
    is-next shape g.L.Events.events (c.args.queue.now ∷ []) 0 c.args.number (event_of c.args.ask) (duty_in told_by c.in-Some.work)
    c.args.producer.now c.new.result c.requires.put c.requires.next due c.new.ensures.place.0 c.new.ensures.place.1

-- the shard is handed nothing of it
pub returns-in_default : goal.returns-in_default
returns-in_default g c =
    let shape = g.L.Events.shape in
    let events = g.L.Events.events in
    let none : duty_of shape 0 (event_of c.args.ask) ≡ None =
    ap (λ (s : Shape). duty_of s 0 (event_of c.args.ask)) c.requires.shape ∙ c.in_default.ensures in
    record {
      put = put-none shape events (c.args.queue.now ∷ []) 0 c.args.number c.args.producer.now
          (task_is shape 0 events c.args.number (event_of c.args.ask) None c.requires.next none) c.requires.put;
    }

pub returns : goal.returns
returns g c =
    let shape = g.L.Events.shape in
    let events = g.L.Events.events in
    let due : duty_of shape 0 (event_of c.args.ask) ≡ Some (duty_in told_by c.in-Some.work) =
    ap (λ (s : Shape). duty_of s 0 (event_of c.args.ask)) c.requires.shape ∙ c.in-Some.ensures in
    record {
      put = put-one shape events (c.args.queue.now ∷ []) 0 c.args.number (event_of c.args.ask) (duty_in told_by c.in-Some.work)
          c.args.producer.now c.put.new.producer _ c.requires.put c.requires.next due c.new.ensures.place.1
          (in-one shape events c.args.queue.now c.put.new.producer (c.put.ensures.same.0 ∙ c.requires.put.of_shard) c.put.ensures.producer)
          c.put.ensures.put c.put.ensures.same;
    }
