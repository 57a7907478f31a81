use Rattle.std.proofs.Common.{◌+◌, ◌∙◌, length, refl, sym, ap, subst}
use Rattle.std.proofs.lemmas.Iterator.Adapters.{YieldsList-from_vec}
use Rattle.std.proofs.lemmas.Iterator.Consumers.{YieldsList-end, YieldsList-turn}
use Rattle.std.proofs.lemmas.List.{length-map, length_push}
use Rattle.std.proofs.lemmas.Option.{slice_get-map, slice_get_read}
use Rattle.std.specs.Prelude.{option_map, slice_get}
use Rattle.r6_engine.specs.feed.Events.{IsPromised, IsWhole, event_of, events_of}
use Rattle.r6_engine.proofs.feed.feed.Feed.hand_all.Goals as goal

pub loop-event-init : goal.loop-event-init
loop-event-init g c = (tt, tt, record { number = c.requires.begins; at = c.requires.at; pass = c.requires.pass; told = λ first told. told })

pub step-requires-clause-next : goal.step-requires-clause-next
step-requires-clause-next g c =
    let told = g.D.BlockDevice.told in
    let events = c.args.events.items in
    let number = length c.loop-event.yielded in
    let turn = YieldsList-turn
    (YieldsList-from_vec {s = c.into_iter-event-iterator.result} c.args.events.items c.into_iter-event-iterator.ensures.into_iter_gives.0
    (c.into_iter-event-iterator.ensures.into_iter_gives.1 ∙ c.args.events.ok.0))
    c.loop-event.yielded c.loop-event.event-iterator c.loop-event.yielded_by c.next.result c.next.new.self c.in-Some.event c.in-Some.is
    c.next.ensures.steps in
    ap (λ all. slice_get all c.loop-event.self.number) (sym c.requires.events)
    ∙ ap (slice_get (events_of told events)) c.loop-event.invariant.2.number
    ∙ slice_get-map (event_of told) events number
    ∙ ap (option_map (event_of told)) (slice_get_read events (length events) number c.in-Some.event refl turn.0 turn.1)

pub step-requires-clause-pass : goal.step-requires-clause-pass
step-requires-clause-pass g c = c.loop-event.invariant.2.pass

pub step-requires-clause-whole : goal.step-requires-clause-whole
step-requires-clause-whole g c =
    let turn = YieldsList-turn
    (YieldsList-from_vec {s = c.into_iter-event-iterator.result} c.args.events.items c.into_iter-event-iterator.ensures.into_iter_gives.0
    (c.into_iter-event-iterator.ensures.into_iter_gives.1 ∙ c.args.events.ok.0))
    c.loop-event.yielded c.loop-event.event-iterator c.loop-event.yielded_by c.next.result c.next.new.self c.in-Some.event c.in-Some.is
    c.next.ensures.steps in
    subst (λ event. IsWhole g.L.Events.shape.shards event) (sym turn.1)
    (c.requires.whole (length c.loop-event.yielded) c.in-Some.event turn.0)

pub step-requires-clause-promised : goal.step-requires-clause-promised
step-requires-clause-promised g c =
    let turn = YieldsList-turn
    (YieldsList-from_vec {s = c.into_iter-event-iterator.result} c.args.events.items c.into_iter-event-iterator.ensures.into_iter_gives.0
    (c.into_iter-event-iterator.ensures.into_iter_gives.1 ∙ c.args.events.ok.0))
    c.loop-event.yielded c.loop-event.event-iterator c.loop-event.yielded_by c.next.result c.next.new.self c.in-Some.event c.in-Some.is
    c.next.ensures.steps in
    subst (λ event. IsPromised g.D.BlockDevice.promised g.L.Events.shape g.L.Events.sound event) (sym turn.1)
    (c.requires.promised (length c.loop-event.yielded) c.in-Some.event turn.0)

pub loop-event-preserved : goal.loop-event-preserved
loop-event-preserved g c =
    let before = c.loop-event.invariant.2 in
    let now = c.step.ensures in (
      tt,
      tt,
      record {
        number = now.number ∙ ap (λ n. n + 1) before.number ∙ sym (length_push c.loop-event.yielded c.in-Some.event);
        at = now.at;
        pass = now.pass;
        told = λ first told. now.told first (before.told first told);
      },
    )

pub returns-clause-number : goal.returns-clause-number
returns-clause-number g c =
    let end = YieldsList-end
    (YieldsList-from_vec {s = c.into_iter-event-iterator.result} c.args.events.items c.into_iter-event-iterator.ensures.into_iter_gives.0
    (c.into_iter-event-iterator.ensures.into_iter_gives.1 ∙ c.args.events.ok.0))
    c.loop-event.yielded c.loop-event.event-iterator c.loop-event.yielded_by c.next.result c.next.new.self c.in-None.is
    c.next.ensures.steps in
    c.loop-event.invariant.2.number ∙ end.1 ∙ sym (length-map c.args.events.items (event_of g.D.BlockDevice.told)) ∙ ap length c.requires.events

pub returns-clause-pass : goal.returns-clause-pass
returns-clause-pass g c = c.loop-event.invariant.2.pass

pub returns-clause-told : goal.returns-clause-told
returns-clause-told g c = c.loop-event.invariant.2.told
