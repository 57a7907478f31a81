use Rattle.std.proofs.Common.{◌≡◌, ◌∙◌, All, false, ap, arith, length, map, refl, subst, sym}
use Rattle.std.proofs.lemmas.List.{length-map}
use Rattle.std.proofs.lemmas.List.Elements.{All-nil}
use Rattle.r6_engine.specs.declared.feed.answer.EventAnswer.{EventAnswer}
use Rattle.r6_engine.specs.feed.Events.{event_of}
use Rattle.r6_engine.specs.feed.Feeds.{asked_in, calls_of, is_unsettled}
use Rattle.r6_engine.proofs.feed.feed.Feed.new.Goals as goal

pub invariant_of-result : goal.invariant_of-result
invariant_of-result g c =
    let none = c.in_ok-answers.ensures.items in
    let events = ap length c.requires.events in
    let each = length-map c.args.events.now (event_of g.D.BlockDevice.told) in
    let room = c.in_ok-answers.ensures.capacity in
    record {
      within = omega arith;
      waited = refl;
      asked = ap (map asked_in) none;
      own = c.requires.first ∙ sym (ap calls_of none);
      settled = subst (All (λ (a : EventAnswer). is_unsettled a.outcome ≡ false)) (sym none) (All-nil (λ (a : EventAnswer). is_unsettled a.outcome ≡ false));
      room = omega (arith, events, each, room);
    }
