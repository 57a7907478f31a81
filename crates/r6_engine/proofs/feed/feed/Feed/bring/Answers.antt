use Rattle.std.proofs.Common.{◌≡◌, ◌+◌, ◌∙◌, ◌++◌, map, false, refl, slice_get, sym, subst, ap}
use Rattle.r6_engine.specs.declared.feed.handing.EventNumber.{EventNumber}
use Rattle.r6_health.specs.Views.{brought_by}
use Rattle.r6_engine.specs.lists.Events.{Bring}
use Rattle.r6_engine.proofs.ListLemmas.Elements.{all_pushed}
use Rattle.r6_engine.specs.declared.feed.answer.AnsweredHere.TheVariants.{Brought}
use Rattle.r6_engine.specs.feed.Events.{part_for}
use Rattle.r6_engine.specs.feed.Feeds.{AreAt, Brings, asked_in, call_of, calls_of, is_unsettled}
use Rattle.r6_engine.proofs.FeedLemmas.Asked.{next_within, no_wait, has_room, answered_more, called_more}
use Rattle.r6_engine.proofs.FeedLemmas.Told.{tells_more}
use Rattle.r6_health.specs.Passes.{view_of}
use Rattle.r6_engine.proofs.FeedLemmas.Putting.{at_front}
use Rattle.r6_engine.proofs.feed.feed.Feed.bring.Goals as goal

pub push_reserved-requires : goal.push_reserved-requires
push_reserved-requires g c =
    has_room g.L.Events.shape g.L.Events.events c.args.self.now.number (Bring c.args.how c.args.slot (part_for g.D.BlockDevice.told c.args.parts.items)) c.args.self.now.answers.items _ _
    c.args.self.now.asked c.requires.next c.args.self.now.room c.args.self.now.answers.ok.0

pub invariant_of-self-clause-within : goal.invariant_of-self-clause-within
invariant_of-self-clause-within g c = next_within g.L.Events.events c.args.self.now.number (Bring c.args.how c.args.slot (part_for g.D.BlockDevice.told c.args.parts.items)) c.requires.next

pub invariant_of-self-clause-waited : goal.invariant_of-self-clause-waited
invariant_of-self-clause-waited g c =
    c.args.self.now.waited ∙ sym (no_wait g.L.Events.events c.args.self.now.number (Bring c.args.how c.args.slot (part_for g.D.BlockDevice.told c.args.parts.items)) c.requires.next refl)

pub invariant_of-self-clause-asked : goal.invariant_of-self-clause-asked
invariant_of-self-clause-asked g c =
    ap (map asked_in) c.push_reserved.ensures.items
    ∙ answered_more g.L.Events.shape g.L.Events.events c.args.self.now.number (Bring c.args.how c.args.slot (part_for g.D.BlockDevice.told c.args.parts.items)) (Brings c.args.how c.args.slot)
    c.args.self.now.answers.items (record { event = c.args.self.now.number; outcome = Brought c.args.how c.args.slot c.bring-answer.result }) c.args.self.now.asked c.requires.next refl refl

pub invariant_of-self-clause-own : goal.invariant_of-self-clause-own
invariant_of-self-clause-own g c =
    c.bring-answer.ensures.own
    ∙ ap (λ calls. calls ++ brought_by (call_of c.args.how c.args.slot) c.bring-answer.result) c.args.self.now.own
    ∙ sym (called_more c.args.self.now.answers.items (record { event = c.args.self.now.number; outcome = Brought c.args.how c.args.slot c.bring-answer.result }))
    ∙ sym (ap calls_of c.push_reserved.ensures.items)

pub invariant_of-self-clause-settled : goal.invariant_of-self-clause-settled
invariant_of-self-clause-settled g c =
    all_pushed (λ answer. is_unsettled answer.outcome ≡ false) c.args.self.now.answers.items c.push_reserved.new.self.items
    (record { event = c.args.self.now.number; outcome = Brought c.args.how c.args.slot c.bring-answer.result }) c.push_reserved.ensures.items c.args.self.now.settled c.bring-answer.ensures.settled

pub returns-clause-told : goal.returns-clause-told
returns-clause-told g c =
    tells_more (view_of c.args.self.now.pass) (view_of c.bring-answer.new.pass) c.args.self.now.answers.items
    c.push_reserved.new.self.items _ c.push_reserved.ensures.items c.bring-answer.ensures.answered

pub returns-clause-at : goal.returns-clause-at
returns-clause-at g c =
    let shape = g.L.Events.shape in
    let events = g.L.Events.events in
    let queues = c.args.shards.now.queues.now in
    at_front shape events queues (c.args.self.now.number + 1) c.hand_parts.new.producers _ _
    (c.args.self.now.producers.ok.0 ∙ c.requires.at.shards)
    (subst (λ at. AreAt shape events queues (at.number + 1) c.hand_parts.new.producers) c.position-at.ensures c.hand_parts.ensures.at)

pub hand_parts-requires-clause-next : goal.hand_parts-requires-clause-next
hand_parts-requires-clause-next g c = (
  c.args.how,
  ap (λ (at : EventNumber). slice_get g.L.Events.events at.number) c.position-at.ensures ∙ c.requires.next,
)
