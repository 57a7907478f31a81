use Rattle.std.proofs.Common.{◌≡◌, ◌∙◌, ◌++◌, map, false, refl, sym, ap}
use Rattle.r6_health.specs.Views.{made_by}
use Rattle.r6_health.specs.declared.call.Call.TheVariants as call
use Rattle.r6_engine.specs.lists.Events.{Fail}
use Rattle.r6_engine.proofs.ListLemmas.Elements.{all_pushed}
use Rattle.r6_engine.specs.declared.feed.answer.AnsweredHere.TheVariants.{Failed}
use Rattle.r6_engine.specs.feed.Feeds.{Fails, asked_in, calls_of, is_unsettled}
use Rattle.r6_engine.proofs.FeedLemmas.Asked.{next_within, no_wait, has_room, answered_more, called_more}
use Rattle.r6_engine.proofs.FeedLemmas.Told.{tells_more}
use Rattle.r6_health.specs.Passes.{view_of}
use Rattle.r6_engine.proofs.FeedLemmas.Putting.{skipped}
use Rattle.r6_engine.proofs.feed.feed.Feed.fail.Goals as goal

pub push_reserved-requires : goal.push_reserved-requires
push_reserved-requires g c =
    has_room g.L.Events.shape g.L.Events.events c.args.self.now.number (Fail c.args.slot) c.args.self.now.answers.items _ _
    c.args.self.now.asked c.requires.next c.args.self.now.room c.args.self.now.answers.ok.0

pub invariant_of-self-clause-within : goal.invariant_of-self-clause-within
invariant_of-self-clause-within g c = next_within g.L.Events.events c.args.self.now.number (Fail c.args.slot) c.requires.next

pub invariant_of-self-clause-waited : goal.invariant_of-self-clause-waited
invariant_of-self-clause-waited g c =
    c.args.self.now.waited ∙ sym (no_wait g.L.Events.events c.args.self.now.number (Fail c.args.slot) c.requires.next refl)

pub invariant_of-self-clause-asked : goal.invariant_of-self-clause-asked
invariant_of-self-clause-asked g c =
    ap (map asked_in) c.push_reserved.ensures.items
    ∙ answered_more g.L.Events.shape g.L.Events.events c.args.self.now.number (Fail c.args.slot) (Fails c.args.slot)
    c.args.self.now.answers.items (record { event = c.args.self.now.number; outcome = Failed c.args.slot c.fail-answer.result }) c.args.self.now.asked c.requires.next refl refl

pub invariant_of-self-clause-own : goal.invariant_of-self-clause-own
invariant_of-self-clause-own g c =
    c.fail-answer.ensures.own
    ∙ ap (λ calls. calls ++ made_by (call.Fail c.args.slot) c.fail-answer.result) c.args.self.now.own
    ∙ sym (called_more c.args.self.now.answers.items (record { event = c.args.self.now.number; outcome = Failed c.args.slot c.fail-answer.result }))
    ∙ sym (ap calls_of c.push_reserved.ensures.items)

pub invariant_of-self-clause-settled : goal.invariant_of-self-clause-settled
invariant_of-self-clause-settled g c =
    all_pushed (λ answer. is_unsettled answer.outcome ≡ false) c.args.self.now.answers.items c.push_reserved.new.self.items
    (record { event = c.args.self.now.number; outcome = Failed c.args.slot c.fail-answer.result }) c.push_reserved.ensures.items c.args.self.now.settled c.fail-answer.ensures.settled

pub returns-clause-told : goal.returns-clause-told
returns-clause-told g c =
    tells_more (view_of c.args.self.now.pass) (view_of c.fail-answer.new.pass) c.args.self.now.answers.items
    c.push_reserved.new.self.items _ c.push_reserved.ensures.items c.fail-answer.ensures.answered

pub returns-clause-at : goal.returns-clause-at
returns-clause-at g c =
    skipped g.L.Events.shape g.L.Events.events c.args.shards.now.queues.now c.args.self.now.number (Fail c.args.slot)
    c.args.self.now.producers.items c.requires.at c.requires.next (λ shard. refl)
