use Rattle.std.proofs.Common.{◌≡◌, ◌∙◌, append-nil, map, false, refl, sym, ap}
use Rattle.r6_engine.specs.lists.Events.{Request}
use Rattle.r6_engine.proofs.ListLemmas.Elements.{all_pushed}
use Rattle.r6_engine.specs.declared.feed.answer.AnsweredHere.TheVariants.{OutOfRange}
use Rattle.r6_engine.specs.feed.Feeds.{NoBlock, asked_in, calls_of, is_unsettled}
use Rattle.r6_engine.proofs.FeedLemmas.Requests.{answered_here}
use Rattle.r6_engine.proofs.FeedLemmas.Asked.{next_within, no_wait, has_room, answered_more, called_more}
use Rattle.r6_engine.proofs.FeedLemmas.Told.{tells_more}
use Rattle.r6_health.specs.Passes.{view_of}
use Rattle.r6_engine.proofs.feed.feed.Feed.answer_out_of_range.Goals as goal

pub push_reserved-requires : goal.push_reserved-requires
push_reserved-requires g c =
    has_room g.L.Events.shape g.L.Events.events c.args.self.now.number (Request c.args.op.now) c.args.self.now.answers.items _ _
    c.args.self.now.asked c.requires.next c.args.self.now.room c.args.self.now.answers.ok.0

pub invariant_of-self-clause-within : goal.invariant_of-self-clause-within
invariant_of-self-clause-within g c = next_within g.L.Events.events c.args.self.now.number (Request c.args.op.now) c.requires.next

pub invariant_of-self-clause-waited : goal.invariant_of-self-clause-waited
invariant_of-self-clause-waited g c =
    c.args.self.now.waited ∙ sym (no_wait g.L.Events.events c.args.self.now.number (Request c.args.op.now) c.requires.next refl)

pub invariant_of-self-clause-asked : goal.invariant_of-self-clause-asked
invariant_of-self-clause-asked g c =
    ap (map asked_in) c.push_reserved.ensures.items
    ∙ answered_more g.L.Events.shape g.L.Events.events c.args.self.now.number (Request c.args.op.now) (NoBlock)
    c.args.self.now.answers.items (record { event = c.args.self.now.number; outcome = OutOfRange }) c.args.self.now.asked c.requires.next (answered_here g.L.Events.shape c.args.op.now c.requires.outside) refl

pub invariant_of-self-clause-own : goal.invariant_of-self-clause-own
invariant_of-self-clause-own g c =
    c.args.self.now.own
    ∙ sym (append-nil (calls_of c.args.self.now.answers.items))
    ∙ sym (called_more c.args.self.now.answers.items (record { event = c.args.self.now.number; outcome = OutOfRange }))
    ∙ sym (ap calls_of c.push_reserved.ensures.items)

pub invariant_of-self-clause-settled : goal.invariant_of-self-clause-settled
invariant_of-self-clause-settled g c =
    all_pushed (λ answer. is_unsettled answer.outcome ≡ false) c.args.self.now.answers.items c.push_reserved.new.self.items
    (record { event = c.args.self.now.number; outcome = OutOfRange }) c.push_reserved.ensures.items c.args.self.now.settled refl

pub returns-clause-told : goal.returns-clause-told
returns-clause-told g c =
    tells_more (view_of c.args.self.now.pass) (view_of c.args.self.now.pass) c.args.self.now.answers.items
    c.push_reserved.new.self.items _ c.push_reserved.ensures.items refl
