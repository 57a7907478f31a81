use Rattle.std.proofs.Common.{ℕ, ◌+◌, ◌≤◌, sym, subst}
use Rattle.r6_engine.specs.feed.Feeds.{AreAt}
use Rattle.r6_engine.proofs.FeedLemmas.Requests.{of_no_shard}
use Rattle.r6_engine.proofs.FeedLemmas.Putting.{skipped}
use Rattle.r6_engine.specs.lists.Events.{Request}
use Rattle.r6_layout.specs.Shape.{Shape, blocks}
use Rattle.r6_world.specs.PlainArray.{block_of}
use Rattle.r6_world.specs.Values.{op_of}
use Rattle.r6_engine.proofs.FeedLemmas.Told.{tells_same}
use Rattle.r6_engine.proofs.feed.feed.Feed.request.Goals as goal

pub hand_over-requires-clause-next : goal.hand_over-requires-clause-next
hand_over-requires-clause-next g c = c.requires.next

pub answer_out_of_range-requires-clause-next : goal.answer_out_of_range-requires-clause-next
answer_out_of_range-requires-clause-next g c = c.requires.next

pub returns-in-Some-clause-number : goal.returns-in-Some-clause-number
returns-in-Some-clause-number g c = c.hand_over.ensures.number

pub returns-in-Some-clause-pass : goal.returns-in-Some-clause-pass
returns-in-Some-clause-pass g c = c.hand_over.ensures.same.0

pub returns-in-Some-clause-told : goal.returns-in-Some-clause-told
returns-in-Some-clause-told g c =
    tells_same c.args.self.now.pass c.hand_over.new.self.pass c.args.self.now.answers.items c.hand_over.new.self.answers.items
    c.hand_over.ensures.same.0 c.hand_over.ensures.same.1

pub returns-in-None-clause-number : goal.returns-in-None-clause-number
returns-in-None-clause-number g c = c.answer_out_of_range.ensures.number

pub returns-in-None-clause-pass : goal.returns-in-None-clause-pass
returns-in-None-clause-pass g c = c.answer_out_of_range.ensures.same.0

pub returns-in-None-clause-told : goal.returns-in-None-clause-told
returns-in-None-clause-told g c = c.answer_out_of_range.ensures.told

pub returns-in-None-clause-at : goal.returns-in-None-clause-at
returns-in-None-clause-at g c =
    let shape = g.L.Events.shape in
    let events = g.L.Events.events in
    let queues = c.args.shards.now.queues.now in
    let old = c.args.self.now in
    let now = c.answer_out_of_range.ensures in
    let outside : blocks shape ≤ block_of (op_of c.args.op) =
    subst (λ (b : ℕ). blocks shape ≤ b) c.block.ensures (subst (λ (s : Shape). blocks s ≤ c.block.result) c.args.shards.now.shape c.in-None.ensures.within) in
    let at = skipped shape events queues old.number (Request c.args.op) old.producers.items c.requires.at c.requires.next
    (λ shard. of_no_shard shape shard c.args.op outside) in
    subst (λ (n : ℕ). AreAt shape events queues n c.answer_out_of_range.new.self.producers.items) (sym now.number)
    (subst (λ ps. AreAt shape events queues (old.number + 1) ps.items) (sym now.same.1) at)
