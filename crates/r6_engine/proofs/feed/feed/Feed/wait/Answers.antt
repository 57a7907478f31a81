use Rattle.std.proofs.Common.{◌+◌, ◌∙◌, refl, sym, ap}
use Rattle.r6_engine.specs.lists.Events.{Wait}
use Rattle.r6_engine.proofs.FeedLemmas.Asked.{none_asked, one_wait, next_within}
use Rattle.r6_engine.proofs.FeedLemmas.Putting.{skipped}
use Rattle.r6_engine.proofs.feed.feed.Feed.wait.Goals as goal

pub invariant_of-self-clause-within : goal.invariant_of-self-clause-within
invariant_of-self-clause-within g c = next_within g.L.Events.events c.args.self.now.number Wait c.requires.next

pub invariant_of-self-clause-waited : goal.invariant_of-self-clause-waited
invariant_of-self-clause-waited g c =
    ap (λ n. n + 1) c.args.self.now.waited ∙ sym (one_wait g.L.Events.events c.args.self.now.number Wait c.requires.next refl)

pub invariant_of-self-clause-asked : goal.invariant_of-self-clause-asked
invariant_of-self-clause-asked g c =
    c.args.self.now.asked ∙ sym (none_asked g.L.Events.shape g.L.Events.events c.args.self.now.number Wait c.requires.next refl)

pub returns-clause-at : goal.returns-clause-at
returns-clause-at g c =
    skipped g.L.Events.shape g.L.Events.events c.args.shards.now.queues.now c.args.self.now.number Wait
    c.args.self.now.producers.items c.requires.at c.requires.next (λ shard. refl)
