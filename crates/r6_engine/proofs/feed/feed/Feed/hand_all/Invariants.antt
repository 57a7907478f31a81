use Rattle.std.proofs.Common.{◌≡◌, length}
use Rattle.r6_health.specs.Passes.{IsPassOf, view_of}
use Rattle.r6_engine.specs.feed.Feeds.{AreAt, TellsOn}
use Rattle.r6_engine.proofs.feed.feed.Feed.hand_all.Given as goal

abbrev pub invariant-loop-event : goal.invariant-loop-event
invariant-loop-event g l =
    (goal.iterator-loop-event g).can_next l.event-iterator × (goal.iterator-loop-event g).is_finite l.event-iterator × record {
      number : l.self.number ≡ length l.yielded;
      at : AreAt g.L.Events.shape g.L.Events.events l.fn.shards.queues.now l.self.number l.self.producers.items;
      pass : IsPassOf l.fn.shards.register.now l.self.pass;
      told : TellsOn (view_of l.fn.self.pass) l.fn.self.answers.items (view_of l.self.pass) l.self.answers.items;
    }
