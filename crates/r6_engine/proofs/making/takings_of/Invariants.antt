use Rattle.std.proofs.Common.{◌≡◌, ◌≤◌, ℕ, Bool, All, length, take, vec_capacity}
use Rattle.std.specs.List.{AllZip}
use Rattle.r6_health.specs.Passes.{IsPassOf, view_of}
use Rattle.r6_engine.specs.lists.Queues.{IsConsumerIn}
use Rattle.r6_engine.specs.Crews.{HasRoomOf, HavePosts, MeetsAt}
use Rattle.r6_engine.specs.NewQueues.{AreMade}
use Rattle.r6_engine.specs.Openings.{HasNamed}
use Rattle.r6_engine.specs.Named.{BeginsSound}
use Rattle.r6_engine.specs.Serves.{AreNumbered, Begins}
use Rattle.r6_engine.specs.Stops.{AreSteady}
use Rattle.r6_engine.proofs.making.takings_of.Given as goal

abbrev pub invariant-loop-crew : goal.invariant-loop-crew
invariant-loop-crew g l =
    (goal.iterator-loop-crew g).can_next l.crew-iterator × (goal.iterator-loop-crew g).is_finite l.crew-iterator × record {
      pass : IsPassOf l.fn.opening.register.now l.first;
      named : HasNamed g.L.Events.shape l.fn.opening.start.now (length l.takings.items) (view_of l.first);
      begins : AllZip (λ crew taking. Begins g.D.BlockDevice.told g.L.Events.shape g.L.Events.events l.fn.opening.start.now l.fn.opening.window
          crew.parts taking.consumer.shard taking.consumer.numbers.items taking.runner) l.yielded l.takings.items;
      sound : (steady : ℕ → ℕ → Bool) → AreSteady steady l.fn.crews.items
          → AllZip (λ crew taking. BeginsSound g.D.BlockDevice.promised steady g.L.Events.shape l.fn.opening.start.now crew.parts
          taking.consumer.shard taking.runner) l.yielded l.takings.items;
      numbered : AreNumbered (λ taking. taking.consumer.shard) l.takings.items;
      passes : All (λ taking. IsPassOf l.fn.opening.register.now taking.runner.shard.pass) l.takings.items;
      room : length l.fn.crews.items ≤ vec_capacity l.takings;
      lines : AreMade g.L.Events.shape g.L.Events.events (length l.takings.items) l.lines;
      consumers : All (λ taking. IsConsumerIn l.lines.queues.items taking.consumer) l.takings.items;
      posts : HavePosts g.D.BlockDevice.told g.D.BlockDevice.promised (length l.takings.items) l.posting;
      sites : l.posting.sites.now ≡ l.fn.posting.sites.now;
      meets : AllZip (λ site taking. MeetsAt site taking.runner) (take (length l.takings.items) l.fn.posting.sites.now) l.takings.items;
      roomy : AllZip (λ crew taking. HasRoomOf crew taking.runner) l.yielded l.takings.items;
    }
