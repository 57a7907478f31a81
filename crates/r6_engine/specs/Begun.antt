-- All that the threads of an array begin with (this project's own).
use Rattle.std.specs.Prelude.{◌≡◌, ℕ, ◌≤◌, Bool, List, [], All, length, vec_capacity}
use Rattle.std.specs.List.{AllZip}
use Rattle.r6_dev.specs.History.{Telling}
use Rattle.r6_dev.specs.Promises.{Promise}
use Rattle.r6_layout.specs.Shape.{Shape}
use Rattle.r6_health.specs.Histories.{start_losing}
use Rattle.r6_health.specs.Passes.{IsPassOf, view_of}
use Rattle.r6_health.specs.Registers.{starting}
use Rattle.r6_engine.specs.Openings.{caller_of}
use Rattle.r6_engine.specs.lists.Events.{Event}
use Rattle.r6_engine.specs.lists.Queues.{IsConsumerIn}
use Rattle.r6_shard.specs.declared.parts.Parts.{Parts}
use Rattle.r6_shard.specs.declared.performs.Performs.{Ghosts}
use Rattle.r6_engine.specs.feed.Feeds.{AreAt}
use Rattle.r6_engine.specs.declared.beginning.Begun.{Begun}
use Rattle.r6_engine.specs.Named.{BeginsSound}
use Rattle.r6_engine.specs.Serves.{AreNumbered, Begins}

-- The calling thread has the first pass of the register, of which nothing was asked, and has handed nothing out; there is
-- one shard for each of these parts, in their order, as it begins, with a pass that the calling thread's has named and the
-- end of its queue; and there is room for each
pub record HasBegun {L P D : Type 0} {l : _} {g : Ghosts P} {d : _} (told : D → Telling) (promised : D → Promise)
    (steady : (shard slot : ℕ) → Bool) (shape : Shape) (events : List Event) (lost window : ℕ) (parts : List (Parts D)) (begun : Begun L P D l g d)
    : Type 0 where
  pub pass : IsPassOf begun.register begun.feed.pass
  pub first : view_of begun.feed.pass ≡ caller_of (start_losing shape.slots shape.shards lost)
  pub none_handed : begun.feed.number ≡ 0
  pub producers : AreAt shape events begun.rooms.queues.items 0 begun.feed.producers.items
  pub as_many : length parts ≡ shape.shards
  pub begins : AllZip (λ parts taking. Begins told shape events (starting lost) window parts taking.consumer.shard
      taking.consumer.numbers.items taking.runner) parts begun.takings.items
  pub sound : AllZip (λ parts taking. BeginsSound promised steady shape (starting lost) parts taking.consumer.shard
      taking.runner) parts begun.takings.items
  pub numbered : AreNumbered (λ taking. taking.consumer.shard) begun.takings.items
  pub passes : All (λ taking. IsPassOf begun.register taking.runner.shard.pass) begun.takings.items
  pub consumers : All (λ taking. IsConsumerIn begun.rooms.queues.items taking.consumer) begun.takings.items
  pub slots : begun.register.slots ≡ shape.slots
  pub shards : begun.register.shards ≡ shape.shards
  pub no_runner : begun.rooms.runners.items ≡ []
  pub runners_room : shape.shards ≤ vec_capacity begun.rooms.runners
  pub queues : length begun.rooms.queues.items ≡ shape.shards
  pub rests : length begun.rooms.rests.items ≡ shape.shards
