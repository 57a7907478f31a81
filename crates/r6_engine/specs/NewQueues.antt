-- The queues of an array's shards, as they are made (this project's own).
use Rattle.std.specs.Prelude.{◌≡◌, ℕ, ◌<◌, ◌≤◌, List, [], ◌∷◌, ◌++◌, length, slice_index_or, vec_capacity}
use Rattle.r6_layout.specs.Shape.{Shape}
use Rattle.r6_engine.specs.lists.Events.{Event}
use Rattle.r6_engine.specs.declared.lines.Lines.{Lines}
use Rattle.r6_engine.specs.declared.lists.producer.Producer.{Producer}
use Rattle.r6_engine.specs.declared.lists.queue.Queue.{Queue}
use Rattle.r6_engine.specs.feed.Feeds.{HasPut}

-- there is one more at the end
abbrev pub IsLonger : {A : Type 0} → (new old : List A) → Type 0
IsLonger {A = A} new old = (last : A) × (new ≡ old ++ last ∷ [])

-- each queue has who puts into it, of the shard whose number is how many stand before it, and nothing was put in
pub record HaveBegun {L D : Type 0} {l : _} {d : _} (shape : Shape) (events : List Event) (queues : List (Queue L D l d))
    (producers : List (Producer L D l d)) : Type 0 where
  pub as_many : length producers ≡ length queues
  pub each : (shard : ℕ) (p : Producer L D l d) → shard < length producers
      → HasPut shape events queues shard 0 (slice_index_or producers shard p)

-- there are the queues of so many shards, and room for those of all
pub record AreMade {L D : Type 0} {l : _} {d : _} (shape : Shape) (events : List Event) (shards : ℕ) (lines : Lines L D l d)
    : Type 0 where
  pub begun : HaveBegun shape events lines.queues.items lines.producers.items
  pub count : length lines.queues.items ≡ shards
  pub room : (shape.shards ≤ vec_capacity lines.queues) × (shape.shards ≤ vec_capacity lines.producers)
