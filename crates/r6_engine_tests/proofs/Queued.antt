-- Items of a test are the next of their shards.
use Rattle.std.proofs.Common.{◌≡◌, ◌∙◌, ℕ, List, [], ◌∷◌, ◌++◌, ap, sym, subst}
use Rattle.std.specs.Prelude.{IsSomeAnd, slice_get}
use Rattle.r6_layout.specs.Shape.{Shape, shape_of}
use Rattle.r6_engine.specs.declared.lists.item.Item.{Item}
use Rattle.r6_engine.specs.declared.lists.producer.Producer.{Producer}
use Rattle.r6_engine.specs.declared.lists.queue.Queue.{Queue}
use Rattle.r6_engine.specs.lists.Events.{Event, numbers_of, tasks_of}
use Rattle.r6_engine.specs.lists.Queues.{IsNext, IsProducerIn, IsProducerOf, put_by}
use Rattle.r6_engine.specs.feed.Feeds.{HasPut}
use Rattle.r6_engine_tests.specs.Asks.{five_events}

pub numbers-of-five : (shape : Shape) (events : List Event) (shard : ℕ) → shape ≡ shape_of 4 1 16 4 2 → events ≡ five_events
    → numbers_of (tasks_of shape shard events) ≡ numbers_of (tasks_of (shape_of 4 1 16 4 2) shard five_events)
numbers-of-five shape events shard same these =
    ap (λ (s : Shape). numbers_of (tasks_of s shard events)) same
    ∙ ap (λ (es : List Event). numbers_of (tasks_of (shape_of 4 1 16 4 2) shard es)) these

module _ {L D : Type 0} {l : _} {d : _} (shape : Shape) (events : List Event) where
  pub next-of : (p : Producer L D l d) (item : Item L D l d) (shard n : ℕ) (before rest : List ℕ) → p.shard ≡ shard
      → item.shard ≡ shard → put_by p ≡ before → item.number ≡ n
      → numbers_of (tasks_of shape shard events) ≡ before ++ n ∷ rest → IsNext shape events p item
  next-of p item shard n before rest of own put number all = (
    own ∙ sym of,
    rest,
    ap (λ s. numbers_of (tasks_of shape s events)) of ∙ all ∙ ap (λ ns. ns ++ n ∷ rest) (sym put) ∙ ap (λ m. put_by p ++ m ∷ rest) (sym number),
  )

  -- of the one queue of an array with one shard
  pub of-one : (queue : Queue L D l d) (number : ℕ) (p : Producer L D l d) → HasPut shape events (queue ∷ []) 0 number p
      → IsProducerOf shape events queue p
  of-one queue number p has =
      subst (λ (s : ℕ). IsSomeAnd (slice_get (queue ∷ []) s) (λ q. IsProducerOf shape events q p)) has.of_shard has.at

  pub in-one : (queue : Queue L D l d) (p : Producer L D l d) → p.shard ≡ 0 → IsProducerOf shape events queue p
      → IsProducerIn shape events (queue ∷ []) p
  in-one queue p of is =
      subst (λ (s : ℕ). IsSomeAnd (slice_get (queue ∷ []) s) (λ q. IsProducerOf shape events q p)) (sym of) is
