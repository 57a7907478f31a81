-- The queue of a shard, who puts its items in and who takes them (this project's own).
use Rattle.std.specs.Prelude.{◌≡◌, ℕ, List, ◌∷◌, ◌++◌, Bool, true, slice_get, IsSomeAnd}
use Rattle.crossbeam_queue.specs.Passes.{view}
use Rattle.r6_layout.specs.Shape.{Shape}
use Rattle.r6_queues.specs.Relays.{IsEndOf, capacity_of}
use Rattle.r6_engine.specs.declared.lists.item.Item.{Item}
use Rattle.r6_engine.specs.declared.lists.producer.Producer.{Producer}
use Rattle.r6_engine.specs.declared.lists.consumer.Consumer.{Consumer}
use Rattle.r6_engine.specs.declared.lists.queue.Queue.{Queue}
use Rattle.r6_engine.specs.lists.Events.{Event, numbers_of, tasks_of}
use Rattle.r6_engine.specs.lists.Entries.{numbers_in, has_end, AreDue}

module _ {L D : Type 0} {l : _} {d : _} where
  -- for how many entries there is room
  abbrev pub room_of : Queue L D l d → ℕ
  room_of queue = capacity_of queue.entries

  -- the numbers of the items that a producer put in, and whether it put the end in
  abbrev pub put_by : Producer L D l d → List ℕ
  put_by producer = numbers_in (view producer.end).pushed

  abbrev pub has_ended : Producer L D l d → Bool
  has_ended producer = has_end (view producer.end).pushed

  -- It puts items into this queue. They are its shard's tasks, from the first on and none left out
  pub record IsProducerOf (shape : Shape) (events : List Event) (queue : Queue L D l d) (producer : Producer L D l d) : Type 0 where
    pub at : IsEndOf queue.entries producer.end
    pub puts : (view producer.end).pushes ≡ true
    pub of_shard : (view producer.end).about ≡ producer.shard
    pub due : AreDue shape events producer.shard (view producer.end).pushed

  -- of the queues of all shards, it puts into that of its own
  abbrev pub IsProducerIn : Shape → List Event → List (Queue L D l d) → Producer L D l d → Type 0
  IsProducerIn shape events queues producer =
      IsSomeAnd (slice_get queues producer.shard) (λ queue. IsProducerOf shape events queue producer)

  -- the item is that of its shard's next task
  abbrev pub IsNext : Shape → List Event → Producer L D l d → Item L D l d → Type 0
  IsNext shape events producer item =
      (item.shard ≡ producer.shard)
      × (rest : List ℕ) × (numbers_of (tasks_of shape producer.shard events) ≡ put_by producer ++ item.number ∷ rest)

  -- it takes items from this queue
  abbrev pub IsConsumerOf : Queue L D l d → Consumer L D l d → Type 0
  IsConsumerOf queue consumer = IsEndOf queue.entries consumer.end

  -- of the queues of all shards, it takes from that of its own
  abbrev pub IsConsumerIn : List (Queue L D l d) → Consumer L D l d → Type 0
  IsConsumerIn queues consumer = IsSomeAnd (slice_get queues consumer.shard) (λ queue. IsConsumerOf queue consumer)
