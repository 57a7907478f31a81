-- The queues of an array's shards, one more.
use Rattle.std.proofs.Common.{arith, ◌≡◌, ◌∙◌, ℕ, zero, suc, ◌<◌, List, [], ◌∷◌, ◌++◌, length, ap, ◌+◌, refl, sym, subst, below_more, slice_get, slice_index_or, false}
use Rattle.std.specs.Prelude.{IsSomeAnd, All}
use Rattle.std.proofs.Math.Seq.{get_or-append_seam}
use Rattle.std.proofs.lemmas.List.{get_or_append_left, length_push}
use Rattle.r6_layout.specs.Shape.{Shape}
use Rattle.r6_engine.specs.lists.Events.{Event}
use Rattle.r6_engine.specs.declared.lists.consumer.Consumer.{Consumer}
use Rattle.r6_engine.specs.declared.lists.producer.Producer.{Producer}
use Rattle.r6_engine.specs.declared.lists.queue.Queue.{Queue}
use Rattle.r6_engine.specs.lists.Queues.{IsConsumerIn, IsConsumerOf, IsProducerOf, has_ended, put_by}
use Rattle.r6_engine.specs.feed.Feeds.{HasPut}
use Rattle.r6_engine.specs.NewQueues.{HaveBegun, IsLonger}

-- ---- what holds of an element that is there

module _ {A : Type 0} where
  still-some : (xs : List A) (y : A) (k : ℕ) (P : A → Type 0) → IsSomeAnd (slice_get xs k) P → IsSomeAnd (slice_get (xs ++ y ∷ []) k) P
  still-some [] y k P there = absurd there
  still-some (x ∷ xs) y zero P there = there
  still-some (x ∷ xs) y (suc k) P there = still-some xs y k P there

  at-end : (xs : List A) (y : A) (P : A → Type 0) → P y → IsSomeAnd (slice_get (xs ++ y ∷ []) (length xs)) P
  at-end [] y P holds = holds
  at-end (x ∷ xs) y P holds = at-end xs y P holds

  last-some : (xs : List A) (y : A) (k : ℕ) (P : A → Type 0) → k ≡ length xs → P y → IsSomeAnd (slice_get (xs ++ y ∷ []) k) P
  last-some xs y k P is holds = subst (λ n. IsSomeAnd (slice_get (xs ++ y ∷ []) n) P) (sym is) (at-end xs y P holds)

  pub some-within : (xs : List A) (k : ℕ) (P : A → Type 0) → IsSomeAnd (slice_get xs k) P → k < length xs
  some-within [] k P there = absurd there
  some-within (x ∷ xs) zero P there = omega arith
  some-within (x ∷ xs) (suc k) P there = let below = some-within xs k P there in omega (arith, below)

  pub some-at : (xs : List A) (k : ℕ) (d : A) (P : A → Type 0) → IsSomeAnd (slice_get xs k) P → P (slice_index_or xs k d)
  some-at [] k d P there = absurd there
  some-at (x ∷ xs) zero d P there = there
  some-at (x ∷ xs) (suc k) d P there = some-at xs k d P there

-- ---- one more queue

module _ {L D : Type 0} {l : _} {d : _} (shape : Shape) (events : List Event) where
  pub begun-none : HaveBegun {L = L} {D = D} {l = l} {d = d} shape events [] []
  begun-none = record { as_many = refl; each = λ shard p below. absurd (omega (arith, below)) }

  pub begun-more : (queues : List (Queue L D l d)) (producers : List (Producer L D l d)) (queue : Queue L D l d) (producer : Producer L D l d)
      → HaveBegun shape events queues producers → IsProducerOf shape events queue producer
      → (producer.shard ≡ length queues) × (put_by producer ≡ []) × (has_ended producer ≡ false)
      → HaveBegun shape events (queues ++ queue ∷ []) (producers ++ producer ∷ [])
  begun-more queues producers queue producer was is fresh =
      let long = length_push producers producer in
      let longer = length_push queues queue in
      let many = was.as_many in
      let more = queues ++ queue ∷ [] in
      let now : HasPut shape events more (length producers) 0 producer = record {
        at = last-some queues queue producer.shard (λ q. IsProducerOf shape events q producer) fresh.0 is;
        of_shard = fresh.0 ∙ sym many;
        put = fresh.1;
        open_yet = fresh.2;
      } in
      record {
        as_many = omega (arith, long, longer, many);
        each = λ k p below.
            below_more (λ i. HasPut shape events more i 0 (slice_index_or (producers ++ producer ∷ []) i p)) (length producers)
            (λ i low.
            let has = was.each i p low in
            subst (HasPut shape events more i 0) (sym (get_or_append_left producers (producer ∷ []) p i low))
            (record {
              at = still-some queues queue _ (λ q. IsProducerOf shape events q (slice_index_or producers i p)) has.at;
              of_shard = has.of_shard;
              put = has.put;
              open_yet = has.open_yet;
            }))
            (subst (HasPut shape events more (length producers) 0) (sym (get_or-append_seam producers producer [] p)) now) k
            (omega (arith, below, long));
      }

module _ {L D : Type 0} {l : _} {d : _} where
  pub last-in : (queues : List (Queue L D l d)) (queue : Queue L D l d) (consumer : Consumer L D l d) → IsConsumerOf queue consumer
      → consumer.shard ≡ length queues → IsConsumerIn (queues ++ queue ∷ []) consumer
  last-in queues queue consumer is at = last-some queues queue consumer.shard (λ q. IsConsumerOf q consumer) at is

  -- with one queue more, it still takes from its own
  pub still-in : (queues more : List (Queue L D l d)) (consumer : Consumer L D l d) → IsLonger more queues → IsConsumerIn queues consumer
      → IsConsumerIn more consumer
  still-in queues more consumer longer is =
      subst (λ qs. IsConsumerIn qs consumer) (sym longer.1) (still-some queues longer.0 consumer.shard (λ q. IsConsumerOf q consumer) is)

  pub all-still-in : {T : Type 0} (consumer : T → Consumer L D l d) (queues more : List (Queue L D l d)) (takings : List T) → IsLonger more queues
      → All (λ t. IsConsumerIn queues (consumer t)) takings → All (λ t. IsConsumerIn more (consumer t)) takings
  all-still-in consumer queues more takings longer each k t below = still-in queues more (consumer (slice_index_or takings k t)) longer (each k t below)

pub one-longer : {A : Type 0} (new old : List A) → IsLonger new old → length new ≡ length old + 1
one-longer new old longer = ap length longer.1 ∙ length_push old longer.0
