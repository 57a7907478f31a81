-- Items as they are put into a queue and taken from it.
use Rattle.std.proofs.Common.{◌≡◌, ℕ, ◌<◌, ◌≤◌, List, [], ◌∷◌, ◌++◌, length, take, false, refl, sym, ap, ◌∙◌, subst, arith, Result, Ok, Err, IfErr, MatchResult, is_ok}
use Rattle.std.proofs.Math.Seq.{take-append_seam}
use Rattle.std.proofs.lemmas.Bool.{false≢true}
use Rattle.std.proofs.lemmas.List.{length-append, length-map, length-take}
use Rattle.crossbeam_queue.specs.Passes.{view}
use Rattle.r6_layout.specs.Shape.{Shape}
use Rattle.r6_queues.specs.declared.ends.Ends.{Ends}
use Rattle.r6_queues.specs.Queues.{having_pushed, having_popped, HasPushed}
use Rattle.r6_queues.specs.Relays.{End, IsEndOf}
use Rattle.r6_engine.specs.declared.lists.item.Item.{Item}
use Rattle.r6_engine.specs.declared.lists.entry.QueueEntry.{QueueEntry}
use Rattle.r6_engine.specs.declared.lists.entry.QueueEntry.TheVariants as entry
use Rattle.r6_engine.specs.declared.lists.producer.Producer.{Producer}
use Rattle.r6_engine.specs.declared.lists.queue.Queue.{Queue}
use Rattle.r6_engine.specs.lists.Events.{Event, numbers_of, tasks_of}
use Rattle.r6_engine.specs.lists.Entries.{numbers_in, has_end, AreDue}
use Rattle.r6_engine.specs.lists.Queues.{IsProducerOf, IsNext, put_by, has_ended}
use Rattle.r6_engine.proofs.ListLemmas.Entries.{numbers-append, items-begin, items-more, items-ended, not-ended, still-open, now-ended, all-items}

abbrev numbers-due : Shape → List Event → ℕ → List ℕ
numbers-due shape events shard = numbers_of (tasks_of shape shard events)

abbrev View : Type 0 → Type 0
View E = Ends E ℕ

nothing-more : (ns : List ℕ) → ns ++ [] ≡ ns
nothing-more [] = refl
nothing-more (n ∷ ns) = ap (λ ms. n ∷ ms) (nothing-more ns)

module _ {L D : Type 0} {l : _} {d : _} (shape : Shape) (events : List Event) where
  -- ---- putting in

  pub may-put : (queue : Queue L D l d) (producer : Producer L D l d) (item : Item L D l d) → IsProducerOf shape events queue producer
      → IsNext shape events producer item
      → AreDue shape events (view producer.end).about ((view producer.end).pushed ++ entry.Given item ∷ [])
  may-put queue p item is next =
      subst (λ (s : ℕ). AreDue shape events s ((view p.end).pushed ++ entry.Given item ∷ [])) (sym is.of_shard)
      (items-more p.shard (view p.end).pushed item (numbers-due shape events p.shard) next.1 is.due next.0 next.2)

  pub not-over : (queue : Queue L D l d) (producer : Producer L D l d) (item : Item L D l d) → IsProducerOf shape events queue producer
      → IsNext shape events producer item → has_ended producer ≡ false
  not-over queue p item is next = not-ended p.shard (view p.end).pushed (numbers-due shape events p.shard) next.1 item.number is.due next.2

  pub may-end : (queue : Queue L D l d) (producer : Producer L D l d) → IsProducerOf shape events queue producer
      → put_by producer ≡ numbers-due shape events producer.shard → has_ended producer ≡ false
      → AreDue shape events (view producer.end).about ((view producer.end).pushed ++ entry.End ∷ [])
  may-end queue p is all not =
      subst (λ (s : ℕ). AreDue shape events s ((view p.end).pushed ++ entry.End ∷ [])) (sym is.of_shard)
      (items-ended p.shard (view p.end).pushed (numbers-due shape events p.shard) is.due not all)

  abbrev HasPut : Producer L D l d → QueueEntry L D l d → End (QueueEntry L D l d) ℕ → Type 0
  HasPut p x end = view end ≡ having_pushed (view p.end) x

  pub producer-put : (queue : Queue L D l d) (producer : Producer L D l d) (x : QueueEntry L D l d) (end : End (QueueEntry L D l d) ℕ)
      → IsProducerOf shape events queue producer → IsEndOf queue.entries end → HasPut producer x end
      → AreDue shape events (view producer.end).about ((view producer.end).pushed ++ x ∷ [])
      → IsProducerOf shape events queue (record { shard = producer.shard; end = end })
  producer-put queue p x end is at put due = record {
    at = at;
    puts = ap (λ (v : View (QueueEntry L D l d)). v.pushes) put ∙ is.puts;
    of_shard = ap (λ (v : View (QueueEntry L D l d)). v.about) put ∙ is.of_shard;
    due = subst (λ (v : View (QueueEntry L D l d)). AreDue shape events p.shard v.pushed) (sym put)
        (subst (λ (s : ℕ). AreDue shape events s ((view p.end).pushed ++ x ∷ [])) is.of_shard due);
  }

  pub producer-same : (queue : Queue L D l d) (producer : Producer L D l d) (end : End (QueueEntry L D l d) ℕ)
      → IsProducerOf shape events queue producer → IsEndOf queue.entries end → view end ≡ view producer.end
      → IsProducerOf shape events queue (record { shard = producer.shard; end = end })
  producer-same queue p end is at same = record {
    at = at;
    puts = ap (λ (v : View (QueueEntry L D l d)). v.pushes) same ∙ is.puts;
    of_shard = ap (λ (v : View (QueueEntry L D l d)). v.about) same ∙ is.of_shard;
    due = subst (λ (v : View (QueueEntry L D l d)). AreDue shape events p.shard v.pushed) (sym same) is.due;
  }

  pub put-more : (producer : Producer L D l d) (item : Item L D l d) (end : End (QueueEntry L D l d) ℕ) → HasPut producer (entry.Given item) end
      → numbers_in (view end).pushed ≡ put_by producer ++ item.number ∷ []
  put-more p item end put =
      ap (λ (v : View (QueueEntry L D l d)). numbers_in v.pushed) put ∙ numbers-append (view p.end).pushed (entry.Given item ∷ [])

  pub still-put : (producer : Producer L D l d) (item : Item L D l d) (end : End (QueueEntry L D l d) ℕ) → HasPut producer (entry.Given item) end
      → has_ended producer ≡ false → has_end (view end).pushed ≡ false
  still-put p item end put not = ap (λ (v : View (QueueEntry L D l d)). has_end v.pushed) put ∙ still-open (view p.end).pushed item not

  pub is-full : (producer : Producer L D l d) (capacity : ℕ) → has_ended producer ≡ false
      → HasPushed capacity (view producer.end) → capacity ≤ length (put_by producer)
  is-full p capacity not full = let long = all-items (view p.end).pushed not in omega (arith, long, full)

  -- ---- the end

  abbrev HasEnded : Producer L D l d → Result Unit (QueueEntry L D l d) → End (QueueEntry L D l d) ℕ → Type 0
  HasEnded p result end = MatchResult result (λ _. HasPut p entry.End end) (λ back. (back ≡ entry.End) × (view end ≡ view p.end))

  pub producer-ended : (queue : Queue L D l d) (producer : Producer L D l d) (result : Result Unit (QueueEntry L D l d)) (end : End (QueueEntry L D l d) ℕ)
      → IsProducerOf shape events queue producer → IsEndOf queue.entries end → HasEnded producer result end
      → AreDue shape events (view producer.end).about ((view producer.end).pushed ++ entry.End ∷ [])
      → IsProducerOf shape events queue (record { shard = producer.shard; end = end })
  producer-ended queue p (Ok ok) end is at ended due = producer-put queue p entry.End end is at ended due
  producer-ended queue p (Err back) end is at ended due = producer-same queue p end is at ended.1

  pub ended-same : (producer : Producer L D l d) (result : Result Unit (QueueEntry L D l d)) (end : End (QueueEntry L D l d) ℕ) → HasEnded producer result end
      → numbers_in (view end).pushed ≡ put_by producer
  ended-same p (Ok ok) end ended =
      ap (λ (v : View (QueueEntry L D l d)). numbers_in v.pushed) ended ∙ numbers-append (view p.end).pushed (entry.End ∷ []) ∙ nothing-more (put_by p)
  ended-same p (Err back) end ended = ap (λ (v : View (QueueEntry L D l d)). numbers_in v.pushed) ended.1

  pub ended-is : (producer : Producer L D l d) (result : Result Unit (QueueEntry L D l d)) (end : End (QueueEntry L D l d) ℕ)
      → has_ended producer ≡ false → HasEnded producer result end → has_end (view end).pushed ≡ is_ok result
  ended-is p (Ok ok) end not ended = ap (λ (v : View (QueueEntry L D l d)). has_end v.pushed) ended ∙ now-ended (view p.end).pushed
  ended-is p (Err back) end not ended = ap (λ (v : View (QueueEntry L D l d)). has_end v.pushed) ended.1 ∙ not

  pub ended-full : (producer : Producer L D l d) (result : Result Unit (QueueEntry L D l d)) (capacity : ℕ) → has_ended producer ≡ false
      → IfErr result (λ _. HasPushed capacity (view producer.end)) → is_ok result ≡ false → capacity ≤ length (put_by producer)
  ended-full p (Ok ok) capacity not full refused = absurd (false≢true (sym refused))
  ended-full p (Err back) capacity not full refused = is-full p capacity not full

  -- ---- taking

  due-now : (shard : ℕ) (w : View (QueueEntry L D l d)) → w.about ≡ shard → AreDue shape events w.about w.popped → AreDue shape events shard w.popped
  due-now shard w of due = subst (λ (k : ℕ). AreDue shape events k w.popped) of due

  pub due-with : (shard : ℕ) (v w : View (QueueEntry L D l d)) (x y : QueueEntry L D l d) → w.about ≡ shard → w ≡ having_popped v x → x ≡ y
      → AreDue shape events w.about w.popped → AreDue shape events shard (v.popped ++ y ∷ [])
  due-with shard v w x y of popped is due =
      subst (λ (z : QueueEntry L D l d). AreDue shape events shard (v.popped ++ z ∷ [])) is
      (subst (λ (es : List (QueueEntry L D l d)). AreDue shape events shard es) (ap (λ (u : View (QueueEntry L D l d)). u.popped) popped) (due-now shard w of due))

  -- one more number
  pub numbers-now : (v w : View (QueueEntry L D l d)) (x : QueueEntry L D l d) (item : Item L D l d) (items more : List ℕ) → w ≡ having_popped v x
      → x ≡ entry.Given item → numbers_in v.popped ≡ items → more ≡ items ++ item.number ∷ [] → numbers_in w.popped ≡ more
  numbers-now v w x item items more popped is kept longer =
      ap (λ (u : View (QueueEntry L D l d)). numbers_in u.popped) popped
      ∙ ap (λ (z : QueueEntry L D l d). numbers_in (v.popped ++ z ∷ [])) is
      ∙ numbers-append v.popped (entry.Given item ∷ [])
      ∙ ap (λ ns. ns ++ item.number ∷ []) kept
      ∙ sym longer

  -- or none
  pub numbers-over : (v w : View (QueueEntry L D l d)) (x : QueueEntry L D l d) (items : List ℕ) → w ≡ having_popped v x → x ≡ entry.End
      → numbers_in v.popped ≡ items → numbers_in w.popped ≡ items
  numbers-over v w x items popped is kept =
      ap (λ (u : View (QueueEntry L D l d)). numbers_in u.popped) popped
      ∙ ap (λ (z : QueueEntry L D l d). numbers_in (v.popped ++ z ∷ [])) is
      ∙ numbers-append v.popped (entry.End ∷ [])
      ∙ nothing-more (numbers_in v.popped)
      ∙ kept

  pub taken-first : (shard : ℕ) (w : View (QueueEntry L D l d)) (items : List ℕ) → w.about ≡ shard → AreDue shape events w.about w.popped
      → numbers_in w.popped ≡ items → items ≡ take (length items) (numbers-due shape events shard)
  taken-first shard w items of due kept =
      let more = items-begin shard w.popped (numbers-due shape events shard) (due-now shard w of due) in
      let is : numbers-due shape events shard ≡ items ++ more.0 = more.1 ∙ ap (λ ns. ns ++ more.0) kept in
      sym (ap (take (length items)) is ∙ take-append_seam items more.0)

  pub no-more : (shard : ℕ) (w : View (QueueEntry L D l d)) (items : List ℕ) → w.about ≡ shard → AreDue shape events w.about w.popped
      → numbers_in w.popped ≡ items → length items ≤ length (tasks_of shape shard events)
  no-more shard w items of due kept =
      let more = items-begin shard w.popped (numbers-due shape events shard) (due-now shard w of due) in
      let long = ap length more.1 ∙ length-append (numbers_in w.popped) more.0 in
      let same = ap length kept in
      let many = length-map (tasks_of shape shard events) (λ t. t.number) in
      omega (arith, long, many, same)

-- there is room for one more
pub room-for : (len : ℕ) (items : List ℕ) (number tasks capacity : ℕ) → len ≡ length items
    → length (items ++ number ∷ []) ≤ tasks → tasks ≤ capacity → len < capacity
room-for len items number tasks capacity is few room = let long = length-append items (number ∷ []) in omega (arith, is, few, room, long)

pub room-kept : (tasks capacity after : ℕ) → after ≡ capacity → tasks ≤ capacity → tasks ≤ after
room-kept tasks capacity after same room = omega arith

-- the first of a shard's numbers are no more than its tasks
pub no-longer : (shape : Shape) (events : List Event) (shard : ℕ) (items : List ℕ)
    → items ≡ take (length items) (numbers-due shape events shard) → length items ≤ length (tasks_of shape shard events)
no-longer shape events shard items first =
    let few = length-take (length items) (numbers-due shape events shard) in
    let long = ap length first in
    let many = length-map (tasks_of shape shard events) (λ t. t.number) in
    omega (arith, few, long, many)
