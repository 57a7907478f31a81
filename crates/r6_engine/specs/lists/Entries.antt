-- What stands in the queue of a shard (this project's own).
use Rattle.std.specs.Prelude.{◌≡◌, ℕ, ⊤, List, [], ◌∷◌, Bool, true, false}
use Rattle.r6_layout.specs.Shape.{Shape}
use Rattle.r6_engine.specs.declared.lists.entry.QueueEntry.{QueueEntry}
use Rattle.r6_engine.specs.declared.lists.entry.QueueEntry.TheVariants.{Given, End}
use Rattle.r6_engine.specs.lists.Events.{Event, numbers_of, tasks_of}

module _ {L D : Type 0} {l : _} {d : _} where
  -- the numbers of the items
  abbrev pub numbers_in : List (QueueEntry L D l d) → List ℕ
  numbers_in [] = []
  numbers_in (Given item ∷ entries) = item.number ∷ numbers_in entries
  numbers_in (End ∷ entries) = numbers_in entries

  abbrev pub has_end : List (QueueEntry L D l d) → Bool
  has_end [] = false
  has_end (Given item ∷ entries) = has_end entries
  has_end (End ∷ entries) = true

  -- They are items of this shard with these numbers, from the first on and none left out; the end stands after all of
  -- these, and nothing after the end
  abbrev pub AreItems : (shard : ℕ) → List (QueueEntry L D l d) → (numbers : List ℕ) → Type 0
  AreItems shard [] numbers = ⊤
  AreItems shard (End ∷ entries) [] = entries ≡ []
  AreItems shard (End ∷ entries) (number ∷ numbers) = ⊥
  AreItems shard (Given item ∷ entries) [] = ⊥
  AreItems shard (Given item ∷ entries) (number ∷ numbers) =
      (item.number ≡ number) × (item.shard ≡ shard) × AreItems shard entries numbers

  -- what may pass through the queue of a shard: its tasks, and then the end
  abbrev pub AreDue : Shape → List Event → (shard : ℕ) → List (QueueEntry L D l d) → Type 0
  AreDue shape events shard entries = AreItems shard entries (numbers_of (tasks_of shape shard events))
