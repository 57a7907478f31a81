-- Parts of devices, in a list and as they are taken up.
use Rattle.std.specs.Prelude.{◌≡◌, ℕ, ◌==◌, ◌&&◌, Bool, List, [], ◌∷◌, ◌++◌, map, if◌then◌else◌, Option, Some, None, option_map, unwrap_or}
use Rattle.r6_dev.specs.History.{Telling}
use Rattle.r6_dev.specs.Promises.{Promise, no_promise}
use Rattle.r6_course.specs.Steps.{OthersAreKept}
use Rattle.r6_exchange.specs.Answering.{promise_if}
use Rattle.r6_exchange.specs.declared.task.Part.{Part}
use Rattle.r6_shard.specs.Performing.{Performer}

-- the part is that of this slot, of the device of this generation
abbrev pub is_of : {D : Type 0} → (slot generation : ℕ) → Part D → Bool
is_of slot generation part = (part.slot == slot) && (part.generation == generation)

-- what the part of a slot and generation tells, if it is there
abbrev pub part_in : {D : Type 0} → (D → Telling) → List (Part D) → (slot generation : ℕ) → Option Telling
part_in told [] slot generation = None
part_in told (part ∷ parts) slot generation =
    if is_of slot generation part then Some (told part.device) else part_in told parts slot generation

-- that part
abbrev pub part_of : {D : Type 0} → List (Part D) → (slot generation : ℕ) → Option (Part D)
part_of [] slot generation = None
part_of (part ∷ parts) slot generation =
    if is_of slot generation part then Some part else part_of parts slot generation

-- of which slot and generation each is
abbrev pub label_of : {D : Type 0} → Part D → ℕ × ℕ
label_of part = (part.slot, part.generation)

-- the same of each part, in their order
abbrev pub labels_of : {D : Type 0} → List (Part D) → List (ℕ × ℕ)
labels_of parts = map label_of parts

-- what it promises
abbrev pub promise_in : {D : Type 0} → (D → Promise) → List (Part D) → (slot generation : ℕ) → Promise
promise_in promised parts slot generation =
    unwrap_or (option_map (λ part. promised part.device) (part_of parts slot generation)) no_promise

-- one part more stands after the others, or that which came back stood where the new one stands
abbrev pub StandsIn : {D : Type 0} → Part D → (earlier : Option (Part D)) → (old new : List (ℕ × ℕ)) → Type 0
StandsIn part None old new = new ≡ old ++ label_of part ∷ []
StandsIn part (Some earlier) old new = (label_of earlier ≡ label_of part) × (new ≡ old)

-- a part is taken up: from now on it is the one of its slot and generation, with what its device tells and, where its
-- slot is served to the last command, promises, and no other changes
pub record TakesIn {D : Type 0} (told : D → Telling) (promised : D → Promise) (part : Part D)
    (earlier : Option (Part D)) (old new : Performer) : Type 0 where
  pub labels : StandsIn part earlier old.labels new.labels
  pub tells : new.tells part.slot part.generation ≡ Some (told part.device)
  pub promises : new.promised part.slot part.generation ≡ promise_if (old.steady part.slot) (promised part.device)
  pub steady : new.steady ≡ old.steady
  pub others : OthersAreKept part.slot part.generation old.tells new.tells
  pub still : (other g : ℕ) → ((other ≡ part.slot) × (g ≡ part.generation) → ⊥)
      → new.promised other g ≡ old.promised other g
  pub part_room : new.part_room ≡ old.part_room
  pub out : new.out ≡ old.out

-- a part is put into a list: from now on it is the one of its slot and generation, no other changes, and back comes the
-- one that was there
pub record PutsIn {D : Type 0} (part : Part D) (earlier : Option (Part D)) (old new : List (Part D)) : Type 0 where
  pub back : earlier ≡ part_of old part.slot part.generation
  pub labels : StandsIn part earlier (labels_of old) (labels_of new)
  pub there : part_of new part.slot part.generation ≡ Some part
  pub kept : (other g : ℕ) → ((other ≡ part.slot) × (g ≡ part.generation) → ⊥)
      → part_of new other g ≡ part_of old other g
