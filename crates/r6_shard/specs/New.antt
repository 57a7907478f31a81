-- Whether the parts of new devices are here (this project's own).
use Rattle.std.specs.Prelude.{◌≡◌, ℕ, List, Option}
use Rattle.r6_dev.specs.History.{Telling}
use Rattle.r6_world.specs.Registers.{Snapshot, Status, InSync, Lost, Rebuilding, Replacing, status_of}
use Rattle.r6_shard.specs.Performing.{HasPart, IsHere}

-- the slot has a new device of this generation, which is built
abbrev pub IsNew : Status → (generation : ℕ) → Type 0
IsNew (InSync current) generation = ⊥
IsNew Lost generation = ⊥
IsNew (Rebuilding current reported) generation = generation ≡ current
IsNew (Replacing old new reported) generation = generation ≡ new

-- the part of the slot's new device is here, if one is built
abbrev pub HasNewHere : (labels : List (ℕ × ℕ)) → Snapshot → (slot : ℕ) → Type 0
HasNewHere labels snapshot slot =
    (generation : ℕ) → IsNew (status_of snapshot slot) generation → IsHere labels slot generation

abbrev pub HasNew : (ℕ → ℕ → Option Telling) → Snapshot → (slot : ℕ) → Type 0
HasNew part snapshot slot =
    (generation : ℕ) → IsNew (status_of snapshot slot) generation → HasPart part slot generation

-- in this state the slot has a new device whose part isn't here
abbrev pub LacksNew : (labels : List (ℕ × ℕ)) → (slot : ℕ) → Status → Type 0
LacksNew labels slot state =
    (generation : ℕ) × IsNew state generation × (IsHere labels slot generation → ⊥)

abbrev pub MissesPart : (labels : List (ℕ × ℕ)) → Snapshot → Type 0
MissesPart labels snapshot = (slot : ℕ) × LacksNew labels slot (status_of snapshot slot)
