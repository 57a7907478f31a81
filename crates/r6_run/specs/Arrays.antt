-- An array as it begins (this project's own).
use Rattle.std.specs.Prelude.{◌≡◌, ℕ, zero, suc, ◌+◌, ◌*◌, cond, List, [], ◌∷◌, drop, map, take, Option, None, Some}
use Rattle.std.specs.List.{range_with_len}
use Rattle.r6_offline.specs.Parts.{is_lost}
use Rattle.r6_exchange.specs.declared.task.Part.{Part}
use Rattle.r6_shard.specs.declared.parts.Parts.{Parts}

-- which of the slots from one on are lost, so many, a bit each, the lowest for the first
abbrev pub mask_from : (lost : List ℕ) → (slot count : ℕ) → ℕ
mask_from lost slot zero = 0
mask_from lost slot (suc count) = 2 * mask_from lost (slot + 1) count + cond (is_lost lost slot) 1 0

abbrev pub mask_of : (slots : ℕ) → (lost : List ℕ) → ℕ
mask_of slots lost = mask_from lost 0 slots

-- of the devices of the slots from one on, those that are there, each the first that its slot has
abbrev pub parts_from : {D : Type 0} → (slot : ℕ) → List (Option D) → List (Part D)
parts_from slot [] = []
parts_from slot (None ∷ devices) = parts_from (slot + 1) devices
parts_from slot (Some device ∷ devices) =
    record { slot = slot; generation = 0; device = device } ∷ parts_from (slot + 1) devices

-- a shard's parts, of those of all shards and slots: first those of shard 0, by slot
abbrev pub parts_at : {D : Type 0} → (slots : ℕ) → List (Option D) → (shard : ℕ) → List (Part D)
parts_at slots devices shard = parts_from 0 (take slots (drop (shard * slots) devices))

-- each shard has its parts
abbrev pub AreGiven : {D : Type 0} → (shards slots : ℕ) → List (Option D) → List (Parts D) → Type 0
AreGiven shards slots devices parts =
    map (λ shard. shard.parts.items) parts ≡ map (parts_at slots devices) (range_with_len 0 shards)
