-- An array as its callers see it: the cores of its shards and its register, in one thread (this project's own).
use Rattle.std.specs.Prelude.{◌≡◌, ℕ, List, [], ◌∷◌, map, Bool, Option, Some, None, slice_get, slice_set, refl}
use Rattle.std.proofs.Common.{ap}
use Rattle.std.specs.Ordering.{nat_cmp}
use Rattle.std.specs.FinMap.{FinMap}
use Rattle.r6_layout.specs.Shape.{Shape}
use Rattle.r6_world.specs.Registers.{Snapshot}
use Rattle.r6_world.specs.ShardStates as shards
use Rattle.r6_core.specs.Shards.{CoreView, Fields, fields, of_fields}

-- a shard of an array
pub record ShardView : Type 0 where
  pub core : CoreView
  pub names : FinMap nat_cmp ℕ  -- what their callers call the requests whose replies weren't taken
  pub settled : Bool  -- its last event, takings aside, was a look at the register, which is as it was then

-- an array as its callers see it, all in one thread: its register and each shard; what the devices have is no part of
-- it
pub record ArrayView : Type 0 where
  pub shape : Shape
  pub register : Snapshot
  pub shards : List ShardView  -- from shard 0 on
  pub at_work : List ℕ  -- by slot: the commands that were handed out and not delivered

-- the shard of this number
abbrev pub Has : ArrayView → ℕ → ShardView → Type 0
Has a n s = slice_get a.shards n ≡ Some s

-- the array with another shard in the place of one
abbrev pub with_shard : ArrayView → ℕ → ShardView → ArrayView
with_shard a n s = record a { shards = slice_set a.shards n s }

-- the call that a shard makes next at the register
abbrev pub first_of : List shards.Call → Option shards.Call
first_of [] = None
first_of (call ∷ calls) = Some call

-- both as tuples of their fields, by which a proof tells arrays apart
abbrev pub ShardFields : Type 0
ShardFields = Fields × (FinMap nat_cmp ℕ × Bool)

abbrev pub shard_fields : ShardView → ShardFields
shard_fields s = (fields s.core, (s.names, s.settled))

abbrev pub shard_of_fields : ShardFields → ShardView
shard_of_fields f = record { core = of_fields f.0; names = f.1.0; settled = f.1.1 }

abbrev pub ArrayFields : Type 0
ArrayFields = Shape × (Snapshot × (List ShardFields × List ℕ))

abbrev pub array_fields : ArrayView → ArrayFields
array_fields a = (a.shape, (a.register, (map shard_fields a.shards, a.at_work)))

abbrev pub array_of_fields : ArrayFields → ArrayView
array_of_fields f =
    record { shape = f.0; register = f.1.0; shards = map shard_of_fields f.1.1.0; at_work = f.1.1.1 }

pub same_shards : (shards : List ShardView) → map shard_of_fields (map shard_fields shards) ≡ shards
same_shards [] = refl
same_shards (s ∷ shards) = ap (λ others. s ∷ others) (same_shards shards)

pub same_array : (a : ArrayView) → array_of_fields (array_fields a) ≡ a
same_array a = ap (λ shards. record a { shards = shards }) (same_shards a.shards)
