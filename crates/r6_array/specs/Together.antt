-- Requests that are handed in together: a shard takes as many as it can, one after another, and only then does what waits
-- start.
use Rattle.std.specs.Prelude.{◌≡◌, ℕ, ◌+◌, ◌≤◌, ◌<◌, ◌⊎◌, List, [], ◌∷◌, ◌++◌, length, map, false, Some, None}
use Rattle.std.specs.FinMap as finite
use Rattle.std.specs.FinMap.{FinMap}
use Rattle.std.specs.Ordering.{nat_cmp}
use Rattle.r6_layout.specs.Shape.{blocks}
use Rattle.r6_tables.specs.Table.{Numbered, capacity_of, next_of, entries_of}
use Rattle.r6_world.specs.Steps as steps
use Rattle.r6_world.specs.Values.{op_of}
use Rattle.r6_core.specs.declared.refusal.Refusal.TheVariants.{NoSuchBlock}
use Rattle.r6_core.specs.declared.submitting.Submitted.{Submitted}
use Rattle.r6_core.specs.Together.{SubmitsAll}
use Rattle.r6_core.specs.Runs as runs
use Rattle.r6_array.specs.declared.handed_in.HandedIn.{HandedIn}
use Rattle.r6_array.specs.Arrays.{ShardView, ArrayView, Has, with_shard}
use Rattle.r6_array.specs.Effects.{shard_of_block, block_asked}
use Rattle.r6_array.specs.Requests.{Named, ops_of, names_of}
use Rattle.r6_array.specs.Runs.{GoesOn}
use Rattle.r6_array.specs.Handles.{HandleView, core_in, number_of}
use Rattle.r6_array.specs.HandleRuns.{GoesOnAway}

-- requests have the numbers from this one on, and are called by these names
abbrev pub all_named : FinMap nat_cmp ℕ → (first : ℕ) → List ℕ → FinMap nat_cmp ℕ
all_named names first [] = names
all_named names first (name ∷ more) = all_named (finite.insert names first name) (first + 1) more

-- the next numbers of a table get these names
abbrev pub with_named : Numbered ℕ → List ℕ → Numbered ℕ
with_named names named =
    (capacity_of names, (next_of names + length named, all_named (entries_of names) (next_of names) named))

-- none of the next numbers has a name yet
abbrev pub AreFresh : Numbered ℕ → Type 0
AreFresh names = (id : ℕ) → next_of names ≤ id → finite.get (entries_of names) id ≡ None

-- The core of a shard takes the first requests of a list, whose callers call them by their names; with none taken
-- nothing changes
pub record TakesAllIn (old : ShardView) (requests left : List Named) (submitted : Submitted) (new : ShardView) : Type 0 where
  pub taken : List Named
  pub split : requests ≡ taken ++ left
  pub submits : SubmitsAll old.core (ops_of requests) (ops_of left) submitted new.core
  pub named : new.names ≡ all_named old.names submitted.first.0 (names_of taken)
  pub settled : 0 < submitted.count → new.settled ≡ false
  pub none : submitted.count ≡ 0 → new ≡ old

-- what a caller is told of them
abbrev pub handed_in : Submitted → HandedIn
handed_in submitted = record { count = submitted.count; refusal = submitted.refusal }

-- ---- of an array

-- its shard of this number takes the first requests of the list
pub record SubmitsTo (old : ArrayView) (n : ℕ) (requests left : List Named) (told : HandedIn) (new : ArrayView) : Type 0 where
  pub was : ShardView
  pub there : Has old n was
  pub now : ShardView
  pub submitted : Submitted
  pub told_is : told ≡ handed_in submitted
  pub taken : TakesAllIn was requests left submitted now
  pub new_is : new ≡ with_shard old n now
  pub run : 0 < submitted.count → GoesOn old
      (runs.Call n (steps.Submit_all (map op_of taken.submits.taken) submitted.first.0) now.core ∷ []) new
  pub none : submitted.count ≡ 0 → new ≡ old

-- no request is taken, and nothing changes
abbrev pub TakesNone : ArrayView → (requests left : List Named) → ArrayView → Type 0
TakesNone old requests left new = (left ≡ requests) × (new ≡ old)

-- the shard that has the block of the first one takes the first requests of the list
abbrev pub SubmitsList : ArrayView → (requests left : List Named) → HandedIn → ArrayView → Type 0
SubmitsList old [] left told new = TakesNone old [] left new × (told ≡ record { count = 0; refusal = None })
SubmitsList old (first ∷ others) left told new =
    ((blocks old.shape ≤ block_asked first.0) × TakesNone old (first ∷ others) left new
    × (told ≡ record { count = 0; refusal = Some NoSuchBlock }))
    ⊎ ((block_asked first.0 < blocks old.shape)
    × SubmitsTo old (shard_of_block old.shape (block_asked first.0)) (first ∷ others) left told new)

-- ---- of a handle

-- its shard takes the first requests of the list
pub record HandleTakesAllIn (old : HandleView) (requests left : List Named) (told : HandedIn) (new : HandleView) : Type 0 where
  pub submitted : Submitted
  pub told_is : told ≡ handed_in submitted
  pub taken : TakesAllIn old.shard requests left submitted new.shard
  pub at_work : new.at_work ≡ old.at_work
  pub run : 0 < submitted.count → GoesOnAway old
      (runs.Call (number_of old) (steps.Submit_all (map op_of taken.submits.taken) submitted.first.0) (core_in new) ∷ [])
      new
  pub none : submitted.count ≡ 0 → new ≡ old
