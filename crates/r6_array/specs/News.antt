-- An array as it is made (this project's own).
use Rattle.std.specs.Prelude.{◌≡◌, ℕ, ◌^◌, ◌≤◌, ◌<◌, ◌⊎◌, List, length, true, count_ones, Some, replicate, slice_get}
use Rattle.r6_layout.specs.Shape.{Shape}
use Rattle.r6_world.specs.Registers.{Snapshot}
use Rattle.r6_array.specs.declared.error.ArrayError.{ArrayError}
use Rattle.r6_array.specs.declared.error.ArrayError.TheVariants.{Window, Lost, NoMemory}
use Rattle.r6_array.specs.Arrays.{ShardView, ArrayView}
use Rattle.r6_array.specs.Members.{IsNewMember}

-- each shard is as it is made with this register
pub record AreNew (shape : Shape) (register : Snapshot) (window : ℕ) (shards : List ShardView) : Type 0 where
  pub count : length shards ≡ shape.shards
  pub made : (n : ℕ) (s : ShardView) → slice_get shards n ≡ Some s → IsNewMember shape register n window s

-- with no command at work
pub record IsNew (shape : Shape) (register : Snapshot) (window : ℕ) (a : ArrayView) : Type 0 where
  pub shape_is : a.shape ≡ shape
  pub register_is : a.register ≡ register
  pub shards : AreNew shape register window a.shards
  pub idle : a.at_work ≡ replicate 32 0

abbrev pub IsWindow : ℕ → Type 0
IsWindow window = (1 ≤ window) × (window ≤ 8)

-- at most two slots are lost, and none that the array hasn't
abbrev pub AreLost : Shape → ℕ → Type 0
AreLost shape lost = (count_ones lost ≤ 2) × (lost < 2 ^ shape.slots)

abbrev pub HasNoFault : Shape → (window lost : ℕ) → Type 0
HasNoFault shape window lost = IsWindow window × AreLost shape lost

-- why there is no array; memory may always be refused
abbrev pub HasFault : Shape → (window lost : ℕ) → ArrayError → Type 0
HasFault shape window lost Window = IsWindow window → ⊥
HasFault shape window lost Lost = IsWindow window × (AreLost shape lost → ⊥)
HasFault shape window lost NoMemory = HasNoFault shape window lost
HasFault shape window lost error = ⊥
