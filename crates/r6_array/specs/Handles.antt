-- A handle of one shard: its core, for a program whose shards are in threads of their own (this project's own).
use Rattle.std.specs.Prelude.{◌≡◌, ℕ, List, refl, replicate}
use Rattle.r6_layout.specs.Shape.{Shape}
use Rattle.r6_world.specs.Registers.{Snapshot}
use Rattle.r6_core.specs.Shards.{CoreView}
use Rattle.r6_array.specs.Arrays.{ShardView, ShardFields, shard_fields, shard_of_fields}
use Rattle.r6_array.specs.Members.{IsNewMember}

-- The shard of the handle, which is settled if its last event, takings aside, was a look at the register as it was then
pub record HandleView : Type 0 where
  pub shard : ShardView
  pub at_work : List ℕ  -- by slot: the commands that were handed out and not delivered

-- the core of the handle's shard
abbrev pub core_in : HandleView → CoreView
core_in h = h.shard.core

-- which shard of the array the handle is of
abbrev pub number_of : HandleView → ℕ
number_of h = (core_in h).shard

-- the shard is as it is made with this register, with no command at work
pub record IsNewHandle (shape : Shape) (register : Snapshot) (n window : ℕ) (h : HandleView) : Type 0 where
  pub shard : IsNewMember shape register n window h.shard
  pub idle : h.at_work ≡ replicate 32 0

-- as a tuple of its fields, by which a proof tells handles apart
abbrev pub HandleFields : Type 0
HandleFields = ShardFields × List ℕ

abbrev pub handle_fields : HandleView → HandleFields
handle_fields h = (shard_fields h.shard, h.at_work)

abbrev pub handle_of_fields : HandleFields → HandleView
handle_of_fields f = record { shard = shard_of_fields f.0; at_work = f.1 }
