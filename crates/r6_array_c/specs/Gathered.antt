-- Requests that a program gathers, and hands in together.
use Rattle.std.specs.Prelude.{◌≡◌, ◌≢◌, ◌+◌, ℕ, Bool, List, [], ◌∷◌, ◌++◌, length, Option, Some, None}
use Rattle.r6_world.specs.declared.values.Op.{Op}
use Rattle.r6_core.specs.Refusals.{number_of, most_unanswered}
use Rattle.r6_core.specs.declared.refusal.Refusal.{Refusal}
use Rattle.r6_array.specs.Requests.{Named}
use Rattle.r6_array.specs.Together.{SubmitsList, HandleTakesAllIn}
use Rattle.r6_array.specs.declared.handed_in.HandedIn.{HandedIn}
use Rattle.r6_array_c.specs.declared.handle.Mail.{Mail}
use Rattle.r6_array_c.specs.declared.host.Host.{Host}
use Rattle.r6_array_c.specs.declared.shard_host.ShardHost.{ShardHost}
use Rattle.r6_array_c.specs.Blocks.{BlocksView, KeepsLengths, IsAsked, all_kept}
use Rattle.r6_array_c.specs.Numbers.{busy_now}

-- a request comes last, a write with what stood in the stage, and a spare buffer with it; or there is no room for it, or
-- no spare buffer
pub record GathersBy (was : List Named) (old : BlocksView) (block : ℕ) (is_write : Bool) (name answer : ℕ)
    (now : List Named) (new : BlocksView) : Type 0 where
  pub gathered : answer ≡ 0 → (o : Op) × IsAsked old.stage block is_write o × (now ≡ was ++ (o, name) ∷ [])
      × (length new.spare + 1 ≡ length old.spare)
  pub full : answer ≢ 0 → (answer ≡ busy_now) × (now ≡ was) × (length new.spare ≡ length old.spare)
  pub room : length old.spare ≢ 0 → length was ≢ most_unanswered → answer ≡ 0
  pub lengths : KeepsLengths old new

-- what a program is told: 0, or why the next one is refused
abbrev pub taken_number : Option Refusal → ℕ
taken_number None = 0
taken_number (Some refusal) = number_of refusal

-- ---- of an array

-- the array isn't asked
pub record HostGathers (old : Host) (block : ℕ) (is_write : Bool) (name answer : ℕ) (new : Host) : Type 0 where
  pub gathers : GathersBy old.gathered old.blocks block is_write name answer new.gathered new.blocks
  pub array : new.array ≡ old.array
  pub asked : new.asked ≡ old.asked

-- the array takes what is gathered, from the front on: how much of it is told, and the rest stays gathered
pub record HostHandsIn (old : Host) (answer : ℕ) (new : Host) (mail : Mail) : Type 0 where
  pub told : HandedIn
  pub handed : SubmitsList old.array old.gathered new.gathered told new.array
  pub count : mail.number ≡ told.count
  pub refusal : answer ≡ taken_number told.refusal
  pub asked : new.asked ≡ old.asked
  pub blocks : new.blocks ≡ old.blocks

-- nothing is gathered any more, and the buffers are spare again
pub record HostReleases (old : Host) (answer : ℕ) (new : Host) : Type 0 where
  pub answer_is : answer ≡ 0
  pub none : new.gathered ≡ []
  pub blocks : new.blocks ≡ all_kept old.blocks old.gathered
  pub array : new.array ≡ old.array
  pub asked : new.asked ≡ old.asked
  pub lengths : KeepsLengths old.blocks new.blocks

-- ---- of a shard

pub record ShardGathers (old : ShardHost) (block : ℕ) (is_write : Bool) (name answer : ℕ) (new : ShardHost) : Type 0 where
  pub gathers : GathersBy old.gathered old.blocks block is_write name answer new.gathered new.blocks
  pub shard : new.shard ≡ old.shard
  pub asked : new.asked ≡ old.asked

pub record ShardHandsIn (old : ShardHost) (answer : ℕ) (new : ShardHost) (mail : Mail) : Type 0 where
  pub told : HandedIn
  pub handed : HandleTakesAllIn old.shard old.gathered new.gathered told new.shard
  pub count : mail.number ≡ told.count
  pub refusal : answer ≡ taken_number told.refusal
  pub asked : new.asked ≡ old.asked
  pub blocks : new.blocks ≡ old.blocks

pub record ShardReleases (old : ShardHost) (answer : ℕ) (new : ShardHost) : Type 0 where
  pub answer_is : answer ≡ 0
  pub none : new.gathered ≡ []
  pub blocks : new.blocks ≡ all_kept old.blocks old.gathered
  pub shard : new.shard ≡ old.shard
  pub asked : new.asked ≡ old.asked
  pub lengths : KeepsLengths old.blocks new.blocks
