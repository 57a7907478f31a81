-- What a shard calls at the register, and where it takes the array as failed.
use Rattle.std.specs.Prelude.{◌≡◌, ◌==◌, ℕ, Bool, true, false, List, All, slice_index_or, Some}
use Rattle.r6_health.specs.declared.call.Call.{Call}
use Rattle.r6_health.specs.declared.call.Call.TheVariants.{DeclareLost, ReportRebuilt}
use Rattle.r6_health.specs.declared.history.OwnCall.{OwnCall}
use Rattle.r6_health.specs.declared.history.View.{View}
use Rattle.r6_health.specs.Histories.{held}
use Rattle.r6_world.specs.PlainArray.{Op, ArrayFailed}
use Rattle.r6_world.specs.ShardStates.{Shard, Stage}
use Rattle.r6_world.specs.Refusals.{IsFailure}
use Rattle.r6_world.specs.Values.{reply_of}
use Rattle.r6_core.specs.Shards.{CoreView, world_shard}
use Rattle.r6_shard.specs.declared.ledger.Entry.{Entry}

-- the call declares a slot lost that is named, or reports that this shard has rebuilt its rows of one
abbrev pub is_own : (number : ℕ) → (named : List Bool) → Call → Bool
is_own number named (DeclareLost slot generation) = slice_index_or named slot false
is_own number named (ReportRebuilt shard slot generation) = shard == number
is_own number named call = false

-- the calls of a shard's pass are no others
abbrev pub AreOwn : (number : ℕ) → (named : List Bool) → List OwnCall → Type 0
AreOwn number named mine = All (λ made. is_own number named made.call ≡ true) mine

-- the register was failed when the pass saw it last
abbrev pub HasFailed : View → Type 0
HasFailed v = (held v.start v.seen).failed ≡ true

-- a request is answered so, or is to be, only where the shard saw the failure
abbrev pub FailsWhenSeen : Shard → Type 0
FailsWhenSeen shard =
    (id : ℕ) (op : Op) (stage : Stage) → shard.request id ≡ Some (record { op = op; stage = stage })
    → IsFailure stage → shard.saw_failed ≡ true

-- A shard sees the failure only where its pass saw the register failed, and answers so only once it saw it
pub record SeesFailure (core : CoreView) (v : View) (entries : List Entry) : Type 0 where
  pub there : (world_shard core).saw_failed ≡ true → HasFailed v
  pub waiting : FailsWhenSeen (world_shard core)
  pub answered : All (λ entry. reply_of entry.reply ≡ ArrayFailed → (world_shard core).saw_failed ≡ true) entries
