-- What the passes of an array's shards did and saw at the register.
use Rattle.std.specs.Prelude.{◌≡◌, ℕ, List, All, true, slice_get, Some}
use Rattle.std.specs.List.{AllZip, Contains}
use Rattle.r6_health.specs.declared.history.View.{View}
use Rattle.r6_health.specs.declared.register.Register.{Register}
use Rattle.r6_health.specs.Histories.{IsLegal, StartsWith, calls_by, held}
use Rattle.r6_health.specs.Passes.{IsPassOf, view_of}
use Rattle.r6_health.specs.Views.{NoneUngiven}
use Rattle.r6_world.specs.PlainArray.{ArrayFailed}
use Rattle.r6_world.specs.Registers.{Snapshot}
use Rattle.r6_world.specs.Values.{reply_of}
use Rattle.r6_core.specs.Shards.{world_shard}
use Rattle.r6_shard.specs.Own.{AreOwn}
use Rattle.r6_shard.specs.declared.performs.Performs.{Ghosts}
use Rattle.r6_engine.specs.declared.feed.answer.EventAnswer.{EventAnswer}
use Rattle.r6_engine.specs.feed.Feeds.{WereTold}
use Rattle.r6_engine.specs.declared.runner.runner.Runner.{Runner}
use Rattle.r6_engine.specs.runner.Going.{TakesNoMore}
use Rattle.r6_engine.specs.runner.Learning.{KeepsAllElse}
use Rattle.r6_engine.specs.runner.Runners.{IsOver}

-- a shard declared lost none but slots that its ledger names, and reported the rows of no shard but itself as rebuilt:
-- it made no other calls
abbrev pub CallAsTheyMay : {P D : Type 0} {g : Ghosts P} → List (Runner P D g) → Type 0
CallAsTheyMay {P = P} {D = D} {g = g} runners =
    (shard : ℕ) (runner : Runner P D g) → slice_get runners shard ≡ Some runner
    → AreOwn shard runner.shard.named (view_of runner.shard.pass).mine

-- what a shard saw or answered of the array's failure shows in this snapshot
pub record IsShown {P D : Type 0} {g : Ghosts P} (snapshot : Snapshot) (runner : Runner P D g) : Type 0 where
  pub seen : (world_shard runner.shard.core).saw_failed ≡ true → snapshot.failed ≡ true
  pub answered : All (λ entry. reply_of entry.reply ≡ ArrayFailed → snapshot.failed ≡ true) runner.shard.entries.items

-- ---- passes that are taken back

-- the pass made no call, and what it was told stays told
pub record TakesBack (v w : View) : Type 0 where
  pub mine : w.mine ≡ v.mine
  pub told : (first : View) (answers : List EventAnswer) → WereTold first answers v → WereTold first answers w

-- the pass that read last has seen all that the shard's has
abbrev pub IsSeen : {P D : Type 0} {g : Ghosts P} → (last : View) → Runner P D g → Type 0
IsSeen last runner =
    (last.start ≡ (view_of runner.shard.pass).start) × StartsWith last.seen (view_of runner.shard.pass).seen

-- what the shard's pass has seen will be in each history that this one reads
abbrev pub IsHeard : {P D : Type 0} {g : Ghosts P} → Register → (by : View) → Runner P D g → Type 0
IsHeard register by runner =
    IsPassOf register runner.shard.pass × Contains by.heard (view_of runner.shard.pass).seen

-- ---- one history of all passes

-- of the calls that the pass has seen, its own are those under its name, and no call is under a name that it has yet to
-- give, or below such a one
pub record HasItsCalls (v : View) : Type 0 where
  pub legal : IsLegal v.start v.seen
  pub own : calls_by v.name v.seen ≡ v.mine
  pub ungiven : NoneUngiven v.name v.next v.seen

-- the calling thread's pass has seen all that the shard's had seen, all of its calls, and no call under a name that it
-- has yet to give
pub record IsKnownTo {P D : Type 0} {g : Ghosts P} (last : View) (runner : Runner P D g) : Type 0 where
  pub seen : IsSeen last runner
  pub calls : calls_by (view_of runner.shard.pass).name last.seen ≡ (view_of runner.shard.pass).mine
  pub ungiven : NoneUngiven (view_of runner.shard.pass).name (view_of runner.shard.pass).next last.seen

-- These shards went on from those, until nothing was left to do of them and the calling thread's pass, which had known
-- this first, knew all of their calls: so the register held this. Since then no more changed than what their passes know
pub record KnowAll {P D : Type 0} {g : Ghosts P} (olds : List (Runner P D g)) (first : View) (snapshot : Snapshot)
    (news : List (Runner P D g)) : Type 0 where
  pub last : View
  pub between : List (Runner P D g)
  pub goes : AllZip TakesNoMore olds between
  pub over : All IsOver between
  pub kept : AllZip KeepsAllElse between news
  pub back : TakesBack first last
  pub has : HasItsCalls last
  pub known : All (IsKnownTo last) between
  pub held : snapshot ≡ held last.start last.seen
