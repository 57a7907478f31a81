-- What the counts of a shard's checks and repairs add up to (md(4): a check reads every row of the array).
use Rattle.std.specs.Prelude.{◌≡◌, ℕ, ◌+◌, ◌-◌, ◌≤◌, ◌⊎◌, List, [], ◌∷◌, All, true, false, Option, Some, None}
use Rattle.r6_layout.specs.Shape.{Shape}
use Rattle.r6_layout.specs.Layout.{first_row}
use Rattle.r6_world.specs.ShardStates.{limit}
use Rattle.r6_core.specs.declared.counts.Counts.{Counts}
use Rattle.r6_core.specs.Shards.{CoreView, counts_of, world_shard}
use Rattle.r6_shard.specs.Counted.{HasPassedRows, IsInService, PassesMore, counted_in, rows_of}
use Rattle.r6_shard.specs.Refusing.{CountsRise, Lasts}
use Rattle.r6_shard.specs.declared.performs.Performs.{Ghosts}
use Rattle.r6_engine.specs.declared.runner.scrub.ScrubUnderWay.{ScrubUnderWay}
use Rattle.r6_engine.specs.declared.runner.scrub.ScrubDone.{ScrubDone}
use Rattle.r6_engine.specs.declared.runner.runner.Runner.{Runner}
use Rattle.r6_engine.specs.runner.Classes.{classed_in}

-- as many rows as a shard has
abbrev pub rows_of_shard : Shape → (shard : ℕ) → ℕ
rows_of_shard shape shard = first_row shape (shard + 1) - first_row shape shard

-- the rows of each class, and those that were skipped
abbrev pub rows_in : Counts → ℕ
rows_in k = k.consistent + k.wrong_p + k.wrong_q + k.wrong_data + k.many + k.skipped

-- the shard has given 2^60 tokens, or counted as many rows: it takes up no row more
abbrev pub IsUsedUp : CoreView → Type 0
IsUsedUp core = (limit ≤ (world_shard core).tokens) ⊎ (limit ≤ counted_in core)

-- each check or repair begins where the one before it ended, and counts each row of the shard, but those that it left
-- out: so from one number of rows they add up to the other
abbrev pub AddUp : (rows from : ℕ) → List ScrubDone → (to : ℕ) → Type 0
AddUp rows from [] to = to ≡ from
AddUp rows from (p ∷ passed) to =
    (rows_in p.before ≡ from) × (rows_in p.after + p.left_out ≡ rows_in p.before + rows)
    × AddUp rows (rows_in p.after) passed to

-- it left none out, or the shard is used up
abbrev pub LeavesNoneOut : CoreView → ScrubDone → Type 0
LeavesNoneOut core p = (p.left_out ≡ 0) ⊎ IsUsedUp core

-- in service a shard has counted what its checks and repairs add up to
abbrev pub AreCounted : (rows : ℕ) → CoreView → List ScrubDone → Type 0
AreCounted rows core passed =
    IsInService core → AddUp rows 0 passed (counted_in core) × All (LeavesNoneOut core) passed

-- of each check and repair the rows that it classed and those that it skipped are the rows of the shard, also once its
-- service has ended
abbrev pub AreClassed : (rows : ℕ) → List ScrubDone → Type 0
AreClassed rows passed = All (λ p. classed_in p.before p.after + p.skipped ≡ rows) passed

-- ---- while they are made

-- of the shard's rows so many are left to a check or repair, and it has gone over the others
pub record IsUnderWay (rows gone : ℕ) (core : CoreView) (p : ScrubUnderWay) : Type 0 where
  pub one : rows_of p.task ≡ 1
  pub left : rows_in p.before + rows ≡ gone + p.left
  pub ended : p.given_up ≡ true → IsUsedUp core

-- in service or not, it has gone over no more of them, and no count has fallen since
pub record IsWithin (rows : ℕ) (core : CoreView) (p : ScrubUnderWay) : Type 0 where
  pub one : rows_of p.task ≡ 1
  pub counted : ℕ
  pub gone : ℕ
  pub passes : HasPassedRows false counted gone core
  pub left : gone + p.left ≡ rows_in p.before + rows
  pub rise : CountsRise (counts_of p.before) (world_shard core).counts

abbrev pub AreWithin : (rows : ℕ) → CoreView → Option ScrubUnderWay → Type 0
AreWithin rows core None = Unit {0}
AreWithin rows core (Some p) = IsWithin rows core p

abbrev pub StandsAt : (rows gone : ℕ) → CoreView → List ScrubDone → Option ScrubUnderWay → Type 0
StandsAt rows gone core passed None = AddUp rows 0 passed gone
StandsAt rows gone core passed (Some p) = AddUp rows 0 passed (rows_in p.before) × IsUnderWay rows gone core p

-- so many rows were gone over, and so many of them are counted, or more: all, unless a check or repair is under way
pub record IsCounting (rows counted gone : ℕ) (core : CoreView) (scrub : Option ScrubUnderWay) (passed : List ScrubDone)
    : Type 0 where
  pub passes : HasPassedRows false counted gone core
  pub all : scrub ≡ None → counted ≡ gone
  pub stands : IsInService core → StandsAt rows gone core passed scrub
  pub whole : IsInService core → All (LeavesNoneOut core) passed
  pub within : AreWithin rows core scrub
  pub classed : AreClassed rows passed

abbrev pub HasCounted : {P D : Type 0} {g : Ghosts P} → (rows : ℕ) → Runner P D g → Type 0
HasCounted rows runner =
    (runner.rows ≡ rows)
    × (counted gone : ℕ) × IsCounting rows counted gone runner.shard.core runner.scrub runner.scrubs_done.items

-- whatever was counted before, it was counted on
abbrev pub KeepsCounted : {P D : Type 0} {g : Ghosts P} → (old new : Runner P D g) → Type 0
KeepsCounted old new = (rows : ℕ) → HasCounted rows old → HasCounted rows new

-- a check or repair went on: so many rows less are left to it
pub record HasTurned (old new : ScrubUnderWay) (core core' : CoreView) : Type 0 where
  pub event : new.event ≡ old.event
  pub task : new.task ≡ old.task
  pub before : new.before ≡ old.before
  pub more : ℕ
  pub passes : PassesMore more core core'
  pub lasts : Lasts core core'
  pub left : rows_of old.task ≡ 1 → old.left ≡ new.left + more
  pub ended : new.given_up ≡ true → IsInService core' → IsUsedUp core'
