-- Which row a shard rebuilds next.
use Rattle.std.specs.Prelude.{◌≡◌, ℕ, ◌<◌, nat_le, ◌&&◌, not, Bool, false}
use Rattle.r6_world.specs.Tables.{count_below}
use Rattle.r6_world.specs.Layouts.{Layout, IsRowOf}
use Rattle.r6_world.specs.ShardStates.{IsBuiltOn, NotHeld}
use Rattle.r6_core.specs.Shards.{CoreView, core_layout, world_shard}

-- how many rows of shard n before this row, which is one of them, are not built
abbrev pub unbuilt_before : Layout → (n : ℕ) → (built : ℕ → Bool) → (row : ℕ) → ℕ
unbuilt_before l n built row = count_below (λ other. nat_le (l.first_row n) other && not (built other)) row

-- the row could be rebuilt now on the new device of the slot: it is among the first rows of the shard that are not
-- built there, as many as the window, and it isn't held
pub record MayRebuild (core : CoreView) (window slot generation row : ℕ) : Type 0 where
  pub there : slot < core.shape.slots
  pub built : ℕ → Bool
  pub device : IsBuiltOn ((world_shard core).slot slot) generation built
  pub own : IsRowOf (core_layout core) core.shard row
  pub unbuilt : built row ≡ false
  pub near : unbuilt_before (core_layout core) core.shard built row < window
  pub unheld : NotHeld (world_shard core) row

-- the row that is rebuilt next: of the lowest slot that has such a row it is the first
pub record IsNextRebuild (core : CoreView) (window slot generation row : ℕ) : Type 0 where
  pub may : MayRebuild core window slot generation row
  pub lowest : (other another earlier : ℕ) → other < slot → MayRebuild core window other another earlier → ⊥
  pub first : (another earlier : ℕ) → earlier < row → MayRebuild core window slot another earlier → ⊥

-- no slot has such a row
abbrev pub NoneToRebuild : CoreView → (window : ℕ) → Type 0
NoneToRebuild core window = (slot generation row : ℕ) → MayRebuild core window slot generation row → ⊥
