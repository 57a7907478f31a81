-- What restoring blocks leaves.
use Rattle.std.specs.Prelude.{◌≡◌, ◌≢◌, ℕ, ◌-◌, ◌<◌, Bool, List, length, ⊤}
use Rattle.std.specs.List.{All}
use Rattle.r6_kernels.specs.Blocks.{AreLongBut}
use Rattle.r6_recover.specs.Rows.{block_at, block_length, IsFullRow, AgreeBut}
use Rattle.r6_recover.specs.Known.{IsKnown}
use Rattle.r6_recover.specs.declared.known.Missing.{Missing}
use Rattle.r6_recover.specs.declared.known.Missing.TheVariants.{None, One, Two, Many}

-- a block is that at x of every full row with which the row agrees but at x and y
abbrev pub IsRestored : ℕ → ℕ → ℕ → ℕ → List (List ℕ) → List ℕ → Type 0
IsRestored m len x y row block =
    (full : List (List ℕ)) → IsFullRow m len full → AgreeBut x y row full → block ≡ block_at full x

-- at most two positions of a row of so many are missing
abbrev pub MayMiss : ℕ → Missing → Type 0
MayMiss count None = ⊤
MayMiss count (One x) = x < count
MayMiss count (Two x y) = (x < y) × (y < count)
MayMiss count Many = ⊥

-- all blocks of a row have len bytes but those that are missing
abbrev pub AreLongButMissing : ℕ → Missing → List (List ℕ) → Type 0
AreLongButMissing len None row = All (λ block. length block ≡ len) row
AreLongButMissing len (One x) row = AreLongBut len x x row
AreLongButMissing len (Two x y) row = AreLongBut len x y row
AreLongButMissing len Many row = ⊤

-- of the missing positions the data are restored: the first block is that of the lower one, the second that of the
-- other
abbrev pub AreRestored : Missing → ℕ → ℕ → List (List ℕ) → List ℕ → List ℕ → Type 0
AreRestored None m len row first second = ⊤
AreRestored (One x) m len row first second = x < m → IsRestored m len x x row first
AreRestored (Two x y) m len row first second =
    (x < m → IsRestored m len x y row first) × (y < m → IsRestored m len y x row second)
AreRestored Many m len row first second = ⊤

-- block x becomes that of every full row with which the row agrees but at x and y; the other blocks are kept
pub record RestoresBlock (m len x y : ℕ) (old new : List (List ℕ)) : Type 0 where
  pub count : length new ≡ length old
  pub long : All (λ block. length block ≡ len) new
  pub kept : (position : ℕ) → position ≢ x → block_at new position ≡ block_at old position
  pub restored : IsRestored m len x y old (block_at new x)

-- blocks x and y become those of every full row with which the others agree; the others are kept
pub record Restores (m len x y : ℕ) (old new : List (List ℕ)) : Type 0 where
  pub count : length new ≡ length old
  pub long : All (λ block. length block ≡ len) new
  pub kept : (position : ℕ) → position ≢ x → position ≢ y → block_at new position ≡ block_at old position
  pub restored : (full : List (List ℕ)) → IsFullRow m len full → AgreeBut x y old full → (position : ℕ)
      → block_at new position ≡ block_at full position

-- two rows have the same blocks at all known positions
abbrev pub AgreeAtKnown : List Bool → List (List ℕ) → List (List ℕ) → Type 0
AgreeAtKnown known row other =
    (position : ℕ) → IsKnown known position → block_at row position ≡ block_at other position

-- the row becomes the full row that has the known blocks of the old one, wherever there is such a row
abbrev pub BecomesFullRow : List Bool → List (List ℕ) → List (List ℕ) → Type 0
BecomesFullRow known old new =
    (full : List (List ℕ)) → IsFullRow (length old - 2) (block_length old) full → AgreeAtKnown known old full
    → new ≡ full

-- the rows have as many blocks, of the same lengths
pub record HaveSameLengths (old new : List (List ℕ)) : Type 0 where
  pub count : length new ≡ length old
  pub each : (position : ℕ) → length (block_at new position) ≡ length (block_at old position)
