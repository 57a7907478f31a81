-- What a shard looked at (this project's own).
use Rattle.std.specs.Prelude.{◌≡◌, ◌⊎◌, ℕ, Bool, true, false}
use Rattle.r6_health.specs.Passes.{view_of}
use Rattle.r6_world.specs.Registers.{Snapshot}
use Rattle.r6_core.specs.Refusals.{AllTold, ReplacesOneOf}
use Rattle.r6_shard.specs.declared.performs.Performs.{Ghosts}
use Rattle.r6_shard.specs.declared.shard.Shard.{Shard}
use Rattle.r6_shard.specs.New.{MissesPart}
use Rattle.r6_shard.specs.Looked.{seen_by}

-- one slot at most is being replaced, as at every register
abbrev pub ReplacesOne : Snapshot → Type 0
ReplacesOne snapshot = (slots : ℕ) → ReplacesOneOf slots snapshot

-- the core looked at this snapshot; or a call was untold, and nothing changed
abbrev pub Sees : {P : Type 0} {g : Ghosts P} → Bool → Snapshot → (old new : Shard P g) → Type 0
Sees true snapshot old new = new.last ≡ snapshot
Sees false snapshot old new = (AllTold old.core → ⊥) × (new ≡ old)

-- the core looked at the register as the pass sees it now; or its last look stays, since a call was untold, or the part
-- of a new device isn't here
abbrev pub LooksWhenHere : {P : Type 0} {g : Ghosts P} → Bool → (old new : Shard P g) → Type 0
LooksWhenHere true old new = new.last ≡ seen_by (view_of new.pass)
LooksWhenHere {g = g} false old new =
    (new.last ≡ old.last)
    × ((AllTold old.core → ⊥) ⊎ MissesPart (g.performer old.parts).labels (seen_by (view_of new.pass)))

-- the core looked at the register as the pass sees it now, or the part of a new device isn't here
abbrev pub LooksInRound : {P : Type 0} {g : Ghosts P} → Bool → (old new : Shard P g) → Type 0
LooksInRound true old new = new.last ≡ seen_by (view_of new.pass)
LooksInRound {g = g} false old new =
    (new.last ≡ old.last) × MissesPart (g.performer old.parts).labels (seen_by (view_of new.pass))
