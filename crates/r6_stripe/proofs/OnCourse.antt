-- What stays true along the course of a hold that follows its plan.
use Rattle.std.proofs.Common.{◌≡◌, ◌≢◌, ◌⊎◌, inl, inr, ℕ, ◌+◌, ◌-◌, ◌<◌, true, List, length, refl, sym, ◌∙◌, ap, subst}
use Rattle.r6_stripe.specs.Holds.{Standing, Cell, Kind, Hold, Event, cell_at, own_writing, writing_for, IsReadOver, after_event, IsIndexOf, IsToWrite}
use Rattle.r6_stripe.specs.Holds.Standing.{InSync, Target, Out}
use Rattle.r6_stripe.specs.Holds.Reading.{Unread, Replaced}
use Rattle.r6_stripe.specs.Holds.Writing.{Unwritten, Ready, Sent}
use Rattle.r6_stripe.specs.Holds.Kind.{Read, Write, Rebuild}
use Rattle.r6_stripe.specs.Holds.Event.{Asks, Fixes, AsksAgain, Restores, Computes, Writes, Copies, Gives, Fails, Confirms, Mends, Settles, Loses, Moves, Drops}
use Rattle.r6_stripe.specs.Plans.{Planned, is_its_block, is_met, is_parity, names, MayFollow}
use Rattle.r6_stripe.specs.Plans.Plan.{One, Overwrite, Recover}
use Rattle.r6_stripe.proofs.CellsAfter.{Became, cell_after}
use Rattle.r6_stripe.proofs.KindPlans.{Suits, IsMendingPlan, IsTried, IsTargetRead, IsComputed, IsReplaced, IsPaired}

-- ---- along a course

pub record OnCourse (planned : Planned) : Type 0 where
  pub suits : Suits planned.plan planned.hold.kind
  -- what is written is data
  pub in_range : (batch : List (ℕ × List ℕ)) → planned.hold.kind ≡ Write batch → (j : ℕ) → names batch j ≡ true → j < length planned.hold.cells - 2
  -- and what is read
  pub index_in_range : (index : ℕ) → planned.hold.kind ≡ Read index → index + 2 < length planned.hold.cells
  pub no_parity : planned.plan ≡ Overwrite → (j : ℕ) → is_parity planned.hold j ≡ true → (cell_at planned.hold.cells j).standing ≡ Out
  -- a target is that of a rebuild
  pub targets : (j : ℕ) → (cell_at planned.hold.cells j).standing ≡ Target → planned.hold.kind ≡ Rebuild j
  pub second_targets : (j : ℕ) → (cell_at planned.hold.cells j).second ≡ Target → planned.hold.kind ≡ Rebuild j
  -- a second device stands beside one in sync
  pub beside : (j : ℕ) → (cell_at planned.hold.cells j).second ≢ Out → (cell_at planned.hold.cells j).standing ≡ InSync
  -- and where it is in sync both get their new blocks at once
  pub paired : (j : ℕ) → (cell_at planned.hold.cells j).second ≡ InSync → IsPaired (cell_at planned.hold.cells j)
  -- a read recovers only a block that is out, or whose read met an error
  pub is_lost : planned.plan ≡ Recover → (index : ℕ) → planned.hold.kind ≡ Read index → ((cell_at planned.hold.cells index).standing ≡ Out) ⊎ IsTried (cell_at planned.hold.cells index).reading
  -- and until then no other block is read
  pub own : planned.plan ≡ One → (j : ℕ) → (cell_at planned.hold.cells j).reading ≢ Unread → is_its_block planned.hold.kind j ≡ true
  -- a read error makes the plan recover, but that of a check or repair
  pub mending : (j : ℕ) → is_met (cell_at planned.hold.cells j).reading ≡ true → IsMendingPlan planned.plan
  -- no read is put out once new blocks were computed, and no read error is left then
  pub rests : (j : ℕ) → IsComputed (cell_at planned.hold.cells j) → (i : ℕ) → (cell_at planned.hold.cells i).standing ≢ Out → IsReadOver (cell_at planned.hold.cells i).reading
  -- a target isn't read
  pub target_unread : (j : ℕ) → (cell_at planned.hold.cells j).standing ≡ Target → IsTargetRead (cell_at planned.hold.cells j).reading
  -- what was read gives way only to a new block
  pub kept : (j : ℕ) → (cell_at planned.hold.cells j).reading ≡ Replaced → IsReplaced planned.hold.kind j (cell_at planned.hold.cells j)
  -- and only what the hold writes gets one
  pub owed : (j : ℕ) → IsComputed (cell_at planned.hold.cells j) → IsToWrite planned.hold planned.hold.kind j

pub at_place : (planned : Planned) (P : Cell → Type 0) (i j : ℕ) → j ≡ i → P (cell_at planned.hold.cells i) → P (cell_at planned.hold.cells j)
at_place planned P i j same h = subst (λ (k : ℕ). P (cell_at planned.hold.cells k)) (sym same) h

-- ---- what an event makes of the parts of a cell

-- a new block of its own was computed
pub own_computed : (c : Cell) → own_writing c ≢ Unwritten → IsComputed c
own_computed c n = by_second c.second n
  where
    by_second : (t : Standing) → writing_for t c ≢ Unwritten → IsComputed c
    by_second InSync h = inl h
    by_second Target h = inr h
    by_second Out h = inl h

-- what gave way is what the hold writes
pub replaced_owed : (hold : Hold) (j : ℕ) → IsReplaced hold.kind j (cell_at hold.cells j) → (IsComputed (cell_at hold.cells j) → IsToWrite hold hold.kind j) → IsToWrite hold hold.kind j
replaced_owed hold j gone owed =
    elim gone.own [
      | inl n ↦ owed (own_computed (cell_at hold.cells j) n)
      | inr h ↦ subst (λ (kind : Kind). IsToWrite hold kind j) (sym h.0) refl
    ]

-- nothing was computed for a position of which nothing is written
pub not_computed : (c : Cell) → (c.writing ≡ Unwritten) × (c.copying ≡ Unwritten) → IsComputed c → ⊥
not_computed c none (inl w) = w none.0
not_computed c none (inr w) = w none.1

pub computed_same : (c later : Cell) → later.writing ≡ c.writing → later.copying ≡ c.copying → IsComputed later → IsComputed c
computed_same c later w k (inl h) = inl (λ u. h (w ∙ u))
computed_same c later w k (inr h) = inr (λ u. h (k ∙ u))

-- where new blocks are computed for a position after an event, they were before, or the event computed them
pub computed_became : (planned : Planned) (event : Event) (j : ℕ) (later : Cell) → MayFollow planned event → Became event j (cell_at planned.hold.cells j) later → IsComputed later →
    IsComputed (cell_at planned.hold.cells j) ⊎ ((new : List (ℕ × List ℕ)) × (event ≡ Computes new) × IsIndexOf j new)
computed_became planned (Asks i) j later may b w = inl (computed_same (cell_at planned.hold.cells j) later (ap (λ (c : Cell). c.writing) b.1) (ap (λ (c : Cell). c.copying) b.1) w)
computed_became planned (Fixes i block) j later may b w = inl (computed_same (cell_at planned.hold.cells j) later (ap (λ (c : Cell). c.writing) b.1) (ap (λ (c : Cell). c.copying) b.1) w)
computed_became planned (AsksAgain i) j later may b w = inl (computed_same (cell_at planned.hold.cells j) later (ap (λ (c : Cell). c.writing) b.1) (ap (λ (c : Cell). c.copying) b.1) w)
computed_became planned (Restores i block) j later may b w = inl (computed_same (cell_at planned.hold.cells j) later (ap (λ (c : Cell). c.writing) b.1) (ap (λ (c : Cell). c.copying) b.1) w)
computed_became planned (Gives i block) j later may b w = inl (computed_same (cell_at planned.hold.cells j) later (ap (λ (c : Cell). c.writing) b.1) (ap (λ (c : Cell). c.copying) b.1) w)
computed_became planned (Fails i) j later may b w = inl (computed_same (cell_at planned.hold.cells j) later (ap (λ (c : Cell). c.writing) b.1) (ap (λ (c : Cell). c.copying) b.1) w)
computed_became planned (Mends i) j later may b w = inl (computed_same (cell_at planned.hold.cells j) later (ap (λ (c : Cell). c.writing) b.1) (ap (λ (c : Cell). c.copying) b.1) w)
computed_became planned (Loses i) j later may b w = inl (computed_same (cell_at planned.hold.cells j) later (ap (λ (c : Cell). c.writing) b.1) (ap (λ (c : Cell). c.copying) b.1) w)
computed_became planned (Computes new) j later may b w = inr (new, refl, b.0)
computed_became planned (Writes i block) j later may b w = inl (inl (λ u. let r = subst (λ (k : ℕ). (cell_at planned.hold.cells k).writing ≡ Ready block) (sym b.0) may.1 in cc))
computed_became planned (Copies i block) j later may b w = inl (inr (λ u. let r = subst (λ (k : ℕ). (cell_at planned.hold.cells k).copying ≡ Ready block) (sym b.0) may.1 in cc))
computed_became planned (Confirms i) j later may b w = inl (inl (λ u. let r = subst (λ (k : ℕ). (cell_at planned.hold.cells k).writing ≡ Sent) (sym b.0) may.1 in cc))
computed_became planned (Settles i) j later may b w = inl (inr (λ u. let r = subst (λ (k : ℕ). (cell_at planned.hold.cells k).copying ≡ Sent) (sym b.0) may.1 in cc))
computed_became planned (Moves i) j later may b (inl w) = inl (inr (λ u. w (ap (λ (c : Cell). c.writing) b.1 ∙ u)))
computed_became planned (Moves i) j later may b (inr w) = absurd (w (ap (λ (c : Cell). c.copying) b.1))
computed_became planned (Drops i) j later may b (inl w) = inl (inl (λ u. w (ap (λ (c : Cell). c.writing) b.1 ∙ u)))
computed_became planned (Drops i) j later may b (inr w) = absurd (w (ap (λ (c : Cell). c.copying) b.1))

pub computed_before : (planned : Planned) (event : Event) → MayFollow planned event → (j : ℕ) → IsComputed (cell_at (after_event planned.hold event).cells j) →
    IsComputed (cell_at planned.hold.cells j) ⊎ ((new : List (ℕ × List ℕ)) × (event ≡ Computes new) × IsIndexOf j new)
computed_before planned event may j w =
    elim (cell_after planned.hold event j) [
      | inl same ↦ inl (subst IsComputed same w)
      | inr became ↦ computed_became planned event j (cell_at (after_event planned.hold event).cells j) may became w
    ]
