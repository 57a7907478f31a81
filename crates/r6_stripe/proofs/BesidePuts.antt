-- The commands that a hold puts out with a second device, by those that it puts out without it.
use Rattle.std.proofs.Common.{◌≡◌, ◌≢◌, inl, inr, Bool, true, false, ℕ, zero, suc, ◌-◌, List, [], ◌∷◌, length, set, refl, sym, ◌∙◌, ap, subst, Some}
use Rattle.std.specs.Prelude.{if◌then◌else◌}
use Rattle.r6_stripe.specs.Holds.{Reading, Cell, cell_at, is_known, doubled, IsOfFirst, first_known}
use Rattle.r6_stripe.specs.Holds.Standing.{InSync}
use Rattle.r6_stripe.specs.Holds.Reading.{Unread, Recalled, Asked, Unreadable, Fixing, Fixed, AskedAgain, Known, Replaced}
use Rattle.r6_stripe.specs.Holds.Writing.{Ready, Sent}
use Rattle.r6_stripe.specs.Places.{standing_of}
use Rattle.r6_stripe.specs.Plans.{Planned, Prepares, is_out, next}
use Rattle.r6_stripe.specs.Plans.Next.{ReadAt, FixAt, ReadAgainAt}
use Rattle.r6_stripe.specs.Preparing.{IsPrepared, IsStill}
use Rattle.r6_stripe.specs.Seconds.{beside, cells_beside, copying_of, doubling_of, is_due, recalled_if, with_second}
use Rattle.r6_stripe.specs.Steps.{Held, IsNone, PutsFixOut, PutsNewOut, PutsReadOut}
use Rattle.r6_stripe.specs.declared.place.Standing.{Standing}
use Rattle.r6_stripe.specs.declared.place.Standing.TheVariants as state
use Rattle.r6_stripe.specs.declared.second.CopyState.TheVariants as copy
use Rattle.r6_stripe.specs.declared.second.Doubling.TheVariants as doubling
use Rattle.r6_stripe.specs.declared.second.Second.{Second}
use Rattle.r6_stripe.proofs.Beside.{IsTwin, known_recalled, recalled_same, width, writing}
use Rattle.r6_stripe.proofs.BesideEvents.{next_apart, next_still, prepared_both, update_placed, writes_same}
use Rattle.r6_stripe.proofs.BesideSteps.{IsGoing, IsPreparedBoth, IsSteady, apart_copy, no_copy, planned_both, prepares_both, read_both, twin, not_recalled}
use Rattle.r6_stripe.proofs.Steps.{comes, read_parts}
use Rattle.r6_stripe.proofs.WritesLeft.{prepared_next, writes_prepared}

-- the first known blocks are the same
pub first_known_both : (count : ℕ) (cells : List Cell) (p : ℕ) (two : Cell) (j : ℕ) (b : List ℕ) → is_known two.reading ≡ is_known (cell_at cells p).reading → ((cell_at cells p).reading ≡ Known b → two.reading ≡ Known b) →
    (cell_at (first_known count cells) j).reading ≡ Known b → (cell_at (first_known count (set cells p two)) j).reading ≡ Known b
first_known_both count [] p two j b same known e = e
first_known_both zero (cell ∷ cells) zero two zero b same known e = e
first_known_both zero (cell ∷ cells) zero two (suc j) b same known e = e
first_known_both zero (cell ∷ cells) (suc p) two zero b same known e = e
first_known_both zero (cell ∷ cells) (suc p) two (suc j) b same known e = first_known_both zero cells p two j b same known e
first_known_both (suc count) (cell ∷ cells) zero two zero b same known e = known e
first_known_both (suc count) (cell ∷ cells) zero two (suc j) b same known e = subst (λ (k : Bool). (cell_at (first_known (if k then count else suc count) cells) j).reading ≡ Known b) (sym same) e
first_known_both (suc count) (cell ∷ cells) (suc p) two zero b same known e = e
first_known_both (suc count) (cell ∷ cells) (suc p) two (suc j) b same known e = first_known_both (if is_known cell.reading then count else suc count) cells p two j b same known e

of_first_both : (second : Second) (block : List ℕ) (planned : Planned) (row : List (List ℕ)) → IsGoing second planned → IsOfFirst (planned_both second block planned).hold row → IsOfFirst planned.hold row
of_first_both second block planned row going of =
    let cell : Cell = cell_at planned.hold.cells second.position in
    let wide = width second block planned.hold going.alone (twin second block planned going) in record {
      wide = of.wide ∙ wide;
      full = of.full;
      same = λ j b e. of.same j b (subst (λ (n : ℕ). (cell_at (first_known (n - 2) (cells_beside second block planned.hold.cells)) j).reading ≡ Known b) (sym wide)
          (first_known_both (length planned.hold.cells - 2) planned.hold.cells second.position (beside second block cell) j b (recalled_same is_known second.recalled cell.reading refl) (known_recalled second.recalled cell.reading b) e));
    }

not_out : (second : Second) (planned : Planned) → IsGoing second planned → (cell_at planned.hold.cells second.position).standing ≡ InSync → second.recalled ≡ false
not_out second planned going in_sync = by_recalled second.recalled refl
  where
    by_recalled : (b : Bool) → second.recalled ≡ b → b ≡ false
    by_recalled false is = refl
    by_recalled true is = absurd (let e = sym (going.unrecalled is) ∙ ap is_out in_sync in cc)

kept_read : (second : Second) (r : Reading) → (r ≡ Asked → second.recalled ≡ false) → recalled_if second.recalled r ≡ r
kept_read second r h = by_reading r h
  where
    off : second.recalled ≡ false → recalled_if second.recalled Asked ≡ Asked
    off e = rw e refl

    by_reading : (r : Reading) → (r ≡ Asked → second.recalled ≡ false) → recalled_if second.recalled r ≡ r
    by_reading Asked h = off (h refl)
    by_reading Unread h = not_recalled second.recalled Unread (λ e. cc)
    by_reading Recalled h = not_recalled second.recalled Recalled (λ e. cc)
    by_reading Unreadable h = not_recalled second.recalled Unreadable (λ e. cc)
    by_reading Fixing h = not_recalled second.recalled Fixing (λ e. cc)
    by_reading Fixed h = not_recalled second.recalled Fixed (λ e. cc)
    by_reading AskedAgain h = not_recalled second.recalled AskedAgain (λ e. cc)
    by_reading (Known block) h = not_recalled second.recalled (Known block) (λ e. cc)
    by_reading Replaced h = not_recalled second.recalled Replaced (λ e. cc)

module _ (second : Second) (block : List ℕ) (away : Bool) (held : Held) (going : IsGoing second held.planned) where
  abbrev cells : List Cell
  cells = held.planned.hold.cells

  abbrev p : ℕ
  p = second.position

  abbrev seen : Held
  seen = with_second (Some second) block away held

  -- the read of a position comes to this, and its buffer leaves
  pub reads_cells : (i : ℕ) (r : Reading) → (i ≡ p → r ≡ Asked → second.recalled ≡ false) →
      cells_beside second block (set cells i (record (cell_at cells i) { reading = r })) ≡ set (cells_beside second block cells) i (record (cell_at (cells_beside second block cells) i) { reading = r })
  reads_cells i r h =
      update_placed cells p going.inside (beside second block) (beside second block) (λ c. record c { reading = r }) (λ c. record c { reading = r }) i (λ e. refl)
      (λ e. read_both second block (cell_at cells p) r (kept_read second r (h e))) (λ e. refl)

  abbrev with_cells : List Cell → Bool → ℕ → Held
  with_cells cs gone i = record seen { planned = record held.planned { hold = record held.planned.hold { cells = cs } }; away = set held.away i gone }

  pub puts_read : (i : ℕ) (new : Held) → PutsReadOut held i new → PutsReadOut seen i (with_second (Some second) block away new)
  puts_read i new (inl puts) =
      let c = comes held.planned (ReadAt i) puts.0 in
      let in_sync = (read_parts held.planned.plan held.planned.hold i c.2).0 in
      inl (
        next_apart second block held.planned going.alone (twin second block held.planned going) going.unrecalled (ReadAt i) tt puts.0,
        ap (with_second (Some second) block away) puts.1
            ∙ ap (λ (cs : List Cell). with_cells cs true i) (reads_cells i Asked (λ e f. not_out second held.planned going (subst (λ (j : ℕ). (cell_at cells j).standing ≡ InSync) e in_sync))),
      )
  puts_read i new (inr puts) =
      inr (
        next_apart second block held.planned going.alone (twin second block held.planned going) going.unrecalled (ReadAgainAt i) tt puts.0,
        ap (with_second (Some second) block away) puts.1 ∙ ap (λ (cs : List Cell). with_cells cs true i) (reads_cells i AskedAgain (λ e f. absurd cc)),
      )

  pub puts_fix : (i : ℕ) (put : List ℕ) (new : Held) → PutsFixOut held i put new → PutsFixOut seen i put (with_second (Some second) block away new)
  puts_fix i put new puts = (
    (
      next_apart second block held.planned going.alone (twin second block held.planned going) going.unrecalled (FixAt i) tt puts.0.0,
      λ row of. puts.0.1 row (of_first_both second block held.planned row going of),
    ),
    ap (with_second (Some second) block away) puts.1 ∙ ap (λ (cs : List Cell). with_cells cs true i) (reads_cells i Fixing (λ e f. absurd cc)),
  )

  pub puts_none : (new : Held) → Prepares held.planned new.planned → IsStill (next new.planned) → is_due second ≡ false → Prepares seen.planned (with_second (Some second) block away new).planned × IsNone (next (with_second (Some second) block away new).planned)
  puts_none new prepares still due =
      let both : IsPreparedBoth second block held.planned new.planned = prepares_both second block held.planned new.planned prepares going in
      let t : IsTwin second block new.planned.hold = twin second block new.planned both.going in (
        both.prepares,
        next_still second block new.planned both.going.alone t both.going.unrecalled
            (λ none. writes_same second block new.planned both.going.alone t (no_copy second block new.planned both.going due) ∙ none) still,
      )

-- the write of a position leaves, with what it makes of its second device
abbrev pub Sends : Second → List ℕ → Second → List ℕ → Cell → Type 0
Sends second block other other_block cell =
    beside other other_block (record cell { writing = Sent; doubling = doubled cell.second cell.doubling })
    ≡ record (beside second block cell) { writing = Sent; doubling = doubled (standing_of second.state) (doubling_of second.doubling) }

-- that of the position itself, where the second device's doesn't follow it
pub sends_apart : (second : Second) (block : List ℕ) (cell : Cell) → IsSteady second cell.writing → second.copy ≢ copy.Following → (put : List ℕ) → cell.writing ≡ Ready put → Sends second block second block cell
sends_apart second block cell steady apart put ready = by_state second.state refl
  where
    by_state : (s : Standing) → second.state ≡ s → Sends second block second block cell
    by_state state.InSync is = absurd (elim (steady.follows is) [
      | inl f ↦ apart f
      | inr (inl e) ↦ (let g = sym ready ∙ e in cc)
      | inr (inr e) ↦ (let g = sym ready ∙ e in cc)
    ])
    by_state state.Target is = absurd (steady.untargeted is)
    by_state state.Out is =
        (λ k. record (beside second block cell) { writing = Sent; copying = apart_copy second.copy Sent cell.writing block apart k; doubling = sym (ap (λ (s : Standing). doubled (standing_of s) (doubling_of second.doubling)) is) k })

-- and where it does
pub sends_both : (second : Second) (block : List ℕ) (cell : Cell) → IsSteady second cell.writing → second.copy ≡ copy.Following → (put : List ℕ) → cell.writing ≡ Ready put →
    Sends second block (record second { copy = copy.Ready; doubling = doubling.Doubled }) put cell
sends_both second block cell steady follows put ready = by_state second.state refl
  where
    by_state : (s : Standing) → second.state ≡ s → Sends second block (record second { copy = copy.Ready; doubling = doubling.Doubled }) put cell
    by_state state.InSync is =
        (λ k. record (beside second block cell) { writing = Sent; copying = (sym ready ∙ ap (λ c. copying_of c cell.writing block) (sym follows)) k; doubling = ap (λ (s : Standing). doubled (standing_of s) (doubling_of second.doubling)) (sym is) k })
    by_state state.Target is = absurd (steady.untargeted is)
    by_state state.Out is = absurd (steady.over is follows)

pub puts_new : (second : Second) (block : List ℕ) (away : Bool) (held : Held) → IsGoing second held.planned → (other : Second) (other_block : List ℕ) → other.position ≡ second.position →
    (i : ℕ) (put : List ℕ) (new : Held) → is_due second ≡ false → (puts : PutsNewOut held i put new) →
    (i ≢ second.position → (other ≡ second) × (other_block ≡ block)) →
    (i ≡ second.position → Sends second block other other_block (cell_at puts.0.hold.cells second.position)) →
    PutsNewOut (with_second (Some second) block away held) i put (with_second (Some other) other_block away new)
puts_new second block away held going other other_block at i put new due puts stays sends =
    let ready : Planned = puts.0 in
    let both : IsPreparedBoth second block held.planned ready = prepares_both second block held.planned ready puts.1 going in
    let t : IsTwin second block ready.hold = twin second block ready both.going in
    let prepared : IsPrepared ready = writes_prepared ready i puts.2 in
    let cells : List Cell = ready.hold.cells in
    let leaves : Cell → Cell = λ c. record c { writing = Sent; doubling = doubled c.second c.doubling } in (
      planned_both second block ready,
      both.prepares,
      prepared_both second block ready both.going.alone t both.going.unrecalled prepared
          ∙ writes_same second block ready both.going.alone t (no_copy second block ready both.going due)
          ∙ sym (prepared_next ready both.going.alone prepared) ∙ puts.2,
      writing second block ready.hold both.going.alone t i ∙ puts.3,
      ap (with_second (Some other) other_block away) puts.4
          ∙ ap (λ (q : ℕ). record held { planned = record ready { hold = record ready.hold { cells = set (set cells i (leaves (cell_at cells i))) q (beside other other_block (cell_at (set cells i (leaves (cell_at cells i))) q)) } }; away = set held.away i true; second_away = away }) at
          ∙ ap (λ (cs : List Cell). record held { planned = record ready { hold = record ready.hold { cells = cs } }; away = set held.away i true; second_away = away })
          (update_placed cells second.position both.going.inside (beside second block) (beside other other_block) leaves leaves i
          (λ apart. λ k. beside ((stays apart).0 k) ((stays apart).1 k) (cell_at cells second.position))
          sends (λ e. refl)),
    )
