-- What an event makes of the cells of a hold.
use Rattle.std.proofs.Common.{◌≡◌, ◌⊎◌, inl, inr, ℕ, ◌<◌, List, [], ◌∷◌, length, set, refl, sym, ◌∙◌, ap, subst, arith}
use Rattle.std.proofs.lemmas.Bool.{cases_eq, cases_lt}
use Rattle.std.proofs.lemmas.List.{length-set, get_or-set_same, get_or-set_other, set_past}
use Rattle.r6_stripe.specs.Holds.{Standing, Cell, Hold, Event, cell_at, no_cell, moved, ready_for, made_ready, doubled, with_new, after_event, IsIndexOf}
use Rattle.r6_stripe.specs.Holds.Standing.{InSync, Target, Out}
use Rattle.r6_stripe.specs.Holds.Reading.{Asked, Unreadable, Fixing, Fixed, AskedAgain, Known}
use Rattle.r6_stripe.specs.Holds.Writing.{Unwritten, Sent, Confirmed}
use Rattle.r6_stripe.specs.Holds.Event.{Asks, Fixes, AsksAgain, Restores, Computes, Writes, Copies, Gives, Fails, Confirms, Mends, Settles, Loses, Moves, Drops}
use Rattle.r6_stripe.specs.Plans.{Planned, MayFollow}
use Rattle.r6_stripe.proofs.Bound.{length-with_new}

-- ---- a cell after an event

-- where one cell changes, each is as it was, or is the one that changed
pub set_cell : (change : Cell → Cell) (cells : List Cell) (i j : ℕ) →
    (cell_at (set cells i (change (cell_at cells i))) j ≡ cell_at cells j) ⊎ ((j ≡ i) × (cell_at (set cells i (change (cell_at cells i))) j ≡ change (cell_at cells j)))
set_cell change cells i j =
    elim (cases_eq j i) [
      | inl same ↦ elim (cases_lt i (length cells)) [
        | inl below ↦ inr (same, subst (λ (k : ℕ). cell_at (set cells i (change (cell_at cells i))) k ≡ change (cell_at cells k)) (sym same) (get_or-set_same cells i (change (cell_at cells i)) no_cell below))
        | inr past ↦ inl (ap (λ (cs : List Cell). cell_at cs j) (set_past cells i (change (cell_at cells i)) past))
      ]
      | inr other ↦ inl (get_or-set_other cells i j (change (cell_at cells i)) no_cell other)
    ]

new_cell : (cells : List Cell) (new : List (ℕ × List ℕ)) (j : ℕ) →
    (cell_at (with_new cells new) j ≡ cell_at cells j) ⊎ (IsIndexOf j new × ((block : List ℕ) × (cell_at (with_new cells new) j ≡ made_ready (cell_at cells j) block)))
new_cell cells [] j = inl refl
new_cell cells (entry ∷ rest) j =
    let cell : Cell = made_ready (cell_at cells entry.0) entry.1 in
    let before : (cell_at (with_new cells rest) j ≡ cell_at cells j) ⊎ (IsIndexOf j (entry ∷ rest) × ((block : List ℕ) × (cell_at (with_new cells rest) j ≡ made_ready (cell_at cells j) block))) =
    elim (new_cell cells rest j) [ inl same ↦ inl same | inr there ↦ inr (inr there.0, there.1) ] in
    elim (cases_eq j entry.0) [
      | inl same ↦ elim (cases_lt entry.0 (length (with_new cells rest))) [
        | inl below ↦ inr (
          inl (sym same),
          (
            entry.1,
            subst (λ (k : ℕ). cell_at (set (with_new cells rest) entry.0 cell) k ≡ made_ready (cell_at cells k) entry.1) (sym same) (get_or-set_same (with_new cells rest) entry.0 cell no_cell below),
          ),
        )
        | inr past ↦ subst (λ (cs : List Cell). (cell_at cs j ≡ cell_at cells j) ⊎ (IsIndexOf j (entry ∷ rest) × ((block : List ℕ) × (cell_at cs j ≡ made_ready (cell_at cells j) block)))) (sym (set_past (with_new cells rest) entry.0 cell past)) before
      ]
      | inr other ↦ subst (λ (c : Cell). (c ≡ cell_at cells j) ⊎ (IsIndexOf j (entry ∷ rest) × ((block : List ℕ) × (c ≡ made_ready (cell_at cells j) block)))) (sym (get_or-set_other (with_new cells rest) entry.0 j cell no_cell other)) before
    ]

-- each position of the list has its new block
pub new_there : (cells : List Cell) (new : List (ℕ × List ℕ)) (j : ℕ) → IsIndexOf j new → j < length cells → (block : List ℕ) × (cell_at (with_new cells new) j ≡ made_ready (cell_at cells j) block)
new_there cells [] j there below = absurd there
new_there cells (entry ∷ rest) j there below =
    let cell : Cell = made_ready (cell_at cells entry.0) entry.1 in
    elim (cases_eq j entry.0) [
      | inl same ↦ (
        entry.1,
        subst (λ (k : ℕ). cell_at (set (with_new cells rest) entry.0 cell) k ≡ made_ready (cell_at cells k) entry.1) (sym same)
            (get_or-set_same (with_new cells rest) entry.0 cell no_cell (subst (λ (k : ℕ). k < length (with_new cells rest)) same (omega (arith, below, length-with_new cells rest)))),
      )
      | inr other ↦
          let rest_there = new_there cells rest j (elim there [ inl h ↦ absurd (other (sym h)) | inr h ↦ h ]) below in
          (rest_there.0, get_or-set_other (with_new cells rest) entry.0 j cell no_cell other ∙ rest_there.1)
    ]

-- what an event makes of a cell that it changes
abbrev pub Became : Event → ℕ → Cell → Cell → Type 0
Became (Asks i) j before later = (j ≡ i) × (later ≡ record before { reading = Asked })
Became (Fixes i block) j before later = (j ≡ i) × (later ≡ record before { reading = Fixing })
Became (AsksAgain i) j before later = (j ≡ i) × (later ≡ record before { reading = AskedAgain })
Became (Restores i block) j before later = (j ≡ i) × (later ≡ record before { reading = Known block })
Became (Computes new) j before later = IsIndexOf j new × ((block : List ℕ) × (later ≡ made_ready before block))
Became (Writes i block) j before later = (j ≡ i) × (later ≡ record before { writing = Sent; doubling = doubled before.second before.doubling })
Became (Copies i block) j before later = (j ≡ i) × (later ≡ record before { copying = Sent })
Became (Gives i block) j before later = (j ≡ i) × (later ≡ record before { reading = Known block })
Became (Fails i) j before later = (j ≡ i) × (later ≡ record before { reading = Unreadable })
Became (Confirms i) j before later = (j ≡ i) × (later ≡ record before { writing = Confirmed })
Became (Mends i) j before later = (j ≡ i) × (later ≡ record before { reading = Fixed })
Became (Settles i) j before later = (j ≡ i) × (later ≡ record before { copying = Confirmed })
Became (Loses i) j before later = (j ≡ i) × (later ≡ record before { standing = Out; second = Out })
Became (Moves i) j before later = (j ≡ i) × (later ≡ moved before)
Became (Drops i) j before later = (j ≡ i) × (later ≡ record before { second = Out; copying = Unwritten })

pub cell_after : (hold : Hold) (event : Event) (j : ℕ) → (cell_at (after_event hold event).cells j ≡ cell_at hold.cells j) ⊎ Became event j (cell_at hold.cells j) (cell_at (after_event hold event).cells j)
cell_after hold (Asks i) j = set_cell (λ c. record c { reading = Asked }) hold.cells i j
cell_after hold (Fixes i block) j = set_cell (λ c. record c { reading = Fixing }) hold.cells i j
cell_after hold (AsksAgain i) j = set_cell (λ c. record c { reading = AskedAgain }) hold.cells i j
cell_after hold (Restores i block) j = set_cell (λ c. record c { reading = Known block }) hold.cells i j
cell_after hold (Computes new) j = new_cell hold.cells new j
cell_after hold (Writes i block) j = set_cell (λ c. record c { writing = Sent; doubling = doubled c.second c.doubling }) hold.cells i j
cell_after hold (Copies i block) j = set_cell (λ c. record c { copying = Sent }) hold.cells i j
cell_after hold (Gives i block) j = set_cell (λ c. record c { reading = Known block }) hold.cells i j
cell_after hold (Fails i) j = set_cell (λ c. record c { reading = Unreadable }) hold.cells i j
cell_after hold (Confirms i) j = set_cell (λ c. record c { writing = Confirmed }) hold.cells i j
cell_after hold (Mends i) j = set_cell (λ c. record c { reading = Fixed }) hold.cells i j
cell_after hold (Settles i) j = set_cell (λ c. record c { copying = Confirmed }) hold.cells i j
cell_after hold (Loses i) j = set_cell (λ c. record c { standing = Out; second = Out }) hold.cells i j
cell_after hold (Moves i) j = set_cell (λ c. moved c) hold.cells i j
cell_after hold (Drops i) j = set_cell (λ c. record c { second = Out; copying = Unwritten }) hold.cells i j

pub width_after : (hold : Hold) (event : Event) → length (after_event hold event).cells ≡ length hold.cells
width_after hold (Asks i) = length-set hold.cells i _
width_after hold (Fixes i block) = length-set hold.cells i _
width_after hold (AsksAgain i) = length-set hold.cells i _
width_after hold (Restores i block) = length-set hold.cells i _
width_after hold (Computes new) = length-with_new hold.cells new
width_after hold (Writes i put) = length-set hold.cells i _
width_after hold (Gives i block) = length-set hold.cells i _
width_after hold (Fails i) = length-set hold.cells i _
width_after hold (Confirms i) = length-set hold.cells i _
width_after hold (Mends i) = length-set hold.cells i _
width_after hold (Copies i put) = length-set hold.cells i _
width_after hold (Settles i) = length-set hold.cells i _
width_after hold (Loses i) = length-set hold.cells i _
width_after hold (Moves i) = length-set hold.cells i _
width_after hold (Drops i) = length-set hold.cells i _

pub kind_after : (hold : Hold) (event : Event) → (after_event hold event).kind ≡ hold.kind
kind_after hold (Asks i) = refl
kind_after hold (Fixes i block) = refl
kind_after hold (AsksAgain i) = refl
kind_after hold (Restores i block) = refl
kind_after hold (Computes new) = refl
kind_after hold (Writes i put) = refl
kind_after hold (Gives i block) = refl
kind_after hold (Fails i) = refl
kind_after hold (Confirms i) = refl
kind_after hold (Mends i) = refl
kind_after hold (Copies i put) = refl
kind_after hold (Settles i) = refl
kind_after hold (Loses i) = refl
kind_after hold (Moves i) = refl
kind_after hold (Drops i) = refl

pub size_after : (hold : Hold) (event : Event) → (after_event hold event).size ≡ hold.size
size_after hold (Asks i) = refl
size_after hold (Fixes i block) = refl
size_after hold (AsksAgain i) = refl
size_after hold (Restores i block) = refl
size_after hold (Computes new) = refl
size_after hold (Writes i put) = refl
size_after hold (Gives i block) = refl
size_after hold (Fails i) = refl
size_after hold (Confirms i) = refl
size_after hold (Mends i) = refl
size_after hold (Copies i put) = refl
size_after hold (Settles i) = refl
size_after hold (Loses i) = refl
size_after hold (Moves i) = refl
size_after hold (Drops i) = refl

-- a new block leaves the standings
pub ready_standing : (t : Standing) (c : Cell) (block : List ℕ) → (ready_for t c block).standing ≡ c.standing
ready_standing InSync c block = refl
ready_standing Target c block = refl
ready_standing Out c block = refl

pub ready_second : (t : Standing) (c : Cell) (block : List ℕ) → (ready_for t c block).second ≡ c.second
ready_second InSync c block = refl
ready_second Target c block = refl
ready_second Out c block = refl

-- a position stands where it stood, or is lost, or its second device has its place
pub standing_became : (event : Event) (j : ℕ) (before later : Cell) → Became event j before later →
    (later.standing ≡ before.standing) ⊎ ((event ≡ Loses j) × (later.standing ≡ Out)) ⊎ ((event ≡ Moves j) × (later ≡ moved before))
standing_became (Asks i) j before later b = inl (ap (λ (c : Cell). c.standing) b.1)
standing_became (Fixes i block) j before later b = inl (ap (λ (c : Cell). c.standing) b.1)
standing_became (AsksAgain i) j before later b = inl (ap (λ (c : Cell). c.standing) b.1)
standing_became (Restores i block) j before later b = inl (ap (λ (c : Cell). c.standing) b.1)
standing_became (Computes new) j before later b = inl (ap (λ (c : Cell). c.standing) b.1.1 ∙ ready_standing before.second before b.1.0)
standing_became (Writes i block) j before later b = inl (ap (λ (c : Cell). c.standing) b.1)
standing_became (Copies i block) j before later b = inl (ap (λ (c : Cell). c.standing) b.1)
standing_became (Gives i block) j before later b = inl (ap (λ (c : Cell). c.standing) b.1)
standing_became (Fails i) j before later b = inl (ap (λ (c : Cell). c.standing) b.1)
standing_became (Confirms i) j before later b = inl (ap (λ (c : Cell). c.standing) b.1)
standing_became (Mends i) j before later b = inl (ap (λ (c : Cell). c.standing) b.1)
standing_became (Settles i) j before later b = inl (ap (λ (c : Cell). c.standing) b.1)
standing_became (Loses i) j before later b = inr (inl (ap Loses (sym b.0), ap (λ (c : Cell). c.standing) b.1))
standing_became (Moves i) j before later b = inr (inr (ap Moves (sym b.0), b.1))
standing_became (Drops i) j before later b = inl (ap (λ (c : Cell). c.standing) b.1)

pub standing_after : (hold : Hold) (event : Event) (j : ℕ) →
    ((cell_at (after_event hold event).cells j).standing ≡ (cell_at hold.cells j).standing)
    ⊎ ((event ≡ Loses j) × ((cell_at (after_event hold event).cells j).standing ≡ Out))
    ⊎ ((event ≡ Moves j) × (cell_at (after_event hold event).cells j ≡ moved (cell_at hold.cells j)))
standing_after hold event j =
    elim (cell_after hold event j) [
      | inl same ↦ inl (ap (λ (c : Cell). c.standing) same)
      | inr became ↦ standing_became event j (cell_at hold.cells j) (cell_at (after_event hold event).cells j) became
    ]

pub out_after : (planned : Planned) (event : Event) → MayFollow planned event → (j : ℕ) → (cell_at planned.hold.cells j).standing ≡ Out → (cell_at (after_event planned.hold event).cells j).standing ≡ Out
out_after planned event may j out =
    elim (standing_after planned.hold event j) [
      | inl same ↦ same ∙ out
      | inr (inl lost) ↦ lost.1
      | inr (inr gone) ↦ absurd ((subst (MayFollow planned) gone.0 may).0 out)
    ]

-- a target was one, or was the second device
pub target_before : (hold : Hold) (event : Event) (j : ℕ) → (cell_at (after_event hold event).cells j).standing ≡ Target →
    ((cell_at hold.cells j).standing ≡ Target) ⊎ ((event ≡ Moves j) × (cell_at (after_event hold event).cells j ≡ moved (cell_at hold.cells j)) × ((cell_at hold.cells j).second ≡ Target))
target_before hold event j t =
    elim (standing_after hold event j) [
      | inl same ↦ inl (sym same ∙ t)
      | inr (inl lost) ↦ absurd (let o = lost.1 in cc)
      | inr (inr gone) ↦ inr (gone.0, gone.1, sym (ap (λ (c : Cell). c.standing) gone.1) ∙ t)
    ]

-- a second device stands where it stood, or is gone
pub second_became : (event : Event) (j : ℕ) (before later : Cell) → Became event j before later → (later.second ≡ before.second) ⊎ (later.second ≡ Out)
second_became (Asks i) j before later b = inl (ap (λ (c : Cell). c.second) b.1)
second_became (Fixes i block) j before later b = inl (ap (λ (c : Cell). c.second) b.1)
second_became (AsksAgain i) j before later b = inl (ap (λ (c : Cell). c.second) b.1)
second_became (Restores i block) j before later b = inl (ap (λ (c : Cell). c.second) b.1)
second_became (Computes new) j before later b = inl (ap (λ (c : Cell). c.second) b.1.1 ∙ ready_second before.second before b.1.0)
second_became (Writes i block) j before later b = inl (ap (λ (c : Cell). c.second) b.1)
second_became (Copies i block) j before later b = inl (ap (λ (c : Cell). c.second) b.1)
second_became (Gives i block) j before later b = inl (ap (λ (c : Cell). c.second) b.1)
second_became (Fails i) j before later b = inl (ap (λ (c : Cell). c.second) b.1)
second_became (Confirms i) j before later b = inl (ap (λ (c : Cell). c.second) b.1)
second_became (Mends i) j before later b = inl (ap (λ (c : Cell). c.second) b.1)
second_became (Settles i) j before later b = inl (ap (λ (c : Cell). c.second) b.1)
second_became (Loses i) j before later b = inr (ap (λ (c : Cell). c.second) b.1)
second_became (Moves i) j before later b = inr (ap (λ (c : Cell). c.second) b.1)
second_became (Drops i) j before later b = inr (ap (λ (c : Cell). c.second) b.1)

pub second_after : (hold : Hold) (event : Event) (j : ℕ) →
    ((cell_at (after_event hold event).cells j).second ≡ (cell_at hold.cells j).second) ⊎ ((cell_at (after_event hold event).cells j).second ≡ Out)
second_after hold event j =
    elim (cell_after hold event j) [
      | inl same ↦ inl (ap (λ (c : Cell). c.second) same)
      | inr became ↦ second_became event j (cell_at hold.cells j) (cell_at (after_event hold event).cells j) became
    ]
