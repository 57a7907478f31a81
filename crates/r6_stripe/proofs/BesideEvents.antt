-- What an event makes of a hold with a second device, beside what it makes of the same hold without it.
use Rattle.std.proofs.Common.{◌≡◌, ◌≢◌, inl, inr, Bool, true, false, ℕ, zero, suc, ◌<◌, List, [], ◌∷◌, length, set, refl, sym, ◌∙◌, ap, subst, arith, Option, Some, None}
use Rattle.std.specs.Prelude.{◌&&◌, ◌||◌, not, nat_lt, if◌then◌else◌, option_map}
use Rattle.std.proofs.lemmas.Bool.{cases_eq, or_parts}
use Rattle.std.proofs.lemmas.List.{get_or-set_other, get_or-set_same, set-set, set_comm}
use Rattle.r6_stripe.specs.Holds.{Standing, Reading, Cell, Kind, Hold, cell_at, no_cell, own_writing, made_ready, ready_for, replaced, with_new, IsBefore, IsToWrite, AreNew}
use Rattle.r6_stripe.specs.Holds.Reading.{Unread, Recalled, Asked, Unreadable, Fixing, Fixed, AskedAgain, Known, Replaced}
use Rattle.r6_stripe.specs.Holds.Kind.{Idle, Read, Write, Rebuild, Check, Repair}
use Rattle.r6_stripe.specs.Plans as plans
use Rattle.r6_stripe.specs.Plans.{Plan, Planned, Next, AreSilent, IsPlanned, IsSilent, MayFollow, Prepares, is_in_sync, is_out, is_unwritten, is_ready, is_in_error, or_else, or_lose, planned_after, planned_at, write_at}
use Rattle.r6_stripe.specs.Plans.Next.{ReadAt, FixAt, ReadAgainAt, MoveAt, LoseUnreadable, RestoreAt, ComputeNew, WriteAt, CopyAt}
use Rattle.r6_stripe.specs.Preparing.{IsPrepared, IsStill}
use Rattle.r6_stripe.specs.Seconds.{cells_beside}
use Rattle.r6_stripe.specs.Steps.{IsNone}
use Rattle.r6_stripe.specs.declared.second.Second.{Second}
use Rattle.r6_stripe.proofs.Alone.{AreAlone, IsAlone, next_write_alone}
use Rattle.r6_stripe.proofs.Beside.{IsTwin, IsUnrecalled, first_or, here, known_recalled, loss_same, lower_of, next_by, next_same, other, standing, unwritten_same, width, writing}
use Rattle.r6_stripe.proofs.Calm.{no_again, no_fix, no_loss}
use Rattle.r6_stripe.proofs.Nexts.{read_parts}
use Rattle.r6_stripe.proofs.Searches.{first_found}
use Rattle.r6_stripe.proofs.Steps.{comes, unwritten_is}
use Rattle.r6_stripe.proofs.WritesLeft.{enough_no_read}

-- ---- one position of a row

-- a change of a position, in a row one position of which is seen otherwise
pub update_placed : (cells : List Cell) (p : ℕ) → p < length cells → (x y f g : Cell → Cell) (i : ℕ) →
    (i ≢ p → y (cell_at cells p) ≡ x (cell_at cells p)) → (i ≡ p → y (f (cell_at cells p)) ≡ g (x (cell_at cells p))) → (i ≢ p → f (cell_at cells i) ≡ g (cell_at cells i)) →
    set (set cells i (f (cell_at cells i))) p (y (cell_at (set cells i (f (cell_at cells i))) p)) ≡ set (set cells p (x (cell_at cells p))) i (g (cell_at (set cells p (x (cell_at cells p))) i))
update_placed cells p below x y f g i stays changes same =
    elim (cases_eq i p) [
      | inl at ↦
          subst (λ (k : ℕ). set (set cells k (f (cell_at cells k))) p (y (cell_at (set cells k (f (cell_at cells k))) p)) ≡ set (set cells p (x (cell_at cells p))) k (g (cell_at (set cells p (x (cell_at cells p))) k))) (sym at)
          (ap (λ (c : Cell). set (set cells p (f (cell_at cells p))) p (y c)) (get_or-set_same cells p (f (cell_at cells p)) no_cell below)
          ∙ set-set cells p (f (cell_at cells p)) (y (f (cell_at cells p)))
          ∙ ap (λ (c : Cell). set cells p c) (changes at)
          ∙ sym (set-set cells p (x (cell_at cells p)) (g (x (cell_at cells p))))
          ∙ sym (ap (λ (c : Cell). set (set cells p (x (cell_at cells p))) p (g c)) (get_or-set_same cells p (x (cell_at cells p)) no_cell below)))
      | inr apart ↦
          ap (λ (c : Cell). set (set cells i (f (cell_at cells i))) p (y c)) (get_or-set_other cells i p (f (cell_at cells i)) no_cell (λ e. apart (sym e)))
          ∙ ap (λ (c : Cell). set (set cells i (f (cell_at cells i))) p c) (stays apart)
          ∙ ap (λ (c : Cell). set (set cells i c) p (x (cell_at cells p))) (same apart)
          ∙ set_comm cells i p (g (cell_at cells i)) (x (cell_at cells p)) apart
          ∙ sym (ap (λ (c : Cell). set (set cells p (x (cell_at cells p))) i (g c)) (get_or-set_other cells p i (x (cell_at cells p)) no_cell apart))
    ]

-- ---- positions with one device each stay such

pub alone_set : (cells : List Cell) (i : ℕ) (cell : Cell) → AreAlone cells → IsAlone cell → AreAlone (set cells i cell)
alone_set [] i cell alone is j = alone j
alone_set (first ∷ cells) zero cell alone is zero = is
alone_set (first ∷ cells) zero cell alone is (suc j) = alone (suc j)
alone_set (first ∷ cells) (suc i) cell alone is zero = alone zero
alone_set (first ∷ cells) (suc i) cell alone is (suc j) = alone_set cells i cell (λ k. alone (suc k)) is j

replaced_alone : (r : Reading) → plans.is_recalled r ≡ false → plans.is_recalled (replaced r) ≡ false
replaced_alone Unread e = refl
replaced_alone Recalled e = e
replaced_alone Asked e = refl
replaced_alone Unreadable e = refl
replaced_alone Fixing e = refl
replaced_alone Fixed e = refl
replaced_alone AskedAgain e = refl
replaced_alone (Known block) e = refl
replaced_alone Replaced e = refl

ready_alone : (cell : Cell) (block : List ℕ) → IsAlone cell → IsAlone (made_ready cell block)
ready_alone cell block is = subst (λ (s : Standing). IsAlone (ready_for s cell block)) (sym is.second) (record { second = is.second; copying = is.copying; unrecalled = replaced_alone cell.reading is.unrecalled })

pub new_alone : (cells : List Cell) (new : List (ℕ × List ℕ)) → AreAlone cells → AreAlone (with_new cells new)
new_alone cells [] alone = alone
new_alone cells (entry ∷ rest) alone = alone_set (with_new cells rest) entry.0 (made_ready (cell_at cells entry.0) entry.1) (new_alone cells rest alone) (ready_alone (cell_at cells entry.0) entry.1 (alone entry.0))

-- ---- what comes next

-- a step that is neither a loss nor a write
abbrev pub IsApart : Next → Type 0
IsApart (ReadAt i) = Rattle.std.specs.Prelude.⊤
IsApart (FixAt i) = Rattle.std.specs.Prelude.⊤
IsApart (ReadAgainAt i) = Rattle.std.specs.Prelude.⊤
IsApart (MoveAt i) = ⊥
IsApart LoseUnreadable = ⊥
IsApart (RestoreAt i) = Rattle.std.specs.Prelude.⊤
IsApart ComputeNew = Rattle.std.specs.Prelude.⊤
IsApart (WriteAt i) = ⊥
IsApart (CopyAt i) = ⊥

lose_apart : (o : Option ℕ) (step : Next) → IsApart step → or_lose o ≢ step
lose_apart None step is e = subst IsApart (sym e) is
lose_apart (Some i) step is e = subst IsApart (sym e) is

loss_apart : (b : Bool) (o : Option ℕ) (step : Next) → IsApart step → (if b then Some (or_lose o) else None) ≢ Some step
loss_apart true o step is e = lose_apart o step is (let same : or_lose o ≡ step = cc in same)
loss_apart false o step is e = cc

write_apart : (hold : Hold) (o : Option ℕ) (step : Next) → IsApart step → option_map (write_at hold) o ≢ Some step
write_apart hold None step is e = cc
write_apart hold (Some i) step is e = by_test (plans.is_next_write hold i) (let same : write_at hold i ≡ step = cc in same)
  where
    by_test : (b : Bool) → (if b then WriteAt i else CopyAt i) ≡ step → ⊥
    by_test true f = subst IsApart (sym f) is
    by_test false f = subst IsApart (sym f) is

stays_next : (up : Bool) (again loss other_loss reads : Option Next) (asked : Bool) (fixes : Option Next) (enough : Bool) (restores computes writes other_writes : Option Next) (step : Next) →
    (loss ≡ None → other_loss ≡ None) → loss ≢ Some step → writes ≢ Some step →
    next_by up again loss reads asked fixes enough restores computes writes ≡ Some step → next_by up again other_loss reads asked fixes enough restores computes other_writes ≡ Some step
stays_next true again loss other_loss reads asked fixes enough restores computes writes other_writes step none lost put e = e
stays_next false again (Some l) other_loss reads asked fixes enough restores computes writes other_writes step none lost put e = absurd (lost e)
stays_next false again None other_loss (Some r) asked fixes enough restores computes writes other_writes step none lost put e = rw (none refl) e
stays_next false again None other_loss None true fixes enough restores computes writes other_writes step none lost put e = absurd cc
stays_next false again None other_loss None false (Some f) enough restores computes writes other_writes step none lost put e = rw (none refl) e
stays_next false (Some a) None other_loss None false None enough restores computes writes other_writes step none lost put e = rw (none refl) e
stays_next false None None other_loss None false None false restores computes writes other_writes step none lost put e = absurd cc
stays_next false None None other_loss None false None true (Some r) computes writes other_writes step none lost put e = rw (none refl) e
stays_next false None None other_loss None false None true None (Some c) writes other_writes step none lost put e = rw (none refl) e
stays_next false None None other_loss None false None true None None writes other_writes step none lost put e = absurd (put e)

none_next : (up : Bool) (again loss other_loss reads : Option Next) (asked : Bool) (fixes : Option Next) (enough : Bool) (restores computes writes other_writes : Option Next) →
    (loss ≡ None → other_loss ≡ None) → (writes ≡ None → other_writes ≡ None) →
    next_by up again loss reads asked fixes enough restores computes writes ≡ None → next_by up again other_loss reads asked fixes enough restores computes other_writes ≡ None
none_next true again loss other_loss reads asked fixes enough restores computes writes other_writes none put e = e
none_next false again (Some l) other_loss reads asked fixes enough restores computes writes other_writes none put e = absurd cc
none_next false again None other_loss (Some r) asked fixes enough restores computes writes other_writes none put e = absurd cc
none_next false again None other_loss None true fixes enough restores computes writes other_writes none put e = rw (none refl) refl
none_next false again None other_loss None false (Some f) enough restores computes writes other_writes none put e = absurd cc
none_next false (Some a) None other_loss None false None enough restores computes writes other_writes none put e = absurd cc
none_next false None None other_loss None false None false restores computes writes other_writes none put e = rw (none refl) refl
none_next false None None other_loss None false None true (Some r) computes writes other_writes none put e = absurd cc
none_next false None None other_loss None false None true None (Some c) writes other_writes none put e = absurd cc
none_next false None None other_loss None false None true None None writes other_writes none put e = rw (none refl) (put e)

no_loss_both : (b : Bool) (o other : Option ℕ) → (if b then Some (or_lose o) else None) ≡ None → (if b then Some (or_lose other) else None) ≡ None
no_loss_both true o other e = absurd cc
no_loss_both false o other e = refl

module _ (second : Second) (block : List ℕ) (planned : Planned) (alone : AreAlone planned.hold.cells) (twin : IsTwin second block planned.hold) where
  abbrev hold : Hold
  hold = planned.hold

  abbrev pub with_both : Planned
  with_both = record planned { hold = record planned.hold { cells = cells_beside second block planned.hold.cells } }

  loss_none : plans.next_loss hold ≡ None → plans.next_loss with_both.hold ≡ None
  loss_none e = loss_same second block hold alone twin ∙ no_loss_both _ _ _ e

  module _ (unrecalled : IsUnrecalled second (cell_at planned.hold.cells second.position)) where
    pub next_apart : (step : Next) → IsApart step → plans.next planned ≡ Some step → plans.next with_both ≡ Some step
    next_apart step is e =
        next_same second block hold alone twin unrecalled planned.plan
        ∙ stays_next (plans.gives_up hold) (plans.next_again hold) (plans.next_loss hold) (plans.next_loss with_both.hold) (plans.next_read planned.plan hold) (plans.has_asked hold) (plans.next_fix hold) (plans.has_enough planned.plan hold) (plans.next_restore hold hold.kind) (plans.next_compute hold) (plans.next_write hold) (plans.next_write with_both.hold) step
        loss_none (loss_apart _ _ step is) (write_apart hold _ step is) e

    pub next_none : (plans.next_write hold ≡ None → plans.next_write with_both.hold ≡ None) → plans.next planned ≡ None → plans.next with_both ≡ None
    next_none writes e =
        next_same second block hold alone twin unrecalled planned.plan
        ∙ none_next (plans.gives_up hold) (plans.next_again hold) (plans.next_loss hold) (plans.next_loss with_both.hold) (plans.next_read planned.plan hold) (plans.has_asked hold) (plans.next_fix hold) (plans.has_enough planned.plan hold) (plans.next_restore hold hold.kind) (plans.next_compute hold) (plans.next_write hold) (plans.next_write with_both.hold)
        loss_none writes e

    lost_next : plans.next planned ≡ Some LoseUnreadable → IsNone (plans.next with_both)
    lost_next e =
        let c = comes planned LoseUnreadable e in
        let is : plans.next_loss with_both.hold ≡ Some (or_lose (plans.first_from (plans.is_next_move with_both.hold) 0 (length with_both.hold.cells))) = loss_same second block hold alone twin ∙ rw (c.1, c.2) refl in
        let all : next_by (plans.gives_up hold) (plans.next_again hold) (plans.next_loss with_both.hold) (plans.next_read planned.plan hold) (plans.has_asked hold) (plans.next_fix hold) (plans.has_enough planned.plan hold) (plans.next_restore hold hold.kind) (plans.next_compute hold) (plans.next_write with_both.hold) ≡ Some (or_lose (plans.first_from (plans.is_next_move with_both.hold) 0 (length with_both.hold.cells))) = rw (c.0, is) refl in
        let step : plans.next with_both ≡ Some (or_lose (plans.first_from (plans.is_next_move with_both.hold) 0 (length with_both.hold.cells))) = next_same second block hold alone twin unrecalled planned.plan ∙ all in
        subst IsNone (sym step) (by_move (plans.first_from (plans.is_next_move with_both.hold) 0 (length with_both.hold.cells)))
      where
        by_move : (o : Option ℕ) → IsNone (Some (or_lose o))
        by_move None = tt
        by_move (Some i) = tt

    pub next_still : (plans.next_write hold ≡ None → plans.next_write with_both.hold ≡ None) → IsStill (plans.next planned) → IsNone (plans.next with_both)
    next_still writes (inl e) = subst IsNone (sym (next_none writes e)) tt
    next_still writes (inr e) = lost_next e

    -- only writes are left
    pub prepared_both : IsPrepared planned → plans.next with_both ≡ plans.next_write with_both.hold
    prepared_both prepared =
        let parts = read_parts (plans.has_read_out hold) (plans.is_enough planned.plan hold) prepared.read in
        let asked = (or_parts (plans.has_asked hold) (plans.has_asked_again hold) parts.0).0 in
        next_same second block hold alone twin unrecalled planned.plan
        ∙ rw (prepared.goes_on, loss_none (no_loss hold prepared.mended), enough_no_read planned.plan hold alone parts.1, asked, no_fix hold prepared.mended, no_again hold prepared.mended, parts.1, prepared.mended, prepared.restored, prepared.computed) refl

  -- ---- writes

  writes_at : (j : ℕ) → plans.is_next_write with_both.hold j ≡ plans.is_next_write hold j
  writes_at j = λ k. not (is_out (standing second block hold alone twin j k)) && is_ready (writing second block hold alone twin j k)

  copies_other : (j : ℕ) → j ≢ second.position → plans.is_next_copy with_both.hold j ≡ false
  copies_other j apart =
      ap (λ (c : Cell). not (is_out c.standing) && plans.is_first_sent c.second c.writing && is_ready c.copying) (other second block hold alone twin j apart)
      ∙ ap (λ (s : Standing). not (is_out (cell_at hold.cells j).standing) && plans.is_first_sent s (cell_at hold.cells j).writing && is_ready (cell_at hold.cells j).copying) (alone j).second
      ∙ none (is_out (cell_at hold.cells j).standing) (is_ready (cell_at hold.cells j).copying)
    where
      none : (a b : Bool) → (not a && false && b) ≡ false
      none true b = refl
      none false b = refl

  or_false : (a b : Bool) → b ≡ false → (a || b) ≡ a
  or_false true b e = refl
  or_false false b e = e

  first_same : (test these : ℕ → Bool) (start count other_count : ℕ) → ((i : ℕ) → test i ≡ these i) → count ≡ other_count → plans.first_from test start count ≡ plans.first_from these start other_count
  first_same test these start count other_count same wide = λ k. plans.first_from (λ i. same i k) start (wide k)

  writes_found : (o : Option ℕ) → ((i : ℕ) → o ≡ Some i → plans.is_next_write with_both.hold i ≡ true) → option_map (write_at with_both.hold) o ≡ option_map WriteAt o
  writes_found None h = refl
  writes_found (Some i) h = ap (λ (b : Bool). Some (if b then WriteAt i else CopyAt i)) (h i refl)

  pub writes_same : plans.is_next_copy with_both.hold second.position ≡ false → plans.next_write with_both.hold ≡ plans.next_write hold
  writes_same none =
      ap (option_map (write_at with_both.hold)) (first_same (λ j. plans.is_next_write with_both.hold j || plans.is_next_copy with_both.hold j) (plans.is_next_write hold) 0 (length with_both.hold.cells) (length hold.cells) each (width second block hold alone twin))
      ∙ writes_found (plans.first_from (plans.is_next_write hold) 0 (length hold.cells)) (λ i e. writes_at i ∙ (first_found (plans.is_next_write hold) 0 (length hold.cells) i e).1)
      ∙ sym (next_write_alone hold alone)
    where
      each : (j : ℕ) → (plans.is_next_write with_both.hold j || plans.is_next_copy with_both.hold j) ≡ plans.is_next_write hold j
      each j =
          or_false (plans.is_next_write with_both.hold j) (plans.is_next_copy with_both.hold j)
          (elim (cases_eq j second.position) [
            | inl same ↦ ap (plans.is_next_copy with_both.hold) same ∙ none
            | inr apart ↦ copies_other j apart
          ])
          ∙ writes_at j

  pub copy_due : plans.is_next_copy with_both.hold second.position ≡ true → plans.is_next_write hold second.position ≡ false →
      plans.next_write with_both.hold ≡ option_map (write_at with_both.hold) (lower_of second.position (plans.first_from (plans.is_next_write hold) 0 (length hold.cells)))
  copy_due due first =
      ap (option_map (write_at with_both.hold))
      (ap (plans.first_from (λ j. plans.is_next_write with_both.hold j || plans.is_next_copy with_both.hold j) 0) (width second block hold alone twin)
      ∙ first_or (plans.is_next_write with_both.hold) (plans.is_next_copy with_both.hold) 0 (length hold.cells) second.position copies_other due (writes_at second.position ∙ first) (omega arith) (omega (arith, twin.inside))
      ∙ ap (lower_of second.position) (first_same (plans.is_next_write with_both.hold) (plans.is_next_write hold) 0 (length hold.cells) (length hold.cells) writes_at refl))

  -- ---- rows

  known_both : (j : ℕ) (b : List ℕ) → (cell_at hold.cells j).reading ≡ Known b → (cell_at with_both.hold.cells j).reading ≡ Known b
  known_both j b e =
      elim (cases_eq j second.position) [
        | inl same ↦
            subst (λ (i : ℕ). (cell_at with_both.hold.cells i).reading ≡ Known b) (sym same)
            (ap (λ (c : Cell). c.reading) (here second block hold alone twin) ∙ known_recalled second.recalled (cell_at hold.cells second.position).reading b (subst (λ (i : ℕ). (cell_at hold.cells i).reading ≡ Known b) same e))
        | inr apart ↦ ap (λ (c : Cell). c.reading) (other second block hold alone twin j apart) ∙ e
      ]

  pub before_both : (row : List (List ℕ)) → IsBefore with_both.hold row → IsBefore hold row
  before_both row before = record {
    wide = before.wide ∙ width second block hold alone twin;
    sized = before.sized;
    same = λ j b e. before.same j b (known_both j b e);
    full = before.full;
  }

  to_write : (kind : Kind) (j : ℕ) → IsToWrite hold kind j → IsToWrite with_both.hold kind j
  to_write Idle j h = h
  to_write (Read index) j h = h
  to_write (Write batch) j (inl h) = inl h
  to_write (Write batch) j (inr h) = inr (omega (arith, h, width second block hold alone twin))
  to_write (Rebuild at) j h = h
  to_write Check j h = h
  to_write Repair j h = omega (arith, h, width second block hold alone twin)

  pub are_new : (new : List (ℕ × List ℕ)) → AreNew hold new → AreNew with_both.hold new
  are_new [] are = are
  are_new (entry ∷ rest) are = (
    unwritten_is (own_writing (cell_at with_both.hold.cells entry.0)) (unwritten_same second block hold alone twin entry.0 ∙ ap is_unwritten are.0),
    (λ row before. are.1 row (before_both row before)),
    to_write hold.kind entry.0 are.2,
    are_new rest are.3,
  )
