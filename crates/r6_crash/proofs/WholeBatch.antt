-- A write's hold of which nothing comes next has put out all its writes, or none.
use Rattle.std.proofs.Common.{◌≡◌, ◌≢◌, ◌⊎◌, inl, inr, ℕ, ◌-◌, ◌<◌, Bool, true, false, List, [], ◌∷◌, length, refl, sym, ◌∙◌, ap, subst, arith, Option, Some, None}
use Rattle.std.specs.Prelude.{◌&&◌, ◌||◌, not, if◌then◌else◌}
use Rattle.std.proofs.lemmas.Bool.{or_cases, or_left, or_right, or_parts, cases_lt, le-leb}
use Rattle.r6_stripe.specs.Holds.{Standing, Reading, Writing, Cell, Hold, Event, cell_at, begun, is_known, IsReadOver, IsToWrite, IsIdle, MayBegin}
use Rattle.r6_stripe.specs.Holds.Standing.{InSync, Target, Out}
use Rattle.r6_stripe.specs.Holds.Reading.{Unread, Recalled, Asked, Unreadable, Fixing, Fixed, AskedAgain, Known, Replaced}
use Rattle.r6_stripe.specs.Holds.Writing.{Unwritten, Ready, Sent, Confirmed}
use Rattle.r6_stripe.specs.Holds.Kind.{Rebuild, Write}
use Rattle.r6_stripe.specs.Plans.{Plan, Planned, Next, is_out, is_asked, is_met, is_ready, is_unwritten, is_in_sync, is_first_sent, is_parity, is_readable, names, wants, puts, lacks_new, is_next_write, is_next_copy, write_at, each_below, has_enough, is_mending, has_asked, gives_up, has_lost, next, next_loss, next_read, next_fix, next_again, next_restore, next_compute, next_write, next_after_reads, next_after_fixes, or_else, planned_first, planned_at, planned_after}
use Rattle.r6_stripe.specs.Plans.Next.{ComputeNew}
use Rattle.r6_stripe.specs.Plans.Plan.{Reconstruct, Modify}
use Rattle.r6_stripe.proofs.Bound.{within}
use Rattle.r6_stripe.proofs.Named.{names_index}
use Rattle.r6_stripe.proofs.KindPlans.{IsComputed, write_plan_has}
use Rattle.r6_stripe.proofs.OnCourse.{OnCourse, not_computed}
use Rattle.r6_stripe.proofs.Course.{begun_on_course, begun_unwritten, begun_uncopied}
use Rattle.r6_stripe.proofs.CellsAfter.{kind_after}
use Rattle.r6_stripe.proofs.Over.{each_below_at, first_none, neither_next, unmapped, open_guard, none_pass, own_is_first}
use Rattle.r6_stripe.proofs.Steps.{not_false, in_sync_is}
use Rattle.r6_stripe.proofs.Going.{Strict, Going}
use Rattle.r6_stripe.proofs.GoingAfter.{going_at}
use Rattle.r6_crash.specs.Replays.{IsPutOut, ArePutOut, WholeBatchLaw}

-- ---- as the hold begins

begun_going : (idle : Hold) (batch : List (ℕ × List ℕ)) → IsIdle idle → MayBegin idle (Write batch)
    → OnCourse (planned_first idle (Write batch)) → Going (planned_first idle (Write batch))
begun_going idle batch rests may on = record {
  wanted = λ j strict.
      write_plan_has (λ plan. Strict plan (begun idle (Write batch)) j → ((cell_at idle.cells j).standing ≡ InSync) ⊎
      (is_known (cell_at idle.cells j).reading ≡ true)) (begun idle (Write batch)) (length batch)
      (λ each want. inl (from_each j Reconstruct each want (not_parity j want)))
      (λ each named. inl (from_each j Modify each
      (or_right (is_parity (begun idle (Write batch)) j) (names batch j) named) (on.in_range batch refl j named)))
      (λ _ h. absurd h) (λ h. absurd h) strict;
  enough =
      λ j w. absurd (not_computed (cell_at (begun idle (Write batch)).cells j)
      (begun_unwritten idle (Write batch) rests j, begun_uncopied idle (Write batch) rests j) w);
}
  where
    from_each : (j : ℕ) (p : Plan)
        → each_below (is_readable p (begun idle (Write batch))) (length idle.cells - 2) ≡ true
        → wants p (begun idle (Write batch)) j ≡ true → j < length idle.cells - 2
        → (cell_at idle.cells j).standing ≡ InSync
    from_each j p each want below =
        elim (or_cases (not (wants p (begun idle (Write batch)) j)) (is_in_sync (cell_at idle.cells j).standing)
        (each_below_at (is_readable p (begun idle (Write batch))) (length idle.cells - 2) j each below)) [
          | inl n ↦ absurd (let f : not true ≡ true = subst (λ (w : Bool). not w ≡ true) want n in cc)
          | inr s ↦ in_sync_is (cell_at idle.cells j).standing s
        ]

    not_parity : (j : ℕ) → wants Reconstruct (begun idle (Write batch)) j ≡ true → j < length idle.cells - 2
    not_parity j want = elim (cases_lt j (length idle.cells - 2)) [
      | inl below ↦ below
      | inr past ↦ absurd (let p = le-leb (length idle.cells - 2) j past in
          let neither =
          or_parts (is_parity (begun idle (Write batch)) j) (names batch j)
          (not_false (is_parity (begun idle (Write batch)) j || names batch j) want) in
          let n = neither.0 in cc)
    ]

pub kind-at : (planned : Planned) (events : List Event) → (planned_at planned events).hold.kind ≡ planned.hold.kind
kind-at planned [] = refl
kind-at planned (event ∷ events) = kind-at (planned_after planned event) events ∙ kind_after planned.hold event

-- ---- nothing comes next

goes-on : (b : Bool) (x y : Option Next) → b ≡ false → (if b then x else y) ≡ None → y ≡ None
goes-on true x y e h = absurd (cc)
goes-on false x y e h = h

not-asked : (s : Standing) (r : Reading) → (s ≢ Out → IsReadOver r) → (not (is_out s) && is_asked r) ≡ false
not-asked InSync Asked over = absurd (over (λ e. cc))
not-asked Target Asked over = absurd (over (λ e. cc))
not-asked Out r over = refl
not-asked InSync Unread over = refl
not-asked InSync Recalled over = refl
not-asked InSync Unreadable over = refl
not-asked InSync Fixing over = refl
not-asked InSync Fixed over = refl
not-asked InSync AskedAgain over = refl
not-asked InSync (Known block) over = refl
not-asked InSync Replaced over = refl
not-asked Target Unread over = refl
not-asked Target Recalled over = refl
not-asked Target Unreadable over = refl
not-asked Target Fixing over = refl
not-asked Target Fixed over = refl
not-asked Target AskedAgain over = refl
not-asked Target (Known block) over = refl
not-asked Target Replaced over = refl

not-met : (s : Standing) (r : Reading) → (s ≢ Out → IsReadOver r) → (not (is_out s) && is_met r) ≡ false
not-met Out r over = refl
not-met InSync Unread over = refl
not-met InSync Recalled over = refl
not-met InSync Asked over = refl
not-met InSync Unreadable over = absurd (over (λ e. cc))
not-met InSync Fixing over = absurd (over (λ e. cc))
not-met InSync Fixed over = absurd (over (λ e. cc))
not-met InSync AskedAgain over = absurd (over (λ e. cc))
not-met InSync (Known block) over = refl
not-met InSync Replaced over = refl
not-met Target Unread over = refl
not-met Target Recalled over = refl
not-met Target Asked over = refl
not-met Target Unreadable over = absurd (over (λ e. cc))
not-met Target Fixing over = absurd (over (λ e. cc))
not-met Target Fixed over = absurd (over (λ e. cc))
not-met Target AskedAgain over = absurd (over (λ e. cc))
not-met Target (Known block) over = refl
not-met Target Replaced over = refl

-- of a position in sync that is to be written: its write is put out
is-put : (w : Writing) (put : Bool) → put ≡ true → not (not (is_out InSync) && is_unwritten w && put) ≡ true
    → (not (is_out InSync) && is_ready w) ≡ false → IsPutOut w
is-put Sent put p lacks ready = inl refl
is-put Confirmed put p lacks ready = inr refl
is-put (Ready b) put p lacks ready = absurd (cc)
is-put Unwritten true p lacks ready = absurd (cc)
is-put Unwritten false p lacks ready = absurd (cc)

is-copied : (w k : Writing) → IsPutOut w → k ≢ Unwritten
    → (not (is_out InSync) && is_first_sent InSync w && is_ready k) ≡ false → IsPutOut k
is-copied w Unwritten out there ready = absurd (there refl)
is-copied w Sent out there ready = inl refl
is-copied w Confirmed out there ready = inr refl
is-copied w (Ready b) (inl e) there ready =
    absurd (let f : (not (is_out InSync) && is_first_sent InSync Sent && is_ready (Ready b)) ≡ false = subst
    (λ x. (not (is_out InSync) && is_first_sent InSync x && is_ready (Ready b)) ≡ false) e ready in cc)
is-copied w (Ready b) (inr e) there ready =
    absurd (let f : (not (is_out InSync) && is_first_sent InSync Confirmed && is_ready (Ready b)) ≡ false = subst
    (λ x. (not (is_out InSync) && is_first_sent InSync x && is_ready (Ready b)) ≡ false) e ready in cc)

unwritten-not-put : (w : Writing) → IsPutOut w → w ≢ Unwritten
unwritten-not-put w (inl e) e' = absurd (let both : Sent ≡ Unwritten = sym e ∙ e' in cc)
unwritten-not-put w (inr e) e' = absurd (let both : Confirmed ≡ Unwritten = sym e ∙ e' in cc)

module _ (planned : Planned) (on : OnCourse planned) (going : Going planned) (batch : List (ℕ × List ℕ)) (is : planned.hold.kind ≡ Write batch) (none : next planned ≡ None)
    (j : ℕ) (computed : IsComputed (cell_at planned.hold.cells j)) where
  abbrev hold : Hold
  hold = planned.hold

  over : (i : ℕ) → (cell_at planned.hold.cells i).standing ≢ Out → IsReadOver (cell_at planned.hold.cells i).reading
  over i there = on.rests j computed i there

  no-asked : has_asked planned.hold ≡ false
  no-asked =
      none_pass (λ cell. not (is_out cell.standing) && is_asked cell.reading) planned.hold.cells
      (λ i. not-asked (cell_at planned.hold.cells i).standing (cell_at planned.hold.cells i).reading (over i))

  no-mending : is_mending planned.hold ≡ false
  no-mending =
      none_pass (λ cell. not (is_out cell.standing) && is_met cell.reading) planned.hold.cells
      (λ i. not-met (cell_at planned.hold.cells i).standing (cell_at planned.hold.cells i).reading (over i))

  has-all : not (has_enough planned.plan planned.hold) ≡ false
  has-all =
      ap (λ b. not (b && not (is_mending planned.hold))) (going.enough j computed)
      ∙ ap (λ b. not (true && not b)) no-mending

  none-last : (next_compute planned.hold ≡ None) × (next_write planned.hold ≡ None)
  none-last =
      let all =
      goes-on (gives_up planned.hold) (next_again planned.hold)
      (or_else (next_loss planned.hold)
      (or_else (next_read planned.plan planned.hold) (next_after_reads planned.plan planned.hold)))
      (ap (has_lost planned.hold) is) none in
      let rest =
      (neither_next (next_read planned.plan planned.hold) (next_after_reads planned.plan planned.hold)
      (neither_next (next_loss planned.hold)
      (or_else (next_read planned.plan planned.hold) (next_after_reads planned.plan planned.hold)) all).1).1 in
      let after =
      open_guard (has_asked planned.hold)
      (or_else (next_fix planned.hold) (or_else (next_again planned.hold) (next_after_fixes planned.plan planned.hold)))
      no-asked rest in
      let fixes =
      (neither_next (next_again planned.hold) (next_after_fixes planned.plan planned.hold)
      (neither_next (next_fix planned.hold)
      (or_else (next_again planned.hold) (next_after_fixes planned.plan planned.hold)) after).1).1 in
      let work =
      open_guard (not (has_enough planned.plan planned.hold))
      (or_else (next_restore planned.hold planned.hold.kind)
      (or_else (next_compute planned.hold) (next_write planned.hold))) has-all fixes in
      neither_next (next_compute planned.hold) (next_write planned.hold)
      (neither_next (next_restore planned.hold planned.hold.kind)
      (or_else (next_compute planned.hold) (next_write planned.hold)) work).1

  none-lacks : (i : ℕ) → i < length planned.hold.cells → not (lacks_new planned.hold i) ≡ true
  none-lacks i below =
      each_below_at (λ position. not (lacks_new planned.hold position)) (length planned.hold.cells) i
      (is-each (each_below (λ position. not (lacks_new planned.hold position)) (length planned.hold.cells)) none-last.0)
      below
    where
      is-each : (b : Bool) → (if b then None else Some ComputeNew) ≡ None → b ≡ true
      is-each true e = refl
      is-each false e = absurd (cc)

  none-left : (i : ℕ) → i < length planned.hold.cells
      → (is_next_write planned.hold i ≡ false) × (is_next_copy planned.hold i ≡ false)
  none-left i below =
      or_parts (is_next_write planned.hold i) (is_next_copy planned.hold i)
      (first_none (λ position. is_next_write planned.hold position || is_next_copy planned.hold position) 0
      (length planned.hold.cells)
      (unmapped (write_at planned.hold) _ none-last.1) i (omega arith) (omega arith))

  put-there : (i : ℕ) → IsToWrite planned.hold (Write batch) i → puts planned.hold planned.hold.kind i ≡ true
  put-there i (inl named) =
      ap (λ k. puts planned.hold k i) is
      ∙ or_left (names batch i) (is_parity planned.hold i) (names_index batch i named)
  put-there i (inr parity) =
      ap (λ k. puts planned.hold k i) is
      ∙ or_right (names batch i) (is_parity planned.hold i)
      (le-leb (length planned.hold.cells - 2) i (omega (arith, parity)))

  not-target : (i : ℕ) → (cell_at planned.hold.cells i).second ≢ Target
  not-target i e = absurd (let both : Write batch ≡ Rebuild i = sym is ∙ on.second_targets i e in cc)

  first-out : (i : ℕ) → IsToWrite planned.hold (Write batch) i → (cell_at planned.hold.cells i).standing ≡ InSync
      → IsPutOut (cell_at planned.hold.cells i).writing
  first-out i wanted sync =
      let cell : Cell = cell_at planned.hold.cells i in
      let below : i < length planned.hold.cells =
      within planned.hold.cells i (λ out. absurd (let both : InSync ≡ Out = sym sync ∙ out in cc)) in
      is-put cell.writing (puts planned.hold planned.hold.kind i) (put-there i wanted)
      (subst (λ s. not (not (is_out s) && is_unwritten cell.writing && puts planned.hold planned.hold.kind i) ≡ true)
      sync
      (subst (λ w. not (not (is_out cell.standing) && is_unwritten w && puts planned.hold planned.hold.kind i) ≡ true)
      (own_is_first cell.second cell (not-target i)) (none-lacks i below)))
      (subst (λ s. (not (is_out s) && is_ready cell.writing) ≡ false) sync (none-left i below).0)

  pub all-out : ArePutOut planned.hold
  all-out = record {
    firsts = λ batch' is' i wanted sync. first-out i (same batch' is' i wanted) sync;
    seconds = λ batch' is' i wanted second.
        let cell : Cell = cell_at planned.hold.cells i in
        let sync : cell.standing ≡ InSync =
        on.beside i (λ out. absurd (let both : InSync ≡ Out = sym second ∙ out in cc)) in
        let below : i < length planned.hold.cells =
        within planned.hold.cells i (λ out. absurd (let both : InSync ≡ Out = sym sync ∙ out in cc)) in
        let out = first-out i (same batch' is' i wanted) sync in
        is-copied cell.writing cell.copying out ((on.paired i second).first (unwritten-not-put cell.writing out))
        (subst (λ t. (not (is_out InSync) && is_first_sent t cell.writing && is_ready cell.copying) ≡ false) second
        (subst (λ s. (not (is_out s) && is_first_sent cell.second cell.writing && is_ready cell.copying) ≡ false) sync
        (none-left i below).1));
  }
    where
      same : (batch' : List (ℕ × List ℕ)) → planned.hold.kind ≡ Write batch' → (i : ℕ)
          → IsToWrite planned.hold (Write batch') i → IsToWrite planned.hold (Write batch) i
      same batch' is' i wanted = subst (λ k. IsToWrite planned.hold k i) (sym is' ∙ is) wanted

pub whole_batch_law : WholeBatchLaw
whole_batch_law idle batch events rests may all none new =
    let on = begun_on_course idle (Write batch) rests may in
    let last = going_at (planned_first idle (Write batch)) events on all (begun_going idle batch rests may on) in
    all-out (planned_at (planned_first idle (Write batch)) events) last.0 last.1 batch
    (kind-at (planned_first idle (Write batch)) events) none new.0 new.1
