-- Where nothing is put out and nothing comes next, enough is known and each read error is done with.
use Rattle.std.proofs.Common.{◌≡◌, ◌≢◌, ◌⊎◌, inl, inr, ℕ, zero, suc, ◌+◌, ◌<◌, ◌≤◌, Bool, true, false, List, [], ◌∷◌, length, refl, ap, subst, arith, None, Some, Option}
use Rattle.std.specs.Prelude.{◌&&◌, ◌||◌, not, if◌then◌else◌, nat_lt, option_map}
use Rattle.std.specs.List.{list_any}
use Rattle.std.proofs.lemmas.Bool.{and_parts, and_from, or_parts, or_cases, or_from, or_left, or_right, le-leb, leb-false, lt-ltb, ltb-false}
use Rattle.r6_stripe.specs.Holds.{Standing, Reading, Cell, Kind, Hold, cell_at, is_known, known_count, IsReadOver}
use Rattle.r6_stripe.specs.Holds.Standing.{InSync, Target, Out}
use Rattle.r6_stripe.specs.Holds.Reading.{Unread, Recalled, Asked, Unreadable, Fixing, Fixed, AskedAgain, Known, Replaced}
use Rattle.r6_stripe.specs.Holds.Kind.{Rebuild, Check, Repair}
use Rattle.r6_stripe.specs.Plans.{Plan, Planned, Next, is_sent, is_in_sync, is_out, is_recalled, is_asked, is_asked_again, is_unreadable, is_fixed, is_met, is_unwritten, is_idle, is_in_error, is_mending, is_knowable, knowable_count, any_live, can_fix, is_next_fix, is_next_again, has_asked, has_asked_again, has_fix_out, next_loss, next_fix, next_again, next_after_fixes, is_parity, is_served, is_served_or_dropped, puts_data, wants, data_count, coming_count, lacks, is_enough, is_next_read, has_read_out, has_write_out, has_computed, gives_up, has_lost, first_from, is_next_move, or_lose, or_else, next_read, next_after_reads, next}
use Rattle.r6_stripe.specs.Plans.Next.{ReadAt, FixAt, ReadAgainAt}
use Rattle.r6_stripe.specs.Plans.Plan.{One, Reconstruct, Modify, Overwrite, Recover, All}
use Rattle.r6_stripe.specs.PlanLaws.{in_sync_count}
use Rattle.r6_stripe.proofs.Bound.{within}
use Rattle.r6_stripe.proofs.Counts.{count_grows}
use Rattle.r6_stripe.proofs.KindPlans.{Suits, IsMendingPlan, IsTargetRead}
use Rattle.r6_stripe.proofs.OnCourse.{OnCourse}
use Rattle.r6_stripe.proofs.Over.{first_none, neither_next, unmapped, open_guard, none_pass, suits_held}
use Rattle.r6_stripe.proofs.Steps.{none_passes, not_false, not_out_is, read_over_all, unasked_all, unfixing_all, in_sync_is, nothing_written}
use Rattle.r6_stripe.proofs.Going.{all_known_from, each_below_from, Strict, Going}

-- what would come is known already, where no read is put out and none is recalled
known_if_coming : (s : Standing) (r : Reading) → (not (is_out s) && is_asked r) ≡ false → (s ≢ Out → r ≢ Recalled) → (is_known r || ((is_asked r || is_recalled r) && not (is_out s))) ≡ true → is_known r ≡ true
known_if_coming s (Known block) a n h = refl
known_if_coming s Replaced a n h = refl
known_if_coming s Unread a n h = h
known_if_coming s Unreadable a n h = h
known_if_coming s Fixing a n h = h
known_if_coming s Fixed a n h = h
known_if_coming s AskedAgain a n h = h
known_if_coming InSync Asked a n h = absurd cc
known_if_coming Target Asked a n h = absurd cc
known_if_coming Out Asked a n h = h
known_if_coming InSync Recalled a n h = absurd (n (λ e. cc) refl)
known_if_coming Target Recalled a n h = absurd (n (λ e. cc) refl)
known_if_coming Out Recalled a n h = h

-- ---- where nothing is wanted any more, enough is known

module _ (planned : Planned) (on : OnCourse planned) (going : Going planned) (few : length planned.hold.cells ≤ in_sync_count planned.hold.cells + 2)
    (goes_on : gives_up planned.hold ≡ false) (no_reads : has_asked planned.hold ≡ false) (unmet : is_mending planned.hold ≡ false) (uncomputed : has_computed planned.hold ≡ false) (none_next : next_read planned.plan planned.hold ≡ None) where
  abbrev held : Hold
  held = planned.hold

  not_wanted : (i : ℕ) → i < length held.cells → is_next_read planned.plan held i ≡ false
  not_wanted i below =
      first_none (is_next_read planned.plan held) 0 (length held.cells)
      (unmapped ReadAt (first_from (is_next_read planned.plan held) 0 (length held.cells))
      (open_guard (has_computed held) (option_map ReadAt (first_from (is_next_read planned.plan held) 0 (length held.cells))) uncomputed none_next))
      i (omega arith) (omega arith)

  -- none is recalled
  none_recalled : (i : ℕ) → (cell_at held.cells i).standing ≢ Out → (cell_at held.cells i).reading ≢ Recalled
  none_recalled i not_out e = by_standing (cell_at held.cells i).standing refl
    where
      by_standing : (s : Standing) → (cell_at held.cells i).standing ≡ s → ⊥
      by_standing InSync h = let n = not_wanted i (within held.cells i not_out) in let t : true ≡ false = rw (h, e) at n in cc
      by_standing Target h = subst IsTargetRead e (on.target_unread i h)
      by_standing Out h = not_out h

  -- a position in sync that is wanted was read
  known_there : (p : Plan) → planned.plan ≡ p → lacks p held ≡ true → (i : ℕ) → (cell_at held.cells i).standing ≡ InSync → wants p held i ≡ true → is_known (cell_at held.cells i).reading ≡ true
  known_there p is lacking i in_sync want =
      by_reading (cell_at held.cells i).reading refl
      (read_over_all held no_reads unmet i (λ out. cc))
      (subst (λ (q : Plan). is_next_read q held i ≡ false) is (not_wanted i (within held.cells i (λ out. cc))))
    where
      by_reading : (r : Reading) → (cell_at held.cells i).reading ≡ r → IsReadOver (cell_at held.cells i).reading → is_next_read p held i ≡ false → is_known r ≡ true
      by_reading Unread e over next_is = absurd (let t : true ≡ false = rw (in_sync, e, want, lacking) at next_is in cc)
      by_reading Recalled e over next_is = absurd (none_recalled i (λ out. cc) e)
      by_reading Asked e over next_is = absurd (subst IsReadOver e over)
      by_reading Unreadable e over next_is = absurd (subst IsReadOver e over)
      by_reading Fixing e over next_is = absurd (subst IsReadOver e over)
      by_reading Fixed e over next_is = absurd (subst IsReadOver e over)
      by_reading AskedAgain e over next_is = absurd (subst IsReadOver e over)
      by_reading (Known block) e over next_is = refl
      by_reading Replaced e over next_is = refl

  served_if : (p : Plan) (j : ℕ) → (wants p held j ≡ true → is_known (cell_at held.cells j).reading ≡ true) → is_served p held j ≡ true
  served_if p j h = by_test (wants p held j) refl
    where
      by_test : (b : Bool) → wants p held j ≡ b → (not b || is_known (cell_at held.cells j).reading) ≡ true
      by_test true e = h e
      by_test false e = refl

  known_or : (p : Plan) → planned.plan ≡ p → lacks p held ≡ true → (j : ℕ) → wants p held j ≡ true →
      ((cell_at held.cells j).standing ≡ InSync) ⊎ (is_known (cell_at held.cells j).reading ≡ true) → is_known (cell_at held.cells j).reading ≡ true
  known_or p is lacking j want (inl s) = known_there p is lacking j s want
  known_or p is lacking j want (inr k) = k

  enough_known : (p : Plan) → planned.plan ≡ p → Suits p held.kind → ((j : ℕ) → Strict p held j → ((cell_at held.cells j).standing ≡ InSync) ⊎ (is_known (cell_at held.cells j).reading ≡ true)) → is_enough p held ≡ true
  enough_known One is suits was =
      each_below_from (is_served One held) (length held.cells) (λ j below. served_if One j (λ want. known_or One is refl j want (was j want)))
  enough_known Reconstruct is suits was =
      each_below_from (is_served Reconstruct held) (length held.cells) (λ j below. served_if Reconstruct j (λ want. known_or Reconstruct is refl j want (was j want)))
  enough_known Modify is suits was =
      each_below_from (is_served_or_dropped held) (length held.cells)
      (λ j below. by_parity j (is_parity held j) refl (cell_at held.cells j).standing refl)
    where
      no_target : (kind : Kind) (j : ℕ) → Suits Modify kind → kind ≡ Rebuild j → ⊥
      no_target kind j suits e = subst (Suits Modify) e suits

      by_parity : (j : ℕ) (b : Bool) → is_parity held j ≡ b → (s : Standing) → (cell_at held.cells j).standing ≡ s → is_served_or_dropped held j ≡ true
      by_parity j true e InSync i = or_left (is_served Modify held j) (is_parity held j && is_out (cell_at held.cells j).standing) (served_if Modify j (λ want. known_or Modify is refl j want (inl i)))
      by_parity j true e Target i = absurd (no_target held.kind j suits (on.targets j i))
      by_parity j true e Out i = or_right (is_served Modify held j) (is_parity held j && is_out (cell_at held.cells j).standing) (and_from (is_parity held j) (is_out (cell_at held.cells j).standing) e (ap is_out i))
      by_parity j false e s i = or_left (is_served Modify held j) (is_parity held j && is_out (cell_at held.cells j).standing) (served_if Modify j (λ want. known_or Modify is refl j want
          (was j (elim (or_cases (is_parity held j) (puts_data held.kind j) want) [ inl p ↦ absurd (cc) | inr n ↦ n ]))))
  enough_known Overwrite is suits was = refl
  enough_known Recover is suits was = by_lack (lacks Recover held) refl
    where
      none_asked : (j : ℕ) → (is_known (cell_at held.cells j).reading || ((is_asked (cell_at held.cells j).reading || is_recalled (cell_at held.cells j).reading) && not (is_out (cell_at held.cells j).standing))) ≡ true → is_known (cell_at held.cells j).reading ≡ true
      none_asked j h = known_if_coming (cell_at held.cells j).standing (cell_at held.cells j).reading (none_passes (λ cell. not (is_out cell.standing) && is_asked cell.reading) held.cells j refl no_reads) (none_recalled j) h

      by_lack : (b : Bool) → lacks Recover held ≡ b → is_enough Recover held ≡ true
      by_lack true e =
          le-leb (data_count held) (known_count held.cells)
          (omega (arith, few, count_grows (λ cell. is_in_sync cell.standing) (λ cell. is_known cell.reading) held.cells held.cells refl (λ j s. known_there Recover is e j (in_sync_is (cell_at held.cells j).standing s) refl)))
      by_lack false e =
          le-leb (data_count held) (known_count held.cells)
          (omega (
            arith,
            ltb-false (coming_count held.cells) (data_count held) e,
            count_grows (λ cell. is_known cell.reading || ((is_asked cell.reading || is_recalled cell.reading) && not (is_out cell.standing))) (λ cell. is_known cell.reading) held.cells held.cells refl none_asked,
          ))
  enough_known All is suits was =
      all_known_from held.cells (λ j below. known_or All is refl j refl (was j (uncut held.kind suits goes_on, below)))
    where
      uncut : (kind : Kind) → Suits All kind → has_lost held kind ≡ false → held.cut_short ≡ false
      uncut Check suits e = e
      uncut Repair suits e = e
      uncut _ suits e = absurd suits

  pub enough_before : is_enough planned.plan held ≡ true
  enough_before = enough_known planned.plan refl on.suits going.wanted

-- ---- where nothing is put out and nothing comes next, each read error is done with

target_unmet : (r : Reading) → IsTargetRead r → is_met r ≡ true → ⊥
target_unmet Unread h m = cc
target_unmet Recalled h m = h
target_unmet Asked h m = h
target_unmet Unreadable h m = h
target_unmet Fixing h m = h
target_unmet Fixed h m = h
target_unmet AskedAgain h m = h
target_unmet (Known block) h m = cc
target_unmet Replaced h m = cc

or_false_right : (a : Bool) → (a || false) ≡ true → a ≡ true
or_false_right true e = refl
or_false_right false e = e

any_from : (test : Cell → Bool) (cells : List Cell) (j : ℕ) → j < length cells → test (cell_at cells j) ≡ true → list_any test cells ≡ true
any_from test [] j below h = absurd (omega arith)
any_from test (cell ∷ cells) zero below h = or_left (test cell) (list_any test cells) h
any_from test (cell ∷ cells) (suc j) below h = or_right (test cell) (list_any test cells) (any_from test cells j (omega arith) h)

either_none : (a b : Bool) (step : Next) → (if a && b then Some step else None) ≡ None → b ≡ true → a ≡ false
either_none true true step e h = absurd cc
either_none true false step e h = absurd cc
either_none false b step e h = refl

module _ (planned : Planned) (on : OnCourse planned) (goes_on : gives_up planned.hold ≡ false) (none : next planned ≡ None)
    (no_reads : has_read_out planned.hold ≡ false) (no_writes : has_write_out planned.hold ≡ false) where
  abbrev here : Hold
  here = planned.hold

  pub asked_none : (has_asked here ≡ false) × (has_asked_again here ≡ false)
  asked_none = or_parts (has_asked here) (has_asked_again here) no_reads

  fix_none : has_fix_out here ≡ false
  fix_none = (or_parts (has_fix_out here) (any_live (λ cell. is_sent cell.writing) here || list_any (λ cell. not (is_out cell.second) && is_sent cell.copying) here.cells) no_writes).0

  -- none of these comes next
  pub nothing_of : (next_loss here ≡ None) × (next_read planned.plan here ≡ None) × (next_fix here ≡ None) × (next_again here ≡ None)
  nothing_of =
      let reads : Option Next = next_read planned.plan here in
      let later : Option Next = next_after_reads planned.plan here in
      let first : or_else (next_loss here) (or_else reads later) ≡ None =
      subst (λ (b : Bool). (if b then next_again here else or_else (next_loss here) (or_else reads later)) ≡ None) goes_on none in
      let loss = neither_next (next_loss here) (or_else reads later) first in
      let both = neither_next reads later loss.1 in
      let after = open_guard (has_asked here) (or_else (next_fix here) (or_else (next_again here) (next_after_fixes planned.plan here))) asked_none.0 both.1 in
      let fixes = neither_next (next_fix here) (or_else (next_again here) (next_after_fixes planned.plan here)) after in
      let again = neither_next (next_again here) (next_after_fixes planned.plan here) fixes.1 in
      (loss.0, both.0, fixes.0, again.0)

  module _ (j : ℕ) (not_out : (cell_at here.cells j).standing ≢ Out) (met : is_met (cell_at here.cells j).reading ≡ true) where
    inside : j < length here.cells
    inside = within here.cells j not_out

    -- nothing is computed then
    uncomputed : has_computed here ≡ false
    uncomputed =
        none_pass (λ cell. not (is_unwritten cell.writing) || not (is_unwritten cell.copying)) here.cells
        (λ k. or_from (not (is_unwritten (cell_at here.cells k).writing)) (not (is_unwritten (cell_at here.cells k).copying))
        (nothing_written (cell_at here.cells k).writing (λ w. not_over (cell_at here.cells j).reading met (on.rests k (inl w) j not_out)))
        (nothing_written (cell_at here.cells k).copying (λ w. not_over (cell_at here.cells j).reading met (on.rests k (inr w) j not_out))))
      where
        not_over : (r : Reading) → is_met r ≡ true → IsReadOver r → ⊥
        not_over Unread m o = cc
        not_over Recalled m o = cc
        not_over Asked m o = cc
        not_over Unreadable m o = o
        not_over Fixing m o = o
        not_over Fixed m o = o
        not_over AskedAgain m o = o
        not_over (Known block) m o = cc
        not_over Replaced m o = cc

    -- a position that was fixed would be read again
    not_fixed : (k : ℕ) → (cell_at here.cells k).standing ≡ InSync → (cell_at here.cells k).reading ≢ Fixed
    not_fixed k in_sync e =
        let opened : (is_idle here.kind || has_computed here || has_fix_out here) ≡ false = rw (suits_held planned.plan here.kind on.suits, uncomputed, fix_none) refl in
        let found = unmapped ReadAgainAt (first_from (is_next_again here) 0 (length here.cells)) (open_guard (is_idle here.kind || has_computed here || has_fix_out here) _ opened nothing_of.3) in
        let f = first_none (is_next_again here) 0 (length here.cells) found k (omega arith) (omega (arith, within here.cells k (λ out. cc))) in
        let t : (is_in_sync (cell_at here.cells k).standing && is_fixed (cell_at here.cells k).reading) ≡ true = rw (in_sync, e) refl in
        cc

    stands : (cell_at here.cells j).standing ≡ InSync
    stands = by_standing (cell_at here.cells j).standing refl
      where
        by_standing : (s : Standing) → (cell_at here.cells j).standing ≡ s → s ≡ InSync
        by_standing InSync h = refl
        by_standing Target h = absurd (target_unmet (cell_at here.cells j).reading (on.target_unread j h) met)
        by_standing Out h = absurd (not_out h)

    -- none is recalled
    here_recalled : (k : ℕ) → (cell_at here.cells k).standing ≢ Out → (cell_at here.cells k).reading ≢ Recalled
    here_recalled k live e = by_standing (cell_at here.cells k).standing refl
      where
        by_standing : (s : Standing) → (cell_at here.cells k).standing ≡ s → ⊥
        by_standing InSync h =
            let found = unmapped ReadAt (first_from (is_next_read planned.plan here) 0 (length here.cells)) (open_guard (has_computed here) (option_map ReadAt (first_from (is_next_read planned.plan here) 0 (length here.cells))) uncomputed nothing_of.1) in
            let f = first_none (is_next_read planned.plan here) 0 (length here.cells) found k (omega arith) (omega (arith, within here.cells k live)) in
            let t : true ≡ false = rw (h, e) at f in cc
        by_standing Target h = subst IsTargetRead e (on.target_unread k h)
        by_standing Out h = live h

    -- an unread position in sync would be read, while too few are known
    module _ (few_known : can_fix here ≡ false) (unreadable : (cell_at here.cells j).reading ≡ Unreadable) where
      no_unread : (p : Plan) → planned.plan ≡ p → IsMendingPlan p → (k : ℕ) → (cell_at here.cells k).standing ≡ InSync → (cell_at here.cells k).reading ≢ Unread
      no_unread Recover is mends k in_sync e =
          let found = unmapped ReadAt (first_from (is_next_read planned.plan here) 0 (length here.cells)) (open_guard (has_computed here) (option_map ReadAt (first_from (is_next_read planned.plan here) 0 (length here.cells))) uncomputed nothing_of.1) in
          let f = first_none (is_next_read planned.plan here) 0 (length here.cells) found k (omega arith) (omega (arith, within here.cells k (λ out. cc))) in
          let g = subst (λ (q : Plan). is_next_read q here k ≡ false) is f in
          let lack : lacks Recover here ≡ true = lt-ltb (coming_count here.cells) (data_count here) (omega (arith, coming_known, leb-false (data_count here) (known_count here.cells) few_known)) in
          let t : true ≡ false = rw (in_sync, e, lack) at g in cc
        where
          coming_known : coming_count here.cells ≤ known_count here.cells
          coming_known = count_grows (λ cell. is_known cell.reading || ((is_asked cell.reading || is_recalled cell.reading) && not (is_out cell.standing))) (λ cell. is_known cell.reading) here.cells here.cells refl
              (λ i h. known_if_coming (cell_at here.cells i).standing (cell_at here.cells i).reading (none_passes (λ cell. not (is_out cell.standing) && is_asked cell.reading) here.cells i refl asked_none.0) (here_recalled i) h)
      no_unread All is mends k in_sync e =
          let found = unmapped ReadAt (first_from (is_next_read planned.plan here) 0 (length here.cells)) (open_guard (has_computed here) (option_map ReadAt (first_from (is_next_read planned.plan here) 0 (length here.cells))) uncomputed nothing_of.1) in
          let f = first_none (is_next_read planned.plan here) 0 (length here.cells) found k (omega arith) (omega (arith, within here.cells k (λ out. cc))) in
          let g = subst (λ (q : Plan). is_next_read q here k ≡ false) is f in
          let t : true ≡ false = rw (in_sync, e) at g in cc
      no_unread One is mends k in_sync e = mends
      no_unread Reconstruct is mends k in_sync e = mends
      no_unread Modify is mends k in_sync e = mends
      no_unread Overwrite is mends k in_sync e = mends

      known_if : (k : ℕ) → is_knowable (cell_at here.cells k) ≡ true → is_known (cell_at here.cells k).reading ≡ true
      known_if k h = by_cell (cell_at here.cells k).standing (cell_at here.cells k).reading refl refl h
        where
          live : (s : Standing) (r : Reading) → (cell_at here.cells k).standing ≡ s → s ≡ InSync → (cell_at here.cells k).standing ≢ Out
          live s r e f out = cc

          by_cell : (s : Standing) (r : Reading) → (cell_at here.cells k).standing ≡ s → (cell_at here.cells k).reading ≡ r → (is_known r || (is_in_sync s && not (is_unreadable r))) ≡ true → is_known r ≡ true
          by_cell s (Known block) e f h = refl
          by_cell s Replaced e f h = refl
          by_cell InSync Unread e f h = absurd (no_unread planned.plan refl (on.mending j met) k e f)
          by_cell InSync Recalled e f h = absurd (here_recalled k (live InSync Recalled e refl) f)
          by_cell InSync Asked e f h = absurd (unasked_all here asked_none.0 k (live InSync Asked e refl) f)
          by_cell InSync Unreadable e f h = absurd cc
          by_cell InSync Fixing e f h = absurd (unfixing_all here fix_none k (live InSync Fixing e refl) f)
          by_cell InSync Fixed e f h = absurd (not_fixed k e f)
          by_cell InSync AskedAgain e f h = absurd (let g = none_passes (λ cell. not (is_out cell.standing) && is_asked_again cell.reading) here.cells k refl asked_none.1 in let t : true ≡ false = rw (e, f) at g in cc)
          by_cell Target r e f h = or_false_right (is_known r) h
          by_cell Out r e f h = or_false_right (is_known r) h

      too_few : ⊥
      too_few =
          let grows = count_grows is_knowable (λ cell. is_known cell.reading) here.cells here.cells refl known_if in
          let in_error : is_in_error (cell_at here.cells j) ≡ true = rw (stands, unreadable) refl in
          let some = any_from is_in_error here.cells j inside in_error in
          let enough = either_none (nat_lt (knowable_count here.cells) (data_count here)) (list_any is_in_error here.cells) (or_lose (first_from (is_next_move here) 0 (length here.cells))) nothing_of.0 some in
          let a = ltb-false (knowable_count here.cells) (data_count here) enough in
          let b = leb-false (data_count here) (known_count here.cells) few_known in
          omega arith

    -- so no read error is left
    impossible : ⊥
    impossible = by_reading (cell_at here.cells j).reading refl met
      where
        unfixed : is_in_error (cell_at here.cells j) ≡ true → can_fix here ≡ false
        unfixed in_error =
            let found = unmapped FixAt (first_from (is_next_fix here) 0 (length here.cells)) (open_guard (has_computed here) (option_map FixAt (first_from (is_next_fix here) 0 (length here.cells))) uncomputed nothing_of.2) in
            let f = first_none (is_next_fix here) 0 (length here.cells) found j (omega arith) (omega (arith, inside)) in
            and_false (can_fix here) (is_in_error (cell_at here.cells j)) f in_error
          where
            and_false : (a b : Bool) → (a && b) ≡ false → b ≡ true → a ≡ false
            and_false true true e h = absurd cc
            and_false true false e h = absurd cc
            and_false false b e h = refl

        by_reading : (r : Reading) → (cell_at here.cells j).reading ≡ r → is_met r ≡ true → ⊥
        by_reading Unread e m = cc
        by_reading Recalled e m = cc
        by_reading Asked e m = cc
        by_reading Unreadable e m = too_few (unfixed (rw (stands, e) refl)) e
        by_reading Fixing e m = unfixing_all here fix_none j not_out e
        by_reading Fixed e m = not_fixed j stands e
        by_reading AskedAgain e m = let g = none_passes (λ cell. not (is_out cell.standing) && is_asked_again cell.reading) here.cells j refl asked_none.1 in let t : true ≡ false = rw (stands, e) at g in cc
        by_reading (Known block) e m = cc
        by_reading Replaced e m = cc

  pub none_met : is_mending here ≡ false
  none_met = none_pass (λ cell. not (is_out cell.standing) && is_met cell.reading) here.cells (λ j. by_test j (not (is_out (cell_at here.cells j).standing) && is_met (cell_at here.cells j).reading) refl)
    where
      by_test : (j : ℕ) (b : Bool) → (not (is_out (cell_at here.cells j).standing) && is_met (cell_at here.cells j).reading) ≡ b → b ≡ false
      by_test j true e =
          let parts = and_parts (not (is_out (cell_at here.cells j).standing)) (is_met (cell_at here.cells j).reading) e in
          absurd (impossible j (not_out_is (cell_at here.cells j).standing (not_false (is_out (cell_at here.cells j).standing) parts.0)) parts.1)
      by_test j false e = refl
