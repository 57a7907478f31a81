-- What comes next in a hold with the target of a rebuild beside one position.
use Rattle.std.proofs.Common.{◌≡◌, ◌≢◌, inl, inr, Bool, true, false, ℕ, suc, ◌-◌, List, [], ◌∷◌, length, refl, sym, ◌∙◌, ap, subst, arith, Some, None, Option}
use Rattle.std.specs.Prelude.{not, nat_lt, nat_le, ◌==◌, ◌&&◌, ◌||◌, if◌then◌else◌, option_map}
use Rattle.std.specs.List.{list_any}
use Rattle.std.proofs.lemmas.Bool.{and_right, cases_eq, eq-eqb, eqb-true, false_from_ne_true}
use Rattle.r6_stripe.specs.Holds.{Standing, Reading, Cell, Hold, cell_at, is_known, known_count, count_where, IsReadOver}
use Rattle.r6_stripe.specs.Holds.Standing.{InSync, Target, Out}
use Rattle.r6_stripe.specs.Holds.Reading.{Unread, Recalled, Asked, Unreadable, Fixing, Fixed, AskedAgain, Known, Replaced}
use Rattle.r6_stripe.specs.Holds.Kind.{Idle, Rebuild}
use Rattle.r6_stripe.specs.Places.{is_readable}
use Rattle.r6_stripe.specs.Plans as plans
use Rattle.r6_stripe.specs.Plans.{Next, Plan, Planned, first_from, or_else, is_recalled}
use Rattle.r6_stripe.specs.Plans.Next.{ReadAt, LoseUnreadable, ComputeNew}
use Rattle.r6_stripe.specs.Plans.Plan.{One, Recover}
use Rattle.r6_stripe.specs.Replacements.{IsReplacing, is_left, planned_beside, replacing, replacing_at, target_at, written_as}
use Rattle.r6_stripe.specs.Steps.{Held}
use Rattle.r6_stripe.specs.declared.replacement.Stage.{Stage}
use Rattle.r6_stripe.specs.declared.replacement.Stage.TheVariants as stage
use Rattle.r6_stripe.specs.declared.replacement.Written.{Written}
use Rattle.r6_stripe.specs.declared.replacement.Written.TheVariants as written
use Rattle.r6_stripe.specs.declared.replacement.Replacement.{Replacement}
use Rattle.r6_stripe.proofs.Alone.{first_same}
use Rattle.r6_stripe.proofs.Counts.{count_same_at}
use Rattle.r6_stripe.proofs.Places.{any_false}
use Rattle.r6_stripe.proofs.Replacing.{at_position, each_at, error_is, known_is, knowable_is, live_test, out_is, read_test, same_at, sync_test, unwritten, width}
use Rattle.r6_stripe.proofs.Searches.{each_false, each_true, first_is, first_none}

-- cells that pass at the same positions
pub any_same_at : (test : Cell → Bool) (cells others : List Cell) → length others ≡ length cells → ((j : ℕ) → test (cell_at others j) ≡ test (cell_at cells j)) → list_any test others ≡ list_any test cells
any_same_at test [] [] wide same = refl
any_same_at test [] (other ∷ others) wide same = absurd (omega arith)
any_same_at test (cell ∷ cells) [] wide same = absurd (omega arith)
any_same_at test (cell ∷ cells) (other ∷ others) wide same =
    let here : test other ≡ test cell = same 0 in
    (λ k. here k || any_same_at test cells others (omega arith) (λ j. same (suc j)) k)

module _ (held : Held) (r : Replacement) (is : IsReplacing held r) where
  abbrev plain : Hold
  plain = held.planned.hold

  abbrev cells : List Cell
  cells = held.planned.hold.cells

  abbrev p : ℕ
  p = r.position

  abbrev here : Cell
  here = cell_at cells p

  abbrev seen : Planned
  seen = planned_beside r held.planned

  abbrev row : List Cell
  row = replacing_at r.stage r.written p cells

  pub row_wide : length row ≡ length cells
  row_wide = width r.stage r.written p cells

  any_row : (test : Cell → Bool) → test (replacing r.stage r.written here) ≡ test here → list_any test row ≡ list_any test cells
  any_row test same = any_same_at test cells row row_wide (same_at test r.stage r.written p cells is.within same)

  count_row : (test : Cell → Bool) → test (replacing r.stage r.written here) ≡ test here → count_where test row ≡ count_where test cells
  count_row test same = count_same_at test cells row row_wide (same_at test r.stage r.written p cells is.within same)

  -- ---- the parts that the target doesn't change

  pub error_same : (i : ℕ) → plans.is_in_error (cell_at row i) ≡ plans.is_in_error (cell_at cells i)
  error_same = same_at plans.is_in_error r.stage r.written p cells is.within (error_is r.stage r.written here is.moved)

  no_second : (i : ℕ) → plans.is_in_sync (cell_at row i).second ≡ false
  no_second = each_at (λ i c. plans.is_in_sync c.second ≡ false) r.stage r.written p cells is.within (by_stage r.stage) (λ i apart. ap plans.is_in_sync (is.sources i).second)
    where
      targets : (t : Standing) → plans.is_in_sync (target_at t) ≡ false
      targets InSync = refl
      targets Target = refl
      targets Out = refl

      by_stage : (s : Stage) → plans.is_in_sync (replacing s r.written here).second ≡ false
      by_stage stage.Beside = targets here.standing
      by_stage stage.Moved = refl
      by_stage stage.Dropped = refl

  and_none : (a b : Bool) → b ≡ false → (a && b) ≡ false
  and_none a b e = ap (λ (x : Bool). a && x) e ∙ and_right a false refl

  none_move : first_from (plans.is_next_move seen.hold) 0 (length row) ≡ None
  none_move = first_none (plans.is_next_move seen.hold) 0 (length row) (λ i from before. and_none (plans.is_in_error (cell_at row i)) (plans.is_in_sync (cell_at row i).second) (no_second i))

  none_move_plain : first_from (plans.is_next_move plain) 0 (length cells) ≡ None
  none_move_plain = first_none (plans.is_next_move plain) 0 (length cells) (λ i from before. and_none (plans.is_in_error (cell_at cells i)) (plans.is_in_sync (cell_at cells i).second) (ap plans.is_in_sync (is.sources i).second))

  abbrev pub losses : Option Next
  losses = if nat_lt (plans.knowable_count held.planned.hold.cells) (length held.planned.hold.cells - 2) && list_any plans.is_in_error held.planned.hold.cells then Some LoseUnreadable else None

  pub loss_is : plans.next_loss seen.hold ≡ losses
  loss_is =
      (λ k. if nat_lt (count_row plans.is_knowable (knowable_is r.stage r.written here is.moved) k) (row_wide k - 2) && any_row plans.is_in_error (error_is r.stage r.written here is.moved) k
      then Some (plans.or_lose (none_move k)) else None)

  pub loss_plain : plans.next_loss plain ≡ losses
  loss_plain = (λ k. if nat_lt (plans.knowable_count cells) (length cells - 2) && list_any plans.is_in_error cells then Some (plans.or_lose (none_move_plain k)) else None)

  pub asked_is : plans.has_asked seen.hold ≡ plans.has_asked plain
  asked_is = any_row (λ cell. not (plans.is_out cell.standing) && plans.is_asked cell.reading) (live_test plans.is_asked (λ block. refl) r.stage r.written here)

  pub again_out_is : plans.has_asked_again seen.hold ≡ plans.has_asked_again plain
  again_out_is = any_row (λ cell. not (plans.is_out cell.standing) && plans.is_asked_again cell.reading) (live_test plans.is_asked_again (λ block. refl) r.stage r.written here)

  pub fix_out_is : plans.has_fix_out seen.hold ≡ plans.has_fix_out plain
  fix_out_is = any_row (λ cell. not (plans.is_out cell.standing) && plans.is_fixing cell.reading) (live_test plans.is_fixing (λ block. refl) r.stage r.written here)

  pub mending_is : plans.is_mending seen.hold ≡ plans.is_mending plain
  mending_is = any_row (λ cell. not (plans.is_out cell.standing) && plans.is_met cell.reading) (live_test plans.is_met (λ block. refl) r.stage r.written here)

  known_same : known_count row ≡ known_count cells
  known_same = count_row (λ cell. is_known cell.reading) (known_is r.stage r.written here)

  pub enough_recover : plans.is_enough Recover seen.hold ≡ plans.is_enough Recover plain
  enough_recover = (λ k. nat_le (row_wide k - 2) (known_same k))

  -- ---- new blocks

  pub plain_computed : plans.has_computed plain ≡ false
  plain_computed =
      any_false (λ cell. not (plans.is_unwritten cell.writing) || not (plans.is_unwritten cell.copying)) cells
      (λ i below. (λ k. not (plans.is_unwritten ((is.sources i).writing k)) || not (plans.is_unwritten ((is.sources i).copying k))))

  pub none_computed : is_left r.written ≡ false → plans.has_computed seen.hold ≡ false
  none_computed here_still =
      any_false (λ cell. not (plans.is_unwritten cell.writing) || not (plans.is_unwritten cell.copying)) row
      (λ i below. each_at (λ i c. (not (plans.is_unwritten c.writing) || not (plans.is_unwritten c.copying)) ≡ false) r.stage r.written p cells is.within
      (by_stage r.stage r.written (unwritten r.written here_still))
      (λ i apart. (λ k. not (plans.is_unwritten ((is.sources i).writing k)) || not (plans.is_unwritten ((is.sources i).copying k)))) i)
    where
      by_stage : (s : Stage) (w : Written) → w ≡ written.Unwritten → (not (plans.is_unwritten (replacing s w here).writing) || not (plans.is_unwritten (replacing s w here).copying)) ≡ false
      by_stage stage.Beside w e = ap (λ (x : Written). false || not (plans.is_unwritten (written_as x))) e
      by_stage stage.Moved w e = ap (λ (x : Written). not (plans.is_unwritten (written_as x)) || false) e
      by_stage stage.Dropped w e = refl

  -- ---- reads

  pub read_tested : (a b : Bool) (i : ℕ) → (plans.is_in_sync (cell_at row i).standing && (is_recalled (cell_at row i).reading || (plans.is_unread (cell_at row i).reading && a && b)))
      ≡ (plans.is_in_sync (cell_at cells i).standing && (is_recalled (cell_at cells i).reading || (plans.is_unread (cell_at cells i).reading && a && b)))
  read_tested a b = same_at (λ c. plans.is_in_sync c.standing && (is_recalled c.reading || (plans.is_unread c.reading && a && b))) r.stage r.written p cells is.within
      (sync_test (λ x. is_recalled x || (plans.is_unread x && a && b)) (λ block. refl) refl r.stage r.written here is.moved)

  coming_same : plans.coming_count row ≡ plans.coming_count cells
  coming_same = count_row (λ cell. is_known cell.reading || ((plans.is_asked cell.reading || is_recalled cell.reading) && not (plans.is_out cell.standing)))
      (λ k. known_is r.stage r.written here k || ((read_test plans.is_asked (λ block. refl) r.stage r.written here k || read_test is_recalled (λ block. refl) r.stage r.written here k) && not (out_is r.stage r.written here k)))

  lacks_same : plans.lacks Recover seen.hold ≡ plans.lacks Recover plain
  lacks_same = (λ k. nat_lt (coming_same k) (row_wide k - 2))

  recover_same : (i : ℕ) → plans.is_next_read Recover seen.hold i ≡ plans.is_next_read Recover plain i
  recover_same i =
      ap (λ (b : Bool). plans.is_in_sync (cell_at row i).standing && (is_recalled (cell_at row i).reading || (plans.is_unread (cell_at row i).reading && true && b))) lacks_same
      ∙ read_tested true (plans.lacks Recover plain) i

  pub read_recover : is_left r.written ≡ false → plans.next_read Recover seen.hold ≡ plans.next_read Recover plain
  read_recover still =
      (λ k. if (none_computed still ∙ sym plain_computed) k then None else option_map ReadAt (first_from (plans.is_next_read Recover seen.hold) 0 (row_wide k)))
      ∙ ap (λ (o : Option ℕ). if plans.has_computed plain then None else option_map ReadAt o) (first_same (plans.is_next_read Recover seen.hold) (plans.is_next_read Recover plain) 0 (length cells) recover_same)

  -- once the block left all is read
  over_unfixed : is_left r.written ≡ true → (i : ℕ) → (plans.is_in_sync (cell_at cells i).standing && plans.is_fixed (cell_at cells i).reading) ≡ false
  over_unfixed left i = by_standing (cell_at cells i).standing refl
    where
      gone : r.written ≢ written.Unwritten
      gone e = let f = sym (ap is_left e) ∙ left in cc

      unfixed : (x : Reading) → IsReadOver x → plans.is_fixed x ≡ false
      unfixed Unread h = refl
      unfixed Recalled h = refl
      unfixed Asked h = refl
      unfixed Unreadable h = refl
      unfixed Fixing h = refl
      unfixed Fixed h = absurd h
      unfixed AskedAgain h = refl
      unfixed (Known block) h = refl
      unfixed Replaced h = refl

      by_standing : (t : Standing) → (cell_at cells i).standing ≡ t → (plans.is_in_sync t && plans.is_fixed (cell_at cells i).reading) ≡ false
      by_standing InSync e = unfixed (cell_at cells i).reading (is.over gone i (λ out. let f = sym e ∙ out in cc))
      by_standing Target e = refl
      by_standing Out e = refl

  again_same : (i : ℕ) → plans.is_next_again seen.hold i ≡ plans.is_next_again plain i
  again_same = same_at (λ c. plans.is_in_sync c.standing && plans.is_fixed c.reading) r.stage r.written p cells is.within (sync_test plans.is_fixed (λ block. refl) refl r.stage r.written here is.moved)

  pub none_again : is_left r.written ≡ true → plans.next_again seen.hold ≡ None
  none_again left =
      ap (λ (o : Option ℕ). if plans.is_idle seen.hold.kind || plans.has_computed seen.hold || plans.has_fix_out seen.hold then None else option_map Next.ReadAgainAt o)
      (first_none (plans.is_next_again seen.hold) 0 (length row) (λ i from before. again_same i ∙ over_unfixed left i))
      ∙ either (plans.is_idle seen.hold.kind || plans.has_computed seen.hold || plans.has_fix_out seen.hold)
    where
      either : (b : Bool) → ◌≡◌ {A = Option Next} (if b then None else None) None
      either true = refl
      either false = refl

  module _ (going : r.closed ≡ false) where
    pub kind_is : seen.hold.kind ≡ Rebuild p
    kind_is = ap (λ (b : Bool). if b then Idle else Rebuild p) going

    -- the position that is read in the first place
    one_here : plans.is_next_read One seen.hold p ≡ is_readable here
    one_here =
        (λ k. plans.is_in_sync (cell_at row p).standing && (is_recalled (cell_at row p).reading || (plans.is_unread (cell_at row p).reading && plans.is_its_block (kind_is k) p && true)))
        ∙ (λ k. plans.is_in_sync (cell_at row p).standing && (is_recalled (cell_at row p).reading || (plans.is_unread (cell_at row p).reading && eq-eqb p p refl k && true)))
        ∙ read_tested true true p
        ∙ ap (λ (b : Bool). plans.is_in_sync here.standing && (b || (plans.is_unread here.reading && true && true))) (is.sources p).unrecalled
        ∙ shorter (plans.is_in_sync here.standing) (plans.is_unread here.reading)
      where
        shorter : (a b : Bool) → (a && (false || (b && true && true))) ≡ (a && b)
        shorter a true = refl
        shorter a false = refl

    pub one_other : (i : ℕ) → i ≢ p → plans.is_next_read One seen.hold i ≡ false
    one_other i apart =
        (λ k. plans.is_in_sync (cell_at row i).standing && (is_recalled (cell_at row i).reading || (plans.is_unread (cell_at row i).reading && plans.is_its_block (kind_is k) i && true)))
        ∙ (λ k. plans.is_in_sync (cell_at row i).standing && (is_recalled (cell_at row i).reading || (plans.is_unread (cell_at row i).reading && differ k && true)))
        ∙ read_tested false true i
        ∙ ap (λ (b : Bool). plans.is_in_sync (cell_at cells i).standing && (b || (plans.is_unread (cell_at cells i).reading && false && true))) (is.sources i).unrecalled
        ∙ never (plans.is_in_sync (cell_at cells i).standing) (plans.is_unread (cell_at cells i).reading)
      where
        differ : (p == i) ≡ false
        differ = false_from_ne_true (p == i) (λ e. apart (sym (eqb-true p i e)))

        never : (a b : Bool) → (a && (false || (b && false && true))) ≡ false
        never true true = refl
        never true false = refl
        never false true = refl
        never false false = refl

    pub read_one : is_left r.written ≡ false → (b : Bool) → is_readable here ≡ b → option_map ReadAt (if b then Some p else None) ≡ plans.next_read One seen.hold
    read_one still true e =
        sym ((λ k. if none_computed still k then None else option_map ReadAt (first_from (plans.is_next_read One seen.hold) 0 (length row)))
        ∙ ap (option_map ReadAt) (first_is (plans.is_next_read One seen.hold) 0 (length row) p (omega arith) (omega (arith, is.within, row_wide)) (one_here ∙ e) (λ i from before. one_other i (λ same. omega (arith, before, same)))))
    read_one still false e =
        sym ((λ k. if none_computed still k then None else option_map ReadAt (first_from (plans.is_next_read One seen.hold) 0 (length row)))
        ∙ ap (option_map ReadAt) (first_none (plans.is_next_read One seen.hold) 0 (length row) (λ i from before. elim (cases_eq i p) [
          | inl same ↦ subst (λ (j : ℕ). plans.is_next_read One seen.hold j ≡ false) (sym same) (one_here ∙ e)
          | inr apart ↦ one_other i apart
        ])))

    -- ---- fixes and second reads

    pub fixes_is : is_left r.written ≡ false → plans.next_fix seen.hold ≡ plans.next_fix plain
    fixes_is still =
        (λ k. if (none_computed still ∙ sym plain_computed) k then None else option_map Next.FixAt (first_from (plans.is_next_fix seen.hold) 0 (row_wide k)))
        ∙ ap (λ (o : Option ℕ). if plans.has_computed plain then None else option_map Next.FixAt o)
        (first_same (plans.is_next_fix seen.hold) (plans.is_next_fix plain) 0 (length cells) (λ i. (λ k. nat_le (row_wide k - 2) (known_same k) && error_same i k)))

    pub again_is : is_left r.written ≡ false → plans.next_again seen.hold ≡ plans.next_again (record plain { kind = Rebuild p })
    again_is still =
        (λ k. if plans.is_idle (kind_is k) || (none_computed still ∙ sym plain_computed) k || fix_out_is k then None else option_map Next.ReadAgainAt (first_from (plans.is_next_again seen.hold) 0 (row_wide k)))
        ∙ ap (λ (o : Option ℕ). if plans.has_computed plain || plans.has_fix_out plain then None else option_map Next.ReadAgainAt o)
        (first_same (plans.is_next_again seen.hold) (plans.is_next_again plain) 0 (length cells) again_same)

    -- whether the block is known that the plan reads
    pub enough_one : plans.is_enough One seen.hold ≡ is_known here.reading
    enough_one = by_known (is_known here.reading) refl
      where
        served : (i : ℕ) → plans.is_served One seen.hold i ≡ (not (p == i) || is_known (cell_at row i).reading)
        served i = (λ k. not (plans.is_its_block (kind_is k) i) || is_known (cell_at row i).reading)

        by_known : (b : Bool) → is_known here.reading ≡ b → plans.is_enough One seen.hold ≡ b
        by_known true e = each_true (plans.is_served One seen.hold) (length row) (λ i below. served i ∙ elim (cases_eq i p) [
          | inl same ↦
              subst (λ (j : ℕ). (not (p == j) || is_known (cell_at row j).reading) ≡ true) (sym same)
              (rw (eq-eqb p p refl) (ap (λ (c : Cell). is_known c.reading) (at_position r.stage r.written p cells is.within) ∙ known_is r.stage r.written here ∙ e))
          | inr apart ↦ rw (false_from_ne_true (p == i) (λ e. apart (sym (eqb-true p i e)))) refl
        ])
        by_known false e =
            each_false (plans.is_served One seen.hold) (length row) p (omega (arith, is.within, row_wide))
            (served p ∙ rw (eq-eqb p p refl) (ap (λ (c : Cell). is_known c.reading) (at_position r.stage r.written p cells is.within) ∙ known_is r.stage r.written here ∙ e))
