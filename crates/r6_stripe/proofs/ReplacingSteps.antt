-- What is put out of a hold with the target of a rebuild beside one position.
use Rattle.std.proofs.Common.{◌≡◌, ◌≢◌, inl, inr, Bool, true, false, ℕ, ◌-◌, ◌<◌, List, length, refl, sym, ◌∙◌, ap, subst, arith, Some, None, Option}
use Rattle.std.specs.Prelude.{not, ◌&&◌, ◌||◌, if◌then◌else◌, option_map}
use Rattle.std.specs.List.{list_any}
use Rattle.std.proofs.lemmas.Bool.{and_parts, and_right, cases_eq, eq-eqb}
use Rattle.r6_stripe.specs.Holds.{Standing, Reading, Cell, Hold, cell_at, own_writing, is_known, first_known, IsOfFirst, IsReadOver}
use Rattle.r6_stripe.specs.Holds.Standing.{InSync, Target, Out}
use Rattle.r6_stripe.specs.Holds.Reading.{Unread, Recalled, Asked, Unreadable, Fixing, Fixed, AskedAgain, Known, Replaced}
use Rattle.r6_stripe.specs.Holds.Kind.{Rebuild}
use Rattle.r6_stripe.specs.Plans as plans
use Rattle.r6_stripe.specs.Plans.{Next, Plan, Planned, first_from, or_else, is_recalled, planned_after, MayFollow, Prepares}
use Rattle.r6_stripe.specs.Plans.Next.{ReadAt, FixAt, ReadAgainAt, LoseUnreadable, ComputeNew, WriteAt, CopyAt}
use Rattle.r6_stripe.specs.Plans.Plan.{One, Recover}
use Rattle.r6_stripe.specs.Replacements.{IsReplacing, given, held_beside, is_gone, is_left, planned_beside, replacing, replacing_at}
use Rattle.r6_stripe.specs.Steps.{Held, asked, asked_again, fixing}
use Rattle.r6_stripe.specs.declared.replacement.Stage.{Stage}
use Rattle.r6_stripe.specs.declared.replacement.Stage.TheVariants as stage
use Rattle.r6_stripe.specs.declared.replacement.Written.{Written}
use Rattle.r6_stripe.specs.declared.replacement.Written.TheVariants as written
use Rattle.r6_stripe.specs.declared.replacement.Replacement.{Replacement}
use Rattle.r6_stripe.proofs.BesidePuts.{first_known_both}
use Rattle.r6_stripe.proofs.Mends.{again_found, fix_found}
use Rattle.r6_stripe.proofs.Nexts.{in_sync_is, unread_is}
use Rattle.r6_stripe.proofs.Places.{any_each}
use Rattle.r6_stripe.proofs.Steps.{not_false}
use Rattle.r6_stripe.proofs.Replacing.{at_position, reading_is, target_is, unwritten}
use Rattle.r6_stripe.proofs.ReplacingEvents.{after_read, apart_put, asks_again_beside, asks_beside, away_put, fixes_beside, read_kept}
use Rattle.r6_stripe.proofs.ReplacingNext.{asked_is, again_is, enough_one, fixes_is, mending_is, kind_is, loss_is, losses, one_other, read_tested, row_wide}
use Rattle.r6_stripe.proofs.ReplacingOver.{up_is}
use Rattle.r6_stripe.proofs.Searches.{each_false, first_found}

given_out : (w : Written) (x : Reading) → IsReadOver x ≡ ⊥ → given w x ≡ x
given_out written.Unwritten x e = refl
given_out written.Sent Unread e = refl
given_out written.Sent Recalled e = refl
given_out written.Sent Asked e = refl
given_out written.Sent Unreadable e = refl
given_out written.Sent Fixing e = refl
given_out written.Sent Fixed e = refl
given_out written.Sent AskedAgain e = refl
given_out written.Sent (Known block) e = absurd (subst (λ (t : Type 0). t) e tt)
given_out written.Sent Replaced e = refl
given_out written.Confirmed Unread e = refl
given_out written.Confirmed Recalled e = refl
given_out written.Confirmed Asked e = refl
given_out written.Confirmed Unreadable e = refl
given_out written.Confirmed Fixing e = refl
given_out written.Confirmed Fixed e = refl
given_out written.Confirmed AskedAgain e = refl
given_out written.Confirmed (Known block) e = absurd (subst (λ (t : Type 0). t) e tt)
given_out written.Confirmed Replaced e = refl

-- what comes next of these, once nothing is lost
abbrev pub by_step : Option Next → Bool → Option Next → Option Next → Bool → Option Next
by_step reads asked fixes again enough = or_else reads (if asked then None else or_else fixes (or_else again (if not enough then None else Some ComputeNew)))

module _ (held : Held) (r : Replacement) (is : IsReplacing held r) where
  abbrev cells : List Cell
  cells = held.planned.hold.cells

  abbrev p : ℕ
  p = r.position

  abbrev seen : Planned
  seen = planned_beside r held.planned

  -- ---- a command leaves

  pub asks_both : (i : ℕ) → (r.stage ≡ stage.Moved → i ≢ r.position) → held_beside r (asked held i) ≡ asked (held_beside r held) i
  asks_both i apart = (λ k. record held {
    planned = asks_beside r held.planned is.within i (λ same. given_out r.written Asked refl) k;
    away = away_put r.stage r.position i held.away held.second_away true apart k;
    second_away = apart_put r.stage r.position i held.away held.second_away true apart k;
  })

  pub fixes_both : (i : ℕ) (block : List ℕ) → (r.stage ≡ stage.Moved → i ≢ r.position) → held_beside r (fixing held i block) ≡ fixing (held_beside r held) i block
  fixes_both i block apart = (λ k. record held {
    planned = fixes_beside r held.planned is.within i block (λ same. given_out r.written Fixing refl) k;
    away = away_put r.stage r.position i held.away held.second_away true apart k;
    second_away = apart_put r.stage r.position i held.away held.second_away true apart k;
  })

  pub again_both : (i : ℕ) → (r.stage ≡ stage.Moved → i ≢ r.position) → held_beside r (asked_again held i) ≡ asked_again (held_beside r held) i
  again_both i apart = (λ k. record held {
    planned = asks_again_beside r held.planned is.within i (λ same. given_out r.written AskedAgain refl) k;
    away = away_put r.stage r.position i held.away held.second_away true apart k;
    second_away = apart_put r.stage r.position i held.away held.second_away true apart k;
  })

  -- a position that isn't known is not the one whose block was read
  pub unknown_apart : (i : ℕ) → is_known (cell_at cells i).reading ≡ false → r.stage ≡ stage.Moved → i ≢ r.position
  unknown_apart i unknown moved same = let e = sym (subst (λ (k : ℕ). is_known (cell_at cells k).reading ≡ false) same unknown) ∙ is.moved moved in cc

  pub goes_out : (i : ℕ) (x : Reading) → i < length cells → is_left r.written ≡ false → is_known (cell_at cells i).reading ≡ false → x ≢ Replaced → is_recalled x ≡ false → x ≢ Unread → (IsReadOver x → ⊥) → (held.planned.plan ≡ One → i ≡ r.position) →
      IsReplacing (after_read held i x true held.planned.hold.met_error held.planned.plan) r
  goes_out i x inside still unknown kept unrecalled tried busy one =
      read_kept held r i x true held.planned.hold.met_error held.planned.plan is (record {
        inside = inside;
        here = unwritten r.written still;
        kept = kept;
        unrecalled = unrecalled;
        busy = λ e. busy;
        moved = unknown_apart i unknown;
        tried = tried;
        one = λ e. (e, one e);
        recovers = λ e. inl e;
        either = is.plan;
      })

  -- ---- a read that comes next

  some_read : (computed : Bool) (o : Option ℕ) (i : ℕ) → Some (ReadAt i) ≡ (if computed then None else option_map ReadAt o) → o ≡ Some i
  some_read true o i e = absurd cc
  some_read false None i e = absurd cc
  some_read false (Some k) i e = let same : i ≡ k = cc in ap Some (sym same)

  three : (a b d : Bool) → (a && (b || d)) ≡ true → b ≡ false → (a ≡ true) × (d ≡ true)
  three true b d e f = (refl, sym (ap (λ (x : Bool). x || d) f) ∙ e)
  three false b d e f = absurd cc

  pub record IsNextRead (i : ℕ) : Type 0 where
    pub inside : i < length cells
    pub in_sync : (cell_at cells i).standing ≡ InSync
    pub unread : (cell_at cells i).reading ≡ Unread
    pub one : held.planned.plan ≡ One → i ≡ r.position

  pub read_next : r.closed ≡ false → (i : ℕ) → Some (ReadAt i) ≡ plans.next_read held.planned.plan seen.hold → IsNextRead i
  read_next going i e =
      let found = first_found (plans.is_next_read held.planned.plan seen.hold) 0 (length seen.hold.cells) i (some_read (plans.has_computed seen.hold) (first_from (plans.is_next_read held.planned.plan seen.hold) 0 (length seen.hold.cells)) i e) in
      let test = sym (read_tested held r is (plans.wants held.planned.plan seen.hold i) (plans.lacks held.planned.plan seen.hold) i) ∙ found.1 in
      let parts = three (plans.is_in_sync (cell_at cells i).standing) (is_recalled (cell_at cells i).reading) (plans.is_unread (cell_at cells i).reading && plans.wants held.planned.plan seen.hold i && plans.lacks held.planned.plan seen.hold) test (is.sources i).unrecalled in
      let two = and_parts (plans.is_unread (cell_at cells i).reading && plans.wants held.planned.plan seen.hold i) (plans.lacks held.planned.plan seen.hold) parts.1 in
      record {
        inside = omega (arith, found.0, row_wide held r is);
        in_sync = in_sync_is (cell_at cells i).standing parts.0;
        unread = unread_is (cell_at cells i).reading (and_parts (plans.is_unread (cell_at cells i).reading) (plans.wants held.planned.plan seen.hold i) two.0).0;
        one = λ one. elim (cases_eq i p) [
          | inl same ↦ same
          | inr apart ↦ absurd (let f = sym (one_other held r is going i apart) ∙ subst (λ (q : Plan). plans.is_next_read q seen.hold i ≡ true) one found.1 in cc)
        ];
      }

  -- ---- what comes next, while the target is there and the block has not left

  module _ (going : r.closed ≡ false) (there : plans.has_target (cell_at seen.hold.cells r.position) ≡ true) (still : is_left r.written ≡ false) where
    goes_on : plans.gives_up seen.hold ≡ false
    goes_on = up_is held r is going ∙ ap not there

    pub lacks_here : plans.lacks_new seen.hold p ≡ true
    lacks_here =
        (λ k. not (plans.is_out (cell_at seen.hold.cells p).standing) && plans.is_unwritten (own_writing (cell_at seen.hold.cells p)) && plans.puts seen.hold (kind_is held r is going k) p)
        ∙ (λ k. not (plans.is_out (at k).standing) && plans.is_unwritten (own_writing (at k)) && eq-eqb p p refl k)
        ∙ by_stage r.stage r.written (unwritten r.written still) (cell_at cells p).standing (sym (ap plans.has_target at) ∙ there)
      where
        at : cell_at seen.hold.cells p ≡ replacing r.stage r.written (cell_at cells p)
        at = at_position r.stage r.written p cells is.within

        by_stage : (s : Stage) (w : Written) → w ≡ written.Unwritten → (t : Standing) → plans.has_target (replacing s w (record (cell_at cells p) { standing = t })) ≡ true →
            (not (plans.is_out (replacing s w (record (cell_at cells p) { standing = t })).standing) && plans.is_unwritten (own_writing (replacing s w (record (cell_at cells p) { standing = t }))) && true) ≡ true
        by_stage stage.Beside written.Unwritten e InSync h = refl
        by_stage stage.Beside written.Unwritten e Target h = refl
        by_stage stage.Beside written.Unwritten e Out h = absurd cc
        by_stage stage.Moved written.Unwritten e InSync h = refl
        by_stage stage.Moved written.Unwritten e Target h = refl
        by_stage stage.Moved written.Unwritten e Out h = absurd cc
        by_stage stage.Dropped written.Unwritten e InSync h = absurd cc
        by_stage stage.Dropped written.Unwritten e Target h = refl
        by_stage stage.Dropped written.Unwritten e Out h = absurd cc
        by_stage s written.Sent e t h = absurd cc
        by_stage s written.Confirmed e t h = absurd cc

    computes : plans.next_compute seen.hold ≡ Some ComputeNew
    computes =
        ap (λ (b : Bool). if b then None else Some ComputeNew)
        (each_false (λ position. not (plans.lacks_new seen.hold position)) (length seen.hold.cells) p (omega (arith, is.within, row_wide held r is)) (ap not lacks_here))

    restores : plans.next_restore seen.hold seen.hold.kind ≡ None
    restores = ap (plans.next_restore seen.hold) (kind_is held r is going)

    abbrev again : Option Next
    again = plans.next_again (record held.planned.hold { kind = Rebuild p })

    pub step_is : plans.next seen ≡
        or_else (losses held r is) (by_step (plans.next_read held.planned.plan seen.hold) (plans.has_asked held.planned.hold) (plans.next_fix held.planned.hold) (plans.next_again (record held.planned.hold { kind = Rebuild r.position }))
        (plans.has_enough held.planned.plan seen.hold))
    step_is =
        (λ k. if goes_on k then plans.next_again seen.hold else or_else (loss_is held r is k) (or_else (plans.next_read held.planned.plan seen.hold)
        (if asked_is held r is k then None else or_else (fixes_is held r is going still k) (or_else (again_is held r is going still k)
        (if not (plans.has_enough held.planned.plan seen.hold) then None else or_else (restores k) (or_else (computes k) (plans.next_write seen.hold)))))))

  -- ---- a fix

  pub of_first : (row : List (List ℕ)) → is_left r.written ≡ false → IsOfFirst seen.hold row → IsOfFirst held.planned.hold row
  of_first row still of =
      let wide = row_wide held r is in
      let read : (replacing r.stage r.written (cell_at cells p)).reading ≡ (cell_at cells p).reading = reading_is r.stage r.written (cell_at cells p) ∙ ap (λ (w : Written). given w (cell_at cells p).reading) (unwritten r.written still) in
      record {
        wide = of.wide ∙ wide;
        full = of.full;
        same = λ j b e. of.same j b (subst (λ (n : ℕ). (cell_at (first_known (n - 2) (replacing_at r.stage r.written p cells)) j).reading ≡ Known b) (sym wide)
            (first_known_both (length cells - 2) cells p (replacing r.stage r.written (cell_at cells p)) j b (ap is_known read) (λ f. read ∙ f) e));
      }

  -- ---- the block is known once enough is

  over_known : (x : Reading) → is_recalled x ≡ false → x ≢ Replaced → x ≢ Unread → x ≢ Asked → plans.is_met x ≡ false → is_known x ≡ true
  over_known Unread a b d e f = absurd (d refl)
  over_known Recalled a b d e f = absurd cc
  over_known Asked a b d e f = absurd (e refl)
  over_known Unreadable a b d e f = absurd cc
  over_known Fixing a b d e f = absurd cc
  over_known Fixed a b d e f = absurd cc
  over_known AskedAgain a b d e f = absurd cc
  over_known (Known block) a b d e f = refl
  over_known Replaced a b d e f = absurd (b refl)

  pub known_there : r.closed ≡ false → plans.has_target (cell_at seen.hold.cells r.position) ≡ true → plans.has_asked held.planned.hold ≡ false → plans.has_enough held.planned.plan seen.hold ≡ true → is_known (cell_at cells r.position).reading ≡ true
  known_there going there asked enough = elim is.plan [
    | inl one ↦ sym (enough_one held r is going) ∙ subst (λ (q : Plan). plans.is_enough q seen.hold ≡ true) one two.0
    | inr recover ↦ by_standing (cell_at cells p).standing refl recover
  ]
    where
      two : (plans.is_enough held.planned.plan seen.hold ≡ true) × (not (plans.is_mending seen.hold) ≡ true)
      two = and_parts (plans.is_enough held.planned.plan seen.hold) (not (plans.is_mending seen.hold)) enough

      -- of those that aren't out
      quiet : (test : Reading → Bool) → list_any (λ cell. not (plans.is_out cell.standing) && test cell.reading) cells ≡ false → (cell_at cells p).standing ≡ InSync → test (cell_at cells p).reading ≡ false
      quiet test none in_sync =
          sym (ap (λ (t : Standing). not (plans.is_out t) && test (cell_at cells p).reading) in_sync)
          ∙ any_each (λ cell. not (plans.is_out cell.standing) && test cell.reading) cells none p is.within

      by_standing : (t : Standing) → (cell_at cells p).standing ≡ t → held.planned.plan ≡ Recover → is_known (cell_at cells p).reading ≡ true
      by_standing InSync e recover =
          over_known (cell_at cells p).reading (is.sources p).unrecalled (is.sources p).kept (is.tried recover e)
          (λ f. let g = sym (ap plans.is_asked f) ∙ quiet plans.is_asked asked e in cc)
          (quiet plans.is_met (sym (mending_is held r is) ∙ not_false (plans.is_mending seen.hold) two.1) e)
      by_standing Target e recover = absurd ((is.sources p).standing e)
      by_standing Out e recover = absurd (gone r.stage (sym (ap plans.has_target (at_position r.stage r.written p cells is.within)) ∙ there) e)
        where
          gone : (s : Stage) → plans.has_target (replacing s r.written (cell_at cells p)) ≡ true → (cell_at cells p).standing ≡ Out → ⊥
          gone s h out = let f = sym (target_is s r.written (cell_at cells p) (is.sources p).standing ∙ ap (λ (t : Standing). not (is_gone s) && not (plans.is_out t)) out ∙ and_right (not (is_gone s)) false refl) ∙ h in cc

-- what a fix that comes next is of, and a second read
pub unreadable_is : (hold : Hold) (i : ℕ) → plans.next_fix hold ≡ Some (FixAt i) → (i < length hold.cells) × ((cell_at hold.cells i).standing ≡ InSync) × ((cell_at hold.cells i).reading ≡ Unreadable)
unreadable_is hold i e =
    let found = fix_found hold i e in
    let error = (and_parts (plans.can_fix hold) (plans.is_in_error (cell_at hold.cells i)) found.2).1 in
    let two = and_parts (plans.is_in_sync (cell_at hold.cells i).standing) (plans.is_unreadable (cell_at hold.cells i).reading) error in
    (found.1, in_sync_is (cell_at hold.cells i).standing two.0, by_reading (cell_at hold.cells i).reading two.1)
  where
    by_reading : (x : Reading) → plans.is_unreadable x ≡ true → x ≡ Unreadable
    by_reading Unread e = absurd cc
    by_reading Recalled e = absurd cc
    by_reading Asked e = absurd cc
    by_reading Unreadable e = refl
    by_reading Fixing e = absurd cc
    by_reading Fixed e = absurd cc
    by_reading AskedAgain e = absurd cc
    by_reading (Known block) e = absurd cc
    by_reading Replaced e = absurd cc

pub fixed_is : (hold : Hold) (i : ℕ) → plans.next_again hold ≡ Some (ReadAgainAt i) → (i < length hold.cells) × ((cell_at hold.cells i).standing ≡ InSync) × ((cell_at hold.cells i).reading ≡ Fixed)
fixed_is hold i e =
    let found = again_found hold i e in
    let two = and_parts (plans.is_in_sync (cell_at hold.cells i).standing) (plans.is_fixed (cell_at hold.cells i).reading) found.2 in
    (found.1, in_sync_is (cell_at hold.cells i).standing two.0, by_reading (cell_at hold.cells i).reading two.1)
  where
    by_reading : (x : Reading) → plans.is_fixed x ≡ true → x ≡ Fixed
    by_reading Unread e = absurd cc
    by_reading Recalled e = absurd cc
    by_reading Asked e = absurd cc
    by_reading Unreadable e = absurd cc
    by_reading Fixing e = absurd cc
    by_reading Fixed e = refl
    by_reading AskedAgain e = absurd cc
    by_reading (Known block) e = absurd cc
    by_reading Replaced e = absurd cc
