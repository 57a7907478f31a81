-- When a hold with the target of a rebuild beside one position is over, and that it may end then.
use Rattle.std.proofs.Common.{◌≡◌, ◌≢◌, inl, inr, Bool, true, false, ℕ, ◌-◌, List, length, refl, sym, ◌∙◌, ap, subst, arith, Some, None, Option}
use Rattle.std.specs.Prelude.{not, nat_lt, ◌==◌, ◌&&◌, ◌||◌, if◌then◌else◌, option_map}
use Rattle.std.specs.List.{list_any}
use Rattle.std.proofs.lemmas.Bool.{and_parts, and_right, cases_eq, eqb-true, false_from_ne_true, le-leb}
use Rattle.r6_stripe.specs.Holds.{Standing, Reading, Writing, Cell, Kind, Hold, cell_at, no_cell, own_writing, is_known, IsReadOver, IsToWrite, MayEnd}
use Rattle.r6_stripe.specs.Holds.Standing.{InSync, Target, Out}
use Rattle.r6_stripe.specs.Holds.Reading.{Unread, Recalled, Asked, Unreadable, Fixing, Fixed, AskedAgain, Known, Replaced}
use Rattle.r6_stripe.specs.Holds.Writing.{Unwritten, Ready, Sent, Confirmed}
use Rattle.r6_stripe.specs.Holds.Kind.{Idle, Rebuild}
use Rattle.r6_stripe.specs.Plans as plans
use Rattle.r6_stripe.specs.Plans.{Next, Plan, Planned, first_from, or_else, is_none}
use Rattle.r6_stripe.specs.Plans.Next.{ComputeNew, LoseUnreadable}
use Rattle.r6_stripe.specs.Plans.Plan.{One, Recover}
use Rattle.r6_stripe.specs.Replacements.{IsReplacing, given, is_gone, is_left, planned_beside, replacing, replacing_at, target_at, written_as}
use Rattle.std.specs.Prelude.{MatchOption, IfSome}
use Rattle.r6_recover.specs.declared.class.RowClass.{RowClass}
use Rattle.r6_stripe.specs.Checks.{IsEnd}
use Rattle.r6_stripe.specs.Replacements.{target_outcome}
use Rattle.r6_stripe.specs.declared.command.Outcome.{Outcome as End}
use Rattle.r6_stripe.specs.declared.command.Outcome.TheVariants as end
use Rattle.r6_stripe.specs.Steps.{Held, has_outcome, is_idle}
use Rattle.r6_stripe.specs.declared.replacement.Stage.{Stage}
use Rattle.r6_stripe.specs.declared.replacement.Stage.TheVariants as stage
use Rattle.r6_stripe.specs.declared.replacement.Written.{Written}
use Rattle.r6_stripe.specs.declared.replacement.Written.TheVariants as written
use Rattle.r6_stripe.specs.declared.replacement.Replacement.{Replacement}
use Rattle.r6_stripe.proofs.KindPlans.{IsComputed, IsReplaced, Suits}
use Rattle.r6_stripe.proofs.Nexts.{over_busy, over_given_up}
use Rattle.r6_stripe.proofs.Over.{IsEnding, ends_over}
use Rattle.r6_stripe.proofs.Places.{any_false, any_true}
use Rattle.r6_stripe.proofs.Replacing.{at_other, at_position, each_at, reading_is, target_is, unwritten}
use Rattle.r6_stripe.proofs.ReplacingNext.{enough_one, enough_recover, kind_is, loss_is, losses, mending_is, none_again, row_wide}
use Rattle.r6_stripe.proofs.ReplacingOver.{closed_up, next_up, out_is, up_is}
use Rattle.r6_stripe.proofs.ReplacingSteps.{by_step, step_is}
use Rattle.r6_stripe.proofs.Searches.{each_true, first_none}
use Rattle.r6_stripe.proofs.Steps.{not_false}

over_test : (test : Reading → Bool) → (test Unread ≡ false) → (test Recalled ≡ false) → ((block : List ℕ) → test (Known block) ≡ false) → test Replaced ≡ false → (x : Reading) → IsReadOver x → test x ≡ false
over_test test a b c d Unread h = a
over_test test a b c d Recalled h = b
over_test test a b c d Asked h = absurd h
over_test test a b c d Unreadable h = absurd h
over_test test a b c d Fixing h = absurd h
over_test test a b c d Fixed h = absurd h
over_test test a b c d AskedAgain h = absurd h
over_test test a b c d (Known block) h = c block
over_test test a b c d Replaced h = d

-- the position once its block left
left_cell : (s : Stage) (w : Written) (c : Cell) → is_left w ≡ true → c.standing ≢ Target → plans.has_target (replacing s w c) ≡ true →
    ((not (plans.is_unwritten (replacing s w c).writing) || not (plans.is_unwritten (replacing s w c).copying)) ≡ true) × (plans.is_ready (replacing s w c).writing ≡ false) × (plans.is_ready (replacing s w c).copying ≡ false) × (plans.is_unwritten (own_writing (replacing s w c)) ≡ false)
left_cell stage.Beside written.Sent c l h t = (refl, refl, refl, by_standing c.standing (sym (target_is stage.Beside written.Sent c h) ∙ t))
  where
    by_standing : (t : Standing) → not (plans.is_out t) ≡ true → plans.is_unwritten (Rattle.r6_stripe.specs.Holds.writing_for (target_at t) (replacing stage.Beside written.Sent c)) ≡ false
    by_standing InSync e = refl
    by_standing Target e = refl
    by_standing Out e = absurd cc
left_cell stage.Beside written.Confirmed c l h t = (refl, refl, refl, by_standing c.standing (sym (target_is stage.Beside written.Confirmed c h) ∙ t))
  where
    by_standing : (t : Standing) → not (plans.is_out t) ≡ true → plans.is_unwritten (Rattle.r6_stripe.specs.Holds.writing_for (target_at t) (replacing stage.Beside written.Confirmed c)) ≡ false
    by_standing InSync e = refl
    by_standing Target e = refl
    by_standing Out e = absurd cc
left_cell stage.Moved written.Sent c l h t = (refl, refl, refl, refl)
left_cell stage.Moved written.Confirmed c l h t = (refl, refl, refl, refl)
left_cell stage.Dropped w c l h t = absurd (let e = sym (target_is stage.Dropped w c h) ∙ t in cc)
left_cell s written.Unwritten c l h t = absurd cc

module _ (held : Held) (r : Replacement) (is : IsReplacing held r) where
  abbrev cells : List Cell
  cells = held.planned.hold.cells

  abbrev p : ℕ
  p = r.position

  abbrev seen : Planned
  seen = planned_beside r held.planned

  abbrev row : List Cell
  row = replacing_at r.stage r.written p cells

  pub closed_none : r.closed ≡ true → plans.next seen ≡ None
  closed_none e = next_up held r is (closed_up held r is e) ∙ ap (λ (b : Bool). if plans.is_idle (if b then Idle else Rebuild p) || plans.has_computed seen.hold || plans.has_fix_out seen.hold then None else option_map Next.ReadAgainAt (first_from (plans.is_next_again seen.hold) 0 (length row))) e

  -- ---- the block has left

  module _ (left : is_left r.written ≡ true) where
    gone : r.written ≢ written.Unwritten
    gone e = let f = sym (ap is_left e) ∙ left in cc

    -- a test that no read passes that is over
    plain_over : (test : Reading → Bool) → ((x : Reading) → IsReadOver x → test x ≡ false) → list_any (λ cell. not (plans.is_out cell.standing) && test cell.reading) cells ≡ false
    plain_over test none = any_false (λ cell. not (plans.is_out cell.standing) && test cell.reading) cells (λ i below. by_standing i (cell_at cells i).standing refl)
      where
        by_standing : (i : ℕ) (t : Standing) → (cell_at cells i).standing ≡ t → (not (plans.is_out t) && test (cell_at cells i).reading) ≡ false
        by_standing i InSync e = none (cell_at cells i).reading (is.over gone i (λ out. let f = sym e ∙ out in cc))
        by_standing i Target e = none (cell_at cells i).reading (is.over gone i (λ out. let f = sym e ∙ out in cc))
        by_standing i Out e = refl

    no_errors : list_any plans.is_in_error cells ≡ false
    no_errors = any_false plans.is_in_error cells (λ i below. by_standing i (cell_at cells i).standing refl)
      where
        by_standing : (i : ℕ) (t : Standing) → (cell_at cells i).standing ≡ t → (plans.is_in_sync t && plans.is_unreadable (cell_at cells i).reading) ≡ false
        by_standing i InSync e = over_test plans.is_unreadable refl refl (λ b. refl) refl (cell_at cells i).reading (is.over gone i (λ out. let f = sym e ∙ out in cc))
        by_standing i Target e = refl
        by_standing i Out e = refl

    mended : plans.is_mending seen.hold ≡ false
    mended = mending_is held r is ∙ plain_over plans.is_met (over_test plans.is_met refl refl (λ b. refl) refl)

    plain_quiet : (plans.has_read_out held.planned.hold || plans.has_write_out held.planned.hold) ≡ false
    plain_quiet =
        (λ k. (plain_over plans.is_asked (over_test plans.is_asked refl refl (λ b. refl) refl) k || plain_over plans.is_asked_again (over_test plans.is_asked_again refl refl (λ b. refl) refl) k)
        || (plain_over plans.is_fixing (over_test plans.is_fixing refl refl (λ b. refl) refl) k || (unsent k || uncopied k)))
      where
        unsent : list_any (λ cell. not (plans.is_out cell.standing) && plans.is_sent cell.writing) cells ≡ false
        unsent = any_false (λ cell. not (plans.is_out cell.standing) && plans.is_sent cell.writing) cells (λ i below. ap (λ (w : Writing). not (plans.is_out (cell_at cells i).standing) && plans.is_sent w) (is.sources i).writing ∙ and_right (not (plans.is_out (cell_at cells i).standing)) false refl)

        uncopied : list_any (λ cell. not (plans.is_out cell.second) && plans.is_sent cell.copying) cells ≡ false
        uncopied = any_false (λ cell. not (plans.is_out cell.second) && plans.is_sent cell.copying) cells (λ i below. ap (λ (t : Standing). not (plans.is_out t) && plans.is_sent (cell_at cells i).copying) (is.sources i).second)

    module _ (going : r.closed ≡ false) (there : plans.has_target (cell_at seen.hold.cells r.position) ≡ true) where
      facts : ((not (plans.is_unwritten (replacing r.stage r.written (cell_at cells p)).writing) || not (plans.is_unwritten (replacing r.stage r.written (cell_at cells p)).copying)) ≡ true) × (plans.is_ready (replacing r.stage r.written (cell_at cells p)).writing ≡ false)
          × (plans.is_ready (replacing r.stage r.written (cell_at cells p)).copying ≡ false) × (plans.is_unwritten (own_writing (replacing r.stage r.written (cell_at cells p))) ≡ false)
      facts = left_cell r.stage r.written (cell_at cells p) left (is.sources p).standing (sym (ap plans.has_target (at_position r.stage r.written p cells is.within)) ∙ there)

      computed : plans.has_computed seen.hold ≡ true
      computed = any_true (λ cell. not (plans.is_unwritten cell.writing) || not (plans.is_unwritten cell.copying)) row p (omega (arith, is.within, row_wide held r is))
          (ap (λ (c : Cell). not (plans.is_unwritten c.writing) || not (plans.is_unwritten c.copying)) (at_position r.stage r.written p cells is.within) ∙ facts.0)

      none_lacks : (i : ℕ) → plans.lacks_new seen.hold i ≡ false
      none_lacks i =
          ap (λ (k : Kind). not (plans.is_out (cell_at row i).standing) && plans.is_unwritten (own_writing (cell_at row i)) && plans.puts seen.hold k i) (kind_is held r is going)
          ∙ each_at (λ j c. (not (plans.is_out c.standing) && plans.is_unwritten (own_writing c) && (p == j)) ≡ false) r.stage r.written p cells is.within
          (ap (λ (b : Bool). not (plans.is_out (replacing r.stage r.written (cell_at cells p)).standing) && b && (p == p)) facts.3 ∙ none (not (plans.is_out (replacing r.stage r.written (cell_at cells p)).standing)) (p == p))
          (λ j apart. ap (λ (b : Bool). not (plans.is_out (cell_at cells j).standing) && plans.is_unwritten (own_writing (cell_at cells j)) && b) (false_from_ne_true (p == j) (λ e. apart (sym (eqb-true p j e))))
          ∙ and_right (not (plans.is_out (cell_at cells j).standing) && plans.is_unwritten (own_writing (cell_at cells j))) false refl)
          i
        where
          none : (a b : Bool) → (a && false && b) ≡ false
          none true b = refl
          none false b = refl

      no_write : plans.next_write seen.hold ≡ None
      no_write =
          ap (option_map (plans.write_at seen.hold)) (first_none (λ position. plans.is_next_write seen.hold position || plans.is_next_copy seen.hold position) 0 (length row) (λ i from before.
          each_at (λ j c. ((not (plans.is_out c.standing) && plans.is_ready c.writing) || (not (plans.is_out c.standing) && plans.is_first_sent c.second c.writing && plans.is_ready c.copying)) ≡ false) r.stage r.written p cells is.within
          (neither (replacing r.stage r.written (cell_at cells p)) facts.1 facts.2)
          (λ j apart. neither (cell_at cells j) (ap plans.is_ready (is.sources j).writing) (ap plans.is_ready (is.sources j).copying)) i))
        where
          neither : (c : Cell) → plans.is_ready c.writing ≡ false → plans.is_ready c.copying ≡ false → ((not (plans.is_out c.standing) && plans.is_ready c.writing) || (not (plans.is_out c.standing) && plans.is_first_sent c.second c.writing && plans.is_ready c.copying)) ≡ false
          neither c e f =
              (λ k. (not (plans.is_out c.standing) && e k) || (not (plans.is_out c.standing) && plans.is_first_sent c.second c.writing && f k))
              ∙ (λ k. and_right (not (plans.is_out c.standing)) false refl k || and_right (not (plans.is_out c.standing) && plans.is_first_sent c.second c.writing) false refl k)

      no_loss : plans.next_loss seen.hold ≡ None
      no_loss =
          loss_is held r is
          ∙ ap (λ (b : Bool). if nat_lt (plans.knowable_count cells) (length cells - 2) && b then Some LoseUnreadable else None) no_errors
          ∙ ap (λ (b : Bool). if b then Some LoseUnreadable else None) (and_right (nat_lt (plans.knowable_count cells) (length cells - 2)) false refl)

      pub left_none : plans.next seen ≡ None
      left_none =
          (λ k. if (up_is held r is going ∙ ap not there) k then plans.next_again seen.hold else or_else (no_loss k) (or_else
          (if computed k then None else option_map Next.ReadAt (first_from (plans.is_next_read held.planned.plan seen.hold) 0 (length row)))
          (if plans.has_asked seen.hold then None else or_else
          (if computed k then None else option_map Next.FixAt (first_from (plans.is_next_fix seen.hold) 0 (length row)))
          (or_else (none_again held r is left k) (if not (plans.has_enough held.planned.plan seen.hold) then None else or_else (plans.next_restore seen.hold (kind_is held r is going k)) (or_else
          (if each_true (λ position. not (plans.lacks_new seen.hold position)) (length row) (λ i below. ap not (none_lacks i)) k then None else Some ComputeNew) (no_write k)))))))
          ∙ neither (plans.has_asked seen.hold) (plans.has_enough held.planned.plan seen.hold)
        where
          neither : (a b : Bool) → ◌≡◌ {A = Option Next} (if a then None else (if not b then None else None)) None
          neither true b = refl
          neither false true = refl
          neither false false = refl

      enough : plans.has_enough held.planned.plan seen.hold ≡ true
      enough = (λ k. knows k && not (mended k))
        where
          knows : plans.is_enough held.planned.plan seen.hold ≡ true
          knows = elim is.plan [
            | inl one ↦ subst (λ (q : Plan). plans.is_enough q seen.hold ≡ true) (sym one) (enough_one held r is going ∙ is.known gone)
            | inr recover ↦ subst (λ (q : Plan). plans.is_enough q seen.hold ≡ true) (sym recover) (enough_recover held r is ∙ le-leb (length cells - 2) (Rattle.r6_stripe.specs.Holds.known_count cells) (omega (arith, is.enough gone recover)))
          ]

      -- it is over once the write is confirmed
      pub over_confirmed : r.written ≡ written.Confirmed → plans.is_over seen ≡ true
      over_confirmed e =
          let out : (plans.has_read_out seen.hold || plans.has_write_out seen.hold) ≡ false =
          out_is held r is ∙ (λ k. plain_quiet k || (plans.is_sent (written_as (e k)) && (not (is_gone r.stage) && not (plans.is_out (cell_at cells p).standing)))) in
          let two = quiet (plans.has_read_out seen.hold) (plans.has_write_out seen.hold) out in
          (λ k. not (two.0 k) && not (two.1 k) && is_none (left_none k) && (plans.gives_up seen.hold || enough k))
          ∙ or_true (plans.gives_up seen.hold)
        where
          quiet : (a b : Bool) → (a || b) ≡ false → (a ≡ false) × (b ≡ false)
          quiet true b f = absurd cc
          quiet false b f = (refl, f)

          or_true : (b : Bool) → (not false && not false && true && (b || true)) ≡ true
          or_true true = refl
          or_true false = refl

  -- ---- it isn't over before

  pub not_over_sent : plans.has_target (cell_at seen.hold.cells r.position) ≡ true → r.written ≡ written.Sent → plans.is_over seen ≡ false
  not_over_sent there e =
      let target : (not (is_gone r.stage) && not (plans.is_out (cell_at cells p).standing)) ≡ true =
      sym (target_is r.stage r.written (cell_at cells p) (is.sources p).standing) ∙ sym (ap plans.has_target (at_position r.stage r.written p cells is.within)) ∙ there in
      let out : (plans.has_read_out seen.hold || plans.has_write_out seen.hold) ≡ true =
      out_is held r is ∙ (λ k. (plans.has_read_out held.planned.hold || plans.has_write_out held.planned.hold) || (plans.is_sent (written_as (e k)) && target k)) ∙ or_true (plans.has_read_out held.planned.hold || plans.has_write_out held.planned.hold) in
      over_busy seen (busy (plans.has_read_out seen.hold) (plans.has_write_out seen.hold) out)
    where
      or_true : (b : Bool) → (b || true) ≡ true
      or_true true = refl
      or_true false = refl

      busy : (a b : Bool) → (a || b) ≡ true → (not a && not b) ≡ false
      busy true b e = refl
      busy false true e = refl
      busy false false e = absurd cc

  pub not_over_here : r.closed ≡ false → plans.has_target (cell_at seen.hold.cells r.position) ≡ true → is_left r.written ≡ false → plans.is_over seen ≡ false
  not_over_here going there still = false_from_ne_true (plans.is_over seen) (λ over.
      let all = and_parts (not (plans.has_read_out seen.hold) && not (plans.has_write_out seen.hold) && is_none (plans.next seen)) (plans.gives_up seen.hold || plans.has_enough held.planned.plan seen.hold) over in
      let three = and_parts (not (plans.has_read_out seen.hold) && not (plans.has_write_out seen.hold)) (is_none (plans.next seen)) all.0 in
      let two = and_parts (not (plans.has_read_out seen.hold)) (not (plans.has_write_out seen.hold)) three.0 in
      let unasked : plans.has_asked held.planned.hold ≡ false = sym (Rattle.r6_stripe.proofs.ReplacingNext.asked_is held r is) ∙ first (plans.has_asked seen.hold) (plans.has_asked_again seen.hold) (not_false (plans.has_read_out seen.hold) two.0) in
      let enough : plans.has_enough held.planned.plan seen.hold ≡ true = sym (ap (λ (b : Bool). b || plans.has_enough held.planned.plan seen.hold) (up_is held r is going ∙ ap not there)) ∙ all.1 in
      some (losses held r is) (plans.next_read held.planned.plan seen.hold) (plans.next_fix held.planned.hold) (plans.next_again (record held.planned.hold { kind = Rebuild r.position })) (plans.has_asked held.planned.hold) (plans.has_enough held.planned.plan seen.hold) unasked enough
      (sym (ap is_none (step_is held r is going there still)) ∙ three.1))
    where
      first : (a b : Bool) → (a || b) ≡ false → a ≡ false
      first true b e = absurd cc
      first false b e = refl

      some : (l rd f a : Option Next) (asked enough : Bool) → asked ≡ false → enough ≡ true → is_none (or_else l (by_step rd asked f a enough)) ≡ true → ⊥
      some (Some n) rd f a asked enough e g h = cc
      some None (Some n) f a asked enough e g h = cc
      some None None f a true enough e g h = cc
      some None None (Some n) a false enough e g h = cc
      some None None None (Some n) false enough e g h = cc
      some None None None None false true e g h = cc
      some None None None None false false e g h = cc

  -- ---- the target is lost

  pub lost_up : r.closed ≡ false → plans.has_target (cell_at seen.hold.cells r.position) ≡ false → plans.gives_up seen.hold ≡ true
  lost_up going lost = up_is held r is going ∙ ap not lost

  pub lost_over : r.closed ≡ false → plans.has_target (cell_at seen.hold.cells r.position) ≡ false →
      plans.is_over seen ≡ ((not (plans.has_read_out held.planned.hold) && not (plans.has_write_out held.planned.hold)) && is_none (plans.next_again seen.hold))
  lost_over going lost =
      let target : (not (is_gone r.stage) && not (plans.is_out (cell_at cells p).standing)) ≡ false =
      sym (target_is r.stage r.written (cell_at cells p) (is.sources p).standing) ∙ sym (ap plans.has_target (at_position r.stage r.written p cells is.within)) ∙ lost in
      let out = out_is held r is ∙ ap (λ (b : Bool). (plans.has_read_out held.planned.hold || plans.has_write_out held.planned.hold) || (plans.is_sent (written_as r.written) && b)) target in
      over_given_up seen (lost_up going lost)
      ∙ ap (λ (b : Bool). b && is_none (plans.next_again seen.hold)) (by_or (plans.has_read_out seen.hold) (plans.has_write_out seen.hold) (plans.has_read_out held.planned.hold) (plans.has_write_out held.planned.hold) (plans.is_sent (written_as r.written)) out)
    where
      demorgan : (a b : Bool) → (not a && not b) ≡ not (a || b)
      demorgan true b = refl
      demorgan false b = refl

      none : (x s : Bool) → (x || (s && false)) ≡ x
      none true s = refl
      none false true = refl
      none false false = refl

      by_or : (a b c d s : Bool) → (a || b) ≡ ((c || d) || (s && false)) → (not a && not b) ≡ (not c && not d)
      by_or a b c d s e = demorgan a b ∙ ap not (e ∙ none (c || d) s) ∙ sym (demorgan c d)

  -- ---- it may end

  ending : r.closed ≡ false → IsEnding seen
  ending going = record {
    suits = suits;
    index_in_range = λ index e. absurd (let f = sym (kind_is held r is going) ∙ e in cc);
    is_lost = λ q index e. absurd (let f = sym (kind_is held r is going) ∙ e in cc);
    untargeted = λ index e. absurd (let f = sym (kind_is held r is going) ∙ e in cc);
    second_targets = λ j t. kind_is held r is going ∙ ap Rebuild (sym (second_at j (λ e. let f = sym t ∙ e in cc)));
    beside = λ j two. beside j two;
    paired = λ j t. absurd (never_second j t);
    none_fixed = λ j w i stands f. unfixed j w i stands f;
    target_unfixed = λ j t f. target_read j t f;
    kept = λ j gone. kept j gone;
    owed = λ j w. subst (λ (k : Kind). IsToWrite seen.hold k j) (sym (kind_is held r is going)) (sym (computed_at j w));
  }
    where
      suits : Suits held.planned.plan seen.hold.kind
      suits = elim is.plan [
        | inl one ↦ subst (λ (q : Plan). Suits q seen.hold.kind) (sym one) (subst (Suits One) (sym (kind_is held r is going)) tt)
        | inr recover ↦ subst (λ (q : Plan). Suits q seen.hold.kind) (sym recover) (subst (Suits Recover) (sym (kind_is held r is going)) tt)
      ]

      -- only the position has a second device
      second_at : (j : ℕ) → (cell_at row j).second ≢ Out → j ≡ p
      second_at j two = elim (cases_eq j p) [ inl same ↦ same | inr apart ↦ absurd (two (ap (λ (c : Cell). c.second) (at_other r.stage r.written p cells j apart) ∙ (is.sources j).second)) ]

      beside : (j : ℕ) → (cell_at row j).second ≢ Out → (cell_at row j).standing ≡ InSync
      beside = each_at (λ j c. c.second ≢ Out → c.standing ≡ InSync) r.stage r.written p cells is.within (by_stage r.stage (cell_at cells p).standing refl) (λ j apart two. absurd (two (is.sources j).second))
        where
          by_stage : (s : Stage) (t : Standing) → (cell_at cells p).standing ≡ t → (replacing s r.written (cell_at cells p)).second ≢ Out → (replacing s r.written (cell_at cells p)).standing ≡ InSync
          by_stage stage.Beside InSync e h = e
          by_stage stage.Beside Target e h = absurd ((is.sources p).standing e)
          by_stage stage.Beside Out e h = absurd (h (ap target_at e))
          by_stage stage.Moved t e h = absurd (h refl)
          by_stage stage.Dropped t e h = absurd (h refl)

      never_second : (j : ℕ) → (cell_at row j).second ≡ InSync → ⊥
      never_second = each_at (λ j c. c.second ≡ InSync → ⊥) r.stage r.written p cells is.within (by_stage r.stage (cell_at cells p).standing refl) (λ j apart two. let e = sym two ∙ (is.sources j).second in cc)
        where
          by_stage : (s : Stage) (t : Standing) → (cell_at cells p).standing ≡ t → (replacing s r.written (cell_at cells p)).second ≡ InSync → ⊥
          by_stage stage.Beside InSync e h = (let f = sym (ap target_at e) ∙ h in cc)
          by_stage stage.Beside Target e h = (let f = sym (ap target_at e) ∙ h in cc)
          by_stage stage.Beside Out e h = (let f = sym (ap target_at e) ∙ h in cc)
          by_stage stage.Moved t e h = cc
          by_stage stage.Dropped t e h = cc

      -- a new block is that of the position, and has left
      computed_parts : (j : ℕ) → IsComputed (cell_at row j) → (j ≡ p) × (r.written ≢ written.Unwritten)
      computed_parts j w = elim (cases_eq j p) [
        | inl same ↦ (same, λ e. by_stage r.stage r.written e (subst IsComputed (at_position r.stage r.written p cells is.within) (subst (λ (k : ℕ). IsComputed (cell_at row k)) same w)))
        | inr apart ↦ absurd (elim w [
          | inl h ↦ h (ap (λ (c : Cell). c.writing) (at_other r.stage r.written p cells j apart) ∙ (is.sources j).writing)
          | inr h ↦ h (ap (λ (c : Cell). c.copying) (at_other r.stage r.written p cells j apart) ∙ (is.sources j).copying)
        ])
      ]
        where
          by_stage : (s : Stage) (v : Written) → v ≡ written.Unwritten → IsComputed (replacing s v (cell_at cells p)) → ⊥
          by_stage stage.Beside v e (inl h) = h refl
          by_stage stage.Beside v e (inr h) = h (ap written_as e)
          by_stage stage.Moved v e (inl h) = h (ap written_as e)
          by_stage stage.Moved v e (inr h) = h refl
          by_stage stage.Dropped v e (inl h) = h refl
          by_stage stage.Dropped v e (inr h) = h refl

      computed_at : (j : ℕ) → IsComputed (cell_at row j) → j ≡ p
      computed_at j w = (computed_parts j w).0

      unfixed : (j : ℕ) → IsComputed (cell_at row j) → (i : ℕ) → (cell_at row i).standing ≢ Out → (cell_at row i).reading ≢ Fixed
      unfixed j w = each_at (λ i c. c.standing ≢ Out → c.reading ≢ Fixed) r.stage r.written p cells is.within
          (λ stands f. let k = is.known (computed_parts j w).1 in known_unfixed (cell_at cells p).reading k (sym (reading_is r.stage r.written (cell_at cells p)) ∙ f))
          (λ i apart stands f. subst IsReadOver f (is.over (computed_parts j w).1 i stands))
        where
          known_unfixed : (x : Reading) → is_known x ≡ true → given r.written x ≡ Fixed → ⊥
          known_unfixed x k e = let g = sym (Rattle.r6_stripe.proofs.Replacing.given_test is_known (λ block. refl) r.written x ∙ k) ∙ ap is_known e in cc

      target_read : (j : ℕ) → (cell_at row j).standing ≡ Target → (cell_at row j).reading ≢ Fixed
      target_read = each_at (λ j c. c.standing ≡ Target → c.reading ≢ Fixed) r.stage r.written p cells is.within (by_stage r.stage refl) (λ j apart t. absurd ((is.sources j).standing t))
        where
          by_stage : (s : Stage) → r.stage ≡ s → (replacing s r.written (cell_at cells p)).standing ≡ Target → (replacing s r.written (cell_at cells p)).reading ≢ Fixed
          by_stage stage.Beside e t = absurd ((is.sources p).standing t)
          by_stage stage.Moved e t = λ f. let g = sym (Rattle.r6_stripe.proofs.Replacing.given_test is_known (λ block. refl) r.written (cell_at cells p).reading ∙ is.moved e) ∙ ap is_known f in cc
          by_stage stage.Dropped e t = absurd ((is.sources p).standing t)

      kept : (j : ℕ) → (cell_at row j).reading ≡ Replaced → IsReplaced seen.hold.kind j (cell_at row j)
      kept j gone = elim (cases_eq j p) [
        | inl same ↦
            subst (λ (k : ℕ). IsReplaced seen.hold.kind k (cell_at row k)) (sym same)
            (subst (IsReplaced seen.hold.kind p) (sym (at_position r.stage r.written p cells is.within))
            (by_stage r.stage r.written refl (cell_at cells p).standing refl (sym (reading_is r.stage r.written (cell_at cells p)) ∙ sym (ap (λ (c : Cell). c.reading) (at_position r.stage r.written p cells is.within)) ∙ subst (λ (k : ℕ). (cell_at row k).reading ≡ Replaced) same gone)))
        | inr apart ↦ absurd ((is.sources j).kept (sym (ap (λ (c : Cell). c.reading) (at_other r.stage r.written p cells j apart)) ∙ gone))
      ]
        where
          none : (t : Standing) → target_at t ≢ InSync
          none InSync e = cc
          none Target e = cc
          none Out e = cc

          by_stage : (s : Stage) (w : Written) → r.written ≡ w → (t : Standing) → (cell_at cells p).standing ≡ t → given w (cell_at cells p).reading ≡ Replaced → IsReplaced seen.hold.kind p (replacing s w (cell_at cells p))
          by_stage s written.Unwritten e t f g = absurd ((is.sources p).kept g)
          by_stage stage.Beside written.Sent e InSync f g = record { own = inl (λ u. let h = sym (ap (λ (t : Standing). Rattle.r6_stripe.specs.Holds.writing_for (target_at t) (replacing stage.Beside written.Sent (cell_at cells p))) f) ∙ u in cc); both = λ h. absurd (none (cell_at cells p).standing h) }
          by_stage stage.Beside written.Confirmed e InSync f g = record { own = inl (λ u. let h = sym (ap (λ (t : Standing). Rattle.r6_stripe.specs.Holds.writing_for (target_at t) (replacing stage.Beside written.Confirmed (cell_at cells p))) f) ∙ u in cc); both = λ h. absurd (none (cell_at cells p).standing h) }
          by_stage stage.Beside w e Out f g = record { own = inr (kind_is held r is going, (λ h. let k = sym f ∙ h in cc), λ h. let k = sym (ap target_at f) ∙ h in cc); both = λ h. absurd (none (cell_at cells p).standing h) }
          by_stage stage.Beside w e Target f g = absurd ((is.sources p).standing f)
          by_stage stage.Moved written.Sent e t f g = record { own = inl (λ u. cc); both = λ h. absurd cc }
          by_stage stage.Moved written.Confirmed e t f g = record { own = inl (λ u. cc); both = λ h. absurd cc }
          by_stage stage.Dropped w e t f g = record { own = inr (kind_is held r is going, (λ h. (is.sources p).standing h), λ h. cc); both = λ h. absurd cc }

  pub may_end : r.closed ≡ false → plans.is_over seen ≡ true → MayEnd seen.hold (plans.outcome_of seen.hold seen.hold.kind)
  may_end going over = ends_over seen over (ending going)

  pub outcome_is : r.closed ≡ false → has_outcome seen ≡ plans.is_over seen
  outcome_is going = ap (λ (k : Kind). not (is_idle k) && plans.is_over seen) (kind_is held r is going)

  pub outcome_none : r.closed ≡ true → has_outcome seen ≡ false
  outcome_none e = ap (λ (b : Bool). not (is_idle (if b then Idle else Rebuild p)) && plans.is_over seen) e

  -- ---- how it ends

  lost_end : (class : Option RowClass) (e : End) → r.closed ≡ false → (b : Bool) → plans.has_target (cell_at seen.hold.cells r.position) ≡ b → e ≡ (if b then end.Rebuilt else end.GivenUp) → IsEnd (plans.outcome_of seen.hold seen.hold.kind) class e
  lost_end class e going b there is_e =
      subst (λ (k : Kind). IsEnd (plans.outcome_of seen.hold k) class e) (sym (kind_is held r is going))
      (subst (λ (x : Bool). IsEnd (if x then Rattle.r6_stripe.specs.Holds.Outcome.Rebuilt else Rattle.r6_stripe.specs.Holds.Outcome.GivenUp) class e) (sym there) (by_target b is_e))
    where
      by_target : (b : Bool) → e ≡ (if b then end.Rebuilt else end.GivenUp) → IsEnd (if b then Rattle.r6_stripe.specs.Holds.Outcome.Rebuilt else Rattle.r6_stripe.specs.Holds.Outcome.GivenUp) class e
      by_target true f = f
      by_target false f = f

  pub target_over : (class : Option RowClass) → r.closed ≡ false → plans.has_target (cell_at seen.hold.cells r.position) ≡ true → (w : Written) → r.written ≡ w →
      MatchOption (target_outcome w) (has_outcome seen ≡ false) (λ e. (has_outcome seen ≡ true) × IsEnd (plans.outcome_of seen.hold seen.hold.kind) class e)
  target_over class going there written.Unwritten e = outcome_is going ∙ not_over_here going there (ap is_left e)
  target_over class going there written.Sent e = outcome_is going ∙ not_over_sent there e
  target_over class going there written.Confirmed e = (outcome_is going ∙ over_confirmed (ap is_left e) going there e, lost_end class end.Rebuilt going true there refl)

  pub target_ends : r.closed ≡ false → plans.has_target (cell_at seen.hold.cells r.position) ≡ true → (w : Written) → r.written ≡ w → IfSome (target_outcome w) (λ _. MayEnd seen.hold (plans.outcome_of seen.hold seen.hold.kind))
  target_ends going there written.Unwritten e = tt
  target_ends going there written.Sent e = tt
  target_ends going there written.Confirmed e = may_end going (over_confirmed (ap is_left e) going there e)

  pub lost_outcome : r.closed ≡ false → plans.has_target (cell_at seen.hold.cells r.position) ≡ false → (quiet none : Bool) → (not (plans.has_read_out held.planned.hold) && not (plans.has_write_out held.planned.hold)) ≡ quiet → is_none (plans.next_again seen.hold) ≡ none →
      has_outcome seen ≡ (quiet && none)
  lost_outcome going lost quiet none e f = outcome_is going ∙ lost_over going lost ∙ (λ k. e k && f k)

  pub lost_ends : (class : Option RowClass) → r.closed ≡ false → plans.has_target (cell_at seen.hold.cells r.position) ≡ false → has_outcome seen ≡ true → IsEnd (plans.outcome_of seen.hold seen.hold.kind) class end.GivenUp × MayEnd seen.hold (plans.outcome_of seen.hold seen.hold.kind)
  lost_ends class going lost e = (lost_end class end.GivenUp going false lost refl, may_end going (sym (outcome_is going) ∙ e))
