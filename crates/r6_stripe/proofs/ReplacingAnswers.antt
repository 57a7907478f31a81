-- Answers, errors and losses in a hold with the target of a rebuild beside one position.
use Rattle.std.proofs.Common.{◌≡◌, ◌≢◌, ◌⊎◌, inl, inr, Bool, true, false, ℕ, zero, suc, ◌<◌, List, [], ◌∷◌, length, get_or, set, refl, sym, ◌∙◌, ap, subst}
use Rattle.std.specs.Prelude.{not, ◌==◌, ◌&&◌, ◌||◌, if◌then◌else◌}
use Rattle.std.proofs.lemmas.Bool.{cases_eq, eq-eqb, eqb-true, false_from_ne_true}
use Rattle.std.proofs.lemmas.List.{get_or-set_other, length-set}
use Rattle.r6_stripe.specs.Holds.{Standing, Reading, Writing, Cell, Kind, Hold, Event, cell_at, no_cell, is_known, all_known, wants_all, IsReadOver}
use Rattle.r6_stripe.specs.Holds.Standing.{InSync, Target, Out}
use Rattle.r6_stripe.specs.Holds.Reading.{Unread, Recalled, Asked, Unreadable, Fixing, Fixed, AskedAgain, Known, Replaced}
use Rattle.r6_stripe.specs.Holds.Kind.{Idle, Rebuild}
use Rattle.r6_stripe.specs.Holds.Event.{Gives, Fails, Mends, Loses}
use Rattle.r6_stripe.specs.Places.{is_read_out}
use Rattle.r6_stripe.specs.Plans as plans
use Rattle.r6_stripe.specs.Plans.{Plan, Planned, after_error, after_loss, planned_after, is_recalled}
use Rattle.r6_stripe.specs.Plans.Plan.{One, Recover}
use Rattle.r6_stripe.specs.Replacements.{IsReplacing, away_beside, apart_beside, given, held_beside, kind_of_replacement, planned_beside, replacing, replacing_at, with_plan}
use Rattle.r6_stripe.specs.Steps.{Held, failed, is_away, lost, answered, with_answer}
use Rattle.r6_stripe.specs.declared.replacement.Stage.{Stage}
use Rattle.r6_stripe.specs.declared.replacement.Stage.TheVariants as stage
use Rattle.r6_stripe.specs.declared.replacement.Written.{Written}
use Rattle.r6_stripe.specs.declared.replacement.Written.TheVariants as written
use Rattle.r6_stripe.specs.declared.replacement.Replacement.{Replacement}
use Rattle.r6_stripe.proofs.Bound.{within}
use Rattle.r6_stripe.proofs.Mends.{asked_is}
use Rattle.r6_stripe.proofs.Replacing.{at_other, at_position, given_same, known_is, lost_put, out_is, put_at, read_test, same_at}
use Rattle.r6_stripe.proofs.ReplacingEvents.{after_loss_of, after_read, apart_put, away_other, away_put, fails_beside, gives_beside, lost_kept, mends_beside, read_kept}

-- a read that isn't known looks the same once the block left
given_met : (w : Written) → given w Unreadable ≡ Unreadable
given_met written.Unwritten = refl
given_met written.Sent = refl
given_met written.Confirmed = refl

given_fixed : (w : Written) → given w Fixed ≡ Fixed
given_fixed written.Unwritten = refl
given_fixed written.Sent = refl
given_fixed written.Confirmed = refl

not_unwritten : (w : Written) → (w ≢ written.Unwritten → ⊥) → w ≡ written.Unwritten
not_unwritten written.Unwritten h = refl
not_unwritten written.Sent h = absurd (h (λ e. cc))
not_unwritten written.Confirmed h = absurd (h (λ e. cc))

module _ (held : Held) (r : Replacement) (is : IsReplacing held r) where
  abbrev cells : List Cell
  cells = held.planned.hold.cells

  -- while a position that isn't lost is read no block has left
  pub still_here : (i : ℕ) → (cell_at cells i).standing ≢ Out → (IsReadOver (cell_at cells i).reading → ⊥) → r.written ≡ written.Unwritten
  still_here i stands busy = not_unwritten r.written (λ left. busy (is.over left i stands))

  -- and the plan reads it
  pub only_read : held.planned.plan ≡ One → (i : ℕ) → (cell_at cells i).reading ≢ Unread → i ≡ r.position
  only_read one i asked = elim (cases_eq i r.position) [ inl same ↦ same | inr apart ↦ absurd (asked (is.own one i apart)) ]

  pub not_moved : (i : ℕ) → is_known (cell_at cells i).reading ≡ false → r.stage ≡ stage.Moved → i ≢ r.position
  not_moved i unknown moved same = let e = sym (subst (λ (k : ℕ). is_known (cell_at cells k).reading ≡ false) same unknown) ∙ is.moved moved in cc

  -- ---- a read error

  asked_parts : (i : ℕ) → is_read_out (cell_at cells i) ≡ true → ((cell_at cells i).standing ≢ Out) × ((cell_at cells i).reading ≡ Asked)
  asked_parts i e = by_standing (cell_at cells i).standing refl e
    where
      by_standing : (t : Standing) → (cell_at cells i).standing ≡ t → (not (plans.is_out t) && plans.is_asked (cell_at cells i).reading) ≡ true → ((cell_at cells i).standing ≢ Out) × ((cell_at cells i).reading ≡ Asked)
      by_standing InSync s e = ((λ out. let f = sym s ∙ out in cc), asked_is (cell_at cells i).reading e)
      by_standing Target s e = ((λ out. let f = sym s ∙ out in cc), asked_is (cell_at cells i).reading e)
      by_standing Out s e = absurd cc

  pub fail_away : (i : ℕ) → is_read_out (cell_at cells i) ≡ true → is_away (held_beside r held) i ≡ is_away held i
  fail_away i out = away_other r.stage r.position i held.away held.second_away (not_moved i (ap is_known (asked_parts i out).1))

  pub fail_both : (i : ℕ) → is_read_out (cell_at cells i) ≡ true → held_beside r (failed held i) ≡ failed (held_beside r held) i
  fail_both i out =
      let asked = (asked_parts i out).1 in
      let apart = not_moved i (ap is_known asked) in
      (λ k. record held {
        planned = fails_beside r held.planned is.within i (λ same. given_met r.written) k;
        away = away_put r.stage r.position i held.away held.second_away false apart k;
        second_away = apart_put r.stage r.position i held.away held.second_away false apart k;
      })

  pub fail_kept : (i : ℕ) → is_read_out (cell_at cells i) ≡ true → IsReplacing (failed held i) r
  fail_kept i out =
      let parts = asked_parts i out in
      read_kept held r i Unreadable false true (after_error held.planned.plan) is (record {
        inside = within cells i parts.0;
        here = still_here i parts.0 (λ over. subst IsReadOver parts.1 over);
        kept = λ e. cc;
        unrecalled = refl;
        busy = λ e. absurd cc;
        moved = not_moved i (ap is_known parts.1);
        tried = λ e. cc;
        one = λ e. absurd (never held.planned.plan e);
        recovers = λ e. elim is.plan [ inl one ↦ inr (only_read one i (λ u. let f = sym parts.1 ∙ u in cc)) | inr recover ↦ inl recover ];
        either = inr (recovers is.plan);
      })
    where
      never : (q : Plan) → after_error q ≡ One → ⊥
      never One e = cc
      never Plan.Reconstruct e = cc
      never Plan.Modify e = cc
      never Plan.Overwrite e = cc
      never Recover e = cc
      never Plan.All e = cc

      recovers : (held.planned.plan ≡ One) ⊎ (held.planned.plan ≡ Recover) → after_error held.planned.plan ≡ Recover
      recovers (inl e) = ap after_error e
      recovers (inr e) = ap after_error e

  -- while the block isn't known it has not left
  pub unread_here : is_known (cell_at cells r.position).reading ≡ false → r.written ≡ written.Unwritten
  unread_here unknown = not_unwritten r.written (λ left. let f = sym unknown ∙ is.known left in cc)

  -- ---- a loss

  no_wants : wants_all (kind_of_replacement r) ≡ false
  no_wants = by_closed r.closed
    where
      by_closed : (b : Bool) → wants_all (if b then Idle else Rebuild r.position) ≡ false
      by_closed true = refl
      by_closed false = refl

  cut_same : (held.planned.hold.cut_short || (wants_all held.planned.hold.kind && not (all_known cells))) ≡ (held.planned.hold.cut_short || (wants_all (kind_of_replacement r) && not (all_known (replacing_at r.stage r.written r.position cells))))
  cut_same =
      (λ k. held.planned.hold.cut_short || (wants_all (is.untasked k) && not (all_known cells)))
      ∙ sym (ap (λ (b : Bool). held.planned.hold.cut_short || (b && not (all_known (replacing_at r.stage r.written r.position cells)))) no_wants)

  cut_stays : (held.planned.hold.cut_short || (wants_all held.planned.hold.kind && not (all_known cells))) ≡ held.planned.hold.cut_short
  cut_stays = (λ k. held.planned.hold.cut_short || (wants_all (is.untasked k) && not (all_known cells))) ∙ or_false held.planned.hold.cut_short
    where
      or_false : (b : Bool) → (b || false) ≡ b
      or_false true = refl
      or_false false = refl

  -- with the plan that it has then
  abbrev pub lost_as : ℕ → Plan → Held
  lost_as i plan =
      record held {
        planned = record {
          hold = record held.planned.hold {
            cells = set held.planned.hold.cells i (record (cell_at held.planned.hold.cells i) { standing = Out; second = Out });
            cut_short = held.planned.hold.cut_short || (wants_all held.planned.hold.kind && not (all_known held.planned.hold.cells));
          };
          plan = plan;
        };
      }

  pub lose_both : (i : ℕ) (plan : Plan) → plan ≡ after_loss held.planned.plan (planned_beside r held.planned).hold i → held_beside r (lost_as i plan) ≡ lost (held_beside r held) i
  lose_both i plan same =
      let changes = put_at r.stage r.written r.position cells is.within (λ c. record c { standing = Out; second = Out }) i (λ at. lost_put r.stage r.written (cell_at cells r.position)) in
      (λ k. record held {
        planned = record {
          hold = record held.planned.hold { kind = kind_of_replacement r; cells = changes k; cut_short = cut_same k };
          plan = same k;
        };
        away = away_beside r.stage r.position held.away held.second_away;
        second_away = apart_beside r.stage r.position held.away held.second_away;
      })

  pub lose_kept : (i : ℕ) → i < length cells → (plan : Plan) → (plan ≡ One) ⊎ (plan ≡ Recover) → (plan ≡ One → held.planned.plan ≡ One) →
      (plan ≡ Recover → (held.planned.plan ≡ Recover) ⊎ ((i ≡ r.position) × (r.written ≡ written.Unwritten))) → IsReplacing (lost_as i plan) r
  lose_kept i inside plan either one recovers =
      subst (λ (b : Bool). IsReplacing (record (after_loss_of held i plan) { planned = record (after_loss_of held i plan).planned { hold = record (after_loss_of held i plan).planned.hold { cut_short = b } } }) r) (sym cut_stays)
      (lost_kept held r i inside is plan either one recovers)

  -- the plan stays, but where the position is lost unread
  served_kept : (i : ℕ) → (hold : Hold) → (i ≡ r.position → r.closed ≡ false → is_known (cell_at hold.cells i).reading ≡ true) → hold.kind ≡ kind_of_replacement r → plans.is_served One hold i ≡ true
  served_kept i hold known kind =
      (λ k. not (plans.is_its_block (kind k) i) || is_known (cell_at hold.cells i).reading) ∙ by_closed r.closed refl
    where
      or_true : (b : Bool) → (b || true) ≡ true
      or_true true = refl
      or_true false = refl

      by_closed : (b : Bool) → r.closed ≡ b → (not (plans.is_its_block (if b then Idle else Rebuild r.position) i) || is_known (cell_at hold.cells i).reading) ≡ true
      by_closed true e = refl
      by_closed false e =
          elim (cases_eq i r.position) [
            | inl same ↦ ap (λ (b : Bool). not (r.position == i) || b) (known same e) ∙ or_true (not (r.position == i))
            | inr apart ↦ ap (λ (b : Bool). not b || is_known (cell_at hold.cells i).reading) (false_from_ne_true (r.position == i) (λ f. apart (sym (eqb-true r.position i f))))
          ]

  pub loss_stays : (i : ℕ) → (i ≡ r.position → r.closed ≡ false → is_known (cell_at cells i).reading ≡ true) → held.planned.plan ≡ after_loss held.planned.plan (planned_beside r held.planned).hold i
  loss_stays i known = elim is.plan [
    | inl one ↦
        subst (λ (q : Plan). q ≡ after_loss q (planned_beside r held.planned).hold i) (sym one)
        (by_test (plans.is_served One (planned_beside r held.planned).hold i)
        (served_kept i (planned_beside r held.planned).hold (λ same going. same_at (λ c. is_known c.reading) r.stage r.written r.position cells is.within (known_is r.stage r.written (cell_at cells r.position)) i ∙ known same going) refl))
    | inr recover ↦ subst (λ (q : Plan). q ≡ after_loss q (planned_beside r held.planned).hold i) (sym recover) refl
  ]
    where
      by_test : (b : Bool) → b ≡ true → One ≡ (if b then One else Recover)
      by_test true f = refl
      by_test false f = absurd cc

  pub loss_plain : (i : ℕ) → held.planned.plan ≡ after_loss held.planned.plan held.planned.hold i
  loss_plain i = elim is.plan [
    | inl one ↦ subst (λ (q : Plan). q ≡ after_loss q held.planned.hold i) (sym one) (sym (λ k. if not (plans.is_its_block (is.untasked k) i) || is_known (cell_at cells i).reading then One else Recover))
    | inr recover ↦ subst (λ (q : Plan). q ≡ after_loss q held.planned.hold i) (sym recover) refl
  ]

  pub loss_recovers : (i : ℕ) → i ≡ r.position → r.closed ≡ false → is_known (cell_at cells i).reading ≡ false → Recover ≡ after_loss held.planned.plan (planned_beside r held.planned).hold i
  loss_recovers i same going unknown = elim is.plan [
    | inl one ↦
        subst (λ (q : Plan). Recover ≡ after_loss q (planned_beside r held.planned).hold i) (sym one)
        (by_test (plans.is_served One (planned_beside r held.planned).hold i)
        ((λ k. not (plans.is_its_block (if going k then Idle else Rebuild r.position) (same k)) || (same_at (λ c. is_known c.reading) r.stage r.written r.position cells is.within (known_is r.stage r.written (cell_at cells r.position)) i ∙ unknown) k)
        ∙ ap (λ (b : Bool). not b || false) (eq-eqb r.position r.position refl)))
    | inr recover ↦ subst (λ (q : Plan). Recover ≡ after_loss q (planned_beside r held.planned).hold i) (sym recover) refl
  ]
    where
      by_test : (b : Bool) → b ≡ false → Recover ≡ (if b then One else Recover)
      by_test true f = absurd cc
      by_test false f = refl

  -- the plan then
  pub loss_shape : (i : ℕ) → (q : Plan) → q ≡ after_loss held.planned.plan (planned_beside r held.planned).hold i →
      ((q ≡ One) × (held.planned.plan ≡ One)) ⊎ ((q ≡ Recover) × ((held.planned.plan ≡ Recover) ⊎ ((i ≡ r.position) × (r.written ≡ written.Unwritten))))
  loss_shape i q e = elim is.plan [
    | inl one ↦ by_served (plans.is_served One (planned_beside r held.planned).hold i) refl one (e ∙ ap (λ (p : Plan). after_loss p (planned_beside r held.planned).hold i) one)
    | inr recover ↦ inr (e ∙ ap (λ (p : Plan). after_loss p (planned_beside r held.planned).hold i) recover, inl recover)
  ]
    where
      known_seen : is_known (cell_at (planned_beside r held.planned).hold.cells i).reading ≡ is_known (cell_at cells i).reading
      known_seen = same_at (λ c. is_known c.reading) r.stage r.written r.position cells is.within (known_is r.stage r.written (cell_at cells r.position)) i

      -- a block that isn't known has not left
      here : i ≡ r.position → is_known (cell_at cells i).reading ≡ false → r.written ≡ written.Unwritten
      here same unknown = not_unwritten r.written (λ left. let f = sym (subst (λ (k : ℕ). is_known (cell_at cells k).reading ≡ false) same unknown) ∙ is.known left in cc)

      unserved : (b : Bool) → is_known (cell_at cells i).reading ≡ b → plans.is_served One (planned_beside r held.planned).hold i ≡ false → (i ≡ r.position) × (r.written ≡ written.Unwritten)
      unserved true known none = absurd (let f = sym (served_kept i (planned_beside r held.planned).hold (λ same going. known_seen ∙ known) refl) ∙ none in cc)
      unserved false known none = elim (cases_eq i r.position) [
        | inl same ↦ (same, here same known)
        | inr apart ↦ absurd (let f = sym (served_kept i (planned_beside r held.planned).hold (λ same going. absurd (apart same)) refl) ∙ none in cc)
      ]

      by_served : (b : Bool) → plans.is_served One (planned_beside r held.planned).hold i ≡ b → held.planned.plan ≡ One → q ≡ (if plans.is_served One (planned_beside r held.planned).hold i then One else Recover) →
          ((q ≡ One) × (held.planned.plan ≡ One)) ⊎ ((q ≡ Recover) × ((held.planned.plan ≡ Recover) ⊎ ((i ≡ r.position) × (r.written ≡ written.Unwritten))))
      by_served true f one g = inl (g ∙ ap (λ (b : Bool). if b then One else Recover) f, one)
      by_served false f one g = inr (g ∙ ap (λ (b : Bool). if b then One else Recover) f, inr (unserved (is_known (cell_at cells i).reading) refl f))

  pub lost_plain : (i : ℕ) (q : Plan) → (q ≡ One) ⊎ (q ≡ Recover) → lost (with_plan q held) i ≡ lost_as i q
  lost_plain i q either = ap (λ (x : Plan). lost_as i x) (by_plan either)
    where
      by_plan : (q ≡ One) ⊎ (q ≡ Recover) → after_loss q held.planned.hold i ≡ q
      by_plan (inl one) = subst (λ (x : Plan). after_loss x held.planned.hold i ≡ x) (sym one) (λ k. if not (plans.is_its_block (is.untasked k) i) || is_known (cell_at cells i).reading then One else Recover)
      by_plan (inr recover) = subst (λ (x : Plan). after_loss x held.planned.hold i ≡ x) (sym recover) refl

  -- ---- an answer

  -- to a command of the position's own device
  pub sent_none : (i : ℕ) → plans.is_sent (cell_at cells i).writing ≡ false
  sent_none i = ap plans.is_sent (is.sources i).writing

  sent_same : (i : ℕ) → (r.stage ≡ stage.Moved → i ≢ r.position) → plans.is_sent (cell_at (planned_beside r held.planned).hold.cells i).writing ≡ false
  sent_same i apart =
      elim (cases_eq i r.position) [
        | inl same ↦
            subst (λ (k : ℕ). plans.is_sent (cell_at (planned_beside r held.planned).hold.cells k).writing ≡ false) (sym same)
            (ap (λ (c : Cell). plans.is_sent c.writing) (at_position r.stage r.written r.position cells is.within) ∙ by_stage r.stage (λ m. apart m same))
        | inr other ↦ ap (λ (c : Cell). plans.is_sent c.writing) (at_other r.stage r.written r.position cells i other) ∙ sent_none i
      ]
    where
      by_stage : (s : Stage) → (s ≡ stage.Moved → ⊥) → plans.is_sent (replacing s r.written (cell_at cells r.position)).writing ≡ false
      by_stage stage.Beside h = refl
      by_stage stage.Moved h = absurd (h refl)
      by_stage stage.Dropped h = refl

  -- a late one changes nothing but the buffer
  pub home_kept : (i : ℕ) → IsReplacing (record held { away = set held.away i false }) r
  home_kept i = record {
    within = is.within;
    wide = length-set held.away i false ∙ is.wide;
    enough_positions = is.enough_positions;
    untasked = is.untasked;
    unclassed = is.unclassed;
    uncut = is.uncut;
    sources = is.sources;
    unlent = λ j gone. is.unlent j (was j gone);
    busy = λ j gone. is.busy j (was j gone);
    plan = is.plan;
    own = is.own;
    tried = is.tried;
    moved = is.moved;
    home = is.home;
    known = is.known;
    over = is.over;
    enough = is.enough;
  }
    where
      -- a buffer that is away still was
      was : (j : ℕ) → get_or (set held.away i false) j false ≡ true → get_or held.away j false ≡ true
      was j gone =
          elim (cases_eq j i) [
            | inl same ↦ absurd (set_false held.away i (subst (λ (k : ℕ). get_or (set held.away i false) k false ≡ true) same gone))
            | inr apart ↦ sym (get_or-set_other held.away i j false false apart) ∙ gone
          ]
        where
          set_false : (away : List Bool) (i : ℕ) → get_or (set away i false) i false ≡ true → ⊥
          set_false [] i e = cc
          set_false (b ∷ away) zero e = cc
          set_false (b ∷ away) (suc i) e = set_false away i e

  pub answer_away : (i : ℕ) → (r.stage ≡ stage.Moved → i ≢ r.position) → is_away (held_beside r held) i ≡ is_away held i
  answer_away i apart = away_other r.stage r.position i held.away held.second_away apart

  not_out : (i : ℕ) → plans.is_out (cell_at cells i).standing ≡ false → (cell_at cells i).standing ≢ Out
  not_out i e out = let f = sym (ap plans.is_out out) ∙ e in cc

  put_away : (i : ℕ) (planned : Planned) → (r.stage ≡ stage.Moved → i ≢ r.position) →
      held_beside r (record held { planned = planned; away = set held.away i false }) ≡ record (held_beside r held) { planned = planned_beside r planned; away = set (held_beside r held).away i false }
  put_away i planned apart =
      (λ k. record held {
        planned = planned_beside r planned;
        away = away_put r.stage r.position i held.away held.second_away false apart k;
        second_away = apart_put r.stage r.position i held.away held.second_away false apart k;
      })

  pub answer_both : (i : ℕ) (block : List ℕ) → is_away held i ≡ true → (r.stage ≡ stage.Moved → i ≢ r.position) → held_beside r (answered held i block) ≡ answered (held_beside r held) i block
  answer_both i block gone apart =
      put_away i (with_answer held.planned i block) apart
      ∙ ap (λ (q : Planned). record (held_beside r held) { planned = q; away = set (held_beside r held).away i false }) (by_out (plans.is_out (cell_at cells i).standing) refl)
    where
      seen : Planned
      seen = planned_beside r held.planned

      out_same : plans.is_out (cell_at seen.hold.cells i).standing ≡ plans.is_out (cell_at cells i).standing
      out_same = same_at (λ c. plans.is_out c.standing) r.stage r.written r.position cells is.within (out_is r.stage r.written (cell_at cells r.position)) i

      fixing_same : plans.is_fixing (cell_at seen.hold.cells i).reading ≡ plans.is_fixing (cell_at cells i).reading
      fixing_same = same_at (λ c. plans.is_fixing c.reading) r.stage r.written r.position cells is.within (read_test plans.is_fixing (λ block. refl) r.stage r.written (cell_at cells r.position)) i

      plain_is : (out fixing : Bool) → plans.is_out (cell_at cells i).standing ≡ out → plans.is_fixing (cell_at cells i).reading ≡ fixing →
          with_answer held.planned i block ≡ (if out then held.planned else (if false then planned_after held.planned (Rattle.r6_stripe.specs.Holds.Event.Confirms i) else (if fixing then planned_after held.planned (Mends i) else planned_after held.planned (Gives i block))))
      plain_is out fixing e f = (λ k. if e k then held.planned else (if sent_none i k then planned_after held.planned (Rattle.r6_stripe.specs.Holds.Event.Confirms i) else (if f k then planned_after held.planned (Mends i) else planned_after held.planned (Gives i block))))

      seen_is : (out fixing : Bool) → plans.is_out (cell_at cells i).standing ≡ out → plans.is_fixing (cell_at cells i).reading ≡ fixing →
          with_answer seen i block ≡ (if out then seen else (if false then planned_after seen (Rattle.r6_stripe.specs.Holds.Event.Confirms i) else (if fixing then planned_after seen (Mends i) else planned_after seen (Gives i block))))
      seen_is out fixing e f = (λ k. if (out_same ∙ e) k then seen else (if sent_same i apart k then planned_after seen (Rattle.r6_stripe.specs.Holds.Event.Confirms i) else (if (fixing_same ∙ f) k then planned_after seen (Mends i) else planned_after seen (Gives i block))))

      by_fixing : (b : Bool) → plans.is_fixing (cell_at cells i).reading ≡ b → plans.is_out (cell_at cells i).standing ≡ false → planned_beside r (with_answer held.planned i block) ≡ with_answer seen i block
      by_fixing true f e = ap (planned_beside r) (plain_is false true e f) ∙ mends_beside r held.planned is.within i (λ same. given_fixed r.written) ∙ sym (seen_is false true e f)
      by_fixing false f e =
          ap (planned_beside r) (plain_is false false e f)
          ∙ gives_beside r held.planned is.within i block (λ same. given_same r.written (Known block) (still_here i (not_out i e) (is.busy i gone (not_out i e))))
          ∙ sym (seen_is false false e f)

      by_out : (b : Bool) → plans.is_out (cell_at cells i).standing ≡ b → planned_beside r (with_answer held.planned i block) ≡ with_answer seen i block
      by_out true e = ap (planned_beside r) (plain_is true (plans.is_fixing (cell_at cells i).reading) e refl) ∙ sym (seen_is true (plans.is_fixing (cell_at cells i).reading) e refl)
      by_out false e = by_fixing (plans.is_fixing (cell_at cells i).reading) refl e

  pub answer_kept : (i : ℕ) (block : List ℕ) → i < length cells → is_away held i ≡ true → (r.stage ≡ stage.Moved → i ≢ r.position) → IsReplacing (answered held i block) r
  answer_kept i block inside gone apart = by_out (plans.is_out (cell_at cells i).standing) refl
    where
      plain_is : (out fixing : Bool) → plans.is_out (cell_at cells i).standing ≡ out → plans.is_fixing (cell_at cells i).reading ≡ fixing →
          (if out then held.planned else (if false then planned_after held.planned (Rattle.r6_stripe.specs.Holds.Event.Confirms i) else (if fixing then planned_after held.planned (Mends i) else planned_after held.planned (Gives i block)))) ≡ with_answer held.planned i block
      plain_is out fixing e f = sym (λ k. if e k then held.planned else (if sent_none i k then planned_after held.planned (Rattle.r6_stripe.specs.Holds.Event.Confirms i) else (if f k then planned_after held.planned (Mends i) else planned_after held.planned (Gives i block))))

      comes_to : (x : Reading) → x ≢ Replaced → is_recalled x ≡ false → x ≢ Unread → plans.is_out (cell_at cells i).standing ≡ false → IsReplacing (after_read held i x false held.planned.hold.met_error held.planned.plan) r
      comes_to x kept unrecalled tried e =
          let busy = is.busy i gone (not_out i e) in
          let asked : (cell_at cells i).reading ≢ Unread = λ u. busy (subst IsReadOver (sym u) tt) in
          read_kept held r i x false held.planned.hold.met_error held.planned.plan is (record {
            inside = inside;
            here = still_here i (not_out i e) busy;
            kept = kept;
            unrecalled = unrecalled;
            busy = λ f. absurd cc;
            moved = apart;
            tried = tried;
            one = λ one. (one, only_read one i asked);
            recovers = λ recover. inl recover;
            either = is.plan;
          })

      by_fixing : (b : Bool) → plans.is_fixing (cell_at cells i).reading ≡ b → plans.is_out (cell_at cells i).standing ≡ false → IsReplacing (answered held i block) r
      by_fixing true f e = subst (λ (q : Planned). IsReplacing (record held { planned = q; away = set held.away i false }) r) (plain_is false true e f) (comes_to Fixed (λ g. cc) refl (λ g. cc) e)
      by_fixing false f e = subst (λ (q : Planned). IsReplacing (record held { planned = q; away = set held.away i false }) r) (plain_is false false e f) (comes_to (Known block) (λ g. cc) refl (λ g. cc) e)

      by_out : (b : Bool) → plans.is_out (cell_at cells i).standing ≡ b → IsReplacing (answered held i block) r
      by_out true e = subst (λ (q : Planned). IsReplacing (record held { planned = q; away = set held.away i false }) r) (plain_is true (plans.is_fixing (cell_at cells i).reading) e refl) (home_kept i)
      by_out false e = by_fixing (plans.is_fixing (cell_at cells i).reading) refl e

  -- ---- a write to a second device comes home

  -- with nothing else
  pub apart_kept : (w : Written) → (r.written ≡ written.Unwritten → w ≡ written.Unwritten) → (w ≡ written.Unwritten → r.written ≡ written.Unwritten) → IsReplacing (record held { second_away = false }) (record r { written = w })
  apart_kept w still back = record {
    within = is.within;
    wide = is.wide;
    enough_positions = is.enough_positions;
    untasked = is.untasked;
    unclassed = is.unclassed;
    uncut = is.uncut;
    sources = is.sources;
    unlent = is.unlent;
    busy = is.busy;
    plan = is.plan;
    own = is.own;
    tried = is.tried;
    moved = is.moved;
    home = λ e. refl;
    known = λ left. is.known (λ e. left (still e));
    over = λ left. is.over (λ e. left (still e));
    enough = λ left. is.enough (λ e. left (still e));
  }
