-- The write to the target of a rebuild comes home.
use Rattle.std.proofs.Common.{◌≡◌, ◌≢◌, Bool, true, false, ℕ, ◌<◌, List, [], length, get_or, set, refl, sym, ◌∙◌, ap, subst, arith, None, Option}
use Rattle.std.specs.Prelude.{not, ◌==◌, ◌&&◌, if◌then◌else◌}
use Rattle.std.proofs.lemmas.Bool.{and_parts, eqb-true}
use Rattle.std.proofs.lemmas.List.{get_or-set_same, set-set}
use Rattle.r6_recover.specs.declared.class.RowClass.{RowClass}
use Rattle.r6_stripe.specs.Checks.{IsClassAfter, IsClassIf}
use Rattle.r6_stripe.specs.Holds.{Standing, Cell, cell_at, all_known, passes_over, wants_all}
use Rattle.r6_stripe.specs.Holds.Standing.{InSync, Target, Out}
use Rattle.r6_stripe.specs.Holds.Event.{Confirms, Gives, Mends, Settles}
use Rattle.r6_stripe.specs.Holds.Kind.{Idle}
use Rattle.r6_stripe.specs.Holds.Writing.{Confirmed}
use Rattle.r6_stripe.specs.Plans as plans
use Rattle.r6_stripe.specs.Plans.{Planned, planned_after}
use Rattle.r6_stripe.specs.Replacements.{IsReplacing, away_beside, apart_beside, confirmed_if, has_moved, held_beside, is_gone, is_moved, planned_beside, replacing, target_at, written_as}
use Rattle.r6_stripe.specs.Steps.{Held, answered, is_away, settled, with_answer, with_settled}
use Rattle.r6_stripe.specs.declared.replacement.Stage.{Stage}
use Rattle.r6_stripe.specs.declared.replacement.Stage.TheVariants as stage
use Rattle.r6_stripe.specs.declared.replacement.Written.{Written}
use Rattle.r6_stripe.specs.declared.replacement.Written.TheVariants as written
use Rattle.r6_stripe.specs.declared.replacement.Replacement.{Replacement}
use Rattle.r6_stripe.proofs.Replacing.{at_other, at_position, become, target_is}
use Rattle.r6_stripe.proofs.ReplacingAnswers.{answer_kept}
use Rattle.r6_stripe.proofs.ReplacingWhole.{known_home}

pub moved_parts : (r : Replacement) (i : ℕ) → has_moved r i ≡ true → (r.stage ≡ stage.Moved) × (i ≡ r.position)
moved_parts r i e =
    let two = and_parts (is_moved r.stage) (r.position == i) e in
    (by_stage r.stage two.0, sym (eqb-true r.position i two.1))
  where
    by_stage : (s : Stage) → is_moved s ≡ true → s ≡ stage.Moved
    by_stage stage.Beside e = absurd cc
    by_stage stage.Moved e = refl
    by_stage stage.Dropped e = absurd cc

pub not_moved_parts : (r : Replacement) (i : ℕ) → has_moved r i ≡ false → r.stage ≡ stage.Moved → i ≢ r.position
not_moved_parts r i e moved same =
    let t : has_moved r i ≡ true = (λ k. is_moved (moved k) && (r.position == same k)) ∙ Rattle.std.proofs.lemmas.Bool.eq-eqb r.position r.position refl in
    let f = sym e ∙ t in cc

sent_only : (w : Written) → (w ≢ written.Sent → ⊥) → w ≡ written.Sent
sent_only written.Unwritten h = absurd (h (λ e. cc))
sent_only written.Sent h = refl
sent_only written.Confirmed h = absurd (h (λ e. cc))

-- where the buffer apart is away the write to the target is
pub apart_sent : (held : Held) (r : Replacement) → IsReplacing held r → held.second_away ≡ true → r.written ≡ written.Sent
apart_sent held r is gone = sent_only r.written (λ other. let e = sym (is.home other) ∙ gone in cc)

-- ---- what the answer makes of the position

module _ (held : Held) (p : ℕ) (closed : Bool) (given_block : List ℕ) (below : p < length held.planned.hold.cells) (inside : p < length held.away) where
  abbrev cells : List Cell
  cells = held.planned.hold.cells

  abbrev sent : Stage → Replacement
  sent s = record { position = p; stage = s; written = written.Sent; closed = closed }

  abbrev done : Stage → Replacement
  done s = record { position = p; stage = s; written = written.Confirmed; closed = closed }

  moved_planned : (t : Standing) → (cell_at cells p).standing ≡ t → t ≢ Target →
      planned_beside (confirmed_if (not (plans.is_out t)) (sent stage.Moved)) held.planned ≡ with_answer (planned_beside (sent stage.Moved) held.planned) p given_block
  moved_planned InSync e other =
      let seen : Planned = planned_beside (sent stage.Moved) held.planned in
      let at : cell_at seen.hold.cells p ≡ replacing stage.Moved written.Sent (cell_at cells p) = at_position stage.Moved written.Sent p cells below in
      let target : plans.is_out (cell_at seen.hold.cells p).standing ≡ false = ap (λ (c : Cell). plans.is_out c.standing) at ∙ ap (λ (t : Standing). plans.is_out (target_at t)) e in
      let sends : plans.is_sent (cell_at seen.hold.cells p).writing ≡ true = ap (λ (c : Cell). plans.is_sent c.writing) at in
      ap (λ (cs : List Cell). record seen { hold = record seen.hold { cells = cs } }) (become stage.Moved stage.Moved written.Sent written.Confirmed p cells below (λ c. record c { writing = Confirmed }) refl)
      ∙ sym (λ k. if target k then seen else (if sends k then planned_after seen (Confirms p) else (if plans.is_fixing (cell_at seen.hold.cells p).reading then planned_after seen (Mends p) else planned_after seen (Gives p given_block))))
  moved_planned Target e other = absurd (other refl)
  moved_planned Out e other =
      let seen : Planned = planned_beside (sent stage.Moved) held.planned in
      let at : cell_at seen.hold.cells p ≡ replacing stage.Moved written.Sent (cell_at cells p) = at_position stage.Moved written.Sent p cells below in
      let out : plans.is_out (cell_at seen.hold.cells p).standing ≡ true = ap (λ (c : Cell). plans.is_out c.standing) at ∙ ap (λ (t : Standing). plans.is_out (target_at t)) e in
      sym (λ k. if out k then seen else (if plans.is_sent (cell_at seen.hold.cells p).writing then planned_after seen (Confirms p) else (if plans.is_fixing (cell_at seen.hold.cells p).reading then planned_after seen (Mends p) else planned_after seen (Gives p given_block))))

  beside_planned : (t : Standing) → (cell_at cells p).standing ≡ t → t ≢ Target →
      planned_beside (confirmed_if (not (plans.is_out t)) (sent stage.Beside)) held.planned ≡ with_settled (planned_beside (sent stage.Beside) held.planned) p
  beside_planned InSync e other =
      let seen : Planned = planned_beside (sent stage.Beside) held.planned in
      let at : cell_at seen.hold.cells p ≡ replacing stage.Beside written.Sent (cell_at cells p) = at_position stage.Beside written.Sent p cells below in
      let waits : (not (plans.is_out (cell_at seen.hold.cells p).second) && plans.is_sent (cell_at seen.hold.cells p).copying) ≡ true = ap (λ (c : Cell). not (plans.is_out c.second) && plans.is_sent c.copying) at ∙ ap (λ (t : Standing). not (plans.is_out (target_at t)) && true) e in
      ap (λ (cs : List Cell). record seen { hold = record seen.hold { cells = cs } }) (become stage.Beside stage.Beside written.Sent written.Confirmed p cells below (λ c. record c { copying = Confirmed }) refl)
      ∙ sym (λ k. if waits k then planned_after seen (Settles p) else seen)
  beside_planned Target e other = absurd (other refl)
  beside_planned Out e other =
      let seen : Planned = planned_beside (sent stage.Beside) held.planned in
      let at : cell_at seen.hold.cells p ≡ replacing stage.Beside written.Sent (cell_at cells p) = at_position stage.Beside written.Sent p cells below in
      let waits : (not (plans.is_out (cell_at seen.hold.cells p).second) && plans.is_sent (cell_at seen.hold.cells p).copying) ≡ false = ap (λ (c : Cell). not (plans.is_out c.second) && plans.is_sent c.copying) at ∙ ap (λ (t : Standing). not (plans.is_out (target_at t)) && true) e in
      sym (λ k. if waits k then planned_after seen (Settles p) else seen)

  dropped_planned : planned_beside (sent stage.Dropped) held.planned ≡ with_settled (planned_beside (sent stage.Dropped) held.planned) p
  dropped_planned =
      let seen : Planned = planned_beside (sent stage.Dropped) held.planned in
      let at : cell_at seen.hold.cells p ≡ replacing stage.Dropped written.Sent (cell_at cells p) = at_position stage.Dropped written.Sent p cells below in
      sym (λ k. if ap (λ (c : Cell). not (plans.is_out c.second) && plans.is_sent c.copying) at k then planned_after seen (Settles p) else seen)

-- ---- the hold

module _ (held : Held) (r : Replacement) (is : IsReplacing held r) where
  abbrev here : Cell
  here = cell_at held.planned.hold.cells r.position

  -- whether the answer confirms the write
  abbrev pub confirms : Bool
  confirms = plans.is_sent (written_as r.written) && plans.has_target (replacing r.stage r.written (cell_at held.planned.hold.cells r.position))

  there_is : plans.has_target (replacing r.stage r.written here) ≡ (not (is_gone r.stage) && not (plans.is_out here.standing))
  there_is = target_is r.stage r.written here (is.sources r.position).standing

  pub confirm_moved : (block : List ℕ) → r.stage ≡ stage.Moved → is_away (held_beside r held) r.position ≡ true → held_beside (confirmed_if confirms r) (record held { second_away = false }) ≡ answered (held_beside r held) r.position block
  confirm_moved block at gone =
      let apart : held.second_away ≡ true =
      sym (get_or-set_same held.away r.position held.second_away false (omega (arith, is.within, is.wide))) ∙ sym (ap (λ (s : Stage). get_or (away_beside s r.position held.away held.second_away) r.position false) at) ∙ gone in
      let sent : r.written ≡ written.Sent = apart_sent held r is apart in
      let test : confirms ≡ not (plans.is_out here.standing) = (λ k. plans.is_sent (written_as (sent k)) && there_is k) ∙ ap (λ (s : Stage). not (is_gone s) && not (plans.is_out here.standing)) at in
      ap (λ (b : Bool). held_beside (confirmed_if b r) (record held { second_away = false })) test
      ∙ (λ k. held_beside (confirmed_if (not (plans.is_out here.standing)) (record { position = r.position; stage = at k; written = sent k; closed = r.closed })) (record held { second_away = false }))
      ∙ by_planned here.standing refl
      ∙ sym (λ k. answered (held_beside (record { position = r.position; stage = at k; written = sent k; closed = r.closed }) held) r.position block)
    where
      away_same : set held.away r.position false ≡ set (set held.away r.position held.second_away) r.position false
      away_same = sym (set-set held.away r.position held.second_away false)

      by_planned : (t : Standing) → here.standing ≡ t →
          held_beside (confirmed_if (not (plans.is_out here.standing)) (record { position = r.position; stage = stage.Moved; written = written.Sent; closed = r.closed })) (record held { second_away = false })
          ≡ answered (held_beside (record { position = r.position; stage = stage.Moved; written = written.Sent; closed = r.closed }) held) r.position block
      by_planned InSync e =
          ap (λ (t : Standing). held_beside (confirmed_if (not (plans.is_out t)) (record { position = r.position; stage = stage.Moved; written = written.Sent; closed = r.closed })) (record held { second_away = false })) e
          ∙ (λ k. record held { planned = moved_planned held r.position r.closed block is.within (omega (arith, is.within, is.wide)) InSync e (λ f. cc) k; away = away_same k; second_away = get_or held.away r.position false })
      by_planned Target e = absurd ((is.sources r.position).standing e)
      by_planned Out e =
          ap (λ (t : Standing). held_beside (confirmed_if (not (plans.is_out t)) (record { position = r.position; stage = stage.Moved; written = written.Sent; closed = r.closed })) (record held { second_away = false })) e
          ∙ (λ k. record held { planned = moved_planned held r.position r.closed block is.within (omega (arith, is.within, is.wide)) Out e (λ f. cc) k; away = away_same k; second_away = get_or held.away r.position false })

  -- the position has its own device
  apart_true : (held_beside r held).second_away ≡ true → (r.stage ≢ stage.Moved) × (held.second_away ≡ true)
  apart_true gone = by_stage r.stage refl gone
    where
      by_stage : (s : Stage) → r.stage ≡ s → apart_beside s r.position held.away held.second_away ≡ true → (r.stage ≢ stage.Moved) × (held.second_away ≡ true)
      by_stage stage.Beside e g = ((λ f. let h = sym e ∙ f in cc), g)
      by_stage stage.Moved e g = absurd (let h = sym (known_home held r is (is.moved e)) ∙ g in cc)
      by_stage stage.Dropped e g = ((λ f. let h = sym e ∙ f in cc), g)

  pub confirm_beside : (held_beside r held).second_away ≡ true → held_beside (confirmed_if confirms r) (record held { second_away = false }) ≡ settled (held_beside r held) r.position
  confirm_beside gone =
      let parts = apart_true gone in
      let sent : r.written ≡ written.Sent = apart_sent held r is parts.1 in
      let test : confirms ≡ (not (is_gone r.stage) && not (plans.is_out here.standing)) = (λ k. plans.is_sent (written_as (sent k)) && there_is k) in
      ap (λ (b : Bool). held_beside (confirmed_if b r) (record held { second_away = false })) test
      ∙ (λ k. held_beside (confirmed_if (not (is_gone r.stage) && not (plans.is_out here.standing)) (record { position = r.position; stage = r.stage; written = sent k; closed = r.closed })) (record held { second_away = false }))
      ∙ by_stage r.stage refl here.standing refl
      ∙ sym (λ k. settled (held_beside (record { position = r.position; stage = r.stage; written = sent k; closed = r.closed }) held) r.position)
    where
      by_stage : (s : Stage) → r.stage ≡ s → (t : Standing) → here.standing ≡ t →
          held_beside (confirmed_if (not (is_gone s) && not (plans.is_out here.standing)) (record { position = r.position; stage = s; written = written.Sent; closed = r.closed })) (record held { second_away = false })
          ≡ settled (held_beside (record { position = r.position; stage = s; written = written.Sent; closed = r.closed }) held) r.position
      by_stage stage.Beside other InSync e =
          ap (λ (t : Standing). held_beside (confirmed_if (not (plans.is_out t)) (record { position = r.position; stage = stage.Beside; written = written.Sent; closed = r.closed })) (record held { second_away = false })) e
          ∙ (λ k. record held { planned = beside_planned held r.position r.closed [] is.within (omega (arith, is.within, is.wide)) InSync e (λ f. cc) k; second_away = false })
      by_stage stage.Beside other Target e = absurd ((is.sources r.position).standing e)
      by_stage stage.Beside other Out e =
          ap (λ (t : Standing). held_beside (confirmed_if (not (plans.is_out t)) (record { position = r.position; stage = stage.Beside; written = written.Sent; closed = r.closed })) (record held { second_away = false })) e
          ∙ (λ k. record held { planned = beside_planned held r.position r.closed [] is.within (omega (arith, is.within, is.wide)) Out e (λ f. cc) k; second_away = false })
      by_stage stage.Dropped other t e = (λ k. record held { planned = dropped_planned held r.position r.closed [] is.within (omega (arith, is.within, is.wide)) k; second_away = false })
      by_stage stage.Moved other t e = absurd ((apart_true gone).0 other)

  -- another position has no second device
  pub settle_other : (i : ℕ) → i ≢ r.position → (held_beside r held).second_away ≡ true → held_beside r (record held { second_away = false }) ≡ settled (held_beside r held) i
  settle_other i apart gone =
      let seen : Planned = planned_beside r held.planned in
      let none : (not (plans.is_out (cell_at seen.hold.cells i).second) && plans.is_sent (cell_at seen.hold.cells i).copying) ≡ false =
      ap (λ (c : Cell). not (plans.is_out c.second) && plans.is_sent c.copying) (at_other r.stage r.written r.position held.planned.hold.cells i apart)
      ∙ ap (λ (t : Standing). not (plans.is_out t) && plans.is_sent (cell_at held.planned.hold.cells i).copying) (is.sources i).second in
      by_stage r.stage refl
      ∙ sym (ap (λ (b : Bool). record (held_beside r held) { planned = if b then planned_after seen (Settles i) else seen; second_away = false }) none)
    where
      by_stage : (s : Stage) → r.stage ≡ s → held_beside r (record held { second_away = false }) ≡ record (held_beside r held) { second_away = false }
      by_stage stage.Beside e = subst (λ (s : Stage). held_beside (record r { stage = s }) (record held { second_away = false }) ≡ record (held_beside (record r { stage = s }) held) { second_away = false }) (sym e) refl
      by_stage stage.Moved e = absurd ((apart_true gone).0 e)
      by_stage stage.Dropped e = subst (λ (s : Stage). held_beside (record r { stage = s }) (record held { second_away = false }) ≡ record (held_beside (record r { stage = s }) held) { second_away = false }) (sym e) refl

  -- the hold that reads settles nothing
  pub settle_plain : (i : ℕ) → settled held i ≡ record held { second_away = false }
  settle_plain i =
      ap (λ (t : Standing). record held { planned = if not (plans.is_out t) && plans.is_sent (cell_at held.planned.hold.cells i).copying then planned_after held.planned (Settles i) else held.planned; second_away = false }) (is.sources i).second

  -- and it finds no class
  pub answer_class : (i : ℕ) (block : List ℕ) → i < length held.planned.hold.cells → is_away held i ≡ true → (r.stage ≡ stage.Moved → i ≢ r.position) → (new : Held) → new ≡ record (answered held i block) { class = new.class } →
      IsClassAfter new.planned.hold held.class new.class → new ≡ answered held i block
  answer_class i block inside gone apart new same class =
      same ∙ ap (λ (o : Option RowClass). record (answered held i block) { class = o }) (none ∙ sym is.unclassed)
    where
      idle : new.planned.hold.kind ≡ Idle
      idle = ap (λ (h : Held). h.planned.hold.kind) same ∙ (answer_kept held r is i block inside gone apart).untasked

      none : new.class ≡ None
      none =
          subst (λ (b : Bool). IsClassIf (b && (not (passes_over new.planned.hold) && all_known new.planned.hold.cells)) new.planned.hold.cells new.class) (ap wants_all idle)
          (subst (λ (o : Option RowClass). IsClassAfter new.planned.hold o new.class) is.unclassed class)
