-- What answers, errors and losses make of a hold with a second device, by what they make of it without one.
use Rattle.std.proofs.Common.{◌≡◌, ◌≢◌, ◌⊎◌, Bool, true, false, ℕ, ◌-◌, List, length, set, refl, sym, ◌∙◌, ap, subst, arith, Some}
use Rattle.std.specs.Prelude.{◌&&◌, ◌||◌, not, if◌then◌else◌, nat_le}
use Rattle.std.proofs.lemmas.List.{get_or-set_same, set-set}
use Rattle.r6_stripe.specs.Holds.{Reading, Writing, Cell, cell_at, no_cell, wants_all}
use Rattle.r6_stripe.specs.Holds.Standing.{Out}
use Rattle.r6_stripe.specs.Holds.Reading.{Unreadable, Fixed, Known}
use Rattle.r6_stripe.specs.Holds.Writing.{Unwritten, Ready, Sent, Confirmed}
use Rattle.r6_stripe.specs.Holds.Event.{Confirms, Gives, Mends, Settles}
use Rattle.r6_stripe.specs.Places.{standing_of}
use Rattle.r6_stripe.specs.Plans as plans
use Rattle.r6_stripe.specs.Plans.{Plan, Planned, is_fixing, is_out, is_sent, planned_after}
use Rattle.r6_stripe.specs.Plans.Plan.{One, Reconstruct, Modify, Overwrite, Recover, All}
use Rattle.r6_stripe.specs.Seconds.{IsSecondSound, beside, cells_beside, copying_of, is_awaited, recalled_if, with_second, is_put_out}
use Rattle.r6_stripe.specs.Steps.{Held, answered, dropped, failed, is_away, lost, settled, with_answer}
use Rattle.r6_stripe.specs.declared.place.Standing.TheVariants as state
use Rattle.r6_stripe.specs.declared.second.CopyState.{CopyState}
use Rattle.r6_stripe.specs.declared.second.CopyState.TheVariants as copy
use Rattle.r6_stripe.specs.declared.second.Second.{Second}
use Rattle.r6_stripe.proofs.Alone.{AreAlone}
use Rattle.r6_stripe.proofs.Beside.{IsTwin, all_known_same, known_at, reading, standing, width, writing}
use Rattle.r6_stripe.proofs.BesideEvents.{update_placed}
use Rattle.r6_stripe.proofs.BesideSound.{steady_of}
use Rattle.r6_stripe.proofs.BesideSteps.{apart_copy, planned_both, read_both, twin_of}

pub twin_by : (held : Held) (away : Bool) (second : Second) (block : List ℕ) → IsSecondSound held away second → IsTwin second block held.planned.hold
twin_by held away second block sound = twin_of second block held.planned.hold sound.within (steady_of held away second sound)

-- the position stays as it was
pub sound_still : (old new : Held) (away : Bool) (second : Second) → length new.planned.hold.cells ≡ length old.planned.hold.cells → cell_at new.planned.hold.cells second.position ≡ cell_at old.planned.hold.cells second.position → is_away new second.position ≡ is_away old second.position →
    IsSecondSound old away second → IsSecondSound new away second
sound_still old new away second wide same gone sound = record {
  within = omega (arith, sound.within, wide);
  untargeted = sound.untargeted;
  beside_one = λ is. ap (λ (c : Cell). c.standing) same ∙ sound.beside_one is;
  follows = λ is. subst (λ (c : Cell). (second.copy ≡ copy.Following) ⊎ (c.writing ≡ Sent) ⊎ (c.writing ≡ Confirmed)) (sym same) (sound.follows is);
  early = λ is. subst (λ (c : Cell). (c.writing ≢ Sent) × (c.writing ≢ Confirmed)) (sym same) (sound.early is);
  owed = sound.owed;
  over = sound.over;
  computed = λ u f. subst (λ (c : Cell). c.writing ≢ Unwritten) (sym same) (sound.computed u f);
  following_home = sound.following_home;
  ready_home = sound.ready_home;
  confirmed_home = sound.confirmed_home;
  alone = sound.alone;
  recalled = λ is live.
      let h = sound.recalled is (λ e. live (ap (λ (c : Cell). c.standing) same ∙ e)) in
      (ap (λ (c : Cell). c.standing) same ∙ h.0, ap (λ (c : Cell). c.reading) same ∙ h.1, ap (λ (c : Cell). c.writing) same ∙ h.2, gone ∙ h.3);
}

recalled_fixed : (b : Bool) → recalled_if b Fixed ≡ Fixed
recalled_fixed true = refl
recalled_fixed false = refl

recalled_block : (b : Bool) (block : List ℕ) → recalled_if b (Known block) ≡ Known block
recalled_block true block = refl
recalled_block false block = refl

recalled_error : (b : Bool) → recalled_if b Unreadable ≡ Unreadable
recalled_error true = refl
recalled_error false = refl

pub sent_is : (w : Writing) → is_sent w ≡ true → w ≡ Sent
sent_is Unwritten e = absurd cc
sent_is (Ready block) e = absurd cc
sent_is Sent e = refl
sent_is Confirmed e = absurd cc

-- ---- a command of the first device is answered

module _ (second : Second) (block : List ℕ) (away : Bool) (held : Held) (alone : AreAlone held.planned.hold.cells) (sound : IsSecondSound held away second) where
  abbrev cells : List Cell
  cells = held.planned.hold.cells

  abbrev p : ℕ
  p = second.position

  abbrev t : IsTwin second block held.planned.hold
  t = twin_by held away second block sound

  abbrev seen : Held
  seen = with_second (Some second) block away held

  abbrev as_planned : List Cell → Planned
  as_planned cs = record held.planned { hold = record held.planned.hold { cells = cs } }

  reads_at : (i : ℕ) (r : Reading) → recalled_if second.recalled r ≡ r →
      cells_beside second block (set cells i (record (cell_at cells i) { reading = r })) ≡ set (cells_beside second block cells) i (record (cell_at (cells_beside second block cells) i) { reading = r })
  reads_at i r e =
      update_placed cells p sound.within (beside second block) (beside second block) (λ c. record c { reading = r }) (λ c. record c { reading = r }) i (λ f. refl) (λ f. read_both second block (cell_at cells p) r e) (λ f. refl)

  confirms_at : (i : ℕ) → is_sent (cell_at cells i).writing ≡ true →
      cells_beside second block (set cells i (record (cell_at cells i) { writing = Confirmed })) ≡ set (cells_beside second block cells) i (record (cell_at (cells_beside second block cells) i) { writing = Confirmed })
  confirms_at i put =
      update_placed cells p sound.within (beside second block) (beside second block) (λ c. record c { writing = Confirmed }) (λ c. record c { writing = Confirmed }) i (λ f. refl)
      (λ same. ap (λ (w : Writing). record (beside second block (cell_at cells p)) { writing = Confirmed; copying = w })
      (apart_copy second.copy Confirmed (cell_at cells p).writing block (λ is. (sound.early is).0 (sent_is (cell_at cells p).writing (subst (λ (j : ℕ). is_sent (cell_at cells j).writing ≡ true) same put)))))
      (λ f. refl)

  answer_both : (i : ℕ) (given : List ℕ) → planned_both second block (with_answer held.planned i given) ≡ with_answer (planned_both second block held.planned) i given
  answer_both i given =
      by_tests (is_out (cell_at cells i).standing) (is_sent (cell_at cells i).writing) (is_fixing (cell_at cells i).reading) refl
      ∙ (λ k. if is_out (sym (standing second block held.planned.hold alone t i) k) then planned_both second block held.planned
      else (if is_sent (sym (writing second block held.planned.hold alone t i) k) then planned_after (planned_both second block held.planned) (Confirms i)
      else (if sym (reading second block held.planned.hold alone t is_fixing refl i) k then planned_after (planned_both second block held.planned) (Mends i) else planned_after (planned_both second block held.planned) (Gives i given))))
    where
      by_tests : (out put fix : Bool) → is_sent (cell_at cells i).writing ≡ put →
          planned_both second block (if out then held.planned else (if put then planned_after held.planned (Confirms i) else (if fix then planned_after held.planned (Mends i) else planned_after held.planned (Gives i given))))
          ≡ (if out then planned_both second block held.planned else (if put then planned_after (planned_both second block held.planned) (Confirms i) else (if fix then planned_after (planned_both second block held.planned) (Mends i) else planned_after (planned_both second block held.planned) (Gives i given))))
      by_tests true put fix is = refl
      by_tests false true fix is = ap as_planned (confirms_at i is)
      by_tests false false true is = ap as_planned (reads_at i Fixed (recalled_fixed second.recalled))
      by_tests false false false is = ap as_planned (reads_at i (Known given) (recalled_block second.recalled given))

  pub answered_both : (i : ℕ) (given : List ℕ) → with_second (Some second) block away (answered held i given) ≡ answered seen i given
  answered_both i given = ap (λ (x : Planned). record held { planned = x; away = set held.away i false; second_away = away }) (answer_both i given)

  pub failed_both : (i : ℕ) → with_second (Some second) block away (failed held i) ≡ failed seen i
  failed_both i = ap (λ (cs : List Cell). record held { planned = record held.planned { plan = plans.after_error held.planned.plan; hold = record held.planned.hold { cells = cs; met_error = true } }; away = set held.away i false; second_away = away })
      (reads_at i Unreadable (recalled_error second.recalled))

  after_loss_same : (plan : Plan) (i : ℕ) → plans.after_loss plan held.planned.hold i ≡ plans.after_loss plan (planned_both second block held.planned).hold i
  after_loss_same One i = λ k. if not (plans.is_its_block held.planned.hold.kind i) || sym (known_at second block held.planned.hold alone t i) k then One else Recover
  after_loss_same Reconstruct i = λ k. if not (not (nat_le (sym (width second block held.planned.hold alone t) k - 2) i || plans.puts_data held.planned.hold.kind i)) || sym (known_at second block held.planned.hold alone t i) k then Reconstruct else Recover
  after_loss_same Modify i = λ k. if (not (nat_le (sym (width second block held.planned.hold alone t) k - 2) i || plans.puts_data held.planned.hold.kind i) || sym (known_at second block held.planned.hold alone t i) k) || nat_le (sym (width second block held.planned.hold alone t) k - 2) i then Modify else Recover
  after_loss_same Overwrite i = refl
  after_loss_same Recover i = refl
  after_loss_same All i = refl

  -- another position is lost
  pub lost_other : (i : ℕ) → i ≢ p → with_second (Some second) block away (lost held i) ≡ lost seen i
  lost_other i apart =
      (λ k. record held {
        planned = record {
          plan = after_loss_same held.planned.plan i k;
          hold = record held.planned.hold {
            cells = update_placed cells p sound.within (beside second block) (beside second block) (λ c. record c { standing = Out; second = Out }) (λ c. record c { standing = Out; second = Out }) i (λ f. refl) (λ f. absurd (apart f)) (λ f. refl) k;
            cut_short = held.planned.hold.cut_short || (wants_all held.planned.hold.kind && not (sym (all_known_same second block held.planned.hold alone t) k));
          };
        };
        second_away = away;
      })

  -- the position is lost, with both devices
  pub lost_both : (given : List ℕ) (lost_to : CopyState) → copying_of lost_to (cell_at cells p).writing given ≡ copying_of second.copy (cell_at cells p).writing block →
      with_second (Some (record second { state = state.Out; copy = lost_to })) given away (lost held p) ≡ lost seen p
  lost_both given lost_to same =
      (λ k. record held {
        planned = record {
          plan = after_loss_same held.planned.plan p k;
          hold = record held.planned.hold {
            cells = update_placed cells p sound.within (beside second block) (beside (record second { state = state.Out; copy = lost_to }) given) (λ c. record c { standing = Out; second = Out }) (λ c. record c { standing = Out; second = Out }) p (λ f. absurd (f refl))
                (λ f. ap (λ (w : Writing). record (beside second block (cell_at cells p)) { standing = Out; second = Out; copying = w }) same) (λ f. absurd (f refl)) k;
            cut_short = held.planned.hold.cut_short || (wants_all held.planned.hold.kind && not (sym (all_known_same second block held.planned.hold alone t) k));
          };
        };
        second_away = away;
      })

  -- the second device is lost alone
  pub dropped_both : with_second (Some (record second { state = state.Out; copy = copy.Unwritten })) block away held ≡ dropped seen p
  dropped_both = ap (λ (cs : List Cell). record held { planned = as_planned cs; second_away = away })
      (sym (ap (λ (c : Cell). set (set cells p (beside second block (cell_at cells p))) p (record c { second = Out; copying = Unwritten })) (get_or-set_same cells p (beside second block (cell_at cells p)) no_cell sound.within)
      ∙ set-set cells p (beside second block (cell_at cells p)) (record (beside second block (cell_at cells p)) { second = Out; copying = Unwritten })))

  -- the write to the second device is confirmed
  pub settled_sent : is_awaited second ≡ true → with_second (Some (record second { copy = copy.Confirmed })) block false held ≡ settled seen p
  settled_sent awaited =
      ap (λ (cs : List Cell). record held { planned = as_planned cs; second_away = false })
      (sym (ap (λ (c : Cell). set (set cells p two) p (record c { copying = Confirmed })) (get_or-set_same cells p two no_cell sound.within) ∙ set-set cells p two (record two { copying = Confirmed })))
      ∙ sym (ap (λ (b : Bool). record held { planned = if b then planned_after (planned_both second block held.planned) (Settles p) else planned_both second block held.planned; second_away = false })
      (ap (λ (c : Cell). not (is_out c.second) && is_sent c.copying) (get_or-set_same cells p two no_cell sound.within) ∙ by_copy (not (is_out (standing_of second.state))) second.copy awaited))
    where
      two : Cell
      two = beside second block (cell_at cells p)

      by_copy : (b : Bool) (c : CopyState) → (b && is_put_out c) ≡ true → (b && is_sent (copying_of c (cell_at cells p).writing block)) ≡ true
      by_copy true copy.Sent e = refl
      by_copy true copy.Unwritten e = absurd cc
      by_copy true copy.Following e = absurd cc
      by_copy true copy.Ready e = absurd cc
      by_copy true copy.Confirmed e = absurd cc
      by_copy false c e = absurd cc
