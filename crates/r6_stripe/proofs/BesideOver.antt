-- When a hold with a second device is over, and that it may end then, by the same hold without it.
use Rattle.std.proofs.Common.{◌≡◌, ◌≢◌, ◌⊎◌, inl, inr, Bool, true, false, ℕ, List, length, refl, sym, ◌∙◌, ap, subst, arith, Option, Some, None}
use Rattle.std.specs.Prelude.{◌&&◌, ◌||◌, not, nat_lt, if◌then◌else◌}
use Rattle.std.specs.List.{list_any}
use Rattle.std.proofs.lemmas.Bool.{cases_eq, or_parts}
use Rattle.r6_stripe.specs.Holds as holds
use Rattle.r6_stripe.specs.Holds.{Reading, Cell, Hold, Kind, Outcome, cell_at, own_writing, writing_for, AreConfirmed, HasTarget, IsCutOff, IsQuiet, IsSettled, IsToWrite, MayEnd, Owes, all_known}
use Rattle.r6_stripe.specs.Holds.Standing.{InSync, Target, Out}
use Rattle.r6_stripe.specs.Holds.Reading.{Unread, Recalled, Asked, Unreadable, Fixing, Fixed, AskedAgain, Known, Replaced}
use Rattle.r6_stripe.specs.Holds.Writing.{Sent, Confirmed}
use Rattle.r6_stripe.specs.Holds.Kind.{Idle, Read, Write, Rebuild, Check, Repair}
use Rattle.r6_stripe.specs.Holds.Outcome.{Data, Done, Rebuilt, Classed, GivenUp}
use Rattle.r6_stripe.specs.Places.{standing_of}
use Rattle.r6_stripe.specs.Plans as plans
use Rattle.r6_stripe.specs.Plans.{Planned, Next, is_in_sync, is_none, is_out, is_sent, is_target, is_unwritten, known_block, or_lose}
use Rattle.r6_stripe.specs.Seconds.{IsSecondSound, beside, cells_beside, copying_of, is_awaited, is_due, is_put_out, recalled_if}
use Rattle.r6_stripe.specs.Seconds as seconds
use Rattle.r6_stripe.specs.Steps.{Held}
use Rattle.r6_stripe.specs.declared.place.Standing.{Standing}
use Rattle.r6_stripe.specs.declared.place.Standing.TheVariants as state
use Rattle.r6_stripe.specs.declared.second.CopyState.{CopyState}
use Rattle.r6_stripe.specs.declared.second.CopyState.TheVariants as copy
use Rattle.r6_stripe.specs.declared.second.Second.{Second}
use Rattle.r6_stripe.proofs.Alone.{own_alone, write_out_alone}
use Rattle.r6_stripe.proofs.Beside.{IsTwin, all_known_same, gives_up_same, has_enough_same, here, loss_same, next_by, next_same, other, read_out_same, reading, standing, width, known_recalled, recalled_same}
use Rattle.r6_stripe.proofs.BesideEvents.{before_both, writes_same}
use Rattle.r6_stripe.proofs.BesideLosses.{sent_awaited}
use Rattle.r6_stripe.proofs.BesideSteps.{IsGoing, no_copy, planned_both, twin}
use Rattle.r6_stripe.proofs.Nexts.{over_busy}
use Rattle.r6_stripe.proofs.Places.{any_false, any_true}
use Rattle.r6_stripe.proofs.WritesLeft.{any_set}

module _ (second : Second) (block : List ℕ) (held : Held) (away : Bool) (sound : IsSecondSound held away second) (going : IsGoing second held.planned) where
  abbrev hold : Hold
  hold = held.planned.hold

  abbrev p : ℕ
  p = second.position

  abbrev cell : Cell
  cell = cell_at held.planned.hold.cells second.position

  abbrev t : IsTwin second block held.planned.hold
  t = twin second block held.planned going

  abbrev pub seen : Planned
  seen = planned_both second block held.planned

  at_here : cell_at seen.hold.cells p ≡ beside second block cell
  at_here = here second block hold going.alone t

  -- ---- what is awaited

  copies_out : list_any (λ c. not (is_out c.second) && is_sent c.copying) seen.hold.cells ≡ (not (is_out (standing_of second.state)) && is_sent (copying_of second.copy cell.writing block))
  copies_out = by_test (not (is_out (standing_of second.state)) && is_sent (copying_of second.copy cell.writing block)) refl
    where
      at : (j : ℕ) → j ≢ p → (not (is_out (cell_at seen.hold.cells j).second) && is_sent (cell_at seen.hold.cells j).copying) ≡ false
      at j apart =
          ap (λ (c : Cell). not (is_out c.second) && is_sent c.copying) (other second block hold going.alone t j apart)
          ∙ ap (λ (s : holds.Standing). not (is_out s) && is_sent (cell_at hold.cells j).copying) (going.alone j).second

      by_test : (b : Bool) → (not (is_out (standing_of second.state)) && is_sent (copying_of second.copy cell.writing block)) ≡ b → list_any (λ c. not (is_out c.second) && is_sent c.copying) seen.hold.cells ≡ b
      by_test true is = any_true (λ c. not (is_out c.second) && is_sent c.copying) seen.hold.cells p (omega (arith, going.inside, width second block hold going.alone t)) (ap (λ (c : Cell). not (is_out c.second) && is_sent c.copying) at_here ∙ is)
      by_test false is = any_false (λ c. not (is_out c.second) && is_sent c.copying) seen.hold.cells
          (λ j below. elim (cases_eq j p) [
            | inl same ↦ subst (λ (i : ℕ). (not (is_out (cell_at seen.hold.cells i).second) && is_sent (cell_at seen.hold.cells i).copying) ≡ false) (sym same) (ap (λ (c : Cell). not (is_out c.second) && is_sent c.copying) at_here ∙ is)
            | inr apart ↦ at j apart
          ])

  live_sent : plans.any_live (λ c. is_sent c.writing) seen.hold ≡ plans.any_live (λ c. is_sent c.writing) hold
  live_sent = any_set (λ c. not (is_out c.standing) && is_sent c.writing) hold.cells p (beside second block cell) refl

  fixes_out : plans.has_fix_out seen.hold ≡ plans.has_fix_out hold
  fixes_out = any_set (λ c. not (is_out c.standing) && plans.is_fixing c.reading) hold.cells p (beside second block cell)
      (ap (λ (b : Bool). not (is_out cell.standing) && b) (recalled_same plans.is_fixing second.recalled cell.reading refl))

  pub write_out : plans.has_write_out seen.hold ≡ (plans.has_write_out hold || is_awaited second)
  write_out =
      (λ k. fixes_out k || (live_sent k || (copies_out ∙ sent_awaited held away second block sound) k))
      ∙ apart (plans.has_fix_out hold) (plans.any_live (λ c. is_sent c.writing) hold) (is_awaited second)
      ∙ ap (λ (b : Bool). b || is_awaited second) (sym (write_out_alone hold going.alone))
    where
      apart : (a b c : Bool) → (a || (b || c)) ≡ ((a || b) || c)
      apart true b c = refl
      apart false b c = refl

  pub awaited_busy : is_awaited second ≡ true → plans.is_over seen ≡ false
  awaited_busy is = over_busy seen (ap (λ (b : Bool). not (plans.has_read_out seen.hold) && not b) (write_out ∙ ap (λ (b : Bool). plans.has_write_out hold || b) is ∙ or_true (plans.has_write_out hold)) ∙ and_false (plans.has_read_out seen.hold))
    where
      or_true : (b : Bool) → (b || true) ≡ true
      or_true true = refl
      or_true false = refl

      and_false : (b : Bool) → (not b && false) ≡ false
      and_false true = refl
      and_false false = refl

  -- ---- when it is over

  none_by : (up : Bool) (again : Option Next) (b : Bool) (o q : Option ℕ) (reads : Option Next) (asked : Bool) (fixes : Option Next) (enough : Bool) (restores computes writes : Option Next) →
      is_none (next_by up again (if b then Some (or_lose o) else None) reads asked fixes enough restores computes writes) ≡ is_none (next_by up again (if b then Some (or_lose q) else None) reads asked fixes enough restores computes writes)
  none_by true again b o q reads asked fixes enough restores computes writes = refl
  none_by false again true o q reads asked fixes enough restores computes writes = refl
  none_by false again false o q reads asked fixes enough restores computes writes = refl

  up_only : (up : Bool) (again loss other reads : Option Next) (asked : Bool) (fixes : Option Next) (enough : Bool) (restores computes writes others : Option Next) → up ≡ true →
      next_by up again loss reads asked fixes enough restores computes writes ≡ next_by up again other reads asked fixes enough restores computes others
  up_only true again loss other reads asked fixes enough restores computes writes others is = refl
  up_only false again loss other reads asked fixes enough restores computes writes others is = absurd cc

  next_none : (is_due second ≡ false) ⊎ (plans.gives_up hold ≡ true) → is_none (plans.next seen) ≡ is_none (plans.next held.planned)
  next_none (inl due) =
      let b : Bool = nat_lt (plans.knowable_count hold.cells) (plans.data_count hold) && list_any plans.is_in_error hold.cells in
      let o : Option ℕ = plans.first_from (plans.is_next_move seen.hold) 0 (length seen.hold.cells) in
      let q : Option ℕ = plans.first_from (plans.is_next_move hold) 0 (length hold.cells) in
      ap is_none (next_same second block hold going.alone t going.unrecalled held.planned.plan)
      ∙ (λ k. is_none (next_by (plans.gives_up hold) (plans.next_again hold) (loss_same second block hold going.alone t k) (plans.next_read held.planned.plan hold) (plans.has_asked hold) (plans.next_fix hold) (plans.has_enough held.planned.plan hold) (plans.next_restore hold hold.kind) (plans.next_compute hold) (writes_same second block held.planned going.alone t (no_copy second block held.planned going due) k)))
      ∙ none_by (plans.gives_up hold) (plans.next_again hold) b o q (plans.next_read held.planned.plan hold) (plans.has_asked hold) (plans.next_fix hold) (plans.has_enough held.planned.plan hold) (plans.next_restore hold hold.kind) (plans.next_compute hold) (plans.next_write hold)
  next_none (inr up) =
      ap is_none (next_same second block hold going.alone t going.unrecalled held.planned.plan
      ∙ up_only (plans.gives_up hold) (plans.next_again hold) (plans.next_loss seen.hold) (plans.next_loss hold) (plans.next_read held.planned.plan hold) (plans.has_asked hold) (plans.next_fix hold) (plans.has_enough held.planned.plan hold) (plans.next_restore hold hold.kind) (plans.next_compute hold) (plans.next_write seen.hold) (plans.next_write hold) up)

  pub over_same : is_awaited second ≡ false → (is_due second ≡ false) ⊎ (plans.gives_up hold ≡ true) → plans.is_over seen ≡ plans.is_over held.planned
  over_same quiet due =
      (λ k. not (read_out_same second block hold going.alone t going.unrecalled k) && not ((write_out ∙ ap (λ (b : Bool). plans.has_write_out hold || b) quiet ∙ or_false (plans.has_write_out hold)) k) && next_none due k
      && (gives_up_same second block hold going.alone t k || has_enough_same second block hold going.alone t held.planned.plan k))
    where
      or_false : (b : Bool) → (b || false) ≡ b
      or_false true = refl
      or_false false = refl

  -- ---- and may end

  live_at : (j : ℕ) → (cell_at seen.hold.cells j).standing ≢ Out → (cell_at hold.cells j).standing ≢ Out
  live_at j live e = live (standing second block hold going.alone t j ∙ e)

  settled_if : (b : Bool) (r : Reading) → IsSettled r → IsSettled (recalled_if b r)
  settled_if false r h = h
  settled_if true Unread h = h
  settled_if true Recalled h = h
  settled_if true Asked h = absurd h
  settled_if true Unreadable h = h
  settled_if true Fixing h = h
  settled_if true Fixed h = h
  settled_if true AskedAgain h = h
  settled_if true (Known b) h = h
  settled_if true Replaced h = h

  unreadable_if : (b : Bool) (r : Reading) → recalled_if b r ≡ Unreadable → r ≡ Unreadable
  unreadable_if false r e = e
  unreadable_if true Unread e = e
  unreadable_if true Recalled e = e
  unreadable_if true Asked e = absurd cc
  unreadable_if true Unreadable e = e
  unreadable_if true Fixing e = e
  unreadable_if true Fixed e = e
  unreadable_if true AskedAgain e = e
  unreadable_if true (Known b) e = e
  unreadable_if true Replaced e = e

  -- a fact of each position, by those of the position with the second device and of the others
  each : (Q : ℕ → Cell → Type 0) → ((j : ℕ) → j ≢ p → Q j (cell_at hold.cells j)) → Q p (beside second block cell) → (j : ℕ) → Q j (cell_at seen.hold.cells j)
  each Q others here_is j =
      elim (cases_eq j p) [
        | inl same ↦ subst (λ (i : ℕ). Q i (cell_at seen.hold.cells i)) (sym same) (subst (Q p) (sym at_here) here_is)
        | inr apart ↦ subst (Q j) (sym (other second block hold going.alone t j apart)) (others j apart)
      ]

  never_awaited : is_awaited second ≡ false → standing_of second.state ≢ Out → copying_of second.copy cell.writing block ≢ Sent
  never_awaited quiet live put =
      let e : (not (is_out (standing_of second.state)) && is_sent (copying_of second.copy cell.writing block)) ≡ false = sent_awaited held away second block sound ∙ quiet in
      let f = by_parts (standing_of second.state) live (ap is_sent put) in
      let g = sym f ∙ e in
      cc
    where
      by_parts : (s : holds.Standing) → s ≢ Out → is_sent (copying_of second.copy cell.writing block) ≡ true → (not (is_out s) && is_sent (copying_of second.copy cell.writing block)) ≡ true
      by_parts InSync h e = e
      by_parts Target h e = e
      by_parts Out h e = absurd (h refl)

  quiet_both : is_awaited second ≡ false → ((j : ℕ) → IsQuiet (cell_at hold.cells j)) → (j : ℕ) → IsQuiet (cell_at seen.hold.cells j)
  quiet_both quiet all =
      each (λ j c. IsQuiet c) (λ j apart. all j)
      ((λ live. (settled_if second.recalled cell.reading ((all p).0 live).0, ((all p).0 live).1)), never_awaited quiet)

  not_target : standing_of second.state ≢ Target
  not_target = by_state second.state sound.untargeted
    where
      by_state : (s : Standing) → s ≢ state.Target → standing_of s ≢ Target
      by_state state.InSync h e = cc
      by_state state.Target h e = h refl
      by_state state.Out h e = cc

  target_both : (j : ℕ) → HasTarget (cell_at seen.hold.cells j) → HasTarget (cell_at hold.cells j)
  target_both = each (λ j c. HasTarget c → HasTarget (cell_at hold.cells j)) (λ j apart h. h) (λ h. elim h [ inl e ↦ inl e | inr e ↦ absurd (not_target e) ])

  target_back : (j : ℕ) → HasTarget (cell_at hold.cells j) → HasTarget (cell_at seen.hold.cells j)
  target_back = each (λ j c. HasTarget (cell_at hold.cells j) → HasTarget c) (λ j apart h. h) (λ h. elim h [ inl e ↦ inl e | inr e ↦ absurd (let f = sym (going.alone p).second ∙ e in cc) ])

  cut_both : (kind : Kind) → IsCutOff hold kind → IsCutOff seen.hold kind
  cut_both Idle h = h
  cut_both (Read index) h = h
  cut_both (Write batch) h = h
  cut_both (Rebuild at) h = λ there. h (target_both at there)
  cut_both Check h = h
  cut_both Repair h = h

  -- both devices have confirmed
  confirmed_copy : is_awaited second ≡ false → is_due second ≡ false → second.state ≡ state.InSync → cell.writing ≡ Confirmed → copying_of second.copy cell.writing block ≡ Confirmed
  confirmed_copy quiet due is done = by_copy second.copy refl
    where
      by_copy : (c : CopyState) → second.copy ≡ c → copying_of c cell.writing block ≡ Confirmed
      by_copy copy.Unwritten e = absurd (sound.owed is e)
      by_copy copy.Following e = done
      by_copy copy.Ready e = absurd (let f : true ≡ false = (λ k. is_in_sync (standing_of (sym is k)) && seconds.is_ready (sym e k)) ∙ due in cc)
      by_copy copy.Sent e = absurd (let f : true ≡ false = (λ k. not (is_out (standing_of (sym is k))) && is_put_out (sym e k)) ∙ quiet in cc)
      by_copy copy.Confirmed e = refl

  in_sync_of : (s : Standing) → standing_of s ≡ InSync → s ≡ state.InSync
  in_sync_of state.InSync e = refl
  in_sync_of state.Target e = absurd cc
  in_sync_of state.Out e = absurd cc

  confirmed_both : is_awaited second ≡ false → is_due second ≡ false → (j : ℕ) → AreConfirmed (cell_at hold.cells j) → AreConfirmed (cell_at seen.hold.cells j)
  confirmed_both quiet due =
      each (λ j c. AreConfirmed (cell_at hold.cells j) → AreConfirmed c) (λ j apart h. h)
      (λ h. (h.0, λ e. let is = in_sync_of second.state e in confirmed_copy quiet due is (h.0 (sound.beside_one is))))

  own_both : (j : ℕ) → own_writing (cell_at seen.hold.cells j) ≡ own_writing (cell_at hold.cells j)
  own_both = each (λ j c. own_writing c ≡ own_writing (cell_at hold.cells j)) (λ j apart. refl) (by_state second.state sound.untargeted ∙ sym (own_alone cell (going.alone p)))
    where
      by_state : (s : Standing) → s ≢ state.Target → writing_for (standing_of s) (beside second block cell) ≡ cell.writing
      by_state state.InSync h = refl
      by_state state.Target h = absurd (h refl)
      by_state state.Out h = refl

  known_both : (j : ℕ) (b : List ℕ) → (cell_at hold.cells j).reading ≡ Known b → (cell_at seen.hold.cells j).reading ≡ Known b
  known_both j b = each (λ i c. (cell_at hold.cells i).reading ≡ Known b → c.reading ≡ Known b) (λ i apart h. h) (known_recalled second.recalled cell.reading b) j

  to_write : (kind : Kind) (j : ℕ) → IsToWrite seen.hold kind j → IsToWrite hold kind j
  to_write Idle j h = h
  to_write (Read index) j h = h
  to_write (Write batch) j (inl h) = inl h
  to_write (Write batch) j (inr h) = inr (omega (arith, h, width second block hold going.alone t))
  to_write (Rebuild at) j h = h
  to_write Check j h = h
  to_write Repair j h = omega (arith, h, width second block hold going.alone t)

  known_all : all_known hold.cells ≡ true → all_known seen.hold.cells ≡ true
  known_all e = all_known_same second block hold going.alone t ∙ e

  owes_both : is_awaited second ≡ false → (kind : Kind) (outcome : Outcome) → (is_due second ≡ false) ⊎ (plans.has_lost hold kind ≡ true) → Owes hold kind outcome → Owes seen.hold kind outcome
  owes_both quiet (Read index) (Data b) due h = known_both index b h
  owes_both quiet (Write batch) Done (inl due) h = λ j put. confirmed_both quiet due j (h j (to_write (Write batch) j put))
  owes_both quiet (Write batch) Done (inr up) h = absurd cc
  owes_both quiet (Rebuild at) Rebuilt due h = (target_back at h.0, own_both at ∙ h.1)
  owes_both quiet (Rebuild at) GivenUp due h = λ there. h (target_both at there)
  owes_both quiet Check Classed due h = (h.0, known_all h.1)
  owes_both quiet Check GivenUp due (inl h) = inl h
  owes_both quiet Check GivenUp due (inr h) = inr (h.0, known_all h.1)
  owes_both quiet Repair Classed (inl due) h = (
    h.0,
    known_all h.1,
    λ j parity. elim (h.2 j (omega (arith, parity, width second block hold going.alone t))) [
      | inl done ↦ inl (confirmed_both quiet due j done)
      | inr same ↦ inr (λ row before. same row (before_both second block held.planned going.alone t row before))
    ],
  )
  owes_both quiet Repair Classed (inr up) h = absurd (let parts = or_parts hold.cut_short hold.met_error h.0 in let e = sym parts.0 ∙ up in cc)
  owes_both quiet Repair GivenUp due (inl h) = inl h
  owes_both quiet Repair GivenUp due (inr h) = inr (h.0, known_all h.1)
  owes_both quiet Idle o due h = absurd h
  owes_both quiet (Read index) Done due h = absurd h
  owes_both quiet (Read index) Rebuilt due h = absurd h
  owes_both quiet (Read index) Classed due h = absurd h
  owes_both quiet (Read index) GivenUp due h = absurd h
  owes_both quiet (Write batch) (Data b) due h = absurd h
  owes_both quiet (Write batch) Rebuilt due h = absurd h
  owes_both quiet (Write batch) Classed due h = absurd h
  owes_both quiet (Write batch) GivenUp due h = absurd h
  owes_both quiet (Rebuild at) (Data b) due h = absurd h
  owes_both quiet (Rebuild at) Done due h = absurd h
  owes_both quiet (Rebuild at) Classed due h = absurd h
  owes_both quiet Check (Data b) due h = absurd h
  owes_both quiet Check Done due h = absurd h
  owes_both quiet Check Rebuilt due h = absurd h
  owes_both quiet Repair (Data b) due h = absurd h
  owes_both quiet Repair Done due h = absurd h
  owes_both quiet Repair Rebuilt due h = absurd h

  outcome_same : (kind : Kind) → plans.outcome_of seen.hold kind ≡ plans.outcome_of hold kind
  outcome_same Idle = refl
  outcome_same (Read index) = ap Data (reading second block hold going.alone t known_block refl index)
  outcome_same (Write batch) = refl
  outcome_same (Rebuild at) = ap (λ (b : Bool). if b then Rebuilt else GivenUp) (each (λ j c. plans.has_target c ≡ plans.has_target (cell_at hold.cells j)) (λ j apart. refl) (ap (λ (b : Bool). is_target cell.standing || b) (no_target second.state sound.untargeted ∙ sym (ap is_target (going.alone p).second))) at)
    where
      no_target : (s : Standing) → s ≢ state.Target → is_target (standing_of s) ≡ false
      no_target state.InSync h = refl
      no_target state.Target h = absurd (h refl)
      no_target state.Out h = refl
  outcome_same Check = refl
  outcome_same Repair = refl

  pub end_same : plans.outcome_of seen.hold seen.hold.kind ≡ plans.outcome_of hold hold.kind
  end_same = outcome_same hold.kind

  pub may_end : is_awaited second ≡ false → (is_due second ≡ false) ⊎ (plans.gives_up hold ≡ true) → MayEnd hold (plans.outcome_of hold hold.kind) → MayEnd seen.hold (plans.outcome_of seen.hold seen.hold.kind)
  may_end quiet due may =
      subst (MayEnd seen.hold) (sym end_same) (record {
        quiet = quiet_both quiet may.quiet;
        mended = elim may.mended [
          | inl cut ↦ inl (cut_both hold.kind cut)
          | inr all ↦ inr (λ j live e. all j (live_at j live) (each (λ i c. c.reading ≡ Unreadable → (cell_at hold.cells i).reading ≡ Unreadable) (λ i apart h. h) (unreadable_if second.recalled cell.reading) j e))
        ];
        owes_nothing = owes_both quiet hold.kind (plans.outcome_of hold hold.kind) due may.owes_nothing;
      })
