-- What comes next where the write to the second device is due: once new blocks are there, writes alone are left.
use Rattle.std.proofs.Common.{◌≡◌, ◌≢◌, ◌⊎◌, inl, inr, Bool, true, false, ℕ, ◌<◌, ◌≤◌, List, [], length, set, refl, sym, ◌∙◌, ap, subst, arith, Option, Some, None}
use Rattle.std.specs.Prelude.{◌&&◌, ◌||◌, not, nat_lt, if◌then◌else◌, option_map}
use Rattle.std.specs.List.{list_any}
use Rattle.std.proofs.lemmas.Bool.{and_parts, le-ltb, lt-ltb}
use Rattle.std.proofs.lemmas.List.{get_or-set_other, get_or-set_same, length-set, set-set}
use Rattle.r6_stripe.specs.Holds.{Writing, Cell, Hold, cell_at, doubled, no_cell}
use Rattle.r6_stripe.specs.Holds.Writing.{Unwritten, Ready, Sent, Confirmed}
use Rattle.r6_stripe.specs.Places.{standing_of}
use Rattle.r6_stripe.specs.Plans as plans
use Rattle.r6_stripe.specs.Plans.{Planned, Next, is_out, is_unwritten, or_lose, write_at}
use Rattle.r6_stripe.specs.Plans.Next.{MoveAt, LoseUnreadable, ComputeNew, WriteAt, CopyAt}
use Rattle.r6_stripe.specs.Preparing.{IsPrepared, is_write_time}
use Rattle.r6_stripe.specs.Seconds.{IsSecondSound, beside, copying_of, is_due, with_second, is_ready}
use Rattle.r6_stripe.specs.Steps.{Held, IsNone, IsReady, PutsNewOut, copied, is_away, sent}
use Rattle.r6_stripe.specs.RowViews.{IsRowSound}
use Rattle.r6_stripe.specs.Views.{held_of}
use Rattle.r6_stripe.specs.declared.row.RowState.{RowState}
use Rattle.r6_stripe.specs.declared.place.Standing.{Standing}
use Rattle.r6_stripe.specs.declared.place.Standing.TheVariants as state
use Rattle.r6_stripe.specs.declared.second.CopyState.{CopyState}
use Rattle.r6_stripe.specs.declared.second.CopyState.TheVariants as copy
use Rattle.r6_stripe.specs.declared.second.Second.{Second}
use Rattle.r6_stripe.proofs.Alone.{cells_alone}
use Rattle.r6_stripe.proofs.Beside.{IsTwin, here, loss_same, lower_of, next_by, next_same, standing, writing}
use Rattle.r6_stripe.proofs.BesideAnswers.{sound_still}
use Rattle.r6_stripe.proofs.BesideEvents.{copy_due, prepared_both, update_placed}
use Rattle.r6_stripe.proofs.BesideLosses.{sound_some}
use Rattle.r6_stripe.proofs.BesideSound.{going_of}
use Rattle.r6_stripe.proofs.BesideSteps.{IsGoing, planned_both, twin}
use Rattle.r6_stripe.proofs.Calm.{none_asked_again}
use Rattle.r6_stripe.proofs.Searches.{first_found}

-- ---- what is due

due_parts : (s : Standing) (c : CopyState) → (plans.is_in_sync (standing_of s) && is_ready c) ≡ true → (s ≡ state.InSync) × (c ≡ copy.Ready)
due_parts state.InSync copy.Unwritten e = absurd cc
due_parts state.InSync copy.Following e = absurd cc
due_parts state.InSync copy.Ready e = (refl, refl)
due_parts state.InSync copy.Sent e = absurd cc
due_parts state.InSync copy.Confirmed e = absurd cc
due_parts state.Target c e = absurd cc
due_parts state.Out c e = absurd cc

pub due_is : (second : Second) → is_due second ≡ true → (second.state ≡ state.InSync) × (second.copy ≡ copy.Ready)
due_is second e = due_parts second.state second.copy e

-- nothing is recalled then
pub due_unrecalled : (held : Held) (away : Bool) (second : Second) → IsSecondSound held away second → is_due second ≡ true → second.recalled ≡ true → ⊥
due_unrecalled held away second sound due is = let e = sym (due_is second due).0 ∙ (sound.alone is).0 in cc

-- the first device's write is put out
pub due_first : (held : Held) (away : Bool) (second : Second) → IsSecondSound held away second → is_due second ≡ true → ((cell_at held.planned.hold.cells second.position).writing ≡ Sent) ⊎ ((cell_at held.planned.hold.cells second.position).writing ≡ Confirmed)
due_first held away second sound due =
    let parts = due_is second due in
    elim (sound.follows parts.0) [ inl e ↦ absurd (let f = sym parts.1 ∙ e in cc) | inr e ↦ e ]

-- ---- while writes aren't

none_while : (up mending asked again enough : Bool) (b : Bool) (o : Option ℕ) (restores computes writes : Option Next) → (mending ≡ false → again ≡ false) → (not up && not mending && not ((asked || again) || not enough)) ≡ false →
    IsNone (next_by up None (if b then Some (or_lose o) else None) None asked None (enough && not mending) restores computes writes)
none_while true mending asked again enough b o restores computes writes calm e = tt
none_while false mending asked again enough true None restores computes writes calm e = tt
none_while false mending asked again enough true (Some i) restores computes writes calm e = tt
none_while false mending true again enough false o restores computes writes calm e = tt
none_while false true false again true false o restores computes writes calm e = tt
none_while false true false again false false o restores computes writes calm e = tt
none_while false false false again false false o restores computes writes calm e = tt
none_while false false false true true false o restores computes writes calm e = absurd (let f = calm refl in cc)
none_while false false false false true false o restores computes writes calm e = absurd cc

pub waits_both : (second : Second) (block : List ℕ) (planned : Planned) → IsGoing second planned → plans.has_computed planned.hold ≡ true → is_write_time planned ≡ false → IsNone (plans.next (planned_both second block planned))
waits_both second block planned going computed wait =
    let hold : Hold = planned.hold in
    let t : IsTwin second block hold = twin second block planned going in
    let o : Option ℕ = plans.first_from (plans.is_next_move (planned_both second block planned).hold) 0 (length (planned_both second block planned).hold.cells) in
    let b : Bool = nat_lt (plans.knowable_count hold.cells) (plans.data_count hold) && list_any plans.is_in_error hold.cells in
    let again : plans.next_again hold ≡ None = ap (λ (x : Bool). if plans.is_idle hold.kind || x || plans.has_fix_out hold then None else option_map Next.ReadAgainAt (plans.first_from (plans.is_next_again hold) 0 (length hold.cells))) computed ∙ middle (plans.is_idle hold.kind) in
    let reads : plans.next_read planned.plan hold ≡ None = ap (λ (x : Bool). if x then None else option_map Next.ReadAt (plans.first_from (plans.is_next_read planned.plan hold) 0 (length hold.cells))) computed in
    let fixes : plans.next_fix hold ≡ None = ap (λ (x : Bool). if x then None else option_map Next.FixAt (plans.first_from (plans.is_next_fix hold) 0 (length hold.cells))) computed in
    let step : plans.next (planned_both second block planned) ≡ next_by (plans.gives_up hold) None (if b then Some (or_lose o) else None) None (plans.has_asked hold) None (plans.has_enough planned.plan hold) (plans.next_restore hold hold.kind) (plans.next_compute hold) (plans.next_write (planned_both second block planned).hold) =
    next_same second block hold going.alone t going.unrecalled planned.plan
    ∙ (λ k. next_by (plans.gives_up hold) (again k) (loss_same second block hold going.alone t k) (reads k) (plans.has_asked hold) (fixes k) (plans.has_enough planned.plan hold) (plans.next_restore hold hold.kind) (plans.next_compute hold) (plans.next_write (planned_both second block planned).hold)) in
    subst IsNone (sym step)
    (none_while (plans.gives_up hold) (plans.is_mending hold) (plans.has_asked hold) (plans.has_asked_again hold) (plans.is_enough planned.plan hold) b o (plans.next_restore hold hold.kind) (plans.next_compute hold) (plans.next_write (planned_both second block planned).hold)
    (λ calm. none_asked_again hold calm) wait)
  where
    middle : (a : Bool) → (if a || true || plans.has_fix_out planned.hold then None else option_map Next.ReadAgainAt (plans.first_from (plans.is_next_again planned.hold) 0 (length planned.hold.cells))) ≡ None
    middle true = refl
    middle false = refl

-- ---- when they are

pub write_time : (planned : Planned) → is_write_time planned ≡ true → (plans.gives_up planned.hold ≡ false) × (plans.is_mending planned.hold ≡ false) × (not (plans.has_read_out planned.hold || not (plans.is_enough planned.plan planned.hold)) ≡ true)
write_time planned e =
    let all = and_parts (not (plans.gives_up planned.hold) && not (plans.is_mending planned.hold)) (not (plans.has_read_out planned.hold || not (plans.is_enough planned.plan planned.hold))) e in
    let two = and_parts (not (plans.gives_up planned.hold)) (not (plans.is_mending planned.hold)) all.0 in
    (off (plans.gives_up planned.hold) two.0, off (plans.is_mending planned.hold) two.1, all.1)
  where
    off : (b : Bool) → not b ≡ true → b ≡ false
    off true f = absurd cc
    off false f = refl

no_ready : (w : Writing) (b : Bool) → (w ≡ Sent) ⊎ (w ≡ Confirmed) → (not b && plans.is_ready w) ≡ false
no_ready Sent true h = refl
no_ready Sent false h = refl
no_ready Confirmed true h = refl
no_ready Confirmed false h = refl
no_ready Unwritten b h = absurd (elim h [ inl e ↦ (let f = e in cc) | inr e ↦ (let f = e in cc) ])
no_ready (Ready x) b h = absurd (elim h [ inl e ↦ (let f = e in cc) | inr e ↦ (let f = e in cc) ])

module _ (second : Second) (block : List ℕ) (held : Held) (away : Bool) (going : IsGoing second held.planned) (sound : IsSecondSound held away second) (due : is_due second ≡ true) where
  abbrev hold : Hold
  hold = held.planned.hold

  abbrev p : ℕ
  p = second.position

  t : IsTwin second block held.planned.hold
  t = twin second block held.planned going

  pub first : plans.is_next_write hold p ≡ false
  first = no_ready (cell_at hold.cells p).writing (is_out (cell_at hold.cells p).standing) (due_first held away second sound due)

  pub copies : plans.is_next_copy (planned_both second block held.planned).hold p ≡ true
  copies =
      ap (λ (c : Cell). not (is_out c.standing) && plans.is_first_sent c.second c.writing && plans.is_ready c.copying) (here second block hold going.alone t)
      ∙ (λ k. not (is_out (sound.beside_one (due_is second due).0 k)) && plans.is_first_sent (standing_of ((due_is second due).0 k)) (cell_at hold.cells p).writing && plans.is_ready (copying_of ((due_is second due).1 k) (cell_at hold.cells p).writing block))
      ∙ by_first (cell_at hold.cells p).writing (due_first held away second sound due)
    where
      by_first : (w : Writing) → (w ≡ Sent) ⊎ (w ≡ Confirmed) → (true && (not (is_unwritten w) && not (plans.is_ready w)) && true) ≡ true
      by_first Sent h = refl
      by_first Confirmed h = refl
      by_first Unwritten h = absurd (elim h [ inl e ↦ (let f = e in cc) | inr e ↦ (let f = e in cc) ])
      by_first (Ready x) h = absurd (elim h [ inl e ↦ (let f = e in cc) | inr e ↦ (let f = e in cc) ])

  -- what comes next: the lowest of the writes, or that of the second device
  pub due_next : IsPrepared held.planned → plans.next (planned_both second block held.planned) ≡ option_map (write_at (planned_both second block held.planned).hold) (lower_of p (plans.first_from (plans.is_next_write hold) 0 (length hold.cells)))
  due_next prepared = prepared_both second block held.planned going.alone t going.unrecalled prepared ∙ copy_due second block held.planned going.alone t copies first

  pub due_write : (i : ℕ) → plans.first_from (plans.is_next_write hold) 0 (length hold.cells) ≡ Some i → i < p → option_map (write_at (planned_both second block held.planned).hold) (lower_of p (plans.first_from (plans.is_next_write hold) 0 (length hold.cells))) ≡ Some (WriteAt i)
  due_write i found less =
      ap (λ (o : Option ℕ). option_map (write_at (planned_both second block held.planned).hold) (lower_of p o)) found
      ∙ ap (λ (b : Bool). option_map (write_at (planned_both second block held.planned).hold) (if b then Some i else Some p)) (lt-ltb i p less)
      ∙ ap (λ (b : Bool). Some (if b then WriteAt i else CopyAt i)) (writes_at i ∙ (first_found (plans.is_next_write hold) 0 (length hold.cells) i found).1)
    where
      writes_at : (j : ℕ) → plans.is_next_write (planned_both second block held.planned).hold j ≡ plans.is_next_write hold j
      writes_at j = λ k. not (is_out (standing second block hold going.alone t j k)) && plans.is_ready (writing second block hold going.alone t j k)

  pub due_copy : (o : Option ℕ) → plans.first_from (plans.is_next_write hold) 0 (length hold.cells) ≡ o → ((i : ℕ) → o ≡ Some i → p ≤ i) → option_map (write_at (planned_both second block held.planned).hold) (lower_of p (plans.first_from (plans.is_next_write hold) 0 (length hold.cells))) ≡ Some (CopyAt p)
  due_copy o found past =
      ap (λ (q : Option ℕ). option_map (write_at (planned_both second block held.planned).hold) (lower_of p q)) found
      ∙ ap (option_map (write_at (planned_both second block held.planned).hold)) (by_option o past)
      ∙ ap (λ (b : Bool). Some (if b then WriteAt p else CopyAt p)) (ap (λ (c : Cell). not (is_out c.standing) && plans.is_ready c.writing) (here second block hold going.alone t) ∙ first)
    where
      by_option : (q : Option ℕ) → ((i : ℕ) → q ≡ Some i → p ≤ i) → lower_of p q ≡ Some p
      by_option None h = refl
      by_option (Some i) h = rw (le-ltb i p (h i refl)) refl

  pub copying_is : (cell_at (planned_both second block held.planned).hold.cells p).copying ≡ Ready block
  copying_is = ap (λ (c : Cell). c.copying) (here second block hold going.alone t) ∙ ap (λ (c : CopyState). copying_of c (cell_at hold.cells p).writing block) (due_is second due).1

  -- it is put out, and its buffer leaves
  pub copied_both : (other : List ℕ) → with_second (Some (record second { copy = copy.Sent })) other true held ≡ copied (with_second (Some second) block away held) p block
  copied_both other = ap (λ (cs : List Cell). record held { planned = record held.planned { hold = record held.planned.hold { cells = cs } }; second_away = true })
      (sym (ap (λ (c : Cell). set (set hold.cells p two) p (record c { copying = Sent })) (get_or-set_same hold.cells p two no_cell sound.within) ∙ set-set hold.cells p two (record two { copying = Sent })))
    where
      two : Cell
      two = beside second block (cell_at hold.cells p)

  pub copied_sound : IsSecondSound held true (record second { copy = copy.Sent })
  copied_sound = record {
    within = sound.within;
    untargeted = sound.untargeted;
    beside_one = sound.beside_one;
    follows = λ is. inr (due_first held away second sound due);
    early = λ e. absurd cc;
    owed = λ is e. cc;
    over = λ is e. cc;
    computed = λ u f. sound.computed (λ e. let g = sym (due_is second due).1 ∙ e in cc) (λ e. let g = sym (due_is second due).1 ∙ e in cc);
    following_home = λ e. absurd cc;
    ready_home = λ e. absurd cc;
    confirmed_home = λ e. absurd cc;
    alone = λ is. absurd (due_unrecalled held away second sound due is);
    recalled = λ is. absurd (due_unrecalled held away second sound due is);
  }

-- the write of a lower position comes first
pub due_puts : (second : Second) (block : List ℕ) (held : Held) (away : Bool) (going : IsGoing second held.planned) (sound : IsSecondSound held away second) (due : is_due second ≡ true) → IsPrepared held.planned → (i : ℕ) (put : List ℕ) (new : Held) →
    plans.first_from (plans.is_next_write held.planned.hold) 0 (length held.planned.hold.cells) ≡ Some i → i < second.position → IsReady (cell_at held.planned.hold.cells i) put → new ≡ sent held i put →
    PutsNewOut (with_second (Some second) block away held) i put (with_second (Some second) block away new)
due_puts second block held away going sound due prepared i put new found less ready sends =
    let cells : List Cell = held.planned.hold.cells in
    let leaves : Cell → Cell = λ c. record c { writing = Sent; doubling = doubled c.second c.doubling } in (
      planned_both second block held.planned,
      ([], tt, tt, refl),
      due_next second block held away going sound due prepared ∙ due_write second block held away going sound due i found less,
      writing second block held.planned.hold going.alone (twin second block held.planned going) i ∙ ready,
      ap (with_second (Some second) block away) sends
          ∙ ap (λ (cs : List Cell). record held { planned = record held.planned { hold = record held.planned.hold { cells = cs } }; away = set held.away i true; second_away = away })
          (update_placed cells second.position going.inside (beside second block) (beside second block) leaves leaves i (λ e. refl) (λ e. absurd (let f : i ≡ second.position = e in omega arith)) (λ e. refl)),
    )

pub due_sent : (second : Second) (held : Held) (away : Bool) (sound : IsSecondSound held away second) → (i : ℕ) (put : List ℕ) (new : Held) → i < second.position → new ≡ sent held i put → IsSecondSound new away second
due_sent second held away sound i put new less sends =
    let cells : List Cell = held.planned.hold.cells in
    let cell : Cell = record (cell_at cells i) { writing = Sent; doubling = doubled (cell_at cells i).second (cell_at cells i).doubling } in
    let apart : second.position ≢ i = (λ e. omega arith) in
    sound_still held new away second (ap (λ (h : Held). length h.planned.hold.cells) sends ∙ length-set cells i cell)
    (ap (λ (h : Held). cell_at h.planned.hold.cells second.position) sends ∙ get_or-set_other cells i second.position cell no_cell apart)
    (ap (λ (h : Held). is_away h second.position) sends ∙ get_or-set_other held.away i second.position true false apart) sound

pub going_due : (row : RowState) (second : Second) → IsRowSound row → row.second ≡ Some second → is_due second ≡ true → IsGoing second (held_of row.hold).planned
going_due row second sound is due =
    let s = sound_some row second sound is in
    going_of (held_of row.hold) row.spare_away second (cells_alone row.hold.places row.hold.blocks.items) s (λ e. absurd (due_unrecalled (held_of row.hold) row.spare_away second s due e))
