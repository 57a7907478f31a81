-- What is left to say of a second device: a hold isn't over while its write is due, and which positions are lost or moved.
use Rattle.std.proofs.Common.{◌≡◌, Bool, true, false, ℕ, List, length, refl, sym, ◌∙◌, ap, arith, Option, Some, None}
use Rattle.std.specs.Prelude.{◌&&◌, ◌||◌, not, is_some, nat_lt, if◌then◌else◌}
use Rattle.std.specs.List.{list_any}
use Rattle.std.proofs.lemmas.Bool.{and_parts, false_from_ne_true, or_parts}
use Rattle.r6_stripe.specs.Holds.{Standing, Hold, cell_at}
use Rattle.r6_stripe.specs.Plans as plans
use Rattle.r6_stripe.specs.Plans.{Next, Planned, is_in_error, is_in_sync, is_none, or_lose}
use Rattle.r6_stripe.specs.Seconds.{IsSecondSound, IsSoundBeside, is_due, with_second}
use Rattle.r6_stripe.specs.Steps.{Held, is_loss, loses_unreadable, move_of, moves_unreadable}
use Rattle.r6_stripe.specs.declared.second.Second.{Second}
use Rattle.r6_stripe.proofs.Alone.{AreAlone}
use Rattle.r6_stripe.proofs.Beside.{IsTwin, gives_up_same, loss_same, next_by, width}
use Rattle.r6_stripe.proofs.BesideAnswers.{twin_by}
use Rattle.r6_stripe.proofs.BesideDue.{copies}
use Rattle.r6_stripe.proofs.BesideSteps.{IsGoing, planned_both, twin}
use Rattle.r6_stripe.proofs.Over.{none_is, unmapped}
use Rattle.r6_stripe.proofs.Searches.{first_empty, first_none}
use Rattle.r6_stripe.proofs.Steps.{or_only}

-- ---- a hold isn't over while the write to the second device is due

writes_none : (again loss reads : Option Next) (asked : Bool) (fixes : Option Next) (enough : Bool) (restores computes writes : Option Next) → asked ≡ false → enough ≡ true → next_by false again loss reads asked fixes enough restores computes writes ≡ None → writes ≡ None
writes_none again loss reads true fixes enough restores computes writes a e n = absurd cc
writes_none again loss reads false fixes false restores computes writes a e n = absurd cc
writes_none again (Some l) reads false fixes true restores computes writes a e n = absurd cc
writes_none again None (Some r) false fixes true restores computes writes a e n = absurd cc
writes_none again None None false (Some f) true restores computes writes a e n = absurd cc
writes_none (Some g) None None false None true restores computes writes a e n = absurd cc
writes_none None None None false None true (Some r) computes writes a e n = absurd cc
writes_none None None None false None true None (Some c) writes a e n = absurd cc
writes_none None None None false None true None None writes a e n = n

pub due_busy : (second : Second) (block : List ℕ) (held : Held) (away : Bool) → IsGoing second held.planned → IsSecondSound held away second → is_due second ≡ true → plans.gives_up held.planned.hold ≡ false → plans.is_over (planned_both second block held.planned) ≡ false
due_busy second block held away going sound due up =
    false_from_ne_true (plans.is_over seen) (λ over.
    let all = and_parts (not (plans.has_read_out seen.hold) && not (plans.has_write_out seen.hold) && is_none (plans.next seen)) (plans.gives_up seen.hold || plans.has_enough seen.plan seen.hold) over in
    let three = and_parts (not (plans.has_read_out seen.hold) && not (plans.has_write_out seen.hold)) (is_none (plans.next seen)) all.0 in
    let two = and_parts (not (plans.has_read_out seen.hold)) (not (plans.has_write_out seen.hold)) three.0 in
    let quiet = (or_parts (plans.has_asked seen.hold) (plans.has_asked_again seen.hold) (off (plans.has_read_out seen.hold) two.0)).0 in
    let goes : plans.gives_up seen.hold ≡ false = gives_up_same second block held.planned.hold going.alone t ∙ up in
    let enough : plans.has_enough seen.plan seen.hold ≡ true = or_only (plans.gives_up seen.hold) (plans.has_enough seen.plan seen.hold) goes all.1 in
    let none : next_by false (plans.next_again seen.hold) (plans.next_loss seen.hold) (plans.next_read seen.plan seen.hold) (plans.has_asked seen.hold) (plans.next_fix seen.hold) (plans.has_enough seen.plan seen.hold) (plans.next_restore seen.hold seen.hold.kind) (plans.next_compute seen.hold) (plans.next_write seen.hold) ≡ None =
    ap (λ (b : Bool). next_by b (plans.next_again seen.hold) (plans.next_loss seen.hold) (plans.next_read seen.plan seen.hold) (plans.has_asked seen.hold) (plans.next_fix seen.hold) (plans.has_enough seen.plan seen.hold) (plans.next_restore seen.hold seen.hold.kind) (plans.next_compute seen.hold) (plans.next_write seen.hold)) (sym goes)
    ∙ none_is (plans.next seen) three.1 in
    let empty : plans.next_write seen.hold ≡ None = writes_none (plans.next_again seen.hold) (plans.next_loss seen.hold) (plans.next_read seen.plan seen.hold) (plans.has_asked seen.hold) (plans.next_fix seen.hold) (plans.has_enough seen.plan seen.hold) (plans.next_restore seen.hold seen.hold.kind) (plans.next_compute seen.hold) (plans.next_write seen.hold) quiet enough none in
    let passes = first_empty test 0 (length seen.hold.cells) (unmapped (plans.write_at seen.hold) (plans.first_from test 0 (length seen.hold.cells)) empty) second.position (omega arith) (omega (arith, t.inside, width second block held.planned.hold going.alone t)) in
    let parts = or_parts (plans.is_next_write seen.hold second.position) (plans.is_next_copy seen.hold second.position) passes in
    let e = sym (copies second block held away going sound due) ∙ parts.1 in
    cc)
  where
    seen : Planned
    seen = planned_both second block held.planned

    t : IsTwin second block held.planned.hold
    t = twin second block held.planned going

    test : ℕ → Bool
    test = λ position. plans.is_next_write (planned_both second block held.planned).hold position || plans.is_next_copy (planned_both second block held.planned).hold position

    off : (b : Bool) → not b ≡ true → b ≡ false
    off true e = absurd cc
    off false e = refl

-- ---- which positions are lost, or moved

-- no position of a hold of which each has one device
pub none_moved : (hold : Hold) → AreAlone hold.cells → plans.first_from (plans.is_next_move hold) 0 (length hold.cells) ≡ None
none_moved hold alone = first_none (plans.is_next_move hold) 0 (length hold.cells) (λ j from below. ap (λ (s : Standing). is_in_error (cell_at hold.cells j) && is_in_sync s) (alone j).second ∙ and_false (is_in_error (cell_at hold.cells j)))
  where
    and_false : (b : Bool) → (b && false) ≡ false
    and_false true = refl
    and_false false = refl

by_loss : (up b : Bool) (o q : Option ℕ) → q ≡ None → (not up && is_loss (if b then Some (or_lose o) else None)) ≡ ((not up && is_loss (if b then Some (or_lose q) else None)) && not (is_some o))
by_loss true b o q e = refl
by_loss false false o q e = refl
by_loss false true None q e = rw e refl
by_loss false true (Some i) q e = rw e refl

by_move : (up b : Bool) (o q : Option ℕ) → q ≡ None → (if up then None else move_of (if b then Some (or_lose o) else None)) ≡ (if not up && is_loss (if b then Some (or_lose q) else None) then o else None)
by_move true b o q e = refl
by_move false false o q e = refl
by_move false true None q e = rw e refl
by_move false true (Some i) q e = rw e refl

pub loses_alone : (planned : Planned) → AreAlone planned.hold.cells → loses_unreadable planned ≡ (loses_unreadable planned && not (is_some (plans.first_from (plans.is_next_move planned.hold) 0 (length planned.hold.cells))))
loses_alone planned alone =
    let hold : Hold = planned.hold in
    let moves : Option ℕ = plans.first_from (plans.is_next_move hold) 0 (length hold.cells) in
    by_loss (plans.gives_up hold) (nat_lt (plans.knowable_count hold.cells) (plans.data_count hold) && list_any is_in_error hold.cells) moves moves (none_moved hold alone)

pub moves_alone : (planned : Planned) → AreAlone planned.hold.cells → moves_unreadable planned ≡ (if loses_unreadable planned then plans.first_from (plans.is_next_move planned.hold) 0 (length planned.hold.cells) else None)
moves_alone planned alone =
    let hold : Hold = planned.hold in
    let moves : Option ℕ = plans.first_from (plans.is_next_move hold) 0 (length hold.cells) in
    by_move (plans.gives_up hold) (nat_lt (plans.knowable_count hold.cells) (plans.data_count hold) && list_any is_in_error hold.cells) moves moves (none_moved hold alone)

module _ (second : Second) (block : List ℕ) (held : Held) (away : Bool) (alone : AreAlone held.planned.hold.cells) (sound : IsSecondSound held away second) where
  abbrev hold : Hold
  hold = held.planned.hold

  abbrev t : IsTwin second block held.planned.hold
  t = twin_by held away second block sound

  abbrev moves : Option ℕ
  moves = plans.first_from (plans.is_next_move (planned_both second block held.planned).hold) 0 (length (planned_both second block held.planned).hold.cells)

  pub loses_both : loses_unreadable (planned_both second block held.planned) ≡ (loses_unreadable held.planned && not (is_some moves))
  loses_both =
      (λ k. not (gives_up_same second block hold alone t k) && is_loss (loss_same second block hold alone t k))
      ∙ by_loss (plans.gives_up hold) (nat_lt (plans.knowable_count hold.cells) (plans.data_count hold) && list_any is_in_error hold.cells) moves (plans.first_from (plans.is_next_move hold) 0 (length hold.cells)) (none_moved hold alone)

  pub moves_both : moves_unreadable (planned_both second block held.planned) ≡ (if loses_unreadable held.planned then moves else None)
  moves_both =
      (λ k. if gives_up_same second block hold alone t k then None else move_of (loss_same second block hold alone t k))
      ∙ by_move (plans.gives_up hold) (nat_lt (plans.knowable_count hold.cells) (plans.data_count hold) && list_any is_in_error hold.cells) moves (plans.first_from (plans.is_next_move hold) 0 (length hold.cells)) (none_moved hold alone)

-- ---- of a hold of which one position may have a second device

abbrev pub moves_of : Option Second → List ℕ → Bool → Held → Option ℕ
moves_of o block away held =
    plans.first_from (plans.is_next_move (with_second o block away held).planned.hold) 0 (length (with_second o block away held).planned.hold.cells)

pub loses_option : (o : Option Second) (block : List ℕ) (away : Bool) (held : Held) → AreAlone held.planned.hold.cells → IsSoundBeside held away o →
    loses_unreadable (with_second o block away held).planned ≡ (loses_unreadable held.planned && not (is_some (moves_of o block away held)))
loses_option None block away held alone sound = loses_alone held.planned alone
loses_option (Some second) block away held alone sound = loses_both second block held away alone sound

pub moves_option : (o : Option Second) (block : List ℕ) (away : Bool) (held : Held) → AreAlone held.planned.hold.cells → IsSoundBeside held away o →
    moves_unreadable (with_second o block away held).planned ≡ (if loses_unreadable held.planned then moves_of o block away held else None)
moves_option None block away held alone sound = moves_alone held.planned alone
moves_option (Some second) block away held alone sound = moves_both second block held away alone sound
