-- What comes next where a read that was put out to the first device is to be put out again, to the second one.
use Rattle.std.proofs.Common.{◌≡◌, ◌≢◌, inl, inr, Bool, true, false, ℕ, ◌<◌, ◌≤◌, List, length, get_or, set, refl, sym, ◌∙◌, ap, subst, arith, Option, Some, None}
use Rattle.std.specs.Prelude.{◌&&◌, ◌||◌, ◌==◌, not, nat_lt, if◌then◌else◌, option_map}
use Rattle.std.specs.List.{list_any}
use Rattle.std.proofs.lemmas.Bool.{cases_eq, eq-eqb, le-ltb, lt-ltb, ne_eqb}
use Rattle.std.proofs.lemmas.List.{get_or-set_other, length-set}
use Rattle.r6_stripe.specs.Holds.{Reading, Cell, Hold, cell_at, no_cell}
use Rattle.r6_stripe.specs.Holds.Standing.{InSync, Out}
use Rattle.r6_stripe.specs.Holds.Reading.{Asked, AskedAgain, Fixed}
use Rattle.r6_stripe.specs.Holds.Writing.{Unwritten}
use Rattle.r6_stripe.specs.Plans as plans
use Rattle.r6_stripe.specs.Plans.{Planned, Next, is_in_sync, is_none, is_out, is_recalled, is_unread, or_lose}
use Rattle.r6_stripe.specs.Plans.Next.{ReadAt, ReadAgainAt}
use Rattle.r6_stripe.specs.Seconds.{IsSecondSound, beside, cells_beside, recalled_if, with_second}
use Rattle.r6_stripe.specs.Steps.{Held, IsNone, PutsReadOut, asked, asked_again, is_loss}
use Rattle.r6_stripe.specs.declared.second.Second.{Second}
use Rattle.r6_stripe.proofs.Alone.{AreAlone, read_alone}
use Rattle.r6_stripe.proofs.Beside.{IsTwin, computed_same, first_or, gives_up_same, here, loss_same, lower_of, next_again_same, reads_other, width}
use Rattle.r6_stripe.proofs.BesideAnswers.{sound_still, twin_by}
use Rattle.r6_stripe.proofs.BesideEvents.{update_placed}

kept : (b : Bool) → recalled_if b AskedAgain ≡ AskedAgain
kept true = refl
kept false = refl

-- what is true while it is
pub record IsRecalled (second : Second) (held : Held) : Type 0 where
  pub recalled : second.recalled ≡ true
  pub standing : (cell_at held.planned.hold.cells second.position).standing ≡ InSync
  pub reading : (cell_at held.planned.hold.cells second.position).reading ≡ Asked
  pub writing : (cell_at held.planned.hold.cells second.position).writing ≡ Unwritten

pub is_recalled_by : (held : Held) (away : Bool) (second : Second) → IsSecondSound held away second → second.recalled ≡ true → (cell_at held.planned.hold.cells second.position).standing ≢ Out → IsRecalled second held
is_recalled_by held away second sound is live = let h = sound.recalled is live in record { recalled = is; standing = h.0; reading = h.1; writing = h.2 }

module _ (second : Second) (block : List ℕ) (away : Bool) (held : Held) (alone : AreAlone held.planned.hold.cells) (sound : IsSecondSound held away second) (is : IsRecalled second held) where
  abbrev hold : Hold
  hold = held.planned.hold

  abbrev p : ℕ
  p = second.position

  abbrev t : IsTwin second block held.planned.hold
  t = twin_by held away second block sound

  abbrev seen : Held
  seen = with_second (Some second) block away held

  -- ---- a hold that gives up reads again what it has fixed, and nothing else

  pub up_next : plans.gives_up hold ≡ true → plans.next seen.planned ≡ plans.next_again hold
  up_next up = ap (λ (b : Bool). if b then plans.next_again seen.planned.hold else plans.or_else (plans.next_loss seen.planned.hold) (plans.or_else (plans.next_read held.planned.plan seen.planned.hold) (plans.next_after_reads held.planned.plan seen.planned.hold))) (gives_up_same second block hold alone t ∙ up)
      ∙ next_again_same second block hold alone t

  cells_again : (i : ℕ) → i ≢ p → cells_beside second block (set hold.cells i (record (cell_at hold.cells i) { reading = AskedAgain })) ≡ set (cells_beside second block hold.cells) i (record (cell_at (cells_beside second block hold.cells) i) { reading = AskedAgain })
  cells_again i apart = update_placed hold.cells p sound.within (beside second block) (beside second block) (λ c. record c { reading = AskedAgain }) (λ c. record c { reading = AskedAgain }) i (λ e. refl) (λ e. absurd (apart e)) (λ e. refl)

  cells_asked : (i : ℕ) → i ≢ p → cells_beside second block (set hold.cells i (record (cell_at hold.cells i) { reading = Asked })) ≡ set (cells_beside second block hold.cells) i (record (cell_at (cells_beside second block hold.cells) i) { reading = Asked })
  cells_asked i apart = update_placed hold.cells p sound.within (beside second block) (beside second block) (λ c. record c { reading = Asked }) (λ c. record c { reading = Asked }) i (λ e. refl) (λ e. absurd (apart e)) (λ e. refl)

  abbrev with_cells : List Cell → ℕ → Held
  with_cells cs i = record seen { planned = record held.planned { hold = record held.planned.hold { cells = cs } }; away = set held.away i true }

  other_sound : (i : ℕ) (r : Reading) (new : Held) → i ≢ p → new.planned.hold.cells ≡ set hold.cells i (record (cell_at hold.cells i) { reading = r }) → new.away ≡ set held.away i true → IsSecondSound new away second
  other_sound i r new apart cells_are gone =
      let cell : Cell = record (cell_at hold.cells i) { reading = r } in
      sound_still held new away second (ap length cells_are ∙ length-set hold.cells i cell)
      (ap (λ (cs : List Cell). cell_at cs p) cells_are ∙ get_or-set_other hold.cells i p cell no_cell (λ e. apart (sym e)))
      (ap (λ (a : List Bool). get_or a p false) gone ∙ get_or-set_other held.away i p true false (λ e. apart (sym e))) sound

  -- the position itself wasn't fixed
  pub apart_again : (i : ℕ) → (cell_at hold.cells i).reading ≡ Fixed → i ≢ p
  apart_again i fixed same = let e = sym is.reading ∙ subst (λ (j : ℕ). (cell_at hold.cells j).reading ≡ Fixed) same fixed in cc

  pub puts_again : (i : ℕ) (new : Held) → plans.gives_up hold ≡ true → plans.next_again hold ≡ Some (ReadAgainAt i) → i ≢ p → new ≡ asked_again held i → PutsReadOut seen i (with_second (Some second) block away new) × IsSecondSound new away second
  puts_again i new up next apart asks = (
    inr (up_next up ∙ next, ap (with_second (Some second) block away) asks ∙ ap (λ (cs : List Cell). with_cells cs i) (cells_again i apart)),
    other_sound i AskedAgain new apart (ap (λ (h : Held). h.planned.hold.cells) asks) (ap (λ (h : Held). h.away) asks),
  )

  pub none_again : plans.gives_up hold ≡ true → plans.next_again hold ≡ None → IsNone (plans.next seen.planned)
  none_again up none = subst IsNone (sym (up_next up ∙ none)) tt

  -- ---- where too few blocks can still become known

  loss_is : (b : Bool) (o : Option ℕ) → is_loss (if b then Some (or_lose o) else None) ≡ true → b ≡ true
  loss_is true o e = refl
  loss_is false o e = absurd cc

  goes_on : plans.gives_up hold ≡ false → plans.next seen.planned ≡ plans.or_else (plans.next_loss seen.planned.hold) (plans.or_else (plans.next_read held.planned.plan seen.planned.hold) (plans.next_after_reads held.planned.plan seen.planned.hold))
  goes_on up = ap (λ (b : Bool). if b then plans.next_again seen.planned.hold else plans.or_else (plans.next_loss seen.planned.hold) (plans.or_else (plans.next_read held.planned.plan seen.planned.hold) (plans.next_after_reads held.planned.plan seen.planned.hold))) (gives_up_same second block hold alone t ∙ up)

  pub loss_next : plans.gives_up hold ≡ false → is_loss (plans.next_loss hold) ≡ true → IsNone (plans.next seen.planned)
  loss_next up lost =
      let few = loss_is (nat_lt (plans.knowable_count hold.cells) (plans.data_count hold) && list_any plans.is_in_error hold.cells) (plans.first_from (plans.is_next_move hold) 0 (length hold.cells)) lost in
      let o : Option ℕ = plans.first_from (plans.is_next_move seen.planned.hold) 0 (length seen.planned.hold.cells) in
      let loses : plans.next_loss seen.planned.hold ≡ Some (or_lose o) = loss_same second block hold alone t ∙ ap (λ (b : Bool). if b then Some (or_lose o) else None) few in
      subst IsNone (sym (goes_on up ∙ ap (λ (l : Option Next). plans.or_else l (plans.or_else (plans.next_read held.planned.plan seen.planned.hold) (plans.next_after_reads held.planned.plan seen.planned.hold))) loses)) (by_move o)
    where
      by_move : (q : Option ℕ) → IsNone (Some (or_lose q))
      by_move None = tt
      by_move (Some i) = tt

  -- ---- the reads: those that are left, and this one

  at_here : plans.is_next_read held.planned.plan seen.planned.hold p ≡ true
  at_here =
      ap (λ (c : Cell). is_in_sync c.standing && (is_recalled c.reading || (is_unread c.reading && plans.wants held.planned.plan seen.planned.hold p && plans.lacks held.planned.plan seen.planned.hold))) (here second block hold alone t)
      ∙ (λ k. is_in_sync (is.standing k) && (is_recalled (recalled_if (is.recalled k) (is.reading k)) || (is_unread (recalled_if (is.recalled k) (is.reading k)) && plans.wants held.planned.plan seen.planned.hold p && plans.lacks held.planned.plan seen.planned.hold)))

  not_here : plans.is_next_read held.planned.plan hold p ≡ false
  not_here = read_alone hold alone held.planned.plan p ∙ (λ k. is_in_sync (is.standing k) && is_unread (is.reading k) && plans.wants held.planned.plan hold p && plans.lacks held.planned.plan hold)

  reads_each : (j : ℕ) → plans.is_next_read held.planned.plan seen.planned.hold j ≡ (plans.is_next_read held.planned.plan hold j || (j == p))
  reads_each j =
      elim (cases_eq j p) [
        | inl same ↦
            subst (λ (i : ℕ). plans.is_next_read held.planned.plan seen.planned.hold i ≡ (plans.is_next_read held.planned.plan hold i || (i == p))) (sym same)
            (at_here ∙ sym (ap (λ (b : Bool). b || (p == p)) not_here ∙ eq-eqb p p refl))
        | inr apart ↦
            reads_other second block hold alone t held.planned.plan j apart
            ∙ sym (ap (λ (b : Bool). plans.is_next_read held.planned.plan hold j || b) (ne_eqb j p apart) ∙ or_false (plans.is_next_read held.planned.plan hold j))
      ]
    where
      or_false : (b : Bool) → (b || false) ≡ b
      or_false true = refl
      or_false false = refl

  module _ (none : plans.has_computed hold ≡ false) where
    reads_next : plans.next_read held.planned.plan seen.planned.hold ≡ option_map ReadAt (lower_of p (plans.first_from (plans.is_next_read held.planned.plan hold) 0 (length hold.cells)))
    reads_next =
        ap (λ (b : Bool). if b then None else option_map ReadAt (plans.first_from (plans.is_next_read held.planned.plan seen.planned.hold) 0 (length seen.planned.hold.cells))) (computed_same second block hold alone t ∙ none)
        ∙ ap (option_map ReadAt)
        ((λ k. plans.first_from (λ j. reads_each j k) 0 (width second block hold alone t k))
        ∙ first_or (plans.is_next_read held.planned.plan hold) (λ j. j == p) 0 (length hold.cells) p (λ j apart. ne_eqb j p apart) (eq-eqb p p refl) not_here (omega arith) (omega (arith, sound.within)))

    -- the hold isn't over while the read is to be put out again
    pub recalled_busy : plans.gives_up hold ≡ false → plans.is_over seen.planned ≡ false
    recalled_busy up =
        over_going (plans.has_read_out seen.planned.hold) (plans.has_write_out seen.planned.hold) (is_none (plans.next seen.planned)) (plans.gives_up seen.planned.hold || plans.has_enough held.planned.plan seen.planned.hold)
        (ap is_none (goes_on up)
        ∙ (λ k. is_none (plans.or_else (plans.next_loss seen.planned.hold) (plans.or_else (reads_next k) (plans.next_after_reads held.planned.plan seen.planned.hold))))
        ∙ some_read (plans.next_loss seen.planned.hold) (plans.first_from (plans.is_next_read held.planned.plan hold) 0 (length hold.cells)) (plans.next_after_reads held.planned.plan seen.planned.hold))
      where
        over_going : (a b n rest : Bool) → n ≡ false → (not a && not b && n && rest) ≡ false
        over_going true b n rest e = refl
        over_going false true n rest e = refl
        over_going false false n rest e = ap (λ (x : Bool). x && rest) e

        some_lower : (b : Bool) (i : ℕ) (rest : Option Next) → is_none (plans.or_else (option_map ReadAt (if b then Some i else Some p)) rest) ≡ false
        some_lower true i rest = refl
        some_lower false i rest = refl

        some_read : (loss : Option Next) (o : Option ℕ) (rest : Option Next) → is_none (plans.or_else loss (plans.or_else (option_map ReadAt (lower_of p o)) rest)) ≡ false
        some_read (Some step) o rest = refl
        some_read None None rest = refl
        some_read None (Some i) rest = some_lower (nat_lt i p) i rest

    module _ (up : plans.gives_up hold ≡ false) (alone_loss : plans.next_loss hold ≡ None) where
      no_loss : plans.next_loss seen.planned.hold ≡ None
      no_loss = loss_same second block hold alone t ∙ by_none (nat_lt (plans.knowable_count hold.cells) (plans.data_count hold) && list_any plans.is_in_error hold.cells) (plans.first_from (plans.is_next_move hold) 0 (length hold.cells)) (plans.first_from (plans.is_next_move seen.planned.hold) 0 (length seen.planned.hold.cells)) alone_loss
        where
          by_none : (b : Bool) (o q : Option ℕ) → (if b then Some (or_lose o) else None) ≡ None → (if b then Some (or_lose q) else None) ≡ None
          by_none true o q e = absurd cc
          by_none false o q e = refl

      read_comes : (i : ℕ) → lower_of p (plans.first_from (plans.is_next_read held.planned.plan hold) 0 (length hold.cells)) ≡ Some i → plans.next seen.planned ≡ Some (ReadAt i)
      read_comes i lowest =
          goes_on up
          ∙ (λ k. plans.or_else (no_loss k) (plans.or_else ((reads_next ∙ ap (option_map ReadAt) lowest) k) (plans.next_after_reads held.planned.plan seen.planned.hold)))

      -- a read of a lower position comes first
      pub puts_lower : (i : ℕ) (new : Held) → plans.first_from (plans.is_next_read held.planned.plan hold) 0 (length hold.cells) ≡ Some i → i < p → new ≡ asked held i → PutsReadOut seen i (with_second (Some second) block away new) × IsSecondSound new away second
      puts_lower i new found less asks =
          let apart : i ≢ p = (λ e. omega arith) in (
            inl (read_comes i (ap (lower_of p) found ∙ ap (λ (b : Bool). if b then Some i else Some p) (lt-ltb i p less)), ap (with_second (Some second) block away) asks ∙ ap (λ (cs : List Cell). with_cells cs i) (cells_asked i apart)),
            other_sound i Asked new apart (ap (λ (h : Held). h.planned.hold.cells) asks) (ap (λ (h : Held). h.away) asks),
          )

      -- and then this one
      pub puts_anew : (o : Option ℕ) (new : Held) → plans.first_from (plans.is_next_read held.planned.plan hold) 0 (length hold.cells) ≡ o → ((i : ℕ) → o ≡ Some i → p ≤ i) → new ≡ asked held p →
          PutsReadOut seen p (with_second (Some (record second { recalled = false })) block away new) × IsSecondSound new away (record second { recalled = false })
      puts_anew o new found past asks = (
        inl (
          read_comes p (ap (lower_of p) found ∙ by_option o past),
          ap (with_second (Some (record second { recalled = false })) block away) asks
              ∙ ap (λ (cs : List Cell). with_cells cs p)
              (update_placed hold.cells p sound.within (beside second block) (beside (record second { recalled = false }) block) (λ c. record c { reading = Asked }) (λ c. record c { reading = Asked }) p (λ e. absurd (e refl)) (λ e. refl) (λ e. absurd (e refl))),
        ),
        record {
          within = omega (arith, sound.within, ap (λ (h : Held). length h.planned.hold.cells) asks, length-set hold.cells p (record (cell_at hold.cells p) { reading = Asked }));
          untargeted = sound.untargeted;
          beside_one = λ e. absurd (let f = sym (sound.alone is.recalled).0 ∙ e in cc);
          follows = λ e. absurd (let f = sym (sound.alone is.recalled).0 ∙ e in cc);
          early = λ e. absurd (let f = sym (sound.alone is.recalled).1 ∙ e in cc);
          owed = λ e. absurd (let f = sym (sound.alone is.recalled).0 ∙ e in cc);
          over = sound.over;
          computed = λ u. absurd (u (sound.alone is.recalled).1);
          following_home = λ e. absurd (let f = sym (sound.alone is.recalled).1 ∙ e in cc);
          ready_home = λ e. absurd (let f = sym (sound.alone is.recalled).1 ∙ e in cc);
          confirmed_home = λ e. absurd (let f = sym (sound.alone is.recalled).1 ∙ e in cc);
          alone = λ e. absurd cc;
          recalled = λ e. absurd cc;
        },
      )
        where
          by_option : (q : Option ℕ) → ((i : ℕ) → q ≡ Some i → p ≤ i) → lower_of p q ≡ Some p
          by_option None h = refl
          by_option (Some i) h = rw (le-ltb i p (h i refl)) refl
