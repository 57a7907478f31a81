-- Whether a row's hold with a second device has a command out, and whether it is over.
use Rattle.std.proofs.Common.{◌≡◌, ◌≢◌, inl, inr, Bool, true, false, ℕ, List, length, get_or, refl, sym, ◌∙◌, ap, subst, arith, Option, Some, None}
use Rattle.std.specs.Prelude.{◌&&◌, ◌||◌, ◌==◌, not, if◌then◌else◌, option_map}
use Rattle.std.specs.List.{list_any}
use Rattle.std.proofs.lemmas.Bool.{cases_eq, cases_lt, eq-eqb, ne_eqb, or_parts}
use Rattle.std.proofs.lemmas.List.{get_or_past}
use Rattle.r6_stripe.specs.Holds.{Cell, Hold, Kind, Outcome, Reading, Standing, Writing, cell_at, no_cell, HasTarget, IsCutOff, IsSettled, MayEnd, Owes}
use Rattle.r6_stripe.specs.Holds.Standing.{InSync, Target, Out}
use Rattle.r6_stripe.specs.Holds.Reading.{Unread, Recalled, Asked, Unreadable, Fixing, Fixed, AskedAgain, Known, Replaced}
use Rattle.r6_stripe.specs.Holds.Writing.{Unwritten, Ready, Sent, Confirmed}
use Rattle.r6_stripe.specs.Holds.Kind.{Idle, Read, Write, Rebuild, Check, Repair}
use Rattle.r6_stripe.specs.Holds.Outcome.{GivenUp}
use Rattle.r6_stripe.specs.Masks.{HasNone, has}
use Rattle.r6_stripe.specs.Places.{is_command_out, is_fix_out, is_read_out, is_second_out, is_write_out, no_place, standing_of}
use Rattle.r6_stripe.specs.Plans as plans
use Rattle.r6_stripe.specs.Plans.{Next, Planned, is_asked, is_fixing, is_asked_again, is_none, is_out, is_sent, is_target}
use Rattle.r6_stripe.specs.Seconds.{IsSecondSound, copying_of, is_awaited, recalled_if}
use Rattle.r6_stripe.specs.Steps.{Held, has_outcome, is_idle}
use Rattle.r6_stripe.specs.Sound.{IsSound, MayTarget}
use Rattle.r6_stripe.specs.Views.{hold_of, kind_of}
use Rattle.r6_stripe.specs.declared.command.RowTask.{RowTask}
use Rattle.r6_stripe.specs.declared.command.RowTask.TheVariants as task
use Rattle.r6_stripe.specs.declared.mask.Mask.{Mask}
use Rattle.r6_stripe.specs.declared.place.Standing.TheVariants as state
use Rattle.r6_stripe.specs.declared.state.HoldState.{HoldState}
use Rattle.r6_stripe.specs.declared.second.CopyState.{CopyState}
use Rattle.r6_stripe.specs.declared.second.Second.{Second}
use Rattle.r6_stripe.proofs.Alone.{AreAlone}
use Rattle.r6_stripe.proofs.Beside.{IsTwin, computed_same, gives_up_same, here, next_again_same, other, read_out_same, standing}
use Rattle.r6_stripe.proofs.BesideAnswers.{twin_by}
use Rattle.r6_stripe.proofs.BesideLosses.{awaited_is}
use Rattle.r6_stripe.proofs.BesideOver.{write_out}
use Rattle.r6_stripe.proofs.BesideSound.{going_of}
use Rattle.r6_stripe.proofs.BesideSteps.{IsGoing, planned_both, twin}
use Rattle.r6_stripe.proofs.Bound.{within, within_second}
use Rattle.r6_stripe.proofs.Nexts.{over_given_up}
use Rattle.r6_stripe.proofs.Over.{unmapped}
use Rattle.r6_stripe.proofs.Places.{any_each, any_false, any_true, cell_at-cells_of, cell_past, none_of_two}
use Rattle.r6_stripe.proofs.Searches.{first_empty}
use Rattle.r6_stripe.proofs.Sources.{target_state}

-- ---- what is put out

abbrev pub is_busy : Hold → Bool
is_busy hold = plans.has_read_out hold || plans.has_write_out hold

pub either_not : (a b : Bool) → not (not a && not b) ≡ (a || b)
either_not true b = refl
either_not false true = refl
either_not false false = refl

not_not : (b : Bool) → not (not b) ≡ b
not_not true = refl
not_not false = refl

-- some position passes one of two tests just if one passes the one or one the other
any_of_two : (f g : Cell → Bool) (cells : List Cell) → list_any (λ cell. f cell || g cell) cells ≡ (list_any f cells || list_any g cells)
any_of_two f g cells = sym (not_not (list_any (λ cell. f cell || g cell) cells)) ∙ ap not (none_of_two f g cells) ∙ either_not (list_any f cells) (list_any g cells)

-- a mask of cells that pass is empty just if none does
pub any_of_mask : (test : Cell → Bool) (cells : List Cell) (mask : Mask) (empty : Bool) → test no_cell ≡ false → ((i : ℕ) → has mask i ≡ test (cell_at cells i)) →
    (empty ≡ true → HasNone mask) → (empty ≡ false → (i : ℕ) × (has mask i ≡ true)) → list_any test cells ≡ not empty
any_of_mask test cells mask true past is none some = any_false test cells (λ i below. sym (is i) ∙ none refl i)
any_of_mask test cells mask false past is none some =
    let found = some refl in
    let at : test (cell_at cells found.0) ≡ true = sym (is found.0) ∙ found.1 in
    elim (cases_lt found.0 (length cells)) [
      | inl below ↦ any_true test cells found.0 below at
      | inr beyond ↦ absurd (let e = sym (ap test (get_or_past cells found.0 no_cell beyond) ∙ past) ∙ at in cc)
    ]

-- ---- a hold that has given up

record IsGivenUp (hold : Hold) (kind : Kind) : Type 0 where
  outcome : plans.outcome_of hold kind ≡ GivenUp
  cut : IsCutOff hold kind
  owes : Owes hold kind GivenUp

no_target : (c : Cell) → plans.has_target c ≡ false → HasTarget c → ⊥
no_target c off (inl e) = let f : true ≡ false = ap (λ (s : Standing). is_target s || is_target c.second) (sym e) ∙ off in cc
no_target c off (inr e) = let f : (is_target c.standing || true) ≡ false = ap (λ (s : Standing). is_target c.standing || is_target s) (sym e) ∙ off in either (is_target c.standing) f
  where
    either : (b : Bool) → (b || true) ≡ false → ⊥
    either true g = cc
    either false g = cc

given_up : (hold : Hold) (kind : Kind) → plans.is_idle kind ≡ false → plans.has_lost hold kind ≡ true → IsGivenUp hold kind
given_up hold Idle busy lost = absurd cc
given_up hold (Read index) busy lost = absurd cc
given_up hold (Write batch) busy lost = absurd cc
given_up hold (Rebuild at) busy lost =
    let off = off_by (plans.has_target (cell_at hold.cells at)) lost in
    record { outcome = ap (λ (b : Bool). if b then Outcome.Rebuilt else GivenUp) off; cut = no_target (cell_at hold.cells at) off; owes = no_target (cell_at hold.cells at) off }
  where
    off_by : (b : Bool) → not b ≡ true → b ≡ false
    off_by true e = absurd cc
    off_by false e = refl
given_up hold Check busy lost = record { outcome = ap (λ (b : Bool). if b || hold.met_error then GivenUp else Outcome.Classed) lost; cut = lost; owes = inl lost }
given_up hold Repair busy lost = record { outcome = ap (λ (b : Bool). if b || hold.met_error then GivenUp else Outcome.Classed) lost; cut = lost; owes = inl lost }

settled_live : (r : Reading) → is_asked r ≡ false → is_asked_again r ≡ false → is_fixing r ≡ false → r ≢ Fixed → IsSettled r
settled_live Unread a g f h = tt
settled_live Recalled a g f h = tt
settled_live Asked a g f h = absurd cc
settled_live Unreadable a g f h = tt
settled_live Fixing a g f h = absurd cc
settled_live Fixed a g f h = absurd (h refl)
settled_live AskedAgain a g f h = absurd cc
settled_live (Known block) a g f h = tt
settled_live Replaced a g f h = tt

unsent_live : (w : Writing) → is_sent w ≡ false → w ≢ Sent
unsent_live Unwritten e = λ f. cc
unsent_live (Ready block) e = λ f. cc
unsent_live Sent e = absurd cc
unsent_live Confirmed e = λ f. cc

-- a cell of which no command is out
settled_cell : (s : Standing) (r : Reading) (w : Writing) → s ≢ Out → r ≢ Fixed →
    (((not (is_out s) && is_asked r) || (not (is_out s) && is_asked_again r)) || ((not (is_out s) && is_fixing r) || (not (is_out s) && is_sent w))) ≡ false → IsSettled r × (w ≢ Sent)
settled_cell s r w live unfixed off = by_live (not (is_out s)) (live_is s live) off
  where
    live_is : (x : Standing) → x ≢ Out → not (is_out x) ≡ true
    live_is InSync h = refl
    live_is Target h = refl
    live_is Out h = absurd (h refl)

    by_live : (b : Bool) → b ≡ true → (((b && is_asked r) || (b && is_asked_again r)) || ((b && is_fixing r) || (b && is_sent w))) ≡ false → IsSettled r × (w ≢ Sent)
    by_live true e f =
        let both = or_parts (is_asked r || is_asked_again r) (is_fixing r || is_sent w) f in
        let reads = or_parts (is_asked r) (is_asked_again r) both.0 in
        let writes = or_parts (is_fixing r) (is_sent w) both.1 in
        (settled_live r reads.0 reads.1 writes.0 unfixed, unsent_live w writes.1)
    by_live false e f = absurd cc

copy_sent : (s : Standing) (w : Writing) → s ≢ Out → w ≡ Sent → (not (is_out s) && is_sent w) ≡ false → ⊥
copy_sent InSync w live e f = unsent_live w f e
copy_sent Target w live e f = unsent_live w f e
copy_sent Out w live e f = live refl

module _ (second : Second) (block : List ℕ) (held : Held) (away : Bool) (alone : AreAlone held.planned.hold.cells) (sound : IsSecondSound held away second) where
  abbrev hold : Hold
  hold = held.planned.hold

  abbrev p : ℕ
  p = second.position

  abbrev cell : Cell
  cell = cell_at held.planned.hold.cells second.position

  abbrev t : IsTwin second block held.planned.hold
  t = twin_by held away second block sound

  abbrev seen : Hold
  seen = (planned_both second block held.planned).hold

  -- nothing is recalled while a write of the second device is awaited
  pub going_awaited : is_awaited second ≡ true → IsGoing second held.planned
  going_awaited awaited = going_of held away second alone sound (λ is. absurd (let e = sym (awaited_is second awaited) ∙ (sound.alone is).1 in cc))

  pub busy_awaited : is_awaited second ≡ true → is_busy seen ≡ true
  busy_awaited awaited =
      ap (λ (b : Bool). plans.has_read_out seen || b) (write_out second block held away sound (going_awaited awaited) ∙ ap (λ (b : Bool). plans.has_write_out hold || b) awaited)
      ∙ or_true (plans.has_read_out seen) (plans.has_write_out hold)
    where
      or_true : (a b : Bool) → (a || (b || true)) ≡ true
      or_true true b = refl
      or_true false true = refl
      or_true false false = refl

  pub busy_same : IsGoing second held.planned → is_awaited second ≡ false → is_busy seen ≡ is_busy hold
  busy_same going quiet =
      (λ k. read_out_same second block hold going.alone (twin second block held.planned going) going.unrecalled k || (write_out second block held away sound going ∙ ap (λ (b : Bool). plans.has_write_out hold || b) quiet ∙ or_false (plans.has_write_out hold)) k)
    where
      or_false : (b : Bool) → (b || false) ≡ b
      or_false true = refl
      or_false false = refl

  -- ---- where a read is recalled

  module _ (recalled : second.recalled ≡ true) where
    -- no command of the position is out
    none_here : is_command_out (cell_at seen.cells p) ≡ false
    none_here = ap is_command_out (here second block hold alone t) ∙ by_standing cell.standing refl
      where
        by_standing : (s : Standing) → cell.standing ≡ s →
            (((not (is_out cell.standing) && is_asked (recalled_if second.recalled cell.reading)) || (not (is_out cell.standing) && is_asked_again (recalled_if second.recalled cell.reading)))
            || ((not (is_out cell.standing) && is_fixing (recalled_if second.recalled cell.reading)) || (not (is_out cell.standing) && is_sent cell.writing))) ≡ false
        by_standing Out is = rw is refl
        by_standing InSync is = let h = sound.recalled recalled (λ e. let f = sym is ∙ e in cc) in rw (is, recalled, h.1, h.2) refl
        by_standing Target is = let h = sound.recalled recalled (λ e. let f = sym is ∙ e in cc) in absurd (let f = sym is ∙ h.0 in cc)

    no_copies : list_any (λ c. not (is_out c.second) && is_sent c.copying) seen.cells ≡ false
    no_copies =
        any_false (λ c. not (is_out c.second) && is_sent c.copying) seen.cells (λ j below.
        elim (cases_eq j p) [
          | inl same ↦
              subst (λ (i : ℕ). (not (is_out (cell_at seen.cells i).second) && is_sent (cell_at seen.cells i).copying) ≡ false) (sym same)
              (ap (λ (c : Cell). not (is_out c.second) && is_sent c.copying) (here second block hold alone t)
              ∙ ap (λ (c : CopyState). not (is_out (standing_of second.state)) && is_sent (copying_of c cell.writing block)) (sound.alone recalled).1
              ∙ and_false (is_out (standing_of second.state)))
          | inr apart ↦
              ap (λ (c : Cell). not (is_out c.second) && is_sent c.copying) (other second block hold alone t j apart)
              ∙ ap (λ (s : Standing). not (is_out s) && is_sent (cell_at hold.cells j).copying) (alone j).second
        ])
      where
        and_false : (b : Bool) → (not b && false) ≡ false
        and_false true = refl
        and_false false = refl

    busy_commands : is_busy seen ≡ list_any is_command_out seen.cells
    busy_commands =
        ap (λ (b : Bool). (plans.has_asked seen || plans.has_asked_again seen) || (plans.has_fix_out seen || (plans.any_live (λ c. is_sent c.writing) seen || b))) no_copies
        ∙ ap (λ (b : Bool). (plans.has_asked seen || plans.has_asked_again seen) || (plans.has_fix_out seen || b)) (or_false (plans.any_live (λ c. is_sent c.writing) seen))
        ∙ (λ k. sym (any_of_two is_read_out is_second_out seen.cells) k || sym (any_of_two is_fix_out is_write_out seen.cells) k)
        ∙ sym (any_of_two (λ c. is_read_out c || is_second_out c) (λ c. is_fix_out c || is_write_out c) seen.cells)
      where
        or_false : (b : Bool) → (b || false) ≡ b
        or_false true = refl
        or_false false = refl

    -- by a mask of the commands that are out, without the position
    pub busy_recalled : (mask : Mask) (empty : Bool) → ((i : ℕ) → has mask i ≡ (if i == p then false else is_command_out (cell_at hold.cells i))) →
        (empty ≡ true → HasNone mask) → (empty ≡ false → (i : ℕ) × (has mask i ≡ true)) → is_busy seen ≡ not empty
    busy_recalled mask empty is none some =
        busy_commands ∙ any_of_mask is_command_out seen.cells mask empty refl each none some
      where
        each : (i : ℕ) → has mask i ≡ is_command_out (cell_at seen.cells i)
        each i =
            is i ∙ elim (cases_eq i p) [
              | inl same ↦ ap (λ (b : Bool). if b then false else is_command_out (cell_at hold.cells i)) (eq-eqb i p same) ∙ sym none_here ∙ ap (λ (j : ℕ). is_command_out (cell_at seen.cells j)) (sym same)
              | inr apart ↦ ap (λ (b : Bool). if b then false else is_command_out (cell_at hold.cells i)) (ne_eqb i p apart) ∙ ap is_command_out (sym (other second block hold alone t i apart))
            ]

    -- ---- and a hold that gives up ends

    pub over_recalled : plans.gives_up hold ≡ true → is_busy seen ≡ false → plans.is_over (planned_both second block held.planned) ≡ is_none (plans.next_again hold)
    over_recalled up quiet =
        over_given_up (planned_both second block held.planned) (gives_up_same second block hold alone t ∙ up)
        ∙ (λ k. sym (not_either (plans.has_read_out seen) (plans.has_write_out seen)) k && is_none (next_again_same second block hold alone t k))
        ∙ ap (λ (b : Bool). not b && is_none (plans.next_again hold)) quiet
      where
        not_either : (a b : Bool) → not (a || b) ≡ (not a && not b)
        not_either true b = refl
        not_either false b = refl

    module _ (busy : plans.is_idle hold.kind ≡ false) (up : plans.gives_up hold ≡ true) (none : plans.has_computed hold ≡ false) (quiet : is_busy seen ≡ false) (last : plans.next_again hold ≡ None) (untargeted : (j : ℕ) → (cell_at hold.cells j).standing ≢ Target) where
      lost : IsGivenUp seen seen.kind
      lost = given_up seen seen.kind busy (gives_up_same second block hold alone t ∙ up)

      no_fix_out : plans.has_fix_out seen ≡ false
      no_fix_out = (or_parts (plans.has_fix_out seen) _ (or_parts (plans.has_read_out seen) (plans.has_write_out seen) quiet).1).0

      none_again : plans.first_from (plans.is_next_again seen) 0 (length seen.cells) ≡ None
      none_again =
          unmapped Next.ReadAgainAt (plans.first_from (plans.is_next_again seen) 0 (length seen.cells))
          (ap (λ (b : Bool). if b then None else option_map Next.ReadAgainAt (plans.first_from (plans.is_next_again seen) 0 (length seen.cells)))
          (sym (λ k. busy k || (computed_same second block hold alone t ∙ none) k || no_fix_out k))
          ∙ next_again_same second block hold alone t ∙ last)

      unfixed : (j : ℕ) → (cell_at seen.cells j).standing ≢ Out → (cell_at seen.cells j).reading ≢ Fixed
      unfixed j live fixed = by_standing (cell_at seen.cells j).standing refl
        where
          by_standing : (s : Standing) → (cell_at seen.cells j).standing ≡ s → ⊥
          by_standing InSync is =
              let e = first_empty (plans.is_next_again seen) 0 (length seen.cells) none_again j (omega arith) (let below = within seen.cells j live in omega arith) in
              let f : true ≡ false = (λ k. plans.is_in_sync (sym is k) && plans.is_fixed (sym fixed k)) ∙ e in
              cc
          by_standing Target is = untargeted j (sym (standing second block hold alone t j) ∙ is)
          by_standing Out is = live is

      settled_at : (j : ℕ) → (cell_at seen.cells j).standing ≢ Out → IsSettled (cell_at seen.cells j).reading × ((cell_at seen.cells j).writing ≢ Sent)
      settled_at j live =
          settled_cell (cell_at seen.cells j).standing (cell_at seen.cells j).reading (cell_at seen.cells j).writing live (unfixed j live)
          (any_each is_command_out seen.cells (sym busy_commands ∙ quiet) j (within seen.cells j live))

      pub ends_recalled : MayEnd seen (plans.outcome_of seen seen.kind)
      ends_recalled = record {
        quiet = λ j. (settled_at j, uncopied j);
        mended = inl lost.cut;
        owes_nothing = subst (Owes seen seen.kind) (sym lost.outcome) lost.owes;
      }
        where
          uncopied : (j : ℕ) → (cell_at seen.cells j).second ≢ Out → (cell_at seen.cells j).copying ≢ Sent
          uncopied j live put =
              let e = any_each (λ c. not (is_out c.second) && is_sent c.copying) seen.cells no_copies j (within_second seen.cells j live) in
              copy_sent (cell_at seen.cells j).second (cell_at seen.cells j).copying live put e

      pub outcome_recalled : plans.outcome_of seen seen.kind ≡ GivenUp
      outcome_recalled = lost.outcome

-- one that gives up has no target
pub untargeted_up : (s : HoldState) → IsSound s → plans.is_idle (hold_of s).kind ≡ false → plans.gives_up (hold_of s) ≡ true → (j : ℕ) → (cell_at (hold_of s).cells j).standing ≢ Target
untargeted_up s sound busy up j there =
    elim (cases_lt j (length s.places)) [
      | inl below ↦
          let targets : (get_or s.places j no_place).state ≡ state.Target = target_state (get_or s.places j no_place).state (ap (λ (c : Cell). c.standing) (sym (cell_at-cells_of s.places s.blocks.items j no_place below)) ∙ there) in
          by_task s.task busy up (sound.targets j below targets)
      | inr past ↦ (let e = ap (λ (c : Cell). c.standing) (sym (cell_past s.places s.blocks.items j past)) ∙ there in cc)
    ]
  where
    by_task : (t : Option RowTask) → plans.is_idle (kind_of t) ≡ false → plans.has_lost (hold_of s) (kind_of t) ≡ true → MayTarget t j → ⊥
    by_task None idle lost may = cc
    by_task (Some (task.Read index)) idle lost may = may
    by_task (Some (task.Write batch)) idle lost may = may
    by_task (Some (task.Rebuild target)) idle lost may =
        let is : plans.has_target (cell_at (hold_of s).cells target) ≡ true = subst (λ (i : ℕ). plans.has_target (cell_at (hold_of s).cells i) ≡ true) may (ap (λ (x : Standing). is_target x || is_target (cell_at (hold_of s).cells j).second) there) in
        let e = ap not (sym is) ∙ lost in
        cc
    by_task (Some task.Check) idle lost may = may
    by_task (Some task.Repair) idle lost may = may

-- one that isn't over has no outcome
pub unended : (planned : Planned) → plans.is_over planned ≡ false → has_outcome planned ≡ false
unended planned e = ap (λ (b : Bool). not (is_idle planned.hold.kind) && b) e ∙ and_false (is_idle planned.hold.kind)
  where
    and_false : (b : Bool) → (not b && false) ≡ false
    and_false true = refl
    and_false false = refl
