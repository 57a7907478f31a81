-- A buffer leaves with a read or a fix: the hold stays sound.
use Rattle.std.proofs.Common.{◌≡◌, ◌≢◌, ◌⊎◌, Bool, true, false, ℕ, ◌<◌, List, [], length, get_or, set, inl, inr, refl, sym, ◌∙◌, ap, subst, arith, Some, None, Option}
use Rattle.std.specs.Global.{Vec}
use Rattle.std.specs.Prelude.{not}
use Rattle.std.proofs.lemmas.List.{length-set}
use Rattle.std.proofs.lemmas.Bool.{eqb-true, false_from_ne_true, ltb-true}
use Rattle.r6_stripe.specs.Holds.{Kind}
use Rattle.r6_stripe.specs.Places.{has_met, is_lent, no_place, standing_of, was_asked}
use Rattle.r6_stripe.specs.Plans as plans
use Rattle.r6_stripe.specs.Sound.{AreHome, Each, HasBuffer, IsInCourse, IsPlaceOver, IsPlaceSound, IsSound, IsTargetOf, IsTask, LendsLast, MayLend}
use Rattle.r6_stripe.specs.Views.{hold_of, kind_of, plan_of}
use Rattle.r6_stripe.specs.declared.place.PositionState.{PositionState}
use Rattle.r6_stripe.specs.declared.place.Standing.TheVariants as state
use Rattle.r6_stripe.specs.declared.place.ReadState.{ReadState}
use Rattle.r6_stripe.specs.declared.place.ReadState.TheVariants as read
use Rattle.r6_stripe.specs.declared.place.WriteState.TheVariants as write
use Rattle.r6_stripe.specs.declared.plan.Plan.{Plan}
use Rattle.r6_stripe.specs.declared.plan.Plan.TheVariants as plan
use Rattle.r6_stripe.specs.declared.command.RowTask.{RowTask}
use Rattle.r6_stripe.specs.declared.command.RowTask.TheVariants as task
use Rattle.r6_stripe.specs.declared.state.HoldState.{HoldState}
use Rattle.r6_stripe.proofs.Checks.{renewed_set}
use Rattle.r6_stripe.proofs.Counts.{known_coming}
use Rattle.r6_stripe.proofs.Events.{put_settled}
use Rattle.r6_stripe.proofs.Lends.{known_cells}
use Rattle.r6_stripe.proofs.Rests.{rests_unset}
use Rattle.r6_stripe.proofs.Places.{any_default, length-cells_of}
use Rattle.r6_stripe.proofs.States.{Each-set, Each-set_other, has_no_buffer, not_lent, there}

module _ (s : HoldState) (i : ℕ) (r : ReadState) (sound : IsSound s) (inside : i < length s.places) (none_lent : Each (λ position place. is_lent place ≡ false) s.places) where
  abbrev old : PositionState
  old = get_or s.places i no_place

  abbrev new : PositionState
  new = record { state = old.state; read = r; write = old.write; away = true }

  here : old ≡ get_or s.places i old
  here = any_default s.places i no_place old inside

  asked_unlent : was_asked r ≡ true → is_lent new ≡ false
  asked_unlent asked = not_lent new (λ known. let e = sym (ap was_asked known) ∙ asked in cc)

  -- the buffers of the others stay
  home_beside : (blocks : List (List ℕ)) → was_asked r ≡ true → ((j : ℕ) → j ≢ i → get_or blocks j [] ≡ get_or s.blocks.items j []) → AreHome s.len (set s.places i new) blocks
  home_beside blocks asked beside =
      Each-set_other (λ j place. HasBuffer place → length (get_or blocks j []) ≡ s.len) s.places i new
      (λ j below other has. ap length (beside j other) ∙ sound.at_home j below has)
      (λ has. absurd (has_no_buffer new refl (asked_unlent asked) has))

  pub leaves : (blocks : Vec (List ℕ)) (sum weighted : List ℕ) → length blocks.items ≡ length s.blocks.items → ((j : ℕ) → j ≢ i → get_or blocks.items j [] ≡ get_or s.blocks.items j []) → length sum ≡ s.len → length weighted ≡ s.len →
      ((j : ℕ) → j < length s.places → (get_or s.places j no_place).write ≡ write.Unwritten) → was_asked r ≡ true → IsInCourse s.plan s.task (length s.places) sound.computed i new →
      IsSound (record s { places = set s.places i new; blocks = blocks; sum = sum; weighted = weighted })
  leaves blocks sum weighted wide beside sum_long weighted_long none asked course =
      let unwritten = none i inside in
      let count = length-set s.places i new in
      let P : ℕ → PositionState → Type 0 = IsInCourse s.plan s.task (length s.places) sound.computed in
      let unlent : Each (λ position place. is_lent place ≡ false) (set s.places i new) = Each-set (λ position place. is_lent place ≡ false) s.places i new none_lent (asked_unlent asked) in
      record {
        four_or_more = omega (arith, sound.four_or_more, count);
        at_most = omega (arith, sound.at_most, count);
        wide = wide ∙ sound.wide ∙ sym count;
        sum = λ none. sum_long;
        weighted = weighted_long;
        fits = subst (λ (n : ℕ). IsTask n s.len s.task) (sym count) sound.fits;
        at_home = home_beside blocks.items asked beside;
        settled = Each-set (λ k place. IsPlaceSound place) s.places i new sound.settled (put_settled old r asked unwritten);
        lends = λ k below lent. absurd (let e = sym (unlent k below) ∙ lent in cc);
        lends_last = λ k below lent. absurd (let e = sym (unlent k below) ∙ lent in cc);
        cut = sound.cut;
        targets = Each-set (IsTargetOf s.task) s.places i new sound.targets (there (IsTargetOf s.task) s.places i old inside here sound.targets);
        rests = rests_unset s.places i new none unwritten;
        computed = sound.computed;
        renewed = λ repairs computed. renewed_set s.class s.places i old new here (λ e. e) inside (sound.renewed repairs computed);
        course = subst (λ (n : ℕ). Each (IsInCourse s.plan s.task n sound.computed) (set s.places i new)) (sym count) (Each-set P s.places i new sound.course course);
      }

-- ---- no buffer is lent while a read is wanted, or being answered, or a read error is left

lent_contradicts : (s : HoldState) → IsSound s → (LendsLast s.places → ⊥) → Each (λ position place. is_lent place ≡ false) s.places
lent_contradicts s sound none k below = false_from_ne_true (is_lent (get_or s.places k no_place)) (λ lent. none (sound.lends_last k below lent))

pub unlent_beside : (s : HoldState) → IsSound s → (i : ℕ) → i < length s.places → (IsPlaceOver (get_or s.places i no_place) → ⊥) → Each (λ position place. is_lent place ≡ false) s.places
unlent_beside s sound i inside live = lent_contradicts s sound (λ last. live (last.over i inside))

-- a position whose read is put out
pub unlent_asked : (s : HoldState) → IsSound s → (i : ℕ) → i < length s.places → not (plans.is_out (standing_of (get_or s.places i no_place).state)) ≡ true → (get_or s.places i no_place).read ≡ read.Asked → Each (λ position place. is_lent place ≡ false) s.places
unlent_asked s sound i inside live asked =
    unlent_beside s sound i inside (λ over. (over (λ out. let e = sym (ap (λ t. not (plans.is_out (standing_of t))) out) ∙ live in cc)).0 asked)

-- a position in sync with a read error
pub unlent_mending : (s : HoldState) → IsSound s → (i : ℕ) → i < length s.places → (get_or s.places i no_place).state ≡ state.InSync → has_met (get_or s.places i no_place).read ≡ true → Each (λ position place. is_lent place ≡ false) s.places
unlent_mending s sound i inside in_sync met = unlent_beside s sound i inside (λ over. let e = sym met ∙ (over (λ out. let f = sym in_sync ∙ out in cc)).1 in cc)

-- a recovery that lacks a block
too_few : (s : HoldState) → IsSound s → plans.lacks plans.Plan.Recover (hold_of s) ≡ true → LendsLast s.places → ⊥
too_few s sound lacks last =
    let less = ltb-true (plans.coming_count (hold_of s).cells) (plans.data_count (hold_of s)) lacks in
    let known = known_cells s.places s.blocks.items in
    let coming = known_coming (hold_of s).cells in
    let wide = length-cells_of s.places s.blocks.items in
    omega (arith, less, known, coming, wide, last.enough, sound.four_or_more)

-- the block that a buffer is lent to is the one that is read, or the hold recovers
lent_where : (p : Plan) (t : Option RowTask) (count : ℕ) (computed : Bool) (i k : ℕ) (place : PositionState) → MayLend t k → IsInCourse p t count computed i place → kind_of t ≢ Kind.Idle → (p ≡ plan.One → plans.is_its_block (kind_of t) i ≡ true) →
    (k ≡ i) ⊎ (p ≡ plan.Recover)
lent_where p None count computed i k place may course live its = absurd (live refl)
lent_where p (Some (task.Write batch)) count computed i k place may course live its = absurd may
lent_where p (Some (task.Rebuild target)) count computed i k place may course live its = absurd may
lent_where p (Some task.Check) count computed i k place may course live its = absurd may
lent_where p (Some task.Repair) count computed i k place may course live its = absurd may
lent_where plan.One (Some (task.Read index)) count computed i k place may course live its = inl (may ∙ eqb-true index i (its refl))
lent_where plan.Recover (Some (task.Read index)) count computed i k place may course live its = inr refl
lent_where plan.Reconstruct (Some (task.Read index)) count computed i k place may course live its = absurd course
lent_where plan.Modify (Some (task.Read index)) count computed i k place may course live its = absurd course
lent_where plan.Overwrite (Some (task.Read index)) count computed i k place may course live its = absurd course
lent_where plan.All (Some (task.Read index)) count computed i k place may course live its = absurd course

pub unlent_asking : (s : HoldState) → IsSound s → (i : ℕ) → i < length s.places → (get_or s.places i no_place).read ≡ read.Unread → plans.gives_up (hold_of s) ≡ false → plans.wants (plan_of s.plan) (hold_of s) i ≡ true →
    plans.lacks (plan_of s.plan) (hold_of s) ≡ true → Each (λ position place. is_lent place ≡ false) s.places
unlent_asking s sound i inside unread goes_on wanted lacks k below =
    false_from_ne_true (is_lent (get_or s.places k no_place)) (λ lent.
    elim (lent_where s.plan s.task (length s.places) sound.computed i k (get_or s.places i no_place) (sound.lends k below lent) (sound.course i inside) live its) [
      | inl same ↦ unknown (subst (λ (j : ℕ). is_lent (get_or s.places j no_place) ≡ true) same lent)
      | inr recovers ↦ too_few s sound (subst (λ (p : Plan). plans.lacks (plan_of p) (hold_of s) ≡ true) recovers lacks) (sound.lends_last k below lent)
    ])
  where
    unknown : is_lent (get_or s.places i no_place) ≡ true → ⊥
    unknown lent = let e = sym (not_lent (get_or s.places i no_place) (λ known. let f = sym unread ∙ known in cc)) ∙ lent in cc

    live : kind_of s.task ≢ Kind.Idle
    live idle = let e : true ≡ false = sym (ap (plans.has_lost (hold_of s)) idle) ∙ goes_on in cc

    its : s.plan ≡ plan.One → plans.is_its_block (kind_of s.task) i ≡ true
    its one = subst (λ (p : Plan). plans.wants (plan_of p) (hold_of s) i ≡ true) one wanted
