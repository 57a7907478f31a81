-- What a slot has when it has other devices, and what is left of a row's position then.
use Rattle.std.proofs.Common.{◌≡◌, ◌≢◌, ◌⊎◌, inl, inr, ℕ, ◌+◌, ◌<◌, ◌≤◌, Bool, true, false, Option, Some, None, refl, sym, ap, subst, ◌∙◌, arith, cond}
use Rattle.std.specs.Prelude.{◌==◌, ◌||◌, not, nat_lt, if◌then◌else◌}
use Rattle.std.proofs.lemmas.Bool.{cases_Bool, eq-eqb, ne_eqb, eqb-true, false≢true, lt-ltb, or_left, or_right}
use Rattle.std.proofs.Math.Bool.{or-false}
use Rattle.r6_layout.specs.Shape.{Shape, IsShape}
use Rattle.r6_layout.specs.Layout.{first_row}
use Rattle.r6_stripe.specs.Holds.{Standing}
use Rattle.r6_stripe.specs.Holds.Standing.{InSync, Target, Out}
use Rattle.r6_stripe.specs.Plans.{is_in_sync, is_out}
use Rattle.r6_world.specs.Geometries.{layout_of}
use Rattle.r6_world.specs.ShardStates.{SlotState, InSyncFor, IsFirstFor, generation_in, has_device, is_away, second_in, standing_of, standings_of}
use Rattle.r6_world.proofs.Geometries.{layouts}
use Rattle.r6_world.proofs.Uses as any_use
use Rattle.r6_frames.specs.declared.rebuilt.RebuiltRows.{RebuiltRows}
use Rattle.r6_frames.specs.declared.slots.Device.{Device}
use Rattle.r6_frames.specs.declared.slots.Device.TheVariants.{Synced, Missing, Building, Doubled, Paired}
use Rattle.r6_frames.specs.declared.slots.Slot.{Slot}
use Rattle.r6_frames.specs.Rebuilt.{IsRebuilt, is_rebuilt, none_rebuilt}
use Rattle.r6_frames.specs.Slots.{AreRowsFrom, IsNewFrom, IsRebuiltOn, IsWholeIn, first_of, is_gone, replaced, second_of, since_kept, since_of, state_of}
use Rattle.r6_frames.specs.Sound.{IsDeviceOf, with_target_of}
use Rattle.r6_frames.proofs.NewDevices.{none_built, none_is}

-- a slot with two devices has two different ones
abbrev pub AreApart : Device → Type 0
AreApart (Synced generation) = Unit {0}
AreApart Missing = Unit {0}
AreApart (Building generation rebuilt) = Unit {0}
AreApart (Doubled old new rebuilt) = old ≢ new
AreApart (Paired old new) = old ≢ new

-- what is left of a position's devices, by whether the slot keeps them
abbrev pub left_of_two : (first second : Standing) → (keeps_first keeps_second : Bool) → Standing × Standing
left_of_two first second true true = (first, second)
left_of_two first second true false = (first, Out)
left_of_two first second false true = (second, Out)
left_of_two first second false false = (Out, Out)

abbrev pub left_of : Standing × Standing → (keeps_first keeps_second : Bool) → Standing × Standing
left_of standings keeps_first keeps_second =
    if is_out standings.0 then (Out, Out)
    else (if is_out standings.1 then (if keeps_first then (standings.0, Out) else (Out, Out))
    else left_of_two standings.0 standings.1 keeps_first keeps_second)

-- what stands there, by whether the row is built on the second device
abbrev built_if : Bool → Standing
built_if b = if b then InSync else Out

abbrev pub keeps : Device → ℕ → Bool
keeps d generation = has_device (state_of d) generation

apart_sym : (a b : ℕ) → a ≢ b → (b == a) ≡ false
apart_sym a b ne = ne_eqb b a (λ e. ne (sym e))

own_eqb : (a b : ℕ) → a ≡ b → (b == a) ≡ true
own_eqb a b e = eq-eqb b a (sym e)

-- a device that wasn't there isn't one of these
not_first : (a b g : ℕ) → ((a == g) || (b == g)) ≡ false → (a == g) ≡ false
not_first a b g none = elim (cases_Bool (a == g)) [ inl has ↦ absurd (false≢true (sym none ∙ or_left (a == g) (b == g) has)) | inr is ↦ is ]

not_second : (a b g : ℕ) → ((a == g) || (b == g)) ≡ false → (b == g) ≡ false
not_second a b g none = elim (cases_Bool (b == g)) [ inl has ↦ absurd (false≢true (sym none ∙ or_right (a == g) (b == g) has)) | inr is ↦ is ]

flip_eqb : (a b : ℕ) → (a == b) ≡ false → (b == a) ≡ false
flip_eqb a b is = ne_eqb b a (λ e. false≢true (sym is ∙ eq-eqb a b (sym e)))

both_false : (a b : Bool) → a ≡ false → b ≡ false → (a || b) ≡ false
both_false a b is also = λ i. is i || also i

via : (s : Standing × Standing) (a b x y : Bool) → a ≡ x → b ≡ y → left_of s a b ≡ left_of s x y
via s a b x y p q = λ i. left_of s (p i) (q i)

via_first : (s : Standing × Standing) (a b x : Bool) → a ≡ x → left_of s a b ≡ left_of s x b
via_first s a b x p = λ i. left_of s (p i) b

-- ---- by what is in sync on the devices

one_out : (b second : Bool) → left_of (built_if b, Out) false second ≡ (Out, Out)
one_out true second = refl
one_out false second = refl

one_stays : (b second : Bool) → left_of (built_if b, Out) true second ≡ (built_if b, Out)
one_stays true second = refl
one_stays false second = refl

two_out : (b : Bool) → left_of (InSync, built_if b) false false ≡ (Out, Out)
two_out true = refl
two_out false = refl

two_stay : (b : Bool) → left_of (InSync, built_if b) true true ≡ (InSync, built_if b)
two_stay true = refl
two_stay false = refl

first_stays : (b : Bool) → left_of (InSync, built_if b) true false ≡ (InSync, Out)
first_stays true = refl
first_stays false = refl

second_moves : (b : Bool) → left_of (InSync, built_if b) false true ≡ (built_if b, Out)
second_moves true = refl
second_moves false = refl

-- on a device of which nothing was there no row is built
none_there : (start row : ℕ) (rows : RebuiltRows) → rows ≡ none_rebuilt start → built_if (is_rebuilt rows row) ≡ Out
none_there start row rows is = ap (λ (r : RebuiltRows). built_if (is_rebuilt r row)) is ∙ ap built_if (none_built start row)

same_there : (row : ℕ) (rows before : RebuiltRows) → rows ≡ before → built_if (is_rebuilt before row) ≡ built_if (is_rebuilt rows row)
same_there row rows before is = ap (λ (r : RebuiltRows). built_if (is_rebuilt r row)) (sym is)

abbrev pub keeps_first : Device → Device → Bool
keeps_first d e = keeps e (generation_in (state_of d))

abbrev pub keeps_second : Device → Device → Bool
keeps_second d e = keeps e (second_in (state_of d))

-- in each row stands then what is left of the devices that stood there
pub kept_standings : (start : ℕ) (d e : Device) → IsNewFrom start d e → AreApart d → (row : ℕ)
    → left_of (standings_of (state_of d) row) (keeps_first d e) (keeps_second d e) ≡ standings_of (state_of e) row
kept_standings start (Synced c) Missing new apart row = refl
kept_standings start Missing Missing new apart row = refl
kept_standings start (Building c rows) Missing new apart row = one_out (is_rebuilt rows row) false
kept_standings start (Doubled old other rows) Missing new apart row = two_out (is_rebuilt rows row)
kept_standings start (Paired old other) Missing new apart row = refl
kept_standings start (Synced c) (Synced g) new apart row = via_first (InSync, Out) (g == c) (g == 0) true (own_eqb c g new)
kept_standings start Missing (Synced g) new apart row = absurd new
kept_standings start (Building c rows) (Synced g) new apart row = absurd new
kept_standings start (Doubled old other rows) (Synced g) new apart row =
    via (InSync, built_if (is_rebuilt rows row)) (g == old) (g == other) true false (own_eqb old g new) (ne_eqb g other (λ e. apart (new ∙ e)))
    ∙ first_stays (is_rebuilt rows row)
kept_standings start (Paired old other) (Synced g) (inl new) apart row =
    via (InSync, InSync) (g == old) (g == other) true false (own_eqb old g new) (ne_eqb g other (λ e. apart (new ∙ e)))
kept_standings start (Paired old other) (Synced g) (inr new) apart row =
    via (InSync, InSync) (g == old) (g == other) false true (ne_eqb g old (λ e. apart (sym (new ∙ e)))) (own_eqb other g new)
kept_standings start (Synced c) (Building g rows) (inl new) apart row = absurd new
kept_standings start (Synced c) (Building g rows) (inr new) apart row =
    via_first (InSync, Out) (g == c) (g == 0) false (flip_eqb c g new.0) ∙ ap (λ (s : Standing). (s, Out)) (sym (none_there start row rows new.1))
kept_standings start Missing (Building g rows) (inl new) apart row = absurd new
kept_standings start Missing (Building g rows) (inr new) apart row = ap (λ (s : Standing). (s, Out)) (sym (none_there start row rows new.1))
kept_standings start (Building c before) (Building g rows) (inl new) apart row =
    via_first (built_if (is_rebuilt before row), Out) (g == c) (g == 0) true (eq-eqb g c new.0) ∙ one_stays (is_rebuilt before row) (g == 0)
    ∙ ap (λ (s : Standing). (s, Out)) (same_there row rows before new.1)
kept_standings start (Building c before) (Building g rows) (inr new) apart row =
    via_first (built_if (is_rebuilt before row), Out) (g == c) (g == 0) false (flip_eqb c g new.0) ∙ one_out (is_rebuilt before row) (g == 0)
    ∙ ap (λ (s : Standing). (s, Out)) (sym (none_there start row rows new.1))
kept_standings start (Doubled old other before) (Building g rows) (inl new) apart row =
    via (InSync, built_if (is_rebuilt before row)) (g == old) (g == other) false true (ne_eqb g old (λ e. apart (sym e ∙ new.0))) (eq-eqb g other new.0)
    ∙ second_moves (is_rebuilt before row) ∙ ap (λ (s : Standing). (s, Out)) (same_there row rows before new.1)
kept_standings start (Doubled old other before) (Building g rows) (inr new) apart row =
    via (InSync, built_if (is_rebuilt before row)) (g == old) (g == other) false false (flip_eqb old g (not_first old other g new.0)) (flip_eqb other g (not_second old other g new.0))
    ∙ two_out (is_rebuilt before row) ∙ ap (λ (s : Standing). (s, Out)) (sym (none_there start row rows new.1))
kept_standings start (Paired old other) (Building g rows) (inl new) apart row = absurd new
kept_standings start (Paired old other) (Building g rows) (inr new) apart row =
    via (InSync, InSync) (g == old) (g == other) false false (flip_eqb old g (not_first old other g new.0)) (flip_eqb other g (not_second old other g new.0))
    ∙ ap (λ (s : Standing). (s, Out)) (sym (none_there start row rows new.1))
kept_standings start (Synced c) (Doubled first second rows) (ne, whole, inl new) apart row = absurd new
kept_standings start (Synced c) (Doubled first second rows) (ne, whole, inr new) apart row =
    via_first (InSync, Out) (keeps (Doubled first second rows) c) (keeps (Doubled first second rows) 0) true (or_left (first == c) (second == c) (own_eqb c first whole))
    ∙ ap (λ (s : Standing). (InSync, s)) (sym (none_there start row rows new.1))
kept_standings start Missing (Doubled first second rows) (ne, whole, new) apart row = absurd whole
kept_standings start (Building c before) (Doubled first second rows) (ne, whole, new) apart row = absurd whole
kept_standings start (Doubled old other before) (Doubled first second rows) (ne, whole, inl new) apart row =
    via (InSync, built_if (is_rebuilt before row)) (keeps (Doubled first second rows) old) (keeps (Doubled first second rows) other) true true
    (or_left (first == old) (second == old) (own_eqb old first whole)) (or_right (first == other) (second == other) (eq-eqb second other new.0))
    ∙ two_stay (is_rebuilt before row) ∙ ap (λ (s : Standing). (InSync, s)) (same_there row rows before new.1)
kept_standings start (Doubled old other before) (Doubled first second rows) (ne, whole, inr new) apart row =
    via (InSync, built_if (is_rebuilt before row)) (keeps (Doubled first second rows) old) (keeps (Doubled first second rows) other) true false
    (or_left (first == old) (second == old) (own_eqb old first whole))
    (both_false (first == other) (second == other) (ne_eqb first other (λ e. apart (whole ∙ e))) (flip_eqb other second (not_second old other second new.0)))
    ∙ first_stays (is_rebuilt before row) ∙ ap (λ (s : Standing). (InSync, s)) (sym (none_there start row rows new.1))
kept_standings start (Paired old other) (Doubled first second rows) (ne, whole, inl new) apart row = absurd new
kept_standings start (Paired old other) (Doubled first second rows) (ne, inl whole, inr new) apart row =
    via (InSync, InSync) (keeps (Doubled first second rows) old) (keeps (Doubled first second rows) other) true false
    (or_left (first == old) (second == old) (own_eqb old first whole))
    (both_false (first == other) (second == other) (ne_eqb first other (λ e. apart (whole ∙ e))) (flip_eqb other second (not_second old other second new.0)))
    ∙ ap (λ (s : Standing). (InSync, s)) (sym (none_there start row rows new.1))
kept_standings start (Paired old other) (Doubled first second rows) (ne, inr whole, inr new) apart row =
    via (InSync, InSync) (keeps (Doubled first second rows) old) (keeps (Doubled first second rows) other) false true
    (both_false (first == old) (second == old) (ne_eqb first old (λ e. apart (sym (whole ∙ e)))) (flip_eqb old second (not_first old other second new.0)))
    (or_left (first == other) (second == other) (own_eqb other first whole))
    ∙ ap (λ (s : Standing). (InSync, s)) (sym (none_there start row rows new.1))
kept_standings start d (Paired first second) new apart row =
    subst (λ (x : Device). left_of (standings_of (state_of x) row) (keeps_first x (Paired first second)) (keeps_second x (Paired first second)) ≡ (InSync, InSync)) (sym new)
    (via (InSync, InSync) (keeps (Paired first second) first) (keeps (Paired first second) second) true true
    (or_left (first == first) (second == first) (eq-eqb first first refl)) (or_right (first == second) (second == second) (eq-eqb second second refl)))

-- ---- by what is the target of a rebuild

-- a device that the slot has was there
was_there : (a b : ℕ) → (a == b) ≡ false → a ≡ b → ⊥
was_there a b none same = false≢true (sym none ∙ eq-eqb a b same)

-- a target stays one, with the rows that are built there, if the slot keeps it
pub kept_target : (start : ℕ) (d e : Device) (g : ℕ) (rows : RebuiltRows) → IsNewFrom start d e → AreApart d → IsRebuiltOn d g rows → keeps e g ≡ true
    → IsRebuiltOn e g rows × (left_of (with_target_of d) (keeps_first d e) (keeps_second d e) ≡ with_target_of e)
kept_target start (Synced c) e g rows new apart is stays = absurd is
kept_target start Missing e g rows new apart is stays = absurd is
kept_target start (Paired old other) e g rows new apart is stays = absurd is
kept_target start (Building c before) (Synced x) g rows new apart is stays = absurd new
kept_target start (Building c before) Missing g rows new apart is stays = absurd (false≢true stays)
kept_target start (Building c before) (Building x now) g rows (inl new) apart is stays = (
  (sym (eqb-true x g stays), is.1 ∙ sym new.1),
  via_first (Target, Out) (x == c) (x == 0) true (eq-eqb x c new.0),
)
kept_target start (Building c before) (Building x now) g rows (inr new) apart is stays = absurd (was_there c x new.0 (sym (eqb-true x g stays ∙ is.0)))
kept_target start (Building c before) (Doubled first second now) g rows (ne, whole, new) apart is stays = absurd whole
kept_target start (Building c before) (Paired first second) g rows new apart is stays = absurd (cc)
kept_target start (Doubled old other before) (Synced x) g rows new apart is stays = absurd (apart (new ∙ eqb-true x g stays ∙ is.0))
kept_target start (Doubled old other before) Missing g rows new apart is stays = absurd (false≢true stays)
kept_target start (Doubled old other before) (Building x now) g rows (inl new) apart is stays = (
  (sym (eqb-true x g stays), is.1 ∙ sym new.1),
  via (InSync, Target) (x == old) (x == other) false true (ne_eqb x old (λ e. apart (sym e ∙ new.0))) (eq-eqb x other new.0),
)
kept_target start (Doubled old other before) (Building x now) g rows (inr new) apart is stays =
    absurd (was_there other x (not_second old other x new.0) (sym (eqb-true x g stays ∙ is.0)))
kept_target start (Doubled old other before) (Doubled first second now) g rows (ne, whole, new) apart is stays =
    elim (cases_Bool (first == g)) [
      | inl own ↦ absurd (apart (whole ∙ eqb-true first g own ∙ is.0))
      | inr no_first ↦ elim (cases_Bool (second == g)) [
        | inl own ↦ elim new [
          | inl rows_are ↦ (
            (sym (eqb-true second g own), is.1 ∙ sym rows_are.1),
            via (InSync, Target) (keeps (Doubled first second now) old) (keeps (Doubled first second now) other) true true
                (or_left (first == old) (second == old) (own_eqb old first whole)) (or_right (first == other) (second == other) (eq-eqb second other rows_are.0)),
          )
          | inr none ↦ absurd (was_there other second (not_second old other second none.0) (sym (eqb-true second g own ∙ is.0)))
        ]
        | inr no_second ↦ absurd (false≢true (sym (both_false (first == g) (second == g) no_first no_second) ∙ stays))
      ]
    ]
kept_target start (Doubled old other before) (Paired first second) g rows new apart is stays = absurd (cc)

-- and where the slot has it no more, the other one is left, if that stays
pub lost_target : (start : ℕ) (d e : Device) (g row : ℕ) (rows : RebuiltRows) → IsNewFrom start d e → AreApart d → IsRebuiltOn d g rows → is_rebuilt rows row ≡ false → keeps e g ≡ false
    → left_of (with_target_of d) (keeps_first d e) (keeps_second d e) ≡ standings_of (state_of e) row
lost_target start (Synced c) e g row rows new apart is unbuilt gone = absurd is
lost_target start Missing e g row rows new apart is unbuilt gone = absurd is
lost_target start (Paired old other) e g row rows new apart is unbuilt gone = absurd is
lost_target start (Building c before) e g row rows new apart is unbuilt gone =
    let out : is_rebuilt before row ≡ false = ap (λ (r : RebuiltRows). is_rebuilt r row) (sym is.1) ∙ unbuilt in
    let first : keeps e c ≡ false = ap (keeps e) (sym is.0) ∙ gone in
    via_first (Target, Out) (keeps e c) (keeps e 0) false first
    ∙ sym (ap (λ (b : Bool). left_of (built_if b, Out) (keeps e c) (keeps e 0)) out) ∙ kept_standings start (Building c before) e new apart row
lost_target start (Doubled old other before) e g row rows new apart is unbuilt gone =
    let out : is_rebuilt before row ≡ false = ap (λ (r : RebuiltRows). is_rebuilt r row) (sym is.1) ∙ unbuilt in
    let second : keeps e other ≡ false = ap (keeps e) (sym is.0) ∙ gone in
    ap (λ (b : Bool). left_of (InSync, Target) (keeps e old) b) second ∙ alone (keeps e old)
    ∙ sym (ap (λ (b : Bool). left_of (InSync, built_if b) (keeps e old) (keeps e other)) out) ∙ kept_standings start (Doubled old other before) e new apart row
  where
    alone : (b : Bool) → left_of (InSync, Target) b false ≡ left_of (InSync, Out) b (keeps e other)
    alone true = refl
    alone false = refl

-- ---- a read of a device that stays

pub in_sync_kept : (start : ℕ) (d e : Device) (row g : ℕ) → IsNewFrom start d e → AreApart d → InSyncFor (state_of d) row g → keeps e g ≡ true → InSyncFor (state_of e) row g
in_sync_kept start d (Synced x) row g new apart is stays = sym (eqb-true x g stays)
in_sync_kept start d Missing row g new apart is stays = absurd (false≢true stays)
in_sync_kept start (Synced c) (Building x rows) row g (inl new) apart is stays = absurd new
in_sync_kept start (Synced c) (Building x rows) row g (inr new) apart is stays = absurd (was_there c x new.0 (sym (eqb-true x g stays ∙ is)))
in_sync_kept start Missing (Building x rows) row g new apart is stays = absurd is
in_sync_kept start (Building c before) (Building x rows) row g (inl new) apart is stays =
    (sym (eqb-true x g stays), ap (λ (r : RebuiltRows). is_rebuilt r row) new.1 ∙ is.1)
in_sync_kept start (Building c before) (Building x rows) row g (inr new) apart is stays = absurd (was_there c x new.0 (sym (eqb-true x g stays ∙ is.0)))
in_sync_kept start (Doubled old other before) (Building x rows) row g (inl new) apart (inl is) stays = absurd (apart (sym (eqb-true x g stays ∙ is) ∙ new.0))
in_sync_kept start (Doubled old other before) (Building x rows) row g (inl new) apart (inr is) stays =
    (sym (eqb-true x g stays), ap (λ (r : RebuiltRows). is_rebuilt r row) new.1 ∙ is.1)
in_sync_kept start (Doubled old other before) (Building x rows) row g (inr new) apart (inl is) stays =
    absurd (was_there old x (not_first old other x new.0) (sym (eqb-true x g stays ∙ is)))
in_sync_kept start (Doubled old other before) (Building x rows) row g (inr new) apart (inr is) stays =
    absurd (was_there other x (not_second old other x new.0) (sym (eqb-true x g stays ∙ is.0)))
in_sync_kept start (Paired old other) (Building x rows) row g (inl new) apart is stays = absurd new
in_sync_kept start (Paired old other) (Building x rows) row g (inr new) apart (inl is) stays = absurd (was_there old x (not_first old other x new.0) (sym (eqb-true x g stays ∙ is)))
in_sync_kept start (Paired old other) (Building x rows) row g (inr new) apart (inr is) stays = absurd (was_there other x (not_second old other x new.0) (sym (eqb-true x g stays ∙ is)))
in_sync_kept start d (Doubled first second rows) row g (ne, whole, new) apart is stays =
    elim (cases_Bool (first == g)) [
      | inl own ↦ inl (sym (eqb-true first g own))
      | inr no_first ↦ elim (cases_Bool (second == g)) [
        | inl own ↦ by_rows d whole apart is (eqb-true second g own) (λ e. was_there first g no_first e) new
        | inr no_second ↦ absurd (false≢true (sym (both_false (first == g) (second == g) no_first no_second) ∙ stays))
      ]
    ]
  where
    by_rows : (d : Device) → IsWholeIn d first → AreApart d → InSyncFor (state_of d) row g → second ≡ g → (first ≡ g → ⊥) → AreRowsFrom start d second rows → InSyncFor (SlotState.Doubled first second (is_rebuilt rows)) row g
    by_rows (Synced c) whole apart is own ne new = absurd (ne (sym whole ∙ sym is))
    by_rows Missing whole apart is own ne new = absurd whole
    by_rows (Building c before) whole apart is own ne new = absurd whole
    by_rows (Doubled old other before) whole apart (inl is) own ne new = absurd (ne (sym whole ∙ sym is))
    by_rows (Doubled old other before) whole apart (inr is) own ne (inl new) = inr (sym own, ap (λ (r : RebuiltRows). is_rebuilt r row) new.1 ∙ is.1)
    by_rows (Doubled old other before) whole apart (inr is) own ne (inr none) = absurd (was_there other second (not_second old other second none.0) (sym (own ∙ is.0)))
    by_rows (Paired old other) whole apart is own ne (inl new) = absurd new
    by_rows (Paired old other) whole apart (inl is) own ne (inr none) = absurd (was_there old second (not_first old other second none.0) (sym (own ∙ is)))
    by_rows (Paired old other) whole apart (inr is) own ne (inr none) = absurd (was_there other second (not_second old other second none.0) (sym (own ∙ is)))
in_sync_kept start d (Paired first second) row g new apart is stays = subst (λ (x : Device). InSyncFor (state_of x) row g) new is

-- ---- a slot that is out stays so, and its devices are lawful

pub away_kept : (start : ℕ) (d e : Device) → IsNewFrom start d e → is_away (state_of d) ≡ true → is_away (state_of e) ≡ true
away_kept start d Missing new away = refl
away_kept start d (Building g rows) new away = refl
away_kept start (Synced c) (Synced g) new away = away
away_kept start Missing (Synced g) new away = absurd new
away_kept start (Building c rows) (Synced g) new away = absurd new
away_kept start (Doubled old other rows) (Synced g) new away = away
away_kept start (Paired old other) (Synced g) new away = away
away_kept start (Synced c) (Doubled first second rows) new away = away
away_kept start Missing (Doubled first second rows) new away = absurd new.1
away_kept start (Building c before) (Doubled first second rows) new away = absurd new.1
away_kept start (Doubled old other before) (Doubled first second rows) new away = away
away_kept start (Paired old other) (Doubled first second rows) new away = away
away_kept start d (Paired first second) new away = ap (λ (x : Device). is_away (state_of x)) (sym new) ∙ away

pub rows_of_device : (shape : Shape) (n : ℕ) (d : Device) (g : ℕ) (rows : RebuiltRows) → IsDeviceOf (layout_of shape) n d → IsRebuiltOn d g rows
    → IsRebuilt (first_row shape n) (first_row shape (n + 1)) rows
rows_of_device shape n (Synced c) g rows lawful is = absurd is
rows_of_device shape n Missing g rows lawful is = absurd is
rows_of_device shape n (Building c before) g rows lawful is = subst (λ (r : RebuiltRows). IsRebuilt (first_row shape n) (first_row shape (n + 1)) r) (sym is.1) lawful
rows_of_device shape n (Doubled old other before) g rows lawful is = subst (λ (r : RebuiltRows). IsRebuilt (first_row shape n) (first_row shape (n + 1)) r) (sym is.1) lawful.1
rows_of_device shape n (Paired old other) g rows lawful is = absurd is

new_rows : (shape : Shape) (n : ℕ) → IsShape shape → n < shape.shards → (d : Device) (g : ℕ) (rows : RebuiltRows) → IsDeviceOf (layout_of shape) n d → AreRowsFrom (first_row shape n) d g rows
    → IsRebuilt (first_row shape n) (first_row shape (n + 1)) rows
new_rows shape n shaped below d g rows lawful (inl is) = rows_of_device shape n d g rows lawful is
new_rows shape n shaped below d g rows lawful (inr none) =
    subst (λ (r : RebuiltRows). IsRebuilt (first_row shape n) (first_row shape (n + 1)) r) (sym none.1)
    (none_is (first_row shape n) (first_row shape (n + 1)) ((layouts shape shaped).some_row n below))

pub new_device_of : (shape : Shape) (n : ℕ) → IsShape shape → n < shape.shards → (d e : Device) → IsDeviceOf (layout_of shape) n d → IsNewFrom (first_row shape n) d e → IsDeviceOf (layout_of shape) n e
new_device_of shape n shaped below d (Synced g) lawful new = tt
new_device_of shape n shaped below d Missing lawful new = tt
new_device_of shape n shaped below d (Building g rows) lawful new = new_rows shape n shaped below d g rows lawful new
new_device_of shape n shaped below d (Doubled first second rows) lawful new = (new.0, new_rows shape n shaped below d second rows lawful new.2)
new_device_of shape n shaped below d (Paired first second) lawful new = subst (λ (x : Device). IsDeviceOf (layout_of shape) n x) new lawful

pub apart_of : (shape : Shape) (n : ℕ) (d : Device) → IsDeviceOf (layout_of shape) n d → AreApart d
apart_of shape n (Synced generation) is = tt
apart_of shape n Missing is = tt
apart_of shape n (Building generation rebuilt) is = tt
apart_of shape n (Doubled old new rebuilt) is = is.0
apart_of shape n (Paired old new) is = is

-- ---- commands to the slot

since_of_two : (slot : Slot) (next g first second : ℕ) → ((first == g) || (second == g)) ≡ true → cond (first == g) (since_kept slot next (Some first)) (since_kept slot next (Some second)) ≡ since_kept slot next (Some g)
since_of_two slot next g first second has = elim (cases_Bool (first == g)) [
  | inl own ↦ ap (λ (b : Bool). cond b (since_kept slot next (Some first)) (since_kept slot next (Some second))) own ∙ ap (λ (k : ℕ). since_kept slot next (Some k)) (eqb-true first g own)
  | inr none ↦ ap (λ (b : Bool). cond b (since_kept slot next (Some first)) (since_kept slot next (Some second))) none
      ∙ ap (λ (k : ℕ). since_kept slot next (Some k)) (eqb-true second g (sym (ap (λ (b : Bool). b || (second == g)) none) ∙ has))
]

since_now : (slot : Slot) (e : Device) (next g : ℕ) → keeps e g ≡ true → since_of (replaced slot e next) g ≡ since_kept slot next (Some g)
since_now slot (Synced x) next g has = ap (λ (b : Bool). cond b (since_kept slot next (Some x)) next) has ∙ ap (λ (k : ℕ). since_kept slot next (Some k)) (eqb-true x g has)
since_now slot Missing next g has = absurd (false≢true has)
since_now slot (Building x rows) next g has = ap (λ (b : Bool). cond b (since_kept slot next (Some x)) next) has ∙ ap (λ (k : ℕ). since_kept slot next (Some k)) (eqb-true x g has)
since_now slot (Doubled first second rows) next g has = since_of_two slot next g first second has
since_now slot (Paired first second) next g has = since_of_two slot next g first second has

-- a command is abandoned if it was, or if the slot has its device no more
pub gone_after : (slot : Slot) (e : Device) (next token g : ℕ) → token < next → is_gone (replaced slot e next) token g ≡ (is_gone slot token g || not (keeps e g))
gone_after slot e next token g given =
    elim (cases_Bool (keeps e g)) [
      | inr gone ↦ or_left (not (keeps e g)) (nat_lt token (since_of (replaced slot e next) g)) (ap not gone) ∙ sym (or_right (is_gone slot token g) (not (keeps e g)) (ap not gone))
      | inl has ↦
          (λ i. not (has i) || nat_lt token (since_now slot e next g has i)) ∙ by_before (keeps slot.device g) refl
          ∙ sym (ap (λ (b : Bool). is_gone slot token g || not b) has ∙ or-false (is_gone slot token g))
    ]
  where
    by_before : (b : Bool) → keeps slot.device g ≡ b → nat_lt token (since_kept slot next (Some g)) ≡ is_gone slot token g
    by_before true is = ap (λ (b : Bool). nat_lt token (cond b (since_of slot g) next)) is ∙ sym (ap (λ (b : Bool). not b || nat_lt token (since_of slot g)) is)
    by_before false is = ap (λ (b : Bool). nat_lt token (cond b (since_of slot g) next)) is ∙ lt-ltb token next given ∙ sym (or_left (not (keeps slot.device g)) (nat_lt token (since_of slot g)) (ap not is))

since_of_most : (slot : Slot) (next g : ℕ) → slot.since ≤ next → slot.since_second ≤ next → since_of slot g ≤ next
since_of_most slot next g first second = elim (generation_in (state_of slot.device) == g) as (λ b. cond b slot.since slot.since_second ≤ next) [ true ↦ first | false ↦ second ]

pub since_most : (slot : Slot) (next : ℕ) (o : Option ℕ) → slot.since ≤ next → slot.since_second ≤ next → since_kept slot next o ≤ next
since_most slot next None first second = omega arith
since_most slot next (Some g) first second =
    let most = since_of_most slot next g first second in
    elim (keeps slot.device g) as (λ b. cond b (since_of slot g) next ≤ next) [ true ↦ most | false ↦ omega arith ]

-- ---- which device is in sync for a row

pub stands_out : (state : SlotState) (row : ℕ) → is_in_sync (standing_of state row) ≡ false → standing_of state row ≡ Out
stands_out state row not_in_sync = elim (any_use.stands-in-or-out false state row) [
  | inl in_sync ↦ absurd (false≢true (sym not_in_sync ∙ ap is_in_sync in_sync))
  | inr out ↦ out
]

pub stands_in : (state : SlotState) (row : ℕ) → is_in_sync (standing_of state row) ≡ true → standing_of state row ≡ InSync
stands_in state row is = elim (any_use.stands-in-or-out false state row) [
  | inl in_sync ↦ in_sync
  | inr out ↦ absurd (false≢true (sym (ap is_in_sync out) ∙ is))
]

in_sync_if_built : (b : Bool) → built_if b ≡ InSync → b ≡ true
in_sync_if_built true is = refl
in_sync_if_built false is = absurd (cc)

-- a slot in sync for the row has a first device, and that is in sync
pub generation_there : (d : Device) (row : ℕ) → standing_of (state_of d) row ≡ InSync → (generation : ℕ) × (first_of d ≡ Some generation)
generation_there (Synced generation) row is = (generation, refl)
generation_there Missing row is = absurd (cc)
generation_there (Building generation rebuilt) row is = (generation, refl)
generation_there (Doubled old new rebuilt) row is = (old, refl)
generation_there (Paired old new) row is = (old, refl)

pub first_is : (d : Device) (generation : ℕ) → first_of d ≡ Some generation → generation_in (state_of d) ≡ generation
first_is (Synced current) generation is = cc
first_is Missing generation is = absurd (cc)
first_is (Building current rebuilt) generation is = cc
first_is (Doubled old new rebuilt) generation is = cc
first_is (Paired old new) generation is = cc

pub second_is : (d : Device) (generation : ℕ) → second_of d ≡ Some generation → second_in (state_of d) ≡ generation
second_is (Synced current) generation is = absurd (cc)
second_is Missing generation is = absurd (cc)
second_is (Building current rebuilt) generation is = absurd (cc)
second_is (Doubled old new rebuilt) generation is = cc
second_is (Paired old new) generation is = cc

in_sync_first : (d : Device) (row : ℕ) → standing_of (state_of d) row ≡ InSync → InSyncFor (state_of d) row (generation_in (state_of d))
in_sync_first (Synced current) row is = refl
in_sync_first Missing row is = absurd (cc)
in_sync_first (Building current rebuilt) row is = (refl, in_sync_if_built (is_rebuilt rebuilt row) is)
in_sync_first (Doubled old new rebuilt) row is = inl refl
in_sync_first (Paired old new) row is = inl refl

-- reads go to it
pub first_for : (d : Device) (row generation : ℕ) → standing_of (state_of d) row ≡ InSync → first_of d ≡ Some generation → IsFirstFor (state_of d) row generation
first_for d row generation is there =
    let same = first_is d generation there in
    (subst (λ (g : ℕ). InSyncFor (state_of d) row g) same (in_sync_first d row is), sym same)

-- a slot is in sync for a row, or it isn't
pub in_sync_of : (d : Device) (row : ℕ) → is_in_sync (standing_of (state_of d) row) ≡ true → (generation : ℕ) × InSyncFor (state_of d) row generation
in_sync_of d row is = (generation_in (state_of d), in_sync_first d row (stands_in (state_of d) row is))

pub not_in_sync : (d : Device) (row generation : ℕ) → is_in_sync (standing_of (state_of d) row) ≡ false → InSyncFor (state_of d) row generation → ⊥
not_in_sync (Synced current) row generation out is = absurd (cc)
not_in_sync Missing row generation out is = is
not_in_sync (Building current rebuilt) row generation out is = false≢true (sym out ∙ ap (λ (b : Bool). is_in_sync (built_if b)) is.1)
not_in_sync (Doubled old new rebuilt) row generation out is = absurd (cc)
not_in_sync (Paired old new) row generation out is = absurd (cc)

-- the device of a slot that is in sync for the row has it
pub has_first : (d : Device) (generation : ℕ) → first_of d ≡ Some generation → keeps d generation ≡ true
has_first (Synced current) generation is = let same : current ≡ generation = cc in eq-eqb current generation same
has_first Missing generation is = absurd (cc)
has_first (Building current rebuilt) generation is = let same : current ≡ generation = cc in eq-eqb current generation same
has_first (Doubled old new rebuilt) generation is = let same : old ≡ generation = cc in or_left (old == generation) (new == generation) (eq-eqb old generation same)
has_first (Paired old new) generation is = let same : old ≡ generation = cc in or_left (old == generation) (new == generation) (eq-eqb old generation same)

pub has_second : (d : Device) (generation : ℕ) → second_of d ≡ Some generation → keeps d generation ≡ true
has_second (Synced current) generation is = absurd (cc)
has_second Missing generation is = absurd (cc)
has_second (Building current rebuilt) generation is = absurd (cc)
has_second (Doubled old new rebuilt) generation is = let same : new ≡ generation = cc in or_right (old == generation) (new == generation) (eq-eqb new generation same)
has_second (Paired old new) generation is = let same : new ≡ generation = cc in or_right (old == generation) (new == generation) (eq-eqb new generation same)

-- ---- which of a slot's devices are its first and its second one then

whole_two : (d : Device) (f : ℕ) → second_of d ≢ None → IsWholeIn d f → (generation_in (state_of d) ≡ f) ⊎ (second_in (state_of d) ≡ f)
whole_two (Synced current) f two whole = absurd (two refl)
whole_two Missing f two whole = absurd (two refl)
whole_two (Building current rebuilt) f two whole = absurd (two refl)
whole_two (Doubled old new rebuilt) f two whole = inl whole
whole_two (Paired old new) f two whole = whole

apart_two : (d : Device) → AreApart d → second_of d ≢ None → generation_in (state_of d) ≢ second_in (state_of d)
apart_two (Synced current) apart two = absurd (two refl)
apart_two Missing apart two = absurd (two refl)
apart_two (Building current rebuilt) apart two = absurd (two refl)
apart_two (Doubled old new rebuilt) apart two = apart
apart_two (Paired old new) apart two = apart

first_has : (d : Device) → first_of d ≢ None → keeps d (generation_in (state_of d)) ≡ true
first_has (Synced current) some = eq-eqb current current refl
first_has Missing some = absurd (some refl)
first_has (Building current rebuilt) some = eq-eqb current current refl
first_has (Doubled old new rebuilt) some = or_left (old == old) (new == old) (eq-eqb old old refl)
first_has (Paired old new) some = or_left (old == old) (new == old) (eq-eqb old old refl)

pub kept_first : (start : ℕ) (d e : Device) → IsNewFrom start d e → AreApart d → first_of d ≢ None → keeps_first d e ≡ true → generation_in (state_of e) ≡ generation_in (state_of d)
kept_first start d (Synced x) new apart some stays = eqb-true x (generation_in (state_of d)) stays
kept_first start d Missing new apart some stays = absurd (false≢true stays)
kept_first start d (Building x rows) new apart some stays = eqb-true x (generation_in (state_of d)) stays
kept_first start d (Doubled first second rows) new apart some stays =
    elim (cases_Bool (first == generation_in (state_of d))) [
      | inl own ↦ eqb-true first (generation_in (state_of d)) own
      | inr no_first ↦ elim (cases_Bool (second == generation_in (state_of d))) [
        | inl own ↦ absurd (no_other d new.1 apart some (eqb-true second (generation_in (state_of d)) own) new.2)
        | inr no_second ↦ absurd (false≢true (sym (both_false (first == generation_in (state_of d)) (second == generation_in (state_of d)) no_first no_second) ∙ stays))
      ]
    ]
  where
    no_other : (d : Device) → IsWholeIn d first → AreApart d → first_of d ≢ None → second ≡ generation_in (state_of d) → AreRowsFrom start d second rows → ⊥
    no_other d whole apart some own (inr none) = false≢true (sym (ap (keeps d) (sym own) ∙ none.0) ∙ first_has d some)
    no_other (Synced c) whole apart some own (inl is) = is
    no_other Missing whole apart some own (inl is) = is
    no_other (Building c before) whole apart some own (inl is) = whole
    no_other (Doubled old other before) whole apart some own (inl is) = apart (sym own ∙ is.0)
    no_other (Paired old other) whole apart some own (inl is) = is
kept_first start d (Paired first second) new apart some stays = ap (λ (x : Device). generation_in (state_of x)) (sym new)

pub kept_second : (start : ℕ) (d e : Device) → IsNewFrom start d e → AreApart d → first_of d ≢ None → second_of d ≢ None → keeps_first d e ≡ true → keeps_second d e ≡ true
    → second_in (state_of e) ≡ second_in (state_of d)
kept_second start d (Synced x) new apart some two first second = absurd (apart_two d apart two (sym (eqb-true x (generation_in (state_of d)) first) ∙ eqb-true x (second_in (state_of d)) second))
kept_second start d Missing new apart some two first second = absurd (false≢true first)
kept_second start d (Building x rows) new apart some two first second = absurd (apart_two d apart two (sym (eqb-true x (generation_in (state_of d)) first) ∙ eqb-true x (second_in (state_of d)) second))
kept_second start d (Doubled f s rows) new apart some two first second =
    elim (cases_Bool (s == second_in (state_of d))) [
      | inl own ↦ eqb-true s (second_in (state_of d)) own
      | inr no_second ↦ elim (cases_Bool (f == second_in (state_of d))) [
        | inl own ↦ absurd (apart_two d apart two (sym (kept_first start d (Doubled f s rows) new apart some first) ∙ eqb-true f (second_in (state_of d)) own))
        | inr no_first ↦ absurd (false≢true (sym (both_false (f == second_in (state_of d)) (s == second_in (state_of d)) no_first no_second) ∙ second))
      ]
    ]
kept_second start d (Paired f s) new apart some two first second = ap (λ (x : Device). second_in (state_of x)) (sym new)

pub moved_first : (start : ℕ) (d e : Device) → IsNewFrom start d e → AreApart d → second_of d ≢ None → keeps_first d e ≡ false → keeps_second d e ≡ true → generation_in (state_of e) ≡ second_in (state_of d)
moved_first start d (Synced x) new apart two first second = eqb-true x (second_in (state_of d)) second
moved_first start d Missing new apart two first second = absurd (false≢true second)
moved_first start d (Building x rows) new apart two first second = eqb-true x (second_in (state_of d)) second
moved_first start d (Doubled f s rows) new apart two first second = elim (whole_two d f two new.1) [
  | inl own ↦ absurd (false≢true (sym first ∙ or_left (f == generation_in (state_of d)) (s == generation_in (state_of d)) (eq-eqb f (generation_in (state_of d)) (sym own))))
  | inr own ↦ sym own
]
moved_first start d (Paired f s) new apart two first second =
    let own = ap (λ (x : Device). generation_in (state_of x)) new in
    absurd (false≢true (sym first ∙ or_left (f == generation_in (state_of d)) (s == generation_in (state_of d)) (eq-eqb f (generation_in (state_of d)) (sym own))))

pub different : (d : Device) → AreApart d → second_of d ≢ None → generation_in (state_of d) ≢ second_in (state_of d)
different (Synced generation) apart two = absurd (two refl)
different Missing apart two = absurd (two refl)
different (Building generation rows) apart two = absurd (two refl)
different (Doubled old new rows) apart two = apart
different (Paired old new) apart two = apart

-- ---- what stands in a row, by the devices of its slot

pub two_of_row : (d : Device) (row : ℕ) → (standings_of (state_of d) row).1 ≢ Out → second_of d ≢ None
two_of_row (Synced current) row two none = two refl
two_of_row Missing row two none = two refl
two_of_row (Building current rebuilt) row two none = two refl
two_of_row (Doubled old new rebuilt) row two none = absurd (cc)
two_of_row (Paired old new) row two none = absurd (cc)

pub two_of_target : (d : Device) → (with_target_of d).1 ≢ Out → second_of d ≢ None
two_of_target (Synced current) two none = two refl
two_of_target Missing two none = two refl
two_of_target (Building current rebuilt) two none = two refl
two_of_target (Doubled old new rebuilt) two none = absurd (cc)
two_of_target (Paired old new) two none = absurd (cc)

pub first_of_two : (d : Device) (row : ℕ) → second_of d ≢ None → ((standings_of (state_of d) row).0 ≡ InSync) × ((with_target_of d).0 ≡ InSync)
first_of_two (Synced current) row two = absurd (two refl)
first_of_two Missing row two = absurd (two refl)
first_of_two (Building current rebuilt) row two = absurd (two refl)
first_of_two (Doubled old new rebuilt) row two = (refl, refl)
first_of_two (Paired old new) row two = (refl, refl)

pub first_of_row : (d : Device) (row : ℕ) → (standings_of (state_of d) row).0 ≢ Out → first_of d ≡ Some (generation_in (state_of d))
first_of_row (Synced current) row there = refl
first_of_row Missing row there = absurd (there refl)
first_of_row (Building current rebuilt) row there = refl
first_of_row (Doubled old new rebuilt) row there = refl
first_of_row (Paired old new) row there = refl

pub target_there : (d : Device) (generation : ℕ) (rebuilt : RebuiltRows) → IsRebuiltOn d generation rebuilt → (first_of d ≡ Some (generation_in (state_of d))) × ((with_target_of d).0 ≢ Out)
target_there (Synced current) generation rebuilt is = absurd is
target_there Missing generation rebuilt is = absurd is
target_there (Building current rows) generation rebuilt is = (refl, λ out. absurd (cc))
target_there (Doubled old new rows) generation rebuilt is = (refl, λ out. absurd (cc))
target_there (Paired old new) generation rebuilt is = absurd is

-- a target that isn't alone stands beside a device in sync
pub target_in_sync : (d : Device) (row : ℕ) → (with_target_of d).0 ≡ InSync → standing_of (state_of d) row ≡ InSync
target_in_sync (Synced current) row is = refl
target_in_sync Missing row is = absurd (cc)
target_in_sync (Building current rebuilt) row is = absurd (cc)
target_in_sync (Doubled old new rebuilt) row is = refl
target_in_sync (Paired old new) row is = refl
