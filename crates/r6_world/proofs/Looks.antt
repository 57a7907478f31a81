-- What a look makes of a slot, and what the loss of a device does.
use Rattle.std.proofs.Common.{◌≡◌, ◌≢◌, ◌⊎◌, ◌==◌, ◌&&◌, ◌||◌, ℕ, Bool, true, false, not, refl, sym, ap, ◌∙◌, subst, inl, inr, eq-eqb, ne_eqb, if◌then◌else◌}
use Rattle.std.proofs.lemmas.Bool.{eqb-true, eqb-false, or_left, or_right, or_parts}
use Rattle.r6_stripe.specs.Holds.{Standing}
use Rattle.r6_world.specs.Registers.{Status, InSync, Lost, Rebuilding, Replacing, ShardSet}
use Rattle.r6_world.specs.ShardStates.{SlotState, Synced, Missing, Building, Doubled, Paired, InSyncFor, generation_in, has_device, standing_of}
use Rattle.r6_world.specs.Changes.{Part, Nothing, Some_rows, Whole, part_if, part_of, started, alone, beside, adopted, without}
use Rattle.r6_world.specs.Looks.{LookBringsNothing, LossBringsNothing, SameIsLeft, LookKeepsNoOther, IsOldInPart, LookKeepsRows, MoveLosesNothing, DropLosesNothing, LooksOfAReplacement}

-- what a look makes of a slot that is replaced, by whether the register has two devices there
adopted-beside : (P : SlotState → Type 0) (now : SlotState) (old new : ℕ) (reported : ShardSet) → (old ≡ new → P (alone old (part_of now old)))
    → (old ≢ new → P (beside now old (part_of now old) new (started (part_of now new)))) → P (adopted now (Replacing old new reported))
adopted-beside P now old new reported one two = by (old == new) refl
  where
    by : (x : Bool) → (old == new) ≡ x → P (if x then alone old (part_of now old) else beside now old (part_of now old) new (started (part_of now new)))
    by true e = one (eqb-true old new e)
    by false e = two (eqb-false old new e)

-- the two devices in the places that the register has for them
abbrev pub placed : (old : ℕ) → Part → (new : ℕ) → Part → SlotState
placed old Nothing new part = alone new part
placed old (Some_rows built) new part = alone new part
placed old Whole new Nothing = Synced old
placed old Whole new (Some_rows built) = Doubled old new built
placed old Whole new Whole = Paired old new

one_of : (old new generation : ℕ) → ((old == generation) || (new == generation)) ≡ true → (old ≡ generation) ⊎ (new ≡ generation)
one_of old new generation e = go (old == generation) refl e
  where
    go : (b : Bool) → (old == generation) ≡ b → (b || (new == generation)) ≡ true → (old ≡ generation) ⊎ (new ≡ generation)
    go true is f = inl (eqb-true old generation is)
    go false is f = inr (eqb-true new generation f)

whole_if : (b : Bool) → part_if b Whole ≡ Whole → b ≡ true
whole_if true e = refl
whole_if false e = absurd (cc)

not_whole : (b : Bool) (built : ℕ → Bool) → part_if b (Some_rows built) ≡ Whole → ⊥
not_whole true built e = absurd (cc)
not_whole false built e = absurd (cc)

first_whole : (a b : Bool) (built : ℕ → Bool) → (if a then Whole else part_if b (Some_rows built)) ≡ Whole → a ≡ true
first_whole true b built e = refl
first_whole false b built e = absurd (not_whole b built e)

started_whole : (part : Part) → started part ≡ Whole → part ≡ Whole
started_whole Nothing e = absurd (cc)
started_whole (Some_rows built) e = absurd (cc)
started_whole Whole e = refl

-- a slot that has both devices in sync has these two, in one of two places each
both_whole : (now : SlotState) (old new : ℕ) → old ≢ new → part_of now old ≡ Whole → part_of now new ≡ Whole → (now ≡ Paired old new) ⊎ (now ≡ Paired new old)
both_whole (Synced current) old new apart e e' =
    absurd (apart (sym (eqb-true current old (whole_if (current == old) e)) ∙ eqb-true current new (whole_if (current == new) e')))
both_whole Missing old new apart e e' = absurd (cc)
both_whole (Building current built) old new apart e e' = absurd (not_whole (current == old) built e)
both_whole (Doubled one two built) old new apart e e' =
    absurd (apart (sym (eqb-true one old (first_whole (one == old) (two == old) built e)) ∙ eqb-true one new (first_whole (one == new) (two == new) built e')))
both_whole (Paired one two) old new apart e e' =
    elim (one_of one two old (whole_if ((one == old) || (two == old)) e)) [
      | inl a ↦ elim (one_of one two new (whole_if ((one == new) || (two == new)) e')) [
        | inl b ↦ absurd (apart (sym a ∙ b))
        | inr b ↦ inl (λ i. Paired (a i) (b i))
      ]
      | inr a ↦ elim (one_of one two new (whole_if ((one == new) || (two == new)) e')) [
        | inl b ↦ inr (λ i. Paired (b i) (a i))
        | inr b ↦ absurd (apart (sym a ∙ b))
      ]
    ]

-- the same by the places: two devices that are in sync keep theirs
pub adopted-by : (P : SlotState → Type 0) (now : SlotState) (old new : ℕ) (reported : ShardSet) → (old ≡ new → P (alone old (part_of now old)))
    → (old ≢ new → P (placed old (part_of now old) new (started (part_of now new)))) → (old ≢ new → now ≡ Paired new old → P now)
    → P (adopted now (Replacing old new reported))
adopted-by P now old new reported one two swapped =
    adopted-beside P now old new reported one (λ apart. by apart (part_of now old) refl (started (part_of now new)) refl (two apart))
  where
    by : old ≢ new → (first : Part) → part_of now old ≡ first → (second : Part) → started (part_of now new) ≡ second
        → P (placed old first new second) → P (beside now old first new second)
    by apart Nothing e second e' p = p
    by apart (Some_rows built) e second e' p = p
    by apart Whole e Nothing e' p = p
    by apart Whole e (Some_rows built) e' p = p
    by apart Whole e Whole e' p = elim (both_whole now old new apart e (started_whole (part_of now new) e')) [
      | inl same ↦ subst P (sym same) p
      | inr other ↦ swapped apart other
    ]

-- a part of a device is in sync for a row
abbrev HasRow : Part → ℕ → Type 0
HasRow Nothing row = ⊥
HasRow (Some_rows built) row = built row ≡ true
HasRow Whole row = Unit {0}

from_part : (now : SlotState) (row generation : ℕ) → HasRow (part_of now generation) row → InSyncFor now row generation
from_part (Synced current) row generation has = go (current == generation) refl has
  where
    go : (b : Bool) → (current == generation) ≡ b → HasRow (if b then Whole else Nothing) row → generation ≡ current
    go true is f = sym (eqb-true current generation is)
    go false is f = absurd f
from_part Missing row generation has = absurd has
from_part (Building current built) row generation has = go (current == generation) refl has
  where
    go : (b : Bool) → (current == generation) ≡ b → HasRow (if b then Some_rows built else Nothing) row → (generation ≡ current) × (built row ≡ true)
    go true is f = (sym (eqb-true current generation is), f)
    go false is f = absurd f
from_part (Doubled old new built) row generation has = go (old == generation) refl (new == generation) refl has
  where
    go : (a : Bool) → (old == generation) ≡ a → (b : Bool) → (new == generation) ≡ b
        → HasRow (if a then Whole else if b then Some_rows built else Nothing) row → (generation ≡ old) ⊎ ((generation ≡ new) × (built row ≡ true))
    go true is b is' f = inl (sym (eqb-true old generation is))
    go false is true is' f = inr (sym (eqb-true new generation is'), f)
    go false is false is' f = absurd f
from_part (Paired old new) row generation has = go (old == generation) refl (new == generation) refl has
  where
    go : (a : Bool) → (old == generation) ≡ a → (b : Bool) → (new == generation) ≡ b
        → HasRow (if a || b then Whole else Nothing) row → (generation ≡ old) ⊎ (generation ≡ new)
    go true is b is' f = inl (sym (eqb-true old generation is))
    go false is true is' f = inr (sym (eqb-true new generation is'))
    go false is false is' f = absurd f

unstarted : (part : Part) (row : ℕ) → HasRow (started part) row → HasRow part row
unstarted Nothing row has = absurd (cc)
unstarted (Some_rows built) row has = has
unstarted Whole row has = tt

of_alone : (device : ℕ) (part : Part) (row generation : ℕ) → InSyncFor (alone device part) row generation → (generation ≡ device) × HasRow part row
of_alone device Nothing row generation is = absurd is
of_alone device (Some_rows built) row generation is = is
of_alone device Whole row generation is = (is, tt)

of_beside : (old : ℕ) (first : Part) (new : ℕ) (second : Part) (row generation : ℕ) → InSyncFor (placed old first new second) row generation
    → ((generation ≡ old) × HasRow first row) ⊎ ((generation ≡ new) × HasRow second row)
of_beside old Nothing new second row generation is = inr (of_alone new second row generation is)
of_beside old (Some_rows built) new second row generation is = inr (of_alone new second row generation is)
of_beside old Whole new Nothing row generation is = inl (is, tt)
of_beside old Whole new (Some_rows built) row generation (inl is) = inl (is, tt)
of_beside old Whole new (Some_rows built) row generation (inr is) = inr is
of_beside old Whole new Whole row generation (inl is) = inl (is, tt)
of_beside old Whole new Whole row generation (inr is) = inr (is, tt)

at_device : (now : SlotState) (row device generation : ℕ) → generation ≡ device → HasRow (part_of now device) row → InSyncFor now row generation
at_device now row device generation same has = from_part now row generation (subst (λ (g : ℕ). HasRow (part_of now g) row) (sym same) has)

pub look_brings_nothing : LookBringsNothing
look_brings_nothing now (InSync current) row generation is =
    let t = of_alone current (part_of now current) row generation is in at_device now row current generation t.0 t.1
look_brings_nothing now Lost row generation is = absurd is
look_brings_nothing now (Rebuilding current reported) row generation is =
    let t = of_alone current (started (part_of now current)) row generation is in at_device now row current generation t.0 (unstarted (part_of now current) row t.1)
look_brings_nothing now (Replacing old new reported) row generation is = adopted-by (λ state. InSyncFor state row generation → InSyncFor now row generation) now old new reported one two (λ apart swapped has. has) is
  where
    one : old ≡ new → InSyncFor (alone old (part_of now old)) row generation → InSyncFor now row generation
    one same has = let t = of_alone old (part_of now old) row generation has in at_device now row old generation t.0 t.1

    two : old ≢ new → InSyncFor (placed old (part_of now old) new (started (part_of now new))) row generation → InSyncFor now row generation
    two apart has = elim (of_beside old (part_of now old) new (started (part_of now new)) row generation has) [
      | inl t ↦ at_device now row old generation t.0 t.1
      | inr t ↦ at_device now row new generation t.0 (unstarted (part_of now new) row t.1)
    ]

pub loss_brings_nothing : LossBringsNothing
loss_brings_nothing (Synced current) lost row generation is = absurd is
loss_brings_nothing Missing lost row generation is = absurd is
loss_brings_nothing (Building current built) lost row generation is = absurd is
loss_brings_nothing (Doubled old new built) lost row generation is = go (old == lost) is
  where
    go : (b : Bool) → InSyncFor (if b then Building new built else Synced old) row generation → (generation ≡ old) ⊎ ((generation ≡ new) × (built row ≡ true))
    go true f = inr f
    go false f = inl f
loss_brings_nothing (Paired old new) lost row generation is = go (old == lost) is
  where
    go : (b : Bool) → InSyncFor (if b then Synced new else Synced old) row generation → (generation ≡ old) ⊎ (generation ≡ new)
    go true f = inr f
    go false f = inl f

true_not_false : {A : Type 0} → true ≡ false → A
true_not_false e = absurd (cc)

-- ---- a look keeps rows

true_has : (b : Bool) (part : Part) (row : ℕ) → b ≡ true → HasRow part row → HasRow (if b then part else Nothing) row
true_has true part row e has = has
true_has false part row e has = true_not_false (sym e)

to_part : (now : SlotState) (row generation : ℕ) → InSyncFor now row generation → HasRow (part_of now generation) row
to_part (Synced current) row generation is = true_has (current == generation) Whole row (eq-eqb current generation (sym is)) tt
to_part Missing row generation is = absurd is
to_part (Building current built) row generation is = true_has (current == generation) (Some_rows built) row (eq-eqb current generation (sym is.0)) is.1
to_part (Doubled old new built) row generation (inl is) = go (old == generation) (eq-eqb old generation (sym is))
  where
    go : (a : Bool) → a ≡ true → HasRow (if a then Whole else part_if (new == generation) (Some_rows built)) row
    go true e = tt
    go false e = true_not_false (sym e)
to_part (Doubled old new built) row generation (inr is) = go (old == generation)
  where
    go : (a : Bool) → HasRow (if a then Whole else part_if (new == generation) (Some_rows built)) row
    go true = tt
    go false = true_has (new == generation) (Some_rows built) row (eq-eqb new generation (sym is.0)) is.1
to_part (Paired old new) row generation (inl is) = true_has ((old == generation) || (new == generation)) Whole row (or_left _ _ (eq-eqb old generation (sym is))) tt
to_part (Paired old new) row generation (inr is) = true_has ((old == generation) || (new == generation)) Whole row (or_right _ _ (eq-eqb new generation (sym is))) tt

started_has : (part : Part) (row : ℕ) → HasRow part row → HasRow (started part) row
started_has Nothing row has = absurd has
started_has (Some_rows built) row has = has
started_has Whole row has = has

into_alone : (generation : ℕ) (part : Part) (row : ℕ) → HasRow part row → InSyncFor (alone generation part) row generation
into_alone generation Nothing row has = absurd has
into_alone generation (Some_rows built) row has = (refl, has)
into_alone generation Whole row has = refl

into_first : (old new : ℕ) (second : Part) (row : ℕ) → InSyncFor (placed old Whole new second) row old
into_first old new Nothing row = refl
into_first old new (Some_rows built) row = inl refl
into_first old new Whole row = inl refl

into_second : (old : ℕ) (first : Part) (new : ℕ) (second : Part) (row : ℕ) → HasRow second row → InSyncFor (placed old first new second) row new
into_second old Nothing new second row has = into_alone new second row has
into_second old (Some_rows built) new second row has = into_alone new second row has
into_second old Whole new Nothing row has = absurd has
into_second old Whole new (Some_rows built) row has = inr (refl, has)
into_second old Whole new Whole row has = inr refl

pub look_keeps_rows : LookKeepsRows
look_keeps_rows now (InSync current) row generation is own =
    inl (subst (λ k. InSyncFor (alone k (part_of now k)) row generation) (sym own) (into_alone generation (part_of now generation) row (to_part now row generation is)))
look_keeps_rows now Lost row generation is own = absurd own
look_keeps_rows now (Rebuilding current reported) row generation is own =
    inl (subst (λ k. InSyncFor (alone k (started (part_of now k))) row generation) (sym own)
    (into_alone generation (started (part_of now generation)) row (started_has (part_of now generation) row (to_part now row generation is))))
look_keeps_rows now (Replacing old new reported) row generation is own = adopted-by (λ state. InSyncFor state row generation ⊎ IsOldInPart now (Replacing old new reported) generation) now old new reported alone_there two (λ apart swapped. inl is)
  where
    keeps : old ≡ generation → InSyncFor (alone old (part_of now old)) row generation
    keeps here = subst (λ k. InSyncFor (alone k (part_of now k)) row generation) (sym here) (into_alone generation (part_of now generation) row (to_part now row generation is))

    alone_there : old ≡ new → InSyncFor (alone old (part_of now old)) row generation ⊎ IsOldInPart now (Replacing old new reported) generation
    alone_there same = elim own [ inl here ↦ inl (keeps here) | inr here ↦ inl (keeps (same ∙ here)) ]

    by_part : old ≢ new → old ≡ generation → (part : Part) → part_of now generation ≡ part → HasRow part row
        → InSyncFor (placed old (part_of now old) new (started (part_of now new))) row generation ⊎ IsOldInPart now (Replacing old new reported) generation
    by_part apart own Nothing here has = absurd has
    by_part apart own (Some_rows built) here has = inr (own, apart, built, here)
    by_part apart own Whole here has =
        inl (subst (λ k. InSyncFor (placed k (part_of now k) new (started (part_of now new))) row generation) (sym own)
        (subst (λ part. InSyncFor (placed generation part new (started (part_of now new))) row generation) (sym here) (into_first generation new (started (part_of now new)) row)))

    two : old ≢ new → InSyncFor (placed old (part_of now old) new (started (part_of now new))) row generation ⊎ IsOldInPart now (Replacing old new reported) generation
    two apart = elim own [
      | inl here ↦ by_part apart here (part_of now generation) refl (to_part now row generation is)
      | inr here ↦ inl (subst (λ k. InSyncFor (placed old (part_of now old) k (started (part_of now k))) row generation) (sym here)
          (into_second old (part_of now old) generation (started (part_of now generation)) row (started_has (part_of now generation) row (to_part now row generation is))))
    ]

unequal : (b : Bool) → not b ≡ false → b ≡ true
unequal true e = refl
unequal false e = true_not_false e

both : (a b : Bool) → (a && b) ≡ true → (a ≡ true) × (b ≡ true)
both true b e = (refl, e)
both false b e = true_not_false (sym e)

pub same_is_left : SameIsLeft
same_is_left (Synced current) (InSync generation) e =
    let is = unequal (current == generation) e in
    (λ i. alone generation (part_if (is i) Whole)) ∙ ap Synced (sym (eqb-true current generation is))
same_is_left (Synced current) (Rebuilding generation reported) e =
    let is = unequal (current == generation) e in
    (λ i. alone generation (started (part_if (is i) Whole))) ∙ ap Synced (sym (eqb-true current generation is))
same_is_left (Synced current) (Replacing old new reported) e = adopted-beside (λ state. state ≡ Synced current) (Synced current) old new reported one two
  where
    is : (current == new) ≡ true
    is = unequal (current == new) e

    same : current ≡ new
    same = eqb-true current new is

    one : old ≡ new → alone old (part_if (current == old) Whole) ≡ Synced current
    one own = (λ i. alone old (part_if (eq-eqb current old (same ∙ sym own) i) Whole)) ∙ ap Synced (own ∙ sym same)

    two : old ≢ new → beside (Synced current) old (part_if (current == old) Whole) new (started (part_if (current == new) Whole)) ≡ Synced current
    two apart =
        let isn't = ne_eqb current old (λ own. apart (sym own ∙ same)) in
        (λ i. beside (Synced current) old (part_if (isn't i) Whole) new (started (part_if (is i) Whole))) ∙ ap Synced (sym same)
same_is_left Missing (InSync generation) e = refl
same_is_left Missing Lost e = refl
same_is_left Missing (Replacing old new reported) e = adopted-beside (λ state. state ≡ Missing) Missing old new reported (λ own. refl) (λ apart. absurd (apart (eqb-true old new (unequal (old == new) e))))
same_is_left (Building current built) (InSync generation) e =
    let is = unequal (current == generation) e in
    (λ i. alone generation (part_if (is i) (Some_rows built))) ∙ ap (λ (g : ℕ). Building g built) (sym (eqb-true current generation is))
same_is_left (Building current built) (Rebuilding generation reported) e =
    let is = unequal (current == generation) e in
    (λ i. alone generation (started (part_if (is i) (Some_rows built)))) ∙ ap (λ (g : ℕ). Building g built) (sym (eqb-true current generation is))
same_is_left (Building current built) (Replacing old new reported) e = adopted-beside (λ state. state ≡ Building current built) (Building current built) old new reported one two
  where
    is : (current == new) ≡ true
    is = unequal (current == new) e

    same : current ≡ new
    same = eqb-true current new is

    one : old ≡ new → alone old (part_if (current == old) (Some_rows built)) ≡ Building current built
    one own = (λ i. alone old (part_if (eq-eqb current old (same ∙ sym own) i) (Some_rows built))) ∙ ap (λ (g : ℕ). Building g built) (own ∙ sym same)

    two : old ≢ new → beside (Building current built) old (part_if (current == old) (Some_rows built)) new (started (part_if (current == new) (Some_rows built))) ≡ Building current built
    two apart =
        let isn't = ne_eqb current old (λ own. apart (sym own ∙ same)) in
        (λ i. beside (Building current built) old (part_if (isn't i) (Some_rows built)) new (started (part_if (is i) (Some_rows built)))) ∙ ap (λ (g : ℕ). Building g built) (sym same)
same_is_left (Doubled one two built) (Replacing old new reported) e = adopted-beside (λ state. state ≡ Doubled one two built) (Doubled one two built) old new reported (λ own. true_not_false (sym (eq-eqb old new own) ∙ q.0)) apart_so
  where
    q : ((old == new) ≡ false) × (not ((one == old) && (two == new)) ≡ false)
    q = or_parts (old == new) (not ((one == old) && (two == new))) e

    u : ((one == old) ≡ true) × ((two == new) ≡ true)
    u = both (one == old) (two == new) (unequal ((one == old) && (two == new)) q.1)

    apart_so : old ≢ new → beside (Doubled one two built) old (part_of (Doubled one two built) old) new (started (part_of (Doubled one two built) new)) ≡ Doubled one two built
    apart_so apart =
        let isn't = ne_eqb one new (λ same. apart (sym (eqb-true one old u.0) ∙ same)) in
        (λ i. beside (Doubled one two built) old (if u.0 i then Whole else part_if (two == old) (Some_rows built)) new (started (if isn't i then Whole else part_if (u.1 i) (Some_rows built))))
        ∙ (λ i. Doubled (sym (eqb-true one old u.0) i) (sym (eqb-true two new u.1) i) built)
same_is_left (Paired one two) (Replacing old new reported) e = adopted-beside (λ state. state ≡ Paired one two) (Paired one two) old new reported (λ own. true_not_false (sym (eq-eqb old new own) ∙ q.0)) (λ apart. apart_so)
  where
    q : ((old == new) ≡ false) × (not (((one == old) || (two == old)) && ((one == new) || (two == new))) ≡ false)
    q = or_parts (old == new) (not (((one == old) || (two == old)) && ((one == new) || (two == new)))) e

    u : (((one == old) || (two == old)) ≡ true) × (((one == new) || (two == new)) ≡ true)
    u = both ((one == old) || (two == old)) ((one == new) || (two == new)) (unequal (((one == old) || (two == old)) && ((one == new) || (two == new))) q.1)

    apart_so : beside (Paired one two) old (part_of (Paired one two) old) new (started (part_of (Paired one two) new)) ≡ Paired one two
    apart_so = λ i. beside (Paired one two) old (part_if (u.0 i) Whole) new (started (part_if (u.1 i) Whole))
same_is_left now status e = true_not_false e

device_alone : (device : ℕ) (part : Part) (generation : ℕ) → has_device (alone device part) generation ≡ true → device ≡ generation
device_alone device Nothing generation e = true_not_false (sym e)
device_alone device (Some_rows built) generation e = eqb-true device generation e
device_alone device Whole generation e = eqb-true device generation e

device_beside : (old : ℕ) (first : Part) (new : ℕ) (second : Part) (generation : ℕ) → has_device (placed old first new second) generation ≡ true → (old ≡ generation) ⊎ (new ≡ generation)
device_beside old Nothing new second generation e = inr (device_alone new second generation e)
device_beside old (Some_rows built) new second generation e = inr (device_alone new second generation e)
device_beside old Whole new Nothing generation e = inl (eqb-true old generation e)
device_beside old Whole new (Some_rows built) generation e = one_of old new generation e
device_beside old Whole new Whole generation e = one_of old new generation e

pub look_keeps_no_other : LookKeepsNoOther
look_keeps_no_other now (InSync current) generation e = device_alone current (part_of now current) generation e
look_keeps_no_other now Lost generation e = true_not_false (sym e)
look_keeps_no_other now (Rebuilding current reported) generation e = device_alone current (started (part_of now current)) generation e
look_keeps_no_other now (Replacing old new reported) generation e = adopted-by (λ state. has_device state generation ≡ true → (old ≡ generation) ⊎ (new ≡ generation)) now old new reported
    (λ same has. inl (device_alone old (part_of now old) generation has)) (λ apart has. device_beside old (part_of now old) new (started (part_of now new)) generation has)
    (λ apart swapped has. elim (one_of new old generation (sym (ap (λ state. has_device state generation) swapped) ∙ has)) [ inl is ↦ inr is | inr is ↦ inl is ]) e

pub move_loses_nothing : MoveLosesNothing
move_loses_nothing old new row built reported different has =
    let own = eq-eqb old old refl in
    let own' = eq-eqb new new refl in
    let other = ne_eqb old new different in (
      (λ i. standing_of (if own i then Building new built else Synced old) row) ∙ (λ i. if has i then Standing.InSync else Standing.Out),
      (λ i. standing_of (if own i then Synced new else Synced old) row),
      (λ i. standing_of (alone new (started (if other i then Whole else if own' i then Some_rows built else Nothing))) row) ∙ (λ i. if has i then Standing.InSync else Standing.Out),
      (λ i. standing_of (alone new (if other i || own' i then Whole else Nothing)) row),
    )

pub drop_loses_nothing : DropLosesNothing
drop_loses_nothing old new built reported different =
    let own = eq-eqb old old refl in
    let other = ne_eqb old new different in (
      (λ i. if other i then Building new built else Synced old),
      (λ i. if other i then Synced new else Synced old),
      (λ i. alone old (if own i then Whole else if new == old then Some_rows built else Nothing)),
      (λ i. alone old (if own i || (new == old) then Whole else Nothing)),
    )

pub looks_of_a_replacement : LooksOfAReplacement
looks_of_a_replacement reported built = record {
  begins = refl;
  goes_on = refl;
  waits = refl;
  changes_over = refl;
  keeps = refl;
  another = refl;
  another_when_built = refl;
  next = refl;
  rebuilds = refl;
  is_rebuilt = refl;
  stays = refl;
  stays_rebuilt = refl;
  is_lost = refl;
  anew = refl;
  behind = refl;
}

-- ---- where the first device of a slot is there yet, it is the first one yet

alone-first : (device : ℕ) (part : Part) (first : ℕ) → has_device (alone device part) first ≡ true → generation_in (alone device part) ≡ first
alone-first device Nothing first e = true_not_false (sym e)
alone-first device (Some_rows built) first e = eqb-true device first e
alone-first device Whole first e = eqb-true device first e

first-of-both : (now : SlotState) (old new : ℕ) (built : ℕ → Bool) → part_of now old ≡ Whole → started (part_of now new) ≡ Some_rows built → has_device (Doubled old new built) (generation_in now) ≡ true → old ≡ generation_in now
first-of-both (Synced current) old new built is is' e = sym (eqb-true current old (whole_if (current == old) is))
first-of-both Missing old new built is is' e = absurd (cc)
first-of-both (Building current rows) old new built is is' e = absurd (not_whole (current == old) rows is)
first-of-both (Doubled one two rows) old new built is is' e = sym (eqb-true one old (first_whole (one == old) (two == old) rows is))
first-of-both (Paired one two) old new built is is' e = elim (one_of old new one e) [
  | inl first ↦ first
  | inr second ↦ absurd (neither (sym (ap (λ b. started (part_if b Whole)) (or_left (one == new) (two == new) (eq-eqb one new (sym second)))) ∙ is'))
]
  where
    neither : Whole ≡ Some_rows built → ⊥
    neither f = cc

pub look_keeps_first : (now : SlotState) (status : Status) → has_device (adopted now status) (generation_in now) ≡ true → generation_in (adopted now status) ≡ generation_in now
look_keeps_first now (InSync current) e = alone-first current (part_of now current) (generation_in now) e
look_keeps_first now Lost e = true_not_false (sym e)
look_keeps_first now (Rebuilding current reported) e = alone-first current (started (part_of now current)) (generation_in now) e
look_keeps_first now (Replacing old new reported) e =
    adopted-beside (λ state. has_device state (generation_in now) ≡ true → generation_in state ≡ generation_in now) now old new reported
    (λ same has. alone-first old (part_of now old) (generation_in now) has)
    (λ apart has. by (part_of now old) refl (started (part_of now new)) refl has) e
  where
    by : (first : Part) → part_of now old ≡ first → (second : Part) → started (part_of now new) ≡ second
        → has_device (beside now old first new second) (generation_in now) ≡ true → generation_in (beside now old first new second) ≡ generation_in now
    by Nothing is second is' has = alone-first new second (generation_in now) has
    by (Some_rows built) is second is' has = alone-first new second (generation_in now) has
    by Whole is Nothing is' has = eqb-true old (generation_in now) has
    by Whole is (Some_rows built) is' has = first-of-both now old new built is is' has
    by Whole is Whole is' has = refl

pub loss_keeps_first : (state : SlotState) (lost : ℕ) → has_device (without state lost) (generation_in state) ≡ true → generation_in (without state lost) ≡ generation_in state
loss_keeps_first (Synced current) lost e = true_not_false (sym e)
loss_keeps_first Missing lost e = true_not_false (sym e)
loss_keeps_first (Building current built) lost e = true_not_false (sym e)
loss_keeps_first (Doubled old new built) lost e = by (old == lost) e
  where
    by : (x : Bool) → has_device (if x then Building new built else Synced old) old ≡ true → generation_in (if x then Building new built else Synced old) ≡ old
    by true e = eqb-true new old e
    by false e = refl
loss_keeps_first (Paired old new) lost e = by (old == lost) e
  where
    by : (x : Bool) → has_device (if x then Synced new else Synced old) old ≡ true → generation_in (if x then Synced new else Synced old) ≡ old
    by true e = eqb-true new old e
    by false e = refl
