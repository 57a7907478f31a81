-- How a slot becomes another: it keeps its first device, or the second has that one's place, or it has none of its devices
-- any more. A device that is new there has no row.
use Rattle.std.proofs.Common.{◌≡◌, ◌⊎◌, ℕ, ◌<◌, ◌==◌, ◌||◌, Bool, true, false, inl, inr, refl, sym, ◌∙◌, subst, arith, ne_eqb, if◌then◌else◌}
use Rattle.std.proofs.lemmas.Bool.{cases_eq, eqb-true, eqb-false, or_from, false≢true}
use Rattle.r6_stripe.specs.Holds.Standing.{Out}
use Rattle.r6_world.specs.Registers.{Status, InSync as Current, Lost, Rebuilding, Replacing}
use Rattle.r6_world.specs.Tasks.{Task}
use Rattle.r6_world.specs.ShardStates.{SlotState, Synced, Missing, Building, Doubled, Paired, has_device, generation_in, second_in, InSyncFor, is_away}
use Rattle.r6_world.specs.Changes.{IsTarget, Part, Nothing, Some_rows, Whole, part_if, part_of, started, alone, adopted, without, brought_in, with_row}
use Rattle.r6_world.specs.Tables.{put}
use Rattle.r6_world.proofs.Tables.{put-same, put-other}
use Rattle.r6_world.proofs.Looks.{adopted-by, placed}
use Rattle.r6_world.proofs.Uses.{Has, Uses, IsOrdered, device_on, stands_on, used-has}

pub record SecondStays (was now : SlotState) : Type 0 where
  pub has : Has true was
  pub still : Has true now
  pub device : second_in now ≡ second_in was
  pub standing : (row : ℕ) → stands_on true now row ≡ stands_on true was row
  pub target : (task : Task) (slot g : ℕ) → IsTarget task slot g was → IsTarget task slot g now

pub record SecondGone (was now : SlotState) : Type 0 where
  pub gone : Has true was → has_device now (second_in was) ≡ false
  pub out : (row : ℕ) → stands_on true now row ≡ Out

pub record Stays (was now : SlotState) : Type 0 where
  pub has : Has false was
  pub still : Has false now
  pub device : generation_in now ≡ generation_in was
  pub standing : (row : ℕ) → stands_on false now row ≡ stands_on false was row
  pub target : (task : Task) (slot g : ℕ) → g ≡ generation_in was → IsTarget task slot g was → IsTarget task slot g now
  pub second : SecondStays was now ⊎ SecondGone was now

pub record Moved (was now : SlotState) : Type 0 where
  pub has : Has true was
  pub still : Has false now
  pub gone : has_device now (generation_in was) ≡ false
  pub device : generation_in now ≡ second_in was
  pub standing : (row : ℕ) → stands_on false now row ≡ stands_on true was row
  pub target : (task : Task) (slot g : ℕ) → IsTarget task slot g was → IsTarget task slot g now
  pub out : (row : ℕ) → stands_on true now row ≡ Out

pub record Gone (was now : SlotState) : Type 0 where
  pub gone : (side : Bool) → Has side was → has_device now (device_on side was) ≡ false
  pub out : (side : Bool) (row : ℕ) → stands_on side now row ≡ Out

abbrev pub Becomes : SlotState → SlotState → Type 0
Becomes was now = Stays was now ⊎ Moved was now ⊎ Gone was now

-- the slot is what it was
pub same-becomes : (was : SlotState) → Becomes was was
same-becomes (Synced c) = inl (record { has = tt; still = tt; device = refl; standing = λ row. refl; target = λ task slot g e t. t; second = inr (record { gone = λ h. absurd h; out = λ row. refl }) })
same-becomes Missing = inr (inr (record { gone = none; out = λ side row. nothing side row }))
  where
    none : (side : Bool) → Has side Missing → has_device Missing (device_on side Missing) ≡ false
    none false h = absurd h
    none true h = absurd h

    nothing : (side : Bool) (row : ℕ) → stands_on side Missing row ≡ Out
    nothing false row = refl
    nothing true row = refl
same-becomes (Building c b) = inl (record { has = tt; still = tt; device = refl; standing = λ row. refl; target = λ task slot g e t. t; second = inr (record { gone = λ h. absurd h; out = λ row. refl }) })
same-becomes (Doubled o n b) = inl (record {
  has = tt;
  still = tt;
  device = refl;
  standing = λ row. refl;
  target = λ task slot g e t. t;
  second = inl (record { has = tt; still = tt; device = refl; standing = λ row. refl; target = λ task slot g t. t });
})
same-becomes (Paired o n) = inl (record {
  has = tt;
  still = tt;
  device = refl;
  standing = λ row. refl;
  target = λ task slot g e t. t;
  second = inl (record { has = tt; still = tt; device = refl; standing = λ row. refl; target = λ task slot g t. t });
})

-- a slot that is lost
pub missing-gone : (was : SlotState) → Gone was Missing
missing-gone was = record { gone = λ side h. refl; out = out }
  where
    out : (side : Bool) (row : ℕ) → stands_on side Missing row ≡ Out
    out false row = refl
    out true row = refl

less-apart : (a b : ℕ) → a < b → (a == b) ≡ false
less-apart a b less = ne_eqb a b (λ e. absurd (omega arith))

more-apart : (a b : ℕ) → a < b → (b == a) ≡ false
more-apart a b less = ne_eqb b a (λ e. absurd (omega arith))

-- no task writes the first device of two
no_first-target : (a b : ℕ) → a < b → a ≡ b → ⊥
no_first-target a b less e = absurd (omega arith)

-- the first device goes, and the second
doubled-moved : (o n : ℕ) (b : ℕ → Bool) → o < n → Moved (Doubled o n b) (Building n b)
doubled-moved o n b less = record { has = tt; still = tt; gone = more-apart o n less; device = refl; standing = λ row. refl; target = λ task slot g t. t; out = λ row. refl }

paired-moved : (o n : ℕ) → o < n → Moved (Paired o n) (Synced n)
paired-moved o n less = record { has = tt; still = tt; gone = more-apart o n less; device = refl; standing = λ row. refl; target = λ task slot g t. t; out = λ row. refl }

doubled-dropped : (o n : ℕ) (b : ℕ → Bool) → o < n → Stays (Doubled o n b) (Synced o)
doubled-dropped o n b less = record {
  has = tt;
  still = tt;
  device = refl;
  standing = λ row. refl;
  target = λ task slot g e t. absurd (no_first-target o n less (sym e ∙ t.2.0));
  second = inr (record { gone = λ h. less-apart o n less; out = λ row. refl });
}

paired-dropped : (o n : ℕ) → o < n → Stays (Paired o n) (Synced o)
paired-dropped o n less = record {
  has = tt;
  still = tt;
  device = refl;
  standing = λ row. refl;
  target = λ task slot g e t. absurd t.2;
  second = inr (record { gone = λ h. less-apart o n less; out = λ row. refl });
}

-- a device is lost that the slot has, or no device of it
pub without-becomes : (was : SlotState) (g : ℕ) → IsOrdered was → Becomes was (without was g)
without-becomes (Synced c) g o = inr (inr (missing-gone (Synced c)))
without-becomes Missing g o = inr (inr (missing-gone Missing))
without-becomes (Building c b) g o = inr (inr (missing-gone (Building c b)))
without-becomes (Doubled old new b) g o = by (old == g)
  where
    by : (x : Bool) → Becomes (Doubled old new b) (if x then Building new b else Synced old)
    by true = inr (inl (doubled-moved old new b o))
    by false = inl (doubled-dropped old new b o)
without-becomes (Paired old new) g o = by (old == g)
  where
    by : (x : Bool) → Becomes (Paired old new) (if x then Synced new else Synced old)
    by true = inr (inl (paired-moved old new o))
    by false = inl (paired-dropped old new o)

-- the register has two devices in order too
abbrev pub InOrder : Status → Type 0
InOrder (Current generation) = Unit {0}
InOrder Lost = Unit {0}
InOrder (Rebuilding generation reported) = Unit {0}
InOrder (Replacing old new reported) = old < new

new-gone : (was : SlotState) (g : ℕ) → has_device was g ≡ false → Gone was (Building g (λ row. false))
new-gone was g none = record { gone = gone; out = out }
  where
    gone : (side : Bool) → Has side was → (g == device_on side was) ≡ false
    gone side h = ne_eqb g (device_on side was) (λ e. false≢true (sym none ∙ subst (λ x. has_device was x ≡ true) (sym e) (used-has was (device_on side was) (used side h))))
      where
        used : (side : Bool) → Has side was → Uses was (device_on side was)
        used false h = inl (h, refl)
        used true h = inr (h, refl)

    out : (side : Bool) (row : ℕ) → stands_on side (Building g (λ r. false)) row ≡ Out
    out false row = refl
    out true row = refl

-- the slot with a device alone, of which it had this part; a device of which it had nothing is started, or not
abbrev pub AloneOf : SlotState → ℕ → Part → Type 0
AloneOf was g Nothing = Becomes was Missing × Becomes was (Building g (λ row. false))
AloneOf was g (Some_rows built) = Becomes was (Building g built)
AloneOf was g Whole = Becomes was (Synced g)

nothing-alone : (was : SlotState) (g : ℕ) → has_device was g ≡ false → AloneOf was g Nothing
nothing-alone was g none = (inr (inr (missing-gone was)), inr (inr (new-gone was g none)))

alone-of : (was : SlotState) (g : ℕ) → IsOrdered was → AloneOf was g (part_of was g)
alone-of (Synced c) g o = by (c == g) refl
  where
    by : (x : Bool) → (c == g) ≡ x → AloneOf (Synced c) g (part_if x Whole)
    by true e = subst (λ y. Becomes (Synced c) (Synced y)) (eqb-true c g e) (same-becomes (Synced c))
    by false e = nothing-alone (Synced c) g e
alone-of Missing g o = nothing-alone Missing g refl
alone-of (Building c b) g o = by (c == g) refl
  where
    by : (x : Bool) → (c == g) ≡ x → AloneOf (Building c b) g (part_if x (Some_rows b))
    by true e = subst (λ y. Becomes (Building c b) (Building y b)) (eqb-true c g e) (same-becomes (Building c b))
    by false e = nothing-alone (Building c b) g e
alone-of (Doubled old new b) g o = by (old == g) refl (new == g) refl
  where
    by : (x : Bool) → (old == g) ≡ x → (y : Bool) → (new == g) ≡ y → AloneOf (Doubled old new b) g (if x then Whole else part_if y (Some_rows b))
    by true e y e' = subst (λ z. Becomes (Doubled old new b) (Synced z)) (eqb-true old g e) (inl (doubled-dropped old new b o))
    by false e true e' = subst (λ z. Becomes (Doubled old new b) (Building z b)) (eqb-true new g e') (inr (inl (doubled-moved old new b o)))
    by false e false e' = nothing-alone (Doubled old new b) g (or_from _ _ e e')
alone-of (Paired old new) g o = by (old == g) refl (new == g) refl
  where
    by : (x : Bool) → (old == g) ≡ x → (y : Bool) → (new == g) ≡ y → AloneOf (Paired old new) g (part_if (x || y) Whole)
    by true e y e' = subst (λ z. Becomes (Paired old new) (Synced z)) (eqb-true old g e) (inl (paired-dropped old new o))
    by false e true e' = subst (λ z. Becomes (Paired old new) (Synced z)) (eqb-true new g e') (inr (inl (paired-moved old new o)))
    by false e false e' = nothing-alone (Paired old new) g (or_from _ _ e e')

alone-becomes : (was : SlotState) (g : ℕ) (part : Part) → AloneOf was g part → Becomes was (alone g part)
alone-becomes was g Nothing a = a.0
alone-becomes was g (Some_rows built) a = a
alone-becomes was g Whole a = a

started-becomes : (was : SlotState) (g : ℕ) (part : Part) → AloneOf was g part → Becomes was (alone g (started part))
started-becomes was g Nothing a = a.1
started-becomes was g (Some_rows built) a = a
started-becomes was g Whole a = a

-- a new device comes placed one in sync
synced-doubled : (o n : ℕ) → o < n → Becomes (Synced o) (Doubled o n (λ row. false))
synced-doubled o n less = inl (record {
  has = tt;
  still = tt;
  device = refl;
  standing = λ row. refl;
  target = λ task slot g e t. absurd t.2;
  second = inr (record { gone = λ h. absurd h; out = λ row. refl });
})

doubled-redoubled : (o n m : ℕ) (b : ℕ → Bool) → o < n → (n ≡ m → ⊥) → Becomes (Doubled o n b) (Doubled o m (λ row. false))
doubled-redoubled o n m b less ne = inl (record {
  has = tt;
  still = tt;
  device = refl;
  standing = λ row. refl;
  target = λ task slot g e t. absurd (no_first-target o n less (sym e ∙ t.2.0));
  second = inr (record { gone = λ h. or_from _ _ (less-apart o n less) (ne_eqb m n (λ e. ne (sym e))); out = λ row. refl });
})

paired-redoubled : (o n m : ℕ) → o < n → (n ≡ m → ⊥) → Becomes (Paired o n) (Doubled o m (λ row. false))
paired-redoubled o n m less ne = inl (record {
  has = tt;
  still = tt;
  device = refl;
  standing = λ row. refl;
  target = λ task slot g e t. absurd t.2;
  second = inr (record { gone = λ h. or_from _ _ (less-apart o n less) (ne_eqb m n (λ e. ne (sym e))); out = λ row. refl });
})

paired-next : (o n m : ℕ) → o < n → n < m → Becomes (Paired o n) (Doubled n m (λ row. false))
paired-next o n m less less' = inr (inl (record {
  has = tt;
  still = tt;
  gone = or_from _ _ (more-apart o n less) (ne_eqb m o (λ e. absurd (omega arith)));
  device = refl;
  standing = λ row. refl;
  target = λ task slot g t. absurd t.2;
  out = λ row. refl;
}))

beside-becomes : (was : SlotState) (old new : ℕ) → IsOrdered was → old < new → Becomes was (placed old (part_of was old) new (started (part_of was new)))
beside-becomes (Synced c) old new o i = by (c == old) refl
  where
    by : (x : Bool) → (c == old) ≡ x → Becomes (Synced c) (placed old (part_if x Whole) new (started (part_of (Synced c) new)))
    by false e = started-becomes (Synced c) new (part_of (Synced c) new) (alone-of (Synced c) new o)
    by true e =
        let is : c ≡ old = eqb-true c old e in
        let isn't : (c == new) ≡ false = less-apart c new (subst (λ y. y < new) (sym is) i) in
        subst (λ x. Becomes (Synced c) (placed old Whole new (started (part_if x Whole)))) (sym isn't)
        (subst (λ y. Becomes (Synced c) (Doubled y new (λ row. false))) is (synced-doubled c new (subst (λ y. y < new) (sym is) i)))
beside-becomes Missing old new o i = inr (inr (new-gone Missing new refl))
beside-becomes (Building c b) old new o i = by (c == old)
  where
    by : (x : Bool) → Becomes (Building c b) (placed old (part_if x (Some_rows b)) new (started (part_of (Building c b) new)))
    by false = started-becomes (Building c b) new (part_of (Building c b) new) (alone-of (Building c b) new o)
    by true = started-becomes (Building c b) new (part_of (Building c b) new) (alone-of (Building c b) new o)
beside-becomes (Doubled one two b) old new o i = by (one == old) refl (two == old)
  where
    -- the first device is kept
    kept : one ≡ old → (z : Bool) → (two == new) ≡ z → Becomes (Doubled one two b) (placed old Whole new (started (part_if z (Some_rows b))))
    kept is true e = subst (λ y. Becomes (Doubled one two b) (Doubled y new b)) is (subst (λ y. Becomes (Doubled one two b) (Doubled one y b)) (eqb-true two new e) (same-becomes (Doubled one two b)))
    kept is false e = subst (λ y. Becomes (Doubled one two b) (Doubled y new (λ row. false))) is (doubled-redoubled one two new b o (eqb-false two new e))

    by : (x : Bool) → (one == old) ≡ x → (y : Bool) → Becomes (Doubled one two b) (placed old (if x then Whole else part_if y (Some_rows b)) new (started (part_of (Doubled one two b) new)))
    by true e y =
        let is : one ≡ old = eqb-true one old e in
        let isn't : (one == new) ≡ false = less-apart one new (subst (λ z. z < new) (sym is) i) in
        subst (λ x. Becomes (Doubled one two b) (placed old Whole new (started (if x then Whole else part_if (two == new) (Some_rows b))))) (sym isn't) (kept is (two == new) refl)
    by false e true = started-becomes (Doubled one two b) new (part_of (Doubled one two b) new) (alone-of (Doubled one two b) new o)
    by false e false = started-becomes (Doubled one two b) new (part_of (Doubled one two b) new) (alone-of (Doubled one two b) new o)
beside-becomes (Paired one two) old new o i = by (one == old) refl (two == old) refl
  where
    kept : one ≡ old → (z : Bool) → (two == new) ≡ z → Becomes (Paired one two) (placed old Whole new (started (part_if z Whole)))
    kept is true e = subst (λ y. Becomes (Paired one two) (Paired y new)) is (subst (λ y. Becomes (Paired one two) (Paired one y)) (eqb-true two new e) (same-becomes (Paired one two)))
    kept is false e = subst (λ y. Becomes (Paired one two) (Doubled y new (λ row. false))) is (paired-redoubled one two new o (eqb-false two new e))

    by : (x : Bool) → (one == old) ≡ x → (y : Bool) → (two == old) ≡ y → Becomes (Paired one two) (placed old (part_if (x || y) Whole) new (started (part_of (Paired one two) new)))
    by true e y e' =
        let is : one ≡ old = eqb-true one old e in
        let isn't : (one == new) ≡ false = less-apart one new (subst (λ z. z < new) (sym is) i) in
        subst (λ x. Becomes (Paired one two) (placed old Whole new (started (part_if (x || (two == new)) Whole)))) (sym isn't) (kept is (two == new) refl)
    by false e true e' =
        let is : two ≡ old = eqb-true two old e' in
        let less : two < new = subst (λ z. z < new) (sym is) i in
        let a : (one == new) ≡ false = less-apart one new (below-both o less) in
        let b : (two == new) ≡ false = less-apart two new less in
        subst (λ x. Becomes (Paired one two) (placed old Whole new (started (part_if (x || (two == new)) Whole)))) (sym a)
        (subst (λ x. Becomes (Paired one two) (placed old Whole new (started (part_if x Whole)))) (sym b)
        (subst (λ y. Becomes (Paired one two) (Doubled y new (λ row. false))) is (paired-next one two new o less)))
      where
        below-both : {x y z : ℕ} → x < y → y < z → x < z
        below-both a b = omega arith
    by false e false e' = started-becomes (Paired one two) new (part_of (Paired one two) new) (alone-of (Paired one two) new o)

pub adopted-becomes : (was : SlotState) (status : Status) → IsOrdered was → InOrder status → Becomes was (adopted was status)
adopted-becomes was (Current g) o i = alone-becomes was g (part_of was g) (alone-of was g o)
adopted-becomes was Lost o i = inr (inr (missing-gone was))
adopted-becomes was (Rebuilding g reported) o i = started-becomes was g (part_of was g) (alone-of was g o)
adopted-becomes was (Replacing old new reported) o i = adopted-by (Becomes was) was old new reported (λ same. absurd (omega arith)) (λ apart. beside-becomes was old new o i)
    (λ apart swapped. let order : new < old = subst IsOrdered swapped o in absurd (omega (arith, order, i)))

-- what is left, or comes, is in order
pub without-ordered : (was : SlotState) (g : ℕ) → IsOrdered (without was g)
without-ordered (Synced c) g = tt
without-ordered Missing g = tt
without-ordered (Building c b) g = tt
without-ordered (Doubled old new b) g = by (old == g)
  where
    by : (x : Bool) → IsOrdered (if x then Building new b else Synced old)
    by true = tt
    by false = tt
without-ordered (Paired old new) g = by (old == g)
  where
    by : (x : Bool) → IsOrdered (if x then Synced new else Synced old)
    by true = tt
    by false = tt

alone-ordered : (g : ℕ) (part : Part) → IsOrdered (alone g part)
alone-ordered g Nothing = tt
alone-ordered g (Some_rows built) = tt
alone-ordered g Whole = tt

beside-ordered : (old : ℕ) (first : Part) (new : ℕ) (second : Part) → old < new → IsOrdered (placed old first new second)
beside-ordered old Nothing new second less = alone-ordered new second
beside-ordered old (Some_rows built) new second less = alone-ordered new second
beside-ordered old Whole new Nothing less = tt
beside-ordered old Whole new (Some_rows built) less = less
beside-ordered old Whole new Whole less = less

pub adopted-ordered : (was : SlotState) (status : Status) → IsOrdered was → InOrder status → IsOrdered (adopted was status)
adopted-ordered was (Current g) o i = alone-ordered g (part_of was g)
adopted-ordered was Lost o i = tt
adopted-ordered was (Rebuilding g reported) o i = alone-ordered g (started (part_of was g))
adopted-ordered was (Replacing old new reported) o i = adopted-by IsOrdered was old new reported (λ same. alone-ordered old (part_of was old)) (λ apart. beside-ordered old (part_of was old) new (started (part_of was new)) i) (λ apart swapped. o)

pub brought-ordered : (was : SlotState) → IsOrdered was → IsOrdered (brought_in was)
brought-ordered (Synced c) o = tt
brought-ordered Missing o = tt
brought-ordered (Building c b) o = tt
brought-ordered (Doubled old new b) o = o
brought-ordered (Paired old new) o = o

pub row-ordered : (was : SlotState) (row : ℕ) → IsOrdered was → IsOrdered (with_row was row)
row-ordered (Synced c) row o = o
row-ordered Missing row o = o
row-ordered (Building c b) row o = o
row-ordered (Doubled old new b) row o = o
row-ordered (Paired old new) row o = o

-- what was in sync is so when a row is built, and when all are; and what is out then was so
built-still : (built : ℕ → Bool) (done row : ℕ) → built row ≡ true → put built done true row ≡ true
built-still built done row x = elim (cases_eq row done) [
  | inl same ↦ put-same built done true row same
  | inr ne ↦ put-other built done true row ne ∙ x
]

pub with-row-sync : (state : SlotState) (done row g : ℕ) → InSyncFor state row g → InSyncFor (with_row state done) row g
with-row-sync (Synced current) done row g x = x
with-row-sync Missing done row g x = x
with-row-sync (Building current built) done row g x = (x.0, built-still built done row x.1)
with-row-sync (Doubled old new built) done row g (inl x) = inl x
with-row-sync (Doubled old new built) done row g (inr x) = inr (x.0, built-still built done row x.1)
with-row-sync (Paired old new) done row g x = x

pub brought-sync : (state : SlotState) (row g : ℕ) → InSyncFor state row g → InSyncFor (brought_in state) row g
brought-sync (Synced current) row g x = x
brought-sync Missing row g x = x
brought-sync (Building current built) row g x = x.0
brought-sync (Doubled old new built) row g (inl x) = inl x
brought-sync (Doubled old new built) row g (inr x) = inr x.0
brought-sync (Paired old new) row g x = x

pub brought-away : (state : SlotState) → is_away (brought_in state) ≡ true → is_away state ≡ true
brought-away (Synced current) e = e
brought-away Missing e = e
brought-away (Building current built) e = refl
brought-away (Doubled old new built) e = e
brought-away (Paired old new) e = e
