-- Snapshots that are equal by their parts are the same.
use Rattle.std.proofs.Common.{◌≡◌, ◌∙◌, ◌&&◌, List, [], ◌∷◌, Bool, true, false, refl, sym, ap}
use Rattle.std.proofs.lemmas.Bool.{false≢true}
use lib.Pointwise.{pointwise}
use lib.Dec.{eqb}
use denote.Enum.Compared as compared
use Rattle.std.proofs.lemmas.Bool as bools
use Rattle.r6_health.specs.declared.slots.ShardSet.{ShardSet}
use Rattle.r6_health.specs.declared.slots.SlotState.{SlotState}
use Rattle.r6_health.specs.declared.slots.SlotState.TheVariants.{InSync, Lost, Rebuilding, Replacing}
use Rattle.r6_health.specs.declared.snapshot.Snapshot.{Snapshot}
use Rattle.r6_health.specs.contracts.slots.SlotState as contracts

both : (a b : Bool) → (a && b) ≡ true → (a ≡ true) × (b ≡ true)
both true b is = (refl, is)
both false b is = absurd (false≢true is)

-- the derived comparison of two states
abbrev same_set : ShardSet → ShardSet → Bool
same_set r r' = eqb r.bits r'.bits

abbrev same_state : SlotState → SlotState → Bool
same_state x y =
    compared.by false false contracts.enum.parts (
      λ a b. eqb a.0 b.0,
      (λ a b. true, (λ a b. eqb a.0 b.0 && same_set a.1.0 b.1.0, (λ a b. eqb a.0 b.0 && (eqb a.1.0 b.1.0 && same_set a.1.1.0 b.1.1.0), tt))),
    ) (contracts.as_values x) (contracts.as_values y)

sets : (r r' : ShardSet) → same_set r r' ≡ true → r ≡ r'
sets r r' is = let bits : r.bits ≡ r'.bits = bools.eqb-true r.bits r'.bits is in (λ i. record { bits = bits i })

states : (x y : SlotState) → same_state x y ≡ true → x ≡ y
states (InSync g) (InSync g') is = ap InSync (bools.eqb-true g g' is)
states (InSync g) Lost is = absurd (false≢true is)
states (InSync g) (Rebuilding g' r) is = absurd (false≢true is)
states (InSync g) (Replacing old new r) is = absurd (false≢true is)
states Lost (InSync g) is = absurd (false≢true is)
states Lost Lost is = refl
states Lost (Rebuilding g r) is = absurd (false≢true is)
states Lost (Replacing old new r) is = absurd (false≢true is)
states (Rebuilding g r) (InSync g') is = absurd (false≢true is)
states (Rebuilding g r) Lost is = absurd (false≢true is)
states (Rebuilding g r) (Rebuilding g' r') is =
    let parts = both (eqb g g') (same_set r r') is in
    let one : g ≡ g' = bools.eqb-true g g' parts.0 in
    let other : r ≡ r' = sets r r' parts.1 in
    (λ i. Rebuilding (one i) (other i))
states (Rebuilding g r) (Replacing old new r') is = absurd (false≢true is)
states (Replacing old new r) (InSync g) is = absurd (false≢true is)
states (Replacing old new r) Lost is = absurd (false≢true is)
states (Replacing old new r) (Rebuilding g r') is = absurd (false≢true is)
states (Replacing old new r) (Replacing old' new' r') is =
    let parts = both (eqb old old') (eqb new new' && same_set r r') is in
    let rest = both (eqb new new') (same_set r r') parts.1 in
    let one : old ≡ old' = bools.eqb-true old old' parts.0 in
    let two : new ≡ new' = bools.eqb-true new new' rest.0 in
    let three : r ≡ r' = sets r r' rest.1 in
    (λ i. Replacing (one i) (two i) (three i))

pointwise-same : {A : Type 0} (E : A → A → Bool) → ((x y : A) → E x y ≡ true → x ≡ y) → (xs ys : List A) → pointwise E xs ys ≡ true → xs ≡ ys
pointwise-same E same [] [] is = refl
pointwise-same E same [] (y ∷ ys) is = absurd (false≢true is)
pointwise-same E same (x ∷ xs) [] is = absurd (false≢true is)
pointwise-same E same (x ∷ xs) (y ∷ ys) is =
    let parts = both (E x y) (pointwise E xs ys) is in
    let one = same x y parts.0 in
    let rest = pointwise-same E same xs ys parts.1 in
    (λ i. one i ∷ rest i)

beq-true : (a b : Bool) → mathlib.Core.Bool.beq a b ≡ true → a ≡ b
beq-true true true is = refl
beq-true true false is = absurd (false≢true is)
beq-true false true is = absurd (false≢true is)
beq-true false false is = refl

not-false : (a : Bool) → false ≡ mathlib.Core.Bool.not a → a ≡ true
not-false true is = refl
not-false false is = absurd (false≢true is)

pub same-snapshots : (a b : Snapshot) (same : Bool) → same ≡ true
    → same ≡ (pointwise same_state a.slots b.slots && (eqb a.attaches b.attaches && mathlib.Core.Bool.beq a.failed b.failed))
    → a ≡ b
same-snapshots a b same so is =
    let parts = both (pointwise same_state a.slots b.slots) (eqb a.attaches b.attaches && mathlib.Core.Bool.beq a.failed b.failed) (sym is ∙ so) in
    let more = both (eqb a.attaches b.attaches) (mathlib.Core.Bool.beq a.failed b.failed) parts.1 in
    let one = pointwise-same same_state states a.slots b.slots parts.0 in
    let two : a.attaches ≡ b.attaches = bools.eqb-true a.attaches b.attaches more.0 in
    let three : a.failed ≡ b.failed = beq-true a.failed b.failed more.1 in
    (λ i. record { slots = one i; attaches = two i; failed = three i })

pub snapshots : (a b : Snapshot) (differs : Bool) → differs ≡ false
    → differs ≡ mathlib.Core.Bool.not (pointwise same_state a.slots b.slots && (eqb a.attaches b.attaches && mathlib.Core.Bool.beq a.failed b.failed))
    → a ≡ b
snapshots a b differs not is =
    same-snapshots a b (pointwise same_state a.slots b.slots && (eqb a.attaches b.attaches && mathlib.Core.Bool.beq a.failed b.failed))
    (not-false (pointwise same_state a.slots b.slots && (eqb a.attaches b.attaches && mathlib.Core.Bool.beq a.failed b.failed)) (sym not ∙ is)) refl
