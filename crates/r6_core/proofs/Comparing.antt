-- A look compares what the register has of each slot with what the shard has.
use Rattle.std.proofs.Common.{◌≡◌, ℕ, Bool, true, false, ◌+◌, ◌<◌, ◌≤◌, sym, ap, subst, ◌∙◌, inl, inr, arith}
use Rattle.std.proofs.lemmas.Bool.{cases_lt}
use Rattle.r6_health.specs.Slots.{is_replacing}
use Rattle.r6_world.specs.Registers.{Snapshot, status_of}
use Rattle.r6_world.specs.Changes.{differs}
use Rattle.r6_frames.specs.Slots.{states_of}
use Rattle.r6_core.specs.declared.state.State.{State}
use Rattle.r6_core.specs.Refusals.{ReplacesOneOf}
use Rattle.r6_core.specs.Parts.{DiffersIf}

-- of the first slots one is being replaced, or none
abbrev pub HasReplaced : Snapshot → (count : ℕ) → (replaced : Bool) → Type 0
HasReplaced seen count true =
    (at : ℕ) × (at < count) × (is_replacing (status_of seen at) ≡ true) × ((q : ℕ) → q < count → is_replacing (status_of seen q) ≡ true → q ≡ at)
HasReplaced seen count false = (slot : ℕ) → slot < count → is_replacing (status_of seen slot) ≡ true → ⊥

-- the register has something else of one, or of none
abbrev pub HasOther : State → Snapshot → (count : ℕ) → (differs : Bool) → Type 0
HasOther s seen count true = (at : ℕ) × (at < count) × (differs (states_of s.frames.slots at) (status_of seen at) ≡ true)
HasOther s seen count false = (slot : ℕ) → slot < count → differs (states_of s.frames.slots slot) (status_of seen slot) ≡ false

pub next_plain : (seen : Snapshot) (slot : ℕ) (had : Bool) → is_replacing (status_of seen slot) ≡ false → HasReplaced seen slot had → HasReplaced seen (slot + 1) had
next_plain seen slot true plain is = (
  is.0,
  let lower = is.1 in omega arith,
  is.2,
  λ q below replaced. elim (cases_lt q slot) [
    | inl lower ↦ is.3 q lower replaced
    | inr higher ↦
        let same : q ≡ slot = omega arith in
        absurd (let both : true ≡ false = sym replaced ∙ ap (λ k. is_replacing (status_of seen k)) same ∙ plain in cc)
  ],
)
next_plain seen slot false plain none = λ q below replaced. elim (cases_lt q slot) [
  | inl lower ↦ none q lower replaced
  | inr higher ↦
      let same : q ≡ slot = omega arith in
      let both : true ≡ false = sym replaced ∙ ap (λ k. is_replacing (status_of seen k)) same ∙ plain in cc
]

pub next_replaced : (seen : Snapshot) (slot : ℕ) → is_replacing (status_of seen slot) ≡ true → HasReplaced seen slot false → HasReplaced seen (slot + 1) true
next_replaced seen slot is none = (
  slot,
  omega arith,
  is,
  λ q below replaced. elim (cases_lt q slot) [
    | inl lower ↦ absurd (none q lower replaced)
    | inr higher ↦ omega arith
  ],
)

pub two_replaced : (seen : Snapshot) (slot slots : ℕ) → slot < slots → is_replacing (status_of seen slot) ≡ true → HasReplaced seen slot true → ReplacesOneOf slots seen → ⊥
two_replaced seen slot slots below is had one =
    let lower = had.1 in
    let same : had.0 ≡ slot = one had.0 slot (omega arith) below had.2 is in
    omega arith

pub one_at_most : (seen : Snapshot) (count slots : ℕ) (had : Bool) → slots ≤ count → HasReplaced seen count had → ReplacesOneOf slots seen
one_at_most seen count slots true all is slot other below there first second = is.3 slot (omega arith) first ∙ sym (is.3 other (omega arith) second)
one_at_most seen count slots false all none slot other below there first second = absurd (none slot (omega arith) first)

pub next_same : (s : State) (seen : Snapshot) (slot : ℕ) (had : Bool) → differs (states_of s.frames.slots slot) (status_of seen slot) ≡ false → HasOther s seen slot had → HasOther s seen (slot + 1) had
next_same s seen slot true same is = (is.0, let lower = is.1 in omega arith, is.2)
next_same s seen slot false same none = λ q below. elim (cases_lt q slot) [
  | inl lower ↦ none q lower
  | inr higher ↦ let own : slot ≡ q = omega arith in subst (λ k. differs (states_of s.frames.slots k) (status_of seen k) ≡ false) own same
]

pub next_other : (s : State) (seen : Snapshot) (slot : ℕ) → differs (states_of s.frames.slots slot) (status_of seen slot) ≡ true → HasOther s seen (slot + 1) true
next_other s seen slot other = (slot, omega arith, other)

pub differs_if : (s : State) (seen : Snapshot) (count : ℕ) (had : Bool) → count ≤ s.frames.geometry.slots → s.frames.geometry.slots ≤ count → HasOther s seen count had → DiffersIf had s seen
differs_if s seen count true within all is = λ agrees.
    let lower = is.1 in
    let same = agrees is.0 (omega arith) in
    let other = is.2 in
    let both : true ≡ false = sym other ∙ same in cc
differs_if s seen count false within all none = λ slot below. none slot (omega arith)
