-- The register of an array replaces one slot at most.
use Rattle.std.proofs.Common.{◌≡◌, ℕ, zero, suc, ◌+◌, ◌⊎◌, List, [], ◌∷◌, map, get_or, set, Bool, true, false, not, nat_le, if◌then◌else◌, inl, inr, refl, sym, ap, ◌∙◌, subst, arith, Ok, Err}
use Rattle.std.specs.Prelude.{◌==◌, slice_get, slice_set, unwrap_or}
use Rattle.std.specs.List.{list_any, range_with_len}
use Rattle.std.specs.Int.{bit_at}
use Rattle.std.proofs.lemmas.Bool.{false≢true, or_parts}
use Rattle.std.proofs.lemmas.Option.{unwrap_or-slice_get}
use Rattle.r6_health.specs.declared.refusal.Refusal.TheVariants.{NoSuchSlot, ArrayFailed, NotInSync, ReplacementBusy, GenerationsSpent}
use Rattle.r6_health.specs.Slots.{is_in_sync, is_replacing, has_all, with_shard}
use Rattle.r6_health.specs.Registers.{after, answer, is_busy, lost_if, reported_state, replaced, starting, state_at, state_without}
use Rattle.r6_layout.specs.Shape.{Shape}
use Rattle.r6_world.specs.Layouts.{Layout}
use Rattle.r6_world.specs.Geometries.{layout_of}
use Rattle.r6_world.specs.Registers.{Snapshot, Status, InSync, Lost, Rebuilding, Replacing, RegisterCall, RegisterAnswer, Fail, DeclareLost, Attach, ReportRebuilt, Replace, Told, answer_to, register_after, no_shards, status_of}
use Rattle.r6_world.specs.Worlds.{as_made}
use Rattle.r6_core.specs.declared.call.Call.{Call as CoreCall}
use Rattle.r6_core.specs.Shards.{CoreView, call_of}
use Rattle.r6_core.specs.declared.refusal.Refusal.{Refusal}
use Rattle.r6_core.specs.declared.refusal.Refusal.TheVariants.{UntoldFirst}
use Rattle.r6_core.specs.Refusals.{AllTold, HasLookFault, IsFirstFault, look_faults}
use Rattle.r6_array.specs.Inside.{ReplacesOne}
use Rattle.r6_array.specs.Arrays.{ShardView}
use Rattle.r6_array.specs.Members.{Agrees}

-- whichever slots they are
abbrev ReplacesOneAtMost : Snapshot → Type 0
ReplacesOneAtMost register =
    (slot other : ℕ) → is_replacing (status_of register slot) ≡ true → is_replacing (status_of register other) ≡ true → slot ≡ other

anywhere : (register : Snapshot) → ReplacesOne register → ReplacesOneAtMost register
anywhere register one slot other e e' = one (suc (slot + other)) slot other (omega arith) (omega arith) e e'

-- ---- lists of slots

-- the state of a slot in a list of them
abbrev state_in : List Status → ℕ → Status
state_in slots slot = unwrap_or (slice_get slots slot) (InSync 0)

in-list : (slots : List Status) (slot : ℕ) → state_in slots slot ≡ get_or slots slot (InSync 0)
in-list slots slot = unwrap_or-slice_get slots slot (InSync 0)

set-cases : (slots : List Status) (at : ℕ) (state : Status) (slot : ℕ)
    → ((slot ≡ at) × (get_or (set slots at state) slot (InSync 0) ≡ state)) ⊎ (get_or (set slots at state) slot (InSync 0) ≡ get_or slots slot (InSync 0))
set-cases [] at state slot = inr refl
set-cases (first ∷ slots) zero state zero = inl (refl, refl)
set-cases (first ∷ slots) zero state (suc slot) = inr refl
set-cases (first ∷ slots) (suc at) state zero = inr refl
set-cases (first ∷ slots) (suc at) state (suc slot) = elim (set-cases slots at state slot) [
  | inl p ↦ inl (ap suc p.0, p.1)
  | inr e ↦ inr e
]

-- a slot that is being replaced after one state was put was so before, or is that one
put-replaces : (slots : List Status) (at : ℕ) (state : Status) (slot : ℕ) → is_replacing (state_in (slice_set slots at state) slot) ≡ true
    → ((slot ≡ at) × (is_replacing state ≡ true)) ⊎ (is_replacing (state_in slots slot) ≡ true)
put-replaces slots at state slot e = elim (set-cases slots at state slot) [
  | inl p ↦ inl (p.0, sym (ap is_replacing (in-list (slice_set slots at state) slot ∙ p.1)) ∙ e)
  | inr same ↦ inr (sym (ap is_replacing (in-list (slice_set slots at state) slot ∙ same ∙ sym (in-list slots slot))) ∙ e)
]

-- ---- one call

-- that one was being replaced, or no slot was
abbrev Frees : Snapshot → (at : ℕ) → Status → Type 0
Frees register at state =
    is_replacing state ≡ true
    → (is_replacing (status_of register at) ≡ true) ⊎ ((slot : ℕ) → is_replacing (status_of register slot) ≡ false)

one-put : (register : Snapshot) (at : ℕ) (state : Status) → Frees register at state → ReplacesOneAtMost register → (slot other : ℕ)
    → is_replacing (state_in (slice_set register.slots at state) slot) ≡ true
    → is_replacing (state_in (slice_set register.slots at state) other) ≡ true → slot ≡ other
one-put register at state frees one slot other e e' =
    elim (put-replaces register.slots at state slot e) [
      | inl here ↦ elim (put-replaces register.slots at state other e') [
        | inl there ↦ here.0 ∙ sym there.0
        | inr before ↦ elim (frees here.1) [
          | inl was ↦ here.0 ∙ one at other was before
          | inr none ↦ absurd (false≢true (sym (none other) ∙ before))
        ]
      ]
      | inr before ↦ elim (put-replaces register.slots at state other e') [
        | inl there ↦ elim (frees there.1) [
          | inl was ↦ one slot at before was ∙ sym there.0
          | inr none ↦ absurd (false≢true (sym (none slot) ∙ before))
        ]
        | inr before' ↦ one slot other before before'
      ]
    ]

left-replaces : (state : Status) (generation : ℕ) → is_replacing (state_without state generation) ≡ true → is_replacing state ≡ true
left-replaces (InSync current) generation e = absurd (false≢true e)
left-replaces Lost generation e = absurd (false≢true e)
left-replaces (Rebuilding current reported) generation e = absurd (false≢true e)
left-replaces (Replacing old new reported) generation e = refl

reported-replaces : (state : Status) (shards shard : ℕ) → is_replacing (reported_state state shards shard) ≡ true → is_replacing state ≡ true
reported-replaces (InSync current) shards shard e = absurd (false≢true e)
reported-replaces Lost shards shard e = absurd (false≢true e)
reported-replaces (Rebuilding current reported) shards shard e = absurd (by_test (has_all (with_shard reported shard) shards) e)
  where
    by_test : (b : Bool) → is_replacing (if b then InSync current else Rebuilding current (with_shard reported shard)) ≡ true → ⊥
    by_test true e = false≢true e
    by_test false e = false≢true e
reported-replaces (Replacing old new reported) shards shard e = refl

-- a replacement is taken only where no slot is being replaced
was-free : (a b c d e : Bool) (reply reply' : RegisterAnswer)
    → (if a then Err NoSuchSlot else if b then Err ArrayFailed else if c then Err NotInSync else if d then Err ReplacementBusy else if e then Err GenerationsSpent else Ok reply) ≡ Ok reply' → d ≡ false
was-free true b c d e reply reply' is = absurd (cc)
was-free false true c d e reply reply' is = absurd (cc)
was-free false false true d e reply reply' is = absurd (cc)
was-free false false false true e reply reply' is = absurd (cc)
was-free false false false false e reply reply' is = refl

none-busy : (slots : List Status) → list_any is_replacing slots ≡ false → (slot : ℕ) → is_replacing (get_or slots slot (InSync 0)) ≡ false
none-busy [] e slot = refl
none-busy (first ∷ slots) e zero = (or_parts (is_replacing first) (list_any is_replacing slots) e).0
none-busy (first ∷ slots) e (suc slot) = none-busy slots (or_parts (is_replacing first) (list_any is_replacing slots) e).1 slot

one-after : (slots shards : ℕ) (register : Snapshot) (call : RegisterCall) (reply : RegisterAnswer) → answer slots shards register call ≡ Ok reply
    → ReplacesOneAtMost register → ReplacesOneAtMost (after shards register call)
one-after slots shards register (Fail at) reply is one = one-put register at Lost (λ e. absurd (false≢true e)) one
one-after slots shards register (DeclareLost at generation) reply is one =
    one-put register at (state_without (status_of register at) generation) (λ e. inl (left-replaces (status_of register at) generation e)) one
one-after slots shards register (Attach at) reply is one = one-put register at (Rebuilding (register.attaches + 1) no_shards) (λ e. absurd (false≢true e)) one
one-after slots shards register (ReportRebuilt shard at generation) reply is one =
    one-put register at (reported_state (status_of register at) shards shard) (λ e. inl (reported-replaces (status_of register at) shards shard e)) one
one-after slots shards register (Replace at) reply is one =
    let free = was-free (nat_le slots at) register.failed (not (is_in_sync (state_at register at))) (is_busy register.slots) (nat_le 1048575 register.attaches) _ reply is in
    one-put register at (replaced (status_of register at) (register.attaches + 1)) (λ e. inr (λ slot. ap is_replacing (in-list register.slots slot) ∙ none-busy register.slots free slot)) one

pub replaces-after : (slots shards : ℕ) (register : Snapshot) (call : RegisterCall) (reply : RegisterAnswer) → answer slots shards register call ≡ Ok reply
    → ReplacesOne register → ReplacesOne (after shards register call)
replaces-after slots shards register call reply is one count slot other below below' e e' =
    one-after slots shards register call reply is (anywhere register one) slot other e e'

-- ---- the calls of an array

pub replaces-told : (l : Layout) (register : Snapshot) (call : RegisterCall) (told : Told) → told ≡ answer_to l register call → ReplacesOne register
    → ReplacesOne (register_after l register call told)
replaces-told l register call (Ok reply) is one = replaces-after l.slots l.shards register call reply (sym is) one
replaces-told l register call (Err refusal) is one = one

-- a change that a shard asks for
pub replaces-agreed : (shape : Shape) (n : ℕ) (old : ShardView) (register : Snapshot) (call : CoreCall) (told : Told) (register' : Snapshot) (new : ShardView)
    → Agrees shape n old register call told register' new → ReplacesOne register → ReplacesOne register'
replaces-agreed shape n old register call told register' new agreed one =
    subst ReplacesOne (sym agreed.register_is) (replaces-told (layout_of shape) register (as_made n (call_of call)) told agreed.answer_is one)

-- at the start none is being replaced
none-map : (f : ℕ → Status) (numbers : List ℕ) → ((k : ℕ) → is_replacing (f k) ≡ false) → (slot : ℕ) → is_replacing (get_or (map f numbers) slot (InSync 0)) ≡ false
none-map f [] each slot = refl
none-map f (first ∷ numbers) each zero = each first
none-map f (first ∷ numbers) each (suc slot) = none-map f numbers each slot

none-lost : (lost slot : ℕ) → is_replacing (lost_if lost slot) ≡ false
none-lost lost slot = by_test (bit_at lost slot == 1)
  where
    by_test : (b : Bool) → is_replacing (if b then Lost else InSync 0) ≡ false
    by_test true = refl
    by_test false = refl

pub replaces-at-first : (lost : ℕ) → ReplacesOne (starting lost)
replaces-at-first lost count slot other below below' e e' =
    absurd (false≢true (sym (ap is_replacing (in-list (starting lost).slots slot) ∙ none-map (lost_if lost) (range_with_len 0 32) (none-lost lost) slot) ∙ e))

-- so a look is refused where a call is untold
pub untold-only : (core : CoreView) (register : Snapshot) (refusal : Refusal) → ReplacesOne register → IsFirstFault (HasLookFault core register) look_faults refusal
    → (refusal ≡ UntoldFirst) × (AllTold core → ⊥)
untold-only core register refusal one fault = elim fault [
  | inl untold ↦ untold
  | inr later ↦ elim later.1 [ inl two ↦ absurd (two.1 (one core.shape.slots)) | inr none ↦ absurd none.1 ]
]
