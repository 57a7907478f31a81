-- What parts in a list promise.
use Rattle.std.proofs.Common.{◌≡◌, ◌<◌, ◌≤◌, ◌+◌, ℕ, suc, List, [], ◌∷◌, get_or, All, true, inl, inr, refl, sym, ap, subst, ◌∙◌, arith, Option, Some, None}
use Rattle.std.specs.Prelude.{slice_set, ◌==◌, ◌&&◌, Bool, option_map, unwrap_or}
use Rattle.std.specs.List.{position}
use Rattle.std.proofs.lemmas.List.Quantifiers.{position-Some}
use Rattle.std.proofs.lemmas.Bool.{cases_Bool, cases_eq, and_parts, eqb-true}
use Rattle.r6_dev.specs.History.{Telling}
use Rattle.r6_dev.specs.Promises.{Promise, FailsNone, no_promise}
use Rattle.r6_layout.specs.Shape.{Shape}
use Rattle.r6_layout.specs.Layout.{first_row}
use Rattle.r6_world.proofs.Geometries.{layouts}
use Rattle.r6_world.specs.Geometries.{layout_of}
use Rattle.r6_world.specs.Layouts.{IsRowOf}
use Rattle.r6_world.specs.Registers.{Snapshot, ShardSet, Rebuilding}
use Rattle.r6_world.proofs.Tables.{None-not_Some}
use Rattle.r6_core.specs.Shards.{CoreView}
use Rattle.r6_exchange.specs.Answering.{promise_if}
use Rattle.r6_exchange.specs.declared.task.Part.{Part}
use Rattle.r6_shard.specs.Parts.{is_of, part_in, part_of, promise_in, TakesIn}
use Rattle.r6_shard.specs.Performing.{Performer, HasPart}
use Rattle.r6_shard.specs.Sound.{DeviceFailsNone, IsSound, BeginsSound, StartsSound, MemoryLaw}
use Rattle.r6_shard.proofs.Places.{first-of, behind, not-both}
use Rattle.r6_shard.proofs.Handed.{of-first, of-behind, part-found, part-replaced, part-elsewhere}

-- this slot and generation, or another
pub same-or-not : {A : Type 0} (slot g slot' g' : ℕ) → (slot ≡ slot' → g ≡ g' → A) → (((slot ≡ slot') × (g ≡ g') → ⊥) → A) → A
same-or-not slot g slot' g' here else = elim (cases_eq slot slot') [
  | inl same ↦ elim (cases_eq g g') [
    | inl same' ↦ here same same'
    | inr ne ↦ else (λ both. ne both.1)
  ]
  | inr ne ↦ else (λ both. ne both.0)
]

-- the part that stands at this place of the list
pub part-at : {D : Type 0} (parts : List (Part D)) (at : ℕ) (here : Part D) (slot generation : ℕ)
    → position (is_of slot generation) parts ≡ Some at → get_or parts at here ≡ here
    → part_of parts slot generation ≡ Some here
part-at parts at here slot generation place is =
    let p = position-Some (is_of slot generation) parts at here place in
    part-found parts at here slot generation p.0 p.1 p.2 ∙ ap Some is

pub same-new : (g g' : ℕ) (reported reported' : ShardSet) → Rebuilding g reported ≡ Rebuilding g' reported' → g ≡ g'
same-new g g' reported reported' e = cc

pub no-row : (row : ℕ) → row < 0 → ⊥
no-row row below = omega (arith, below)

-- its promise
pub promise-of : {D : Type 0} (promised : D → Promise) (parts : List (Part D)) (slot generation : ℕ) (part : Part D) → part_of parts slot generation ≡ Some part
    → promise_in promised parts slot generation ≡ promised part.device
promise-of promised parts slot generation part e = ap (λ o. unwrap_or (option_map (λ (y : Part _). promised y.device) o) no_promise) e

pub still-promised : {D : Type 0} (promised : D → Promise) (parts : List (Part D)) (at : ℕ) (before behind' : Part D) (slot generation : ℕ)
    → position (is_of slot generation) parts ≡ Some at → get_or parts at before ≡ before
    → behind'.slot ≡ before.slot → behind'.generation ≡ before.generation → promised behind'.device ≡ promised before.device
    → (other g : ℕ) → promise_in promised (slice_set parts at behind') other g ≡ promise_in promised parts other g
still-promised {D = D} promised parts at before behind' slot generation place here slot' generation' stays other g =
    let p = position-Some (is_of slot generation) parts at before place in
    let was : is_of slot generation before ≡ true = ap (is_of slot generation) (sym here) ∙ p.1 in
    let is : is_of slot generation behind' ≡ true =
    ap (λ (y : ℕ). (y == slot) && (behind'.generation == generation)) slot'
    ∙ ap (λ (y : ℕ). (before.slot == slot) && (y == generation)) generation' ∙ was in
    let new = slice_set parts at behind' in
    same-or-not other g slot generation
    (λ same same'.
    let own : promise_in promised new slot generation ≡ promise_in promised parts slot generation =
    promise-of promised new slot generation behind' (part-replaced parts at before behind' slot generation p.0 is p.2) ∙ stays
    ∙ sym (promise-of promised parts slot generation before (part-at parts at before slot generation place here)) in
    subst (λ y. promise_in promised new y g ≡ promise_in promised parts y g) (sym same)
    (subst (λ y. promise_in promised new slot y ≡ promise_in promised parts slot y) (sym same') own))
    (λ ne. ap (λ o. unwrap_or (option_map (λ (y : Part D). promised y.device) o) no_promise)
    (part-elsewhere parts at before behind' other g p.0 (not-both behind' slot generation other g is ne)
    (ap (is_of other g) here ∙ not-both before slot generation other g was ne)))

-- ---- a part is taken in

pub takes-sound : {D : Type 0} (told : D → Telling) (promised : D → Promise) (part : Part D) (earlier : Option (Part D)) (old new : Performer)
    (shape : Shape) (number slot : ℕ) (core : CoreView) (named : List Bool) → TakesIn told promised part earlier old new
    → (part.slot ≡ slot → DeviceFailsNone promised shape number part.device)
    → IsSound old shape number slot core named → IsSound new shape number slot core named
takes-sound told promised part earlier old new shape number slot core named taken fails x =
    let Fine = λ (y : Promise). FailsNone y (IsRowOf (layout_of shape) number) shape.block in
    let stays : (g : ℕ) → HasPart old.tells slot g → HasPart new.tells slot g =
    (λ g has. same-or-not slot g part.slot part.generation
    (λ same same' e. None-not_Some (told part.device)
    (sym e ∙ ap (λ y. new.tells y g) same ∙ ap (new.tells part.slot) same' ∙ taken.tells))
    (λ ne e. has (sym (taken.others slot g ne) ∙ e))) in
    record {
      shape_is = x.shape_is;
      place = x.place;
      steady = (λ i. taken.steady i slot) ∙ x.steady;
      parts = λ g has. same-or-not slot g part.slot part.generation
          (λ same same'.
          subst Fine (sym (ap (λ y. new.promised y g) same ∙ ap (new.promised part.slot) same' ∙ taken.promises
          ∙ ap (λ b. promise_if b (promised part.device)) (ap old.steady (sym same) ∙ x.steady))) (fails (sym same)))
          (λ ne. subst Fine (sym (taken.still slot g ne)) (x.parts g (λ e. has (taken.others slot g ne ∙ e))));
      here = (λ below g u. stays g (x.here.0 below g u), λ token c e same. stays c.generation (x.here.1 token c e same));
      unnamed = x.unnamed;
    }

-- ---- at the start

-- a part that tells is there, and one of the list
one-of : {D : Type 0} (told : D → Telling) (Q : Part D → Type 0) (parts : List (Part D)) (slot generation : ℕ)
    → All (λ part. part.slot ≡ slot → Q part) parts → HasPart (part_in told parts) slot generation
    → (part : Part D) × (part_of parts slot generation ≡ Some part) × Q part
one-of told Q [] slot generation all has = absurd (has refl)
one-of told Q (part ∷ parts) slot generation all has = elim (cases_Bool (is_of slot generation part)) [
  | inl yes' ↦ (
    part,
    of-first part parts slot generation yes',
    all 0 part (omega arith) (eqb-true part.slot slot (and_parts (part.slot == slot) (part.generation == generation) yes').0),
  )
  | inr no' ↦
      let rest = one-of told Q parts slot generation (λ k d below. all (suc k) d (omega (arith, below)))
      (λ e. has (behind told part parts slot generation no' ∙ e)) in
      (rest.0, of-behind part parts slot generation no' ∙ rest.1, rest.2)
]

untold : {D : Type 0} (told : D → Telling) (parts : List (Part D)) (slot generation : ℕ) → part_in told parts slot generation ≡ None
    → part_of parts slot generation ≡ None
untold told [] slot generation e = refl
untold told (part ∷ parts) slot generation e = elim (cases_Bool (is_of slot generation part)) [
  | inl yes' ↦ absurd (None-not_Some (told part.device) (sym e ∙ first-of told part parts slot generation yes'))
  | inr no' ↦ of-behind part parts slot generation no' ∙ untold told parts slot generation (sym (behind told part parts slot generation no') ∙ e)
]

pub begins-sound : {D : Type 0} (told : D → Telling) (promised : D → Promise) (shape : Shape) (number slot : ℕ) (snapshot : Snapshot)
    (parts : List (Part D)) (performer : Performer) → performer.tells ≡ part_in told parts
    → ((generation : ℕ) → performer.promised slot generation ≡ promise_in promised parts slot generation)
    → performer.steady slot ≡ true → StartsSound promised shape number snapshot slot parts → BeginsSound performer shape number snapshot slot
begins-sound told promised shape number slot snapshot parts performer tells promises steady x =
    record {
      steady = steady;
      parts = λ g has.
          let one = one-of told (λ part. DeviceFailsNone promised shape number part.device) parts slot g x.each
          (λ none. has ((λ i. tells i slot g) ∙ none)) in
          subst (λ (y : Promise). FailsNone y (IsRowOf (layout_of shape) number) shape.block)
          (sym (promises g ∙ promise-of promised parts slot g one.0 one.1)) one.2;
      here = λ below sync e. x.first below sync (untold told parts slot 0 ((λ i. sym tells i slot 0) ∙ e));
    }

-- ---- devices in memory

pub memory_law_holds : MemoryLaw
memory_law_holds shape lawful number m begins ends block row own =
    let there = (layouts shape lawful).shared row own.0 in
    let low : first_row shape number ≤ row = subst (λ n. first_row shape n ≤ row) own.1 there.1 in
    let high : row < first_row shape (number + 1) = subst (λ n. row < first_row shape (n + 1)) own.1 there.2 in
    (omega (arith, begins, low), omega (arith, high, ends), sym block)
