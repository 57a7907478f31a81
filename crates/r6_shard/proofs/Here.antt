-- The parts that a shard uses stay here.
use Rattle.std.proofs.Common.{◌≡◌, ◌≢◌, ℕ, zero, suc, ◌<◌, List, [], ◌∷◌, length, get_or, true, false, inl, inr, refl, sym, ap, subst, ◌∙◌, arith, Option, Some, None}
use Rattle.std.specs.Prelude.{is_some, ◌==◌, ◌&&◌}
use Rattle.std.specs.List.{position}
use Rattle.std.proofs.lemmas.Bool.{cases_Bool, eq-eqb, false≢true, true≢false}
use Rattle.std.proofs.lemmas.List.{get_or-map, length-map}
use Rattle.std.proofs.lemmas.List.Elements.{Contains-append_left}
use Rattle.std.proofs.lemmas.List.Quantifiers.{position-Some}
use Rattle.r6_dev.specs.History.{Telling}
use Rattle.r6_layout.specs.Shape.{Shape}
use Rattle.r6_world.specs.Registers.{Snapshot, Status, InSync, Lost, Rebuilding, Replacing, is_in_sync, status_of}
use Rattle.r6_world.specs.Worlds.{slot_at_start}
use Rattle.r6_world.specs.Steps.{Event, Look}
use Rattle.r6_world.specs.Refusals.{IsNoLook}
use Rattle.r6_world.proofs.Tables.{None-not_Some}
use Rattle.r6_course.specs.Ends.{IsInUse}
use Rattle.r6_core.specs.declared.turn.Task.{Task}
use Rattle.r6_core.specs.declared.turn.Turn.{Turn}
use Rattle.r6_core.specs.Effects.{IsMade, TakesTurn}
use Rattle.r6_core.specs.Shards.{CoreView, Step, core_layout, world_shard}
use Rattle.r6_exchange.specs.declared.task.Part.{Part}
use Rattle.r6_shard.specs.New.{HasNewHere}
use Rattle.r6_shard.specs.Parts.{is_of, label_of, labels_of, part_in, part_of, StandsIn}
use Rattle.r6_shard.specs.Performing.{HasPart, IsHere}
use Rattle.r6_shard.specs.Uses.{UsesOnly}
use Rattle.r6_shard.specs.Here.{HasUsed, BeginsHere}
use Rattle.r6_shard.proofs.Places.{first-of, behind, label-is}
use Rattle.r6_shard.proofs.Handed.{of-first, of-behind, none-of}
use Rattle.r6_shard.proofs.Keeping.{turned, turned-no-look}
use Rattle.r6_shard.proofs.Sound.{uses-on, finds-none}

-- ---- each call of the core

module _ (labels : List (ℕ × ℕ)) (slot : ℕ) where
  same-shape : (old new : CoreView) → new.shape ≡ old.shape → UsesOnly old.shape.slots (IsHere labels slot) slot (world_shard new) → HasUsed labels slot new
  same-shape old new same x = subst (λ (y : Shape). UsesOnly y.slots (IsHere labels slot) slot (world_shard new)) (sym same) x

  -- any call but a look
  pub here-by : (old : CoreView) (event : Event) (new : CoreView) → IsNoLook event → Step old event new → HasUsed labels slot old → HasUsed labels slot new
  here-by old event new none step x =
      same-shape old new step.0.0
      (uses-on (core_layout old) old.shard (IsHere labels slot) slot event
      (finds-none (core_layout old) old.shard (IsHere labels slot) slot event none) (world_shard old) (world_shard new) step.1 x)

  pub here-twice : (old : CoreView) (event : Event) (mid : CoreView) (event' : Event) (new : CoreView) → IsNoLook event → IsNoLook event'
      → Step old event mid → Step mid event' new → HasUsed labels slot old → HasUsed labels slot new
  here-twice old event mid event' new none none' first second x = here-by mid event' new none' second (here-by old event mid none first x)

  pub here-same : (old new : CoreView) → new ≡ old → HasUsed labels slot old → HasUsed labels slot new
  here-same old new same x = subst (HasUsed labels slot) (sym same) x

  pub here-turned : (old : CoreView) (task : Task) (turn : Turn) (new : CoreView) → TakesTurn old task turn new → HasUsed labels slot old
      → HasUsed labels slot new
  here-turned old task turn new t x =
      let p = turned old task turn new t in here-by old p.0 new (turned-no-look old task turn new t) p.5 x

  pub here-looked : (old : CoreView) (seen : Snapshot) (new : CoreView) → (slot < old.shape.slots → HasNewHere labels seen slot)
      → Step old (Look seen) new → HasUsed labels slot old → HasUsed labels slot new
  here-looked old seen new has step x =
      same-shape old new step.0.0
      (uses-on (core_layout old) old.shard (IsHere labels slot) slot (Look seen) has
      (world_shard old) (world_shard new) step.1 x)

  pub here-begun : (shape : Shape) (snapshot : Snapshot) (number : ℕ) (core : CoreView) → IsMade shape snapshot number core
      → BeginsHere labels shape.slots snapshot slot → HasUsed labels slot core
  here-begun shape snapshot number core made x =
      subst (λ (y : Shape). UsesOnly y.slots (IsHere labels slot) slot (world_shard core)) (sym made.geometry)
      (subst (UsesOnly shape.slots (IsHere labels slot) slot) (sym made.start) (
        λ below g u. first below g (status_of snapshot slot) refl u,
        λ token c e same. absurd (None-not_Some c e),
      ))
    where
      first : slot < shape.slots → (g : ℕ) → (status : Status) → status_of snapshot slot ≡ status → IsInUse (slot_at_start status) g → IsHere labels slot g
      first below g (InSync current) e u = subst (IsHere labels slot) (sym u) (x below (ap is_in_sync e))
      first below g Lost e u = absurd u
      first below g (Rebuilding generation reported) e u = absurd u
      first below g (Replacing old new reported) e u = absurd u

-- with more parts
pub here-more : (old new : List (ℕ × ℕ)) (slot : ℕ) (core : CoreView) → ((g : ℕ) → IsHere old slot g → IsHere new slot g) → HasUsed old slot core
    → HasUsed new slot core
here-more old new slot core more x = (λ below g u. more g (x.0 below g u), λ token c e same. more c.generation (x.1 token c e same))

-- ---- parts in a list

-- a part that is here is found
pub found-here : {D : Type 0} (parts : List (Part D)) (slot generation : ℕ) → IsHere (labels_of parts) slot generation
    → part_of parts slot generation ≢ None
found-here [] slot generation x none = let low = x.1 in absurd (omega arith)
found-here (part ∷ parts) slot generation x none = elim (cases_Bool (is_of slot generation part)) [
  | inl yes' ↦ None-not_Some part (sym none ∙ of-first part parts slot generation yes')
  | inr no' ↦ found-here parts slot generation (later no' x.0 x.1 x.2) (sym (of-behind part parts slot generation no') ∙ none)
]
  where
    own : label_of part ≡ (slot, generation) → is_of slot generation part ≡ true
    own e =
        ap (λ y. y && (part.generation == generation)) (eq-eqb part.slot slot (ap (λ (y : ℕ × ℕ). y.0) e))
        ∙ eq-eqb part.generation generation (ap (λ (y : ℕ × ℕ). y.1) e)

    later : is_of slot generation part ≡ false → (k : ℕ) → k < length (labels_of (part ∷ parts))
        → get_or (labels_of (part ∷ parts)) k (slot, generation) ≡ (slot, generation) → IsHere (labels_of parts) slot generation
    later no' zero low is = absurd (false≢true (sym no' ∙ own is))
    later no' (suc k) low is = (k, omega (arith, low), is)

-- it tells
pub tells-here : {D : Type 0} (told : D → Telling) (parts : List (Part D)) (slot generation : ℕ) → part_of parts slot generation ≢ None
    → HasPart (part_in told parts) slot generation
tells-here told [] slot generation some none = some refl
tells-here told (part ∷ parts) slot generation some none = elim (cases_Bool (is_of slot generation part)) [
  | inl yes' ↦ None-not_Some (told part.device) (sym none ∙ first-of told part parts slot generation yes')
  | inr no' ↦
      tells-here told parts slot generation (λ e. some (of-behind part parts slot generation no' ∙ e))
      (sym (behind told part parts slot generation no') ∙ none)
]

-- one that is found is here
pub placed-here : {D : Type 0} (parts : List (Part D)) (slot generation : ℕ) (o : Option ℕ) → o ≡ position (is_of slot generation) parts
    → is_some o ≡ true → IsHere (labels_of parts) slot generation
placed-here parts slot generation None e some = absurd (false≢true some)
placed-here [] slot generation (Some at) e some = absurd (None-not_Some at (sym e))
placed-here (part ∷ parts) slot generation (Some at) e some =
    let p = position-Some (is_of slot generation) (part ∷ parts) at part (sym e) in (
      at,
      (let low = p.0 in let n = length-map (part ∷ parts) label_of in omega arith),
      get_or-map label_of (part ∷ parts) at part (slot, generation) p.0 ∙ label-is (get_or (part ∷ parts) at part) slot generation p.1,
    )

pub lacks-here : {D : Type 0} (parts : List (Part D)) (slot generation : ℕ) (o : Option ℕ) → o ≡ position (is_of slot generation) parts
    → is_some o ≡ false → IsHere (labels_of parts) slot generation → ⊥
lacks-here parts slot generation None e none here = found-here parts slot generation here (none-of parts slot generation (sym e))
lacks-here parts slot generation (Some at) e none here = true≢false none

-- what is taken in is here, and what was here stays so
pub stands-here : {D : Type 0} (part : Part D) (earlier : Option (Part D)) (old new : List (ℕ × ℕ)) → StandsIn part earlier old new
    → (slot generation : ℕ) → IsHere old slot generation → IsHere new slot generation
stands-here part None old new is slot generation x =
    subst (λ (y : List (ℕ × ℕ)). IsHere y slot generation) (sym is) (Contains-append_left old (label_of part ∷ []) (slot, generation) x)
stands-here part (Some earlier) old new is slot generation x = subst (λ (y : List (ℕ × ℕ)). IsHere y slot generation) (sym is.1) x

pub there-here : {D : Type 0} (parts : List (Part D)) (slot generation : ℕ) → part_of parts slot generation ≢ None
    → IsHere (labels_of parts) slot generation
there-here [] slot generation some = absurd (some refl)
there-here (part ∷ parts) slot generation some = elim (cases_Bool (is_of slot generation part)) [
  | inl yes' ↦ (0, omega arith, label-is part slot generation yes')
  | inr no' ↦
      let rest = there-here parts slot generation (λ e. some (of-behind part parts slot generation no' ∙ e)) in
      (suc rest.0, (let low = rest.1 in omega arith), rest.2)
]

-- the part of each device is found that the shard uses
pub used-found : {D : Type 0} (parts : List (Part D)) (slot : ℕ) (core : CoreView) → HasUsed (labels_of parts) slot core → slot < core.shape.slots
    → (generation : ℕ) → IsInUse ((world_shard core).slot slot) generation → part_of parts slot generation ≢ None
used-found parts slot core x below generation u = found-here parts slot generation (x.0 below generation u)
