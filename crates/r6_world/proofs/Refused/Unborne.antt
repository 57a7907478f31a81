-- A loss beyond that of an error's own device comes of a row that could bear no error more.
use Rattle.std.proofs.Common.{◌≡◌, ℕ, ◌+◌, ◌≤◌, ◌⊎◌, List, [], ◌∷◌, Bool, true, false, not, ◌&&◌, if◌then◌else◌, set, length, inl, inr, refl, sym, ap, ◌∙◌, subst, arith, Option, Some, None}
use Rattle.r6_stripe.specs.Holds.{Event as HoldEvent, Cell, after_event, cell_at}
use Rattle.r6_stripe.specs.Holds.Event.{Fails, Loses, Drops, Moves}
use Rattle.r6_stripe.specs.Plans.{is_in_error, is_in_sync}
use Rattle.r6_stripe.specs.PlanLaws.{sound_count}
use Rattle.r6_stripe.proofs.CellsAfter.{width_after}
use Rattle.r6_stripe.proofs.Counts.{losses_law_holds}
use Rattle.r6_layout.specs.PlainArray.{Block}
use Rattle.r6_world.specs.Layouts.{Layout}
use Rattle.r6_world.specs.Tasks.{Hold, planned}
use Rattle.r6_world.specs.ShardStates.{Shard, SlotState}
use Rattle.r6_world.specs.Changes.{Change, Lose, Fail, Set_back, Come_home, Give_over, Move, Allowed, after, heard_of, hearing, told_hold, without}
use Rattle.r6_world.specs.Steps.{GivesOver, Leads, Completion, Good, Error, Read_error, Receipt, Taken, Late, Takes}
use Rattle.r6_world.proofs.Tables.{put-cases, not_both, Some-inj}
use Rattle.r6_world.proofs.Refused.Borne.{IsLosing, set-one, sound-failed}
use Rattle.r6_world.specs.Refusals.{HasUnborne}

-- nothing is given over, or a hold loses a device next, or the slots of its read errors
pub first-loses : (l : Layout) (n : ℕ) (changes : List Change) (s lost : Shard) → Leads l n GivesOver s changes lost
    → (lost ≡ s) ⊎ ((f : ℕ) × (h : Hold) × (s.frame f ≡ Some h) × IsLosing (planned h))
first-loses l n [] s lost e = inl e
first-loses l n (Give_over f h ∷ changes) s lost e = inr (f, h, e.1.0, inl e.1.2)
first-loses l n (Move f h slot g ∷ changes) s lost e = inr (f, h, e.1.0, inr (e.1.6, e.1.8))
first-loses l n (change ∷ changes) s lost e = absurd e.0

-- a hold had as many positions, and at most one that was sound is sound no more
abbrev WasSounder : (before later : Hold) → Type 0
WasSounder before later =
    (length later.course.cells ≡ length before.course.cells)
    × (sound_count before.course.cells ≤ sound_count later.course.cells + 1)

one-less : (h : Hold) (at : ℕ) (c : Cell) → sound_count h.course.cells ≤ sound_count (set h.course.cells at c) + 1
one-less h at c = set-one (λ cell. is_in_sync cell.standing && not (is_in_error cell)) h.course.cells at c

abbrev hears : Hold → Option HoldEvent → Hold
hears h event = let told = hearing (planned h) event in record h { course = told.hold; plan = told.plan }

hears-none : (h : Hold) → WasSounder h (hears h None)
hears-none h = (refl, omega arith)

hears-loses : (h : Hold) (at : ℕ) → WasSounder h (hears h (Some (Loses at)))
hears-loses h at = (width_after h.course (Loses at), one-less h at _)

hears-drops : (h : Hold) (at : ℕ) → WasSounder h (hears h (Some (Drops at)))
hears-drops h at = (width_after h.course (Drops at), one-less h at _)

hears-moves : (h : Hold) (at : ℕ) → WasSounder h (hears h (Some (Moves at)))
hears-moves h at = (width_after h.course (Moves at), one-less h at _)

hears-of : (h : Hold) (out has_second keeps_first keeps_second : Bool) (at : ℕ)
    → WasSounder h (hears h (if out then None else heard_of has_second keeps_first keeps_second at))
hears-of h true has_second keeps_first keeps_second at = hears-none h
hears-of h false false true keeps_second at = hears-none h
hears-of h false false false keeps_second at = hears-loses h at
hears-of h false true true true at = hears-none h
hears-of h false true true false at = hears-drops h at
hears-of h false true false true at = hears-moves h at
hears-of h false true false false at = hears-loses h at

-- it stands in the frame of one that was so
abbrev WasHeld : Shard → (f : ℕ) → Hold → Type 0
WasHeld s f later = (before : Hold) × (s.frame f ≡ Some before) × WasSounder before later

told-held : (l : Layout) (s : Shard) (slot : ℕ) (was now : SlotState) (f : ℕ) (later : Hold) (found : Option Hold) → s.frame f ≡ found
    → told_hold l slot was now found ≡ Some later → WasHeld s f later
told-held l s slot was now f later None there e = absurd (not_both None later refl e)
told-held l s slot was now f later (Some h) there e =
    (h, there, subst (WasSounder h) (Some-inj _ later e) (hears-of h _ _ _ _ (l.position h.row slot)))

lose-held : (l : Layout) (s : Shard) (slot : ℕ) (now : SlotState) (f : ℕ) (later : Hold) → told_hold l slot (s.slot slot) now (s.frame f) ≡ Some later → WasHeld s f later
lose-held l s slot now f later e = told-held l s slot (s.slot slot) now f later (s.frame f) refl e

was-held : (l : Layout) (n : ℕ) (old : Shard) (token : ℕ) (completion : Completion) (receipt : Receipt) (change : Change) → ((b : Block) → completion ≡ Good b → ⊥)
    → Takes l old token completion receipt change → Allowed l n old change → (f : ℕ) (h : Hold) → (after l old change).frame f ≡ Some h
    → WasHeld old f h
was-held l n old token Error Taken (Lose t c) is k a f h e = lose-held l old c.slot (without (old.slot c.slot) c.generation) f h e
was-held l n old token Read_error Taken (Lose t c) is k a f h e = lose-held l old c.slot (without (old.slot c.slot) c.generation) f h e
was-held l n old token Read_error Taken (Fail t c own) is k a f h e =
    elim (put-cases old.frame c.frame (Some _) f (Some h) e) [
      | inr p ↦ (h, p.1, (refl, omega arith))
      | inl p ↦ (
        own,
        ap old.frame p.0 ∙ a.2,
        subst (WasSounder own) (Some-inj _ h p.1) (width_after own.course (Fails (l.position own.row c.slot)), sound-failed own.course (l.position own.row c.slot)),
      )
    ]
was-held l n old token Read_error Taken (Set_back t c id block) is k a f h e = (h, e, (refl, omega arith))
was-held l n old token Error Late (Come_home t c) is k a f h e = (h, e, (refl, omega arith))
was-held l n old token Read_error Late (Come_home t c) is k a f h e = (h, e, (refl, omega arith))
was-held l n old token (Good b) receipt change is k a f h e = absurd (is b refl)
was-held l n old token completion receipt change is k a f h e = absurd k

-- so where a hold loses something by an error, its row had two positions out already, or in error
pub unborne : (l : Layout) (n : ℕ) (old : Shard) (token : ℕ) (completion : Completion) (receipt : Receipt) (change : Change) → ((b : Block) → completion ≡ Good b → ⊥)
    → Takes l old token completion receipt change → Allowed l n old change → (f : ℕ) (h : Hold) → (after l old change).frame f ≡ Some h
    → IsLosing (planned h) → HasUnborne old
unborne l n old token completion receipt change is k a f h there losing =
    let was = was-held l n old token completion receipt change is k a f h there in (
      f,
      was.0,
      was.1,
      λ wide.
          let same = was.2.0 in
          let one = was.2.1 in
          let three = losses_law_holds (planned h) (omega (arith, same, wide)) losing in
          omega arith,
    )
