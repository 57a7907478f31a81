-- The position of a row that has a second device, while its slots are gone through.
use Rattle.std.proofs.Common.{◌≡◌, ℕ, ◌+◌, ◌<◌, Bool, true, false, Option, Some, None, sym, ap, subst, ◌∙◌, arith}
use Rattle.std.specs.Prelude.{◌&&◌, ◌||◌, is_some, if◌then◌else◌}
use borrow.Author.Count.{below_more}
use Rattle.r6_frames.specs.declared.frames.Job.{Job}
use Rattle.r6_frames.specs.FramesState.{FramesState}
use Rattle.r6_layout.specs.Layout.{slot_at}
use Rattle.r6_stripe.specs.Plans.{is_in_sync}
use Rattle.r6_world.specs.ShardStates.{standing_of}
use Rattle.r6_frames.specs.declared.slots.Device.{Device}
use Rattle.r6_frames.specs.declared.slots.Device.TheVariants.{Synced}
use Rattle.r6_frames.specs.Slots.{AreSynced, is_second_synced, second_of, slot_in, state_of}
use Rattle.r6_frames.specs.Uses.{IsSecondIn, has_second_for}
use Rattle.r6_frames.specs.Views.{is_synced_at, rebuilds}
use Rattle.r6_frames.proofs.SlotsInTurn.{slot_below}

-- a position whose slot has one device, in sync, is in sync
pub synced_here : (fs : FramesState) (row position generation : ℕ) → (slot_in fs.slots (slot_at fs.geometry row position)).device ≡ Synced generation → is_synced_at fs row position ≡ true
synced_here fs row position generation here = ap (λ (d : Device). is_in_sync (standing_of (state_of d) row)) here

-- and has no second device
pub alone_here : (fs : FramesState) (row : ℕ) (what : Job) (position generation : ℕ) → (slot_in fs.slots (slot_at fs.geometry row position)).device ≡ Synced generation → has_second_for fs row what position ≡ false
alone_here fs row what position generation here =
    ap (λ (d : Device). is_some (second_of d) && (is_second_synced d row || rebuilds what (slot_at fs.geometry row position))) here

-- where each slot has one, so has each position's
all_here : (fs : FramesState) (row position : ℕ) → 0 < fs.geometry.slots → AreSynced fs.geometry.slots fs.slots → (generation : ℕ) × ((slot_in fs.slots (slot_at fs.geometry row position)).device ≡ Synced generation)
all_here fs row position some synced = synced (slot_at fs.geometry row position) (slot_below fs.geometry some row position)

pub all_synced : (fs : FramesState) (row position : ℕ) → 0 < fs.geometry.slots → AreSynced fs.geometry.slots fs.slots → is_synced_at fs row position ≡ true
all_synced fs row position some synced = let here = all_here fs row position some synced in synced_here fs row position here.0 here.1

pub none_found : (fs : FramesState) (row : ℕ) (what : Job) → 0 < fs.geometry.slots → AreSynced fs.geometry.slots fs.slots → IsSecondIn fs row what None
none_found fs row what some synced = λ position _. let here = all_here fs row position some synced in alone_here fs row what position here.0 here.1

-- of the first so many positions this one has one for the job, or none
abbrev pub FoundBelow : FramesState → (row : ℕ) → Job → (count : ℕ) → Option ℕ → Type 0
FoundBelow fs row what count None = (q : ℕ) → q < count → has_second_for fs row what q ≡ false
FoundBelow fs row what count (Some p) = (p < count) × (has_second_for fs row what p ≡ true)

pub found_all : (fs : FramesState) (row : ℕ) (what : Job) (count : ℕ) (o : Option ℕ) → count ≡ fs.geometry.slots → FoundBelow fs row what count o → IsSecondIn fs row what o
found_all fs row what count None all found = λ q below. found q (omega arith)
found_all fs row what count (Some p) all found = let below = found.0 in (omega arith, found.1)

-- the next one has none
pub found_same : (fs : FramesState) (row : ℕ) (what : Job) (count : ℕ) (o : Option ℕ) → has_second_for fs row what count ≡ false → FoundBelow fs row what count o → FoundBelow fs row what (count + 1) o
found_same fs row what count None none found = λ q. below_more (λ q. has_second_for fs row what q ≡ false) count found none q
found_same fs row what count (Some p) none found = let below = found.0 in (omega arith, found.1)

pub found_next : (fs : FramesState) (row : ℕ) (what : Job) (at slot : ℕ) (there : Bool) (o result : Option ℕ) → slot ≡ slot_at fs.geometry row at
    → there ≡ (is_some (second_of (slot_in fs.slots slot).device) && (is_second_synced (slot_in fs.slots slot).device row || rebuilds what slot))
    → result ≡ (if there then Some at else o) → FoundBelow fs row what at o → FoundBelow fs row what (at + 1) result
found_next fs row what at slot there o result slot_is is result_is found = by_there there is result_is
  where
    has_is : (is_some (second_of (slot_in fs.slots slot).device) && (is_second_synced (slot_in fs.slots slot).device row || rebuilds what slot)) ≡ has_second_for fs row what at
    has_is = ap (λ (s : ℕ). is_some (second_of (slot_in fs.slots s).device) && (is_second_synced (slot_in fs.slots s).device row || rebuilds what s)) slot_is

    by_there : (b : Bool) → b ≡ (is_some (second_of (slot_in fs.slots slot).device) && (is_second_synced (slot_in fs.slots slot).device row || rebuilds what slot)) → result ≡ (if b then Some at else o)
        → FoundBelow fs row what (at + 1) result
    by_there true has e = subst (λ (r : Option ℕ). FoundBelow fs row what (at + 1) r) (sym e) (omega arith, sym (has ∙ has_is))
    by_there false has e = subst (λ (r : Option ℕ). FoundBelow fs row what (at + 1) r) (sym e) (found_same fs row what at o (sym (has ∙ has_is)) found)
