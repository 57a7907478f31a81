-- Without the positions of a hold's read errors three slots are out, where too few of its blocks can still become known.
use Rattle.std.proofs.Common.{◌≡◌, ◌≢◌, ◌⊎◌, ℕ, zero, suc, ◌+◌, ◌<◌, ◌≤◌, Bool, true, false, List, ◌∷◌, length, refl, sym, ap, ◌∙◌, Some, inl, inr, arith}
use Rattle.std.specs.Prelude.{◌&&◌, not, if◌then◌else◌}
use Rattle.std.proofs.lemmas.Bool.{cases_eq, false≢true}
use Rattle.r6_layout.specs.Layout.{slot_at}
use Rattle.r6_stripe.specs.Holds.{Standing, cell_at}
use Rattle.r6_stripe.specs.Holds.Standing.{InSync}
use Rattle.r6_stripe.specs.Plans.{is_in_error, is_in_sync, next}
use Rattle.r6_stripe.specs.Plans.Next.{LoseUnreadable, MoveAt}
use Rattle.r6_stripe.proofs.Counts.{losses_law_holds}
use Rattle.r6_world.specs.Tables.{count_below}
use Rattle.r6_world.specs.Layouts.{Layout}
use Rattle.r6_world.specs.Geometries.{layout_of}
use Rattle.r6_world.specs.Tasks.{Hold}
use Rattle.r6_world.specs.ShardStates.{Shard, SlotState, is_away}
use Rattle.r6_world.specs.Changes.{WouldStop, in_error_from, lost_slot, lost_slots, slots_in_error}
use Rattle.r6_world.proofs.Tables.{put-same, put-other}
use Rattle.r6_frames.specs.declared.frames.HeldRow.{HeldRow}
use Rattle.r6_frames.specs.declared.slots.Device.{Device}
use Rattle.r6_frames.specs.declared.slots.Device.TheVariants as device
use Rattle.r6_frames.specs.FramesState.{FramesState}
use Rattle.r6_frames.specs.Slots.{slot_in, state_of}
use Rattle.r6_frames.specs.Views.{Rest, hold_of, shard_with}
use Rattle.r6_frames.specs.Sound.{IsHeld, IsSound, with_target_of}
use Rattle.r6_frames.proofs.FoundRows.{counted_or, positions_out, stands_in_sync}

-- a slot that isn't out then wasn't, and has no read error among so many positions
pub stays_in : (l : Layout) (h : Hold) (s : Shard) (d at count : ℕ) → is_away ((lost_slots l s (in_error_from l h at count)).slot d) ≡ false
    → (is_away (s.slot d) ≡ false) × ((p : ℕ) → at ≤ p → p < at + count → l.slot_at h.row p ≡ d → is_in_error (cell_at h.course.cells p) ≡ false)
stays_in l h s d at zero home = (home, λ p from below same. absurd (omega arith))
stays_in l h s d at (suc count) home =
    by_error (is_in_error (cell_at h.course.cells at)) refl (stays_in l h s d (suc at) count) (stays_in l h (lost_slot l s (l.slot_at h.row at)) d (suc at) count) home
  where
    later : ((p : ℕ) → suc at ≤ p → p < suc at + count → l.slot_at h.row p ≡ d → is_in_error (cell_at h.course.cells p) ≡ false)
        → (l.slot_at h.row at ≡ d → is_in_error (cell_at h.course.cells at) ≡ false)
        → (p : ℕ) → at ≤ p → p < at + suc count → l.slot_at h.row p ≡ d → is_in_error (cell_at h.course.cells p) ≡ false
    later rest here p from below same =
        elim (cases_eq p at) [
          | inl e ↦ ap (λ (k : ℕ). is_in_error (cell_at h.course.cells k)) e ∙ here (ap (l.slot_at h.row) (sym e) ∙ same)
          | inr ne ↦ rest p (omega arith) (omega arith) same
        ]

    -- what is so of the rest, from a shard on
    RestStays : Shard → Type 0
    RestStays from = is_away ((lost_slots l from (in_error_from l h (suc at) count)).slot d) ≡ false
        → (is_away (from.slot d) ≡ false) × ((p : ℕ) → suc at ≤ p → p < suc at + count → l.slot_at h.row p ≡ d → is_in_error (cell_at h.course.cells p) ≡ false)

    by_error : (b : Bool) → is_in_error (cell_at h.course.cells at) ≡ b → RestStays s → RestStays (lost_slot l s (l.slot_at h.row at))
        → is_away ((lost_slots l s (if b then l.slot_at h.row at ∷ in_error_from l h (suc at) count else in_error_from l h (suc at) count)).slot d) ≡ false
        → (is_away (s.slot d) ≡ false) × ((p : ℕ) → at ≤ p → p < at + suc count → l.slot_at h.row p ≡ d → is_in_error (cell_at h.course.cells p) ≡ false)
    by_error false e rest lost home = let stays = rest home in (stays.0, later stays.1 (λ same. e))
    by_error true e rest lost home =
        let slot = l.slot_at h.row at in
        let stays = lost home in
        let apart : slot ≢ d = λ same. false≢true (sym stays.0 ∙ ap is_away (put-same s.slot slot SlotState.Missing d (sym same))) in (
          sym (ap is_away (put-other s.slot slot SlotState.Missing d (λ same. apart (sym same)))) ∙ stays.0,
          later stays.1 (λ same. absurd (apart same)),
        )

-- the target of a rebuild is alone only where the slot is out
target_first : (d : Device) → is_away (state_of d) ≡ false → (with_target_of d).0 ≡ InSync
target_first (device.Synced generation) is = refl
target_first device.Missing is = absurd (cc)
target_first (device.Building generation rebuilt) is = absurd (cc)
target_first (device.Doubled old new rebuilt) is = refl
target_first (device.Paired old new) is = refl

module _ (fs : FramesState) (h : HeldRow) (sound : IsSound fs) (held : IsHeld fs.geometry fs.shard fs.slots h) (rest : Rest) where
  abbrev l : Layout
  l = layout_of fs.geometry

  abbrev s : Shard
  s = shard_with rest fs

  abbrev lost : List ℕ
  lost = slots_in_error l (hold_of h)

  -- the position of a slot that isn't out then is in sync, with no read error
  sound_at : (position : ℕ) → position < fs.geometry.slots → is_away ((lost_slots l s lost).slot (slot_at fs.geometry h.row position)) ≡ false
      → (is_in_sync (cell_at h.hold.planned.hold.cells position).standing && not (is_in_error (cell_at h.hold.planned.hold.cells position))) ≡ true
  sound_at position below home =
      let cells = h.hold.planned.hold.cells in
      let stays = stays_in l (hold_of h) s (slot_at fs.geometry h.row position) 0 (length cells) home in
      let readable = stays.1 position (omega arith) (omega (arith, below, held.wide)) refl in
      let d = (slot_in fs.slots (slot_at fs.geometry h.row position)).device in
      let in_sync : (cell_at cells position).standing ≡ InSync = elim (held.standing position below) [
        | inl same ↦ ap (λ (both : Standing × Standing). both.0) same ∙ stands_in_sync d h.row stays.0
        | inr target ↦ ap (λ (both : Standing × Standing). both.0) target.0 ∙ target_first d stays.0
      ] in
      λ i. is_in_sync (in_sync i) && not (readable i)

  pub would_stop : (next h.hold.planned ≡ Some LoseUnreadable) ⊎ ((position : ℕ) × (next h.hold.planned ≡ Some (MoveAt position))) → WouldStop l s (hold_of h)
  would_stop lacks =
      let cells = h.hold.planned.hold.cells in
      let law = losses_law_holds h.hold.planned (omega (arith, held.wide, sound.shape.slots_allowed.0)) lacks in
      let all = counted_or (λ cell. is_in_sync cell.standing && not (is_in_error cell)) cells (λ position. is_away ((lost_slots l s lost).slot (slot_at fs.geometry h.row position)))
      (λ at inside home. sound_at at (omega (arith, inside, held.wide)) home) in
      let out = positions_out fs.geometry (lost_slots l s lost).slot h.row sound.shape held.own.0 in
      let same = ap (count_below (λ position. is_away ((lost_slots l s lost).slot (slot_at fs.geometry h.row position)))) held.wide in
      omega arith
