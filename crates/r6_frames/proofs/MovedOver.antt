-- The first of two devices of an unreadable position is taken out alone, and no hold has another one to move then.
use Rattle.std.proofs.Common.{◌≡◌, ◌≢◌, ℕ, ◌<◌, Bool, ◌++◌, ◌∷◌, [], refl, sym, ap, subst, ◌∙◌, Some, None, inl, inr, arith}
use Rattle.std.specs.Prelude.{if◌then◌else◌, option_map}
use Rattle.std.proofs.lemmas.Bool.{and_parts, cases_eq, eq-eqb}
use Rattle.r6_layout.specs.Layout.{slot_at}
use Rattle.r6_layout.specs.Shape.{Shape}
use Rattle.r6_stripe.specs.Holds.{Standing, cell_at}
use Rattle.r6_stripe.specs.Holds.Standing.{InSync, Out}
use Rattle.r6_stripe.specs.Plans.{is_in_error, is_in_sync, is_unreadable, next}
use Rattle.r6_stripe.specs.Plans.Next.{MoveAt}
use Rattle.r6_stripe.proofs.Bound.{within}
use Rattle.r6_stripe.proofs.Steps.{comes, in_sync_is}
use Rattle.r6_world.specs.Changes.{HasSecondFor, taken_out}
use Rattle.r6_world.specs.Geometries.{layout_of}
use Rattle.r6_world.specs.ShardStates.{InSyncFor, LossOf, Shard, SlotState, standings_of}
use Rattle.r6_world.proofs.Geometries.{layouts}
use Rattle.r6_world.proofs.Tables.{put-other}
use Rattle.r6_frames.specs.declared.frames.HeldRow.{HeldRow}
use Rattle.r6_frames.specs.declared.rebuilt.RebuiltRows.{RebuiltRows}
use Rattle.r6_frames.specs.declared.slots.Device.{Device}
use Rattle.r6_frames.specs.declared.slots.Device.TheVariants as device
use Rattle.r6_frames.specs.FramesState.{FramesState}
use Rattle.r6_frames.specs.Calls.{MovesOver, TakesOut}
use Rattle.r6_frames.specs.Owed.{MovesUnreadable}
use Rattle.r6_frames.specs.Rebuilt.{is_rebuilt}
use Rattle.r6_frames.specs.Slots.{IsRebuiltOn, first_of, second_of, slot_in, state_of, states_of, without}
use Rattle.r6_frames.specs.Sound.{IsHeld, IsSound, with_target_of}
use Rattle.r6_frames.specs.Views.{Rest, hold_at, hold_of, shard_with, AreLive}
use Rattle.r6_frames.proofs.Devices.{AreApart, apart_of, first_for, generation_there, two_of_row}
use Rattle.r6_frames.proofs.Failing.{some_rest}
use Rattle.r6_frames.proofs.Losing.{without_single, without_state}
use Rattle.r6_frames.proofs.WouldStop.{would_stop}

-- a target isn't in sync beside another device
target_behind : (d : Device) (generation : ℕ) (rebuilt : RebuiltRows) → IsRebuiltOn d generation rebuilt → (with_target_of d).1 ≡ InSync → ⊥
target_behind (device.Synced current) generation rebuilt is same = is
target_behind device.Missing generation rebuilt is same = is
target_behind (device.Building current rows) generation rebuilt is same = cc
target_behind (device.Doubled old new rows) generation rebuilt is same = cc
target_behind (device.Paired old new) generation rebuilt is same = is

-- without the first of two devices in sync for the row, the second one is in sync for it
second_for : (d : Device) (row generation : ℕ) → standings_of (state_of d) row ≡ (InSync, InSync) → AreApart d → first_of d ≡ Some generation → HasSecondFor (state_of d) row generation
second_for (device.Synced current) row generation both apart is = absurd (let second = ap (λ (x : Standing × Standing). x.1) both in cc)
second_for device.Missing row generation both apart is = absurd (let second = ap (λ (x : Standing × Standing). x.1) both in cc)
second_for (device.Building current rebuilt) row generation both apart is = absurd (let second = ap (λ (x : Standing × Standing). x.1) both in cc)
second_for (device.Doubled old new rebuilt) row generation both apart is =
    let same : old ≡ generation = cc in
    let second = ap (λ (x : Standing × Standing). x.1) both in
    let own = (first_for (device.Building new rebuilt) row new second refl).0 in
    subst (λ (g : ℕ). HasSecondFor (state_of (device.Doubled old new rebuilt)) row g) same
    (apart, subst (λ (b : Bool). InSyncFor (if b then SlotState.Building new (is_rebuilt rebuilt) else SlotState.Synced old) row new) (sym (eq-eqb old old refl)) own)
second_for (device.Paired old new) row generation both apart is =
    let same : old ≡ generation = cc in
    subst (λ (g : ℕ). HasSecondFor (state_of (device.Paired old new)) row g) same
    (apart, subst (λ (b : Bool). InSyncFor (if b then SlotState.Synced new else SlotState.Synced old) row new) (sym (eq-eqb old old refl)) refl)

-- ---- both devices of the position are in sync for the row

module _ (fs : FramesState) (h : HeldRow) (held : IsHeld fs.geometry fs.shard fs.slots h) (position : ℕ) (moves : next h.hold.planned ≡ Some (MoveAt position)) where
  both_in_sync : ((cell_at h.hold.planned.hold.cells position).standing ≡ InSync) × ((cell_at h.hold.planned.hold.cells position).second ≡ InSync)
  both_in_sync =
      let cell = cell_at h.hold.planned.hold.cells position in
      let c = comes h.hold.planned (MoveAt position) moves in
      let parts = and_parts (is_in_error cell) (is_in_sync cell.second) c.2 in
      let error = and_parts (is_in_sync cell.standing) (is_unreadable cell.reading) parts.0 in
      (in_sync_is cell.standing error.0, in_sync_is cell.second parts.1)

  pub moving_below : position < fs.geometry.slots
  moving_below =
      let inside = within h.hold.planned.hold.cells position (λ out. let both : InSync ≡ Out = sym both_in_sync.0 ∙ out in cc) in
      omega (arith, inside, held.wide)

  pub two_in_sync : (slot : ℕ) → slot ≡ slot_at fs.geometry h.row position → standings_of (states_of fs.slots slot) h.row ≡ (InSync, InSync)
  two_in_sync slot slot_is =
      let both = both_in_sync in
      elim (held.standing position moving_below) [
        | inl same ↦ ap (λ (k : ℕ). standings_of (states_of fs.slots k) h.row) slot_is ∙ sym same ∙ (λ i. (both.0 i, both.1 i))
        | inr t ↦
            let target = t.1 in
            let there = subst (λ (k : ℕ). IsRebuiltOn (slot_in fs.slots k).device target.target.generation target.rebuilt) (sym target.slot) target.device in
            absurd (target_behind (slot_in fs.slots (slot_at fs.geometry h.row position)).device target.target.generation target.rebuilt there (sym (ap (λ (x : Standing × Standing). x.1) t.0) ∙ both.1))
      ]

  pub first_there : (slot : ℕ) → slot ≡ slot_at fs.geometry h.row position → first_of (slot_in fs.slots slot).device ≢ None
  first_there slot slot_is none =
      let there = generation_there (slot_in fs.slots slot).device h.row (ap (λ (x : Standing × Standing). x.0) (two_in_sync slot slot_is)) in
      let both = sym none ∙ there.1 in
      cc

  pub second_there : (slot : ℕ) → slot ≡ slot_at fs.geometry h.row position → (standings_of (states_of fs.slots slot) h.row).1 ≢ Out
  second_there slot slot_is out =
      let both : Out ≡ InSync = sym out ∙ ap (λ (x : Standing × Standing). x.1) (two_in_sync slot slot_is) in
      cc

-- ---- the first one is taken out

module _ (fs : FramesState) (frame : ℕ) (h : HeldRow) (sound : IsSound fs) (is : hold_at fs.uses frame ≡ Some h) (position : ℕ) (moves : next h.hold.planned ≡ Some (MoveAt position)) (slot generation : ℕ)
    (slot_is : slot ≡ slot_at fs.geometry h.row position) (first : first_of (slot_in fs.slots slot).device ≡ Some generation) (below : slot < fs.geometry.slots) (new : FramesState)
    (takes : TakesOut fs slot (without (slot_in fs.slots slot).device generation) new) where
  abbrev was : Device
  was = (slot_in fs.slots slot).device

  held : IsHeld fs.geometry fs.shard fs.slots h
  held = sound.frames.rows frame h is

  both : standings_of (states_of fs.slots slot) h.row ≡ (InSync, InSync)
  both = two_in_sync fs h held position moves slot slot_is

  apart : AreApart was
  apart = apart_of fs.geometry fs.shard was (sound.devices.each slot)

  moves_over : AreLive fs → MovesOver fs frame slot generation new
  moves_over live = (
    takes.0,
    takes.1,
    λ rest.
        let with_call : Rest = record rest { calls = rest.calls ++ LossOf slot generation ∷ [] } in (
          hold_of h,
          (
            ap (option_map hold_of) is,
            below,
            first_for was h.row generation (ap (λ (x : Standing × Standing). x.0) both) first,
            live,
            second_for was h.row generation both apart first,
            would_stop fs h sound held rest (inr (position, moves)),
            position,
            sym slot_is,
            moves,
          ),
          takes.2 with_call ∙ ap (λ (state : SlotState). taken_out (layout_of fs.geometry) (shard_with with_call fs) slot state) (without_state was generation),
        ),
    takes.3,
  )

  -- no other slot has two devices, and this one has one
  none_moves : IsSound new → (slot_in new.slots slot).device ≡ without was generation → (other : ℕ) → MovesUnreadable new other → ⊥
  none_moves sound_then device_is other more =
      let x = more.1.0 in
      let held_then = sound_then.frames.rows other x more.1.1 in
      let at = slot_at new.geometry x.row more.0 in
      let two = second_there new x held_then more.0 more.1.2 at refl in
      elim (cases_eq at slot) [
        | inl same ↦
            two_of_row (slot_in new.slots slot).device x.row (subst (λ (k : ℕ). (standings_of (states_of new.slots k) x.row).1 ≢ Out) same two)
            (ap second_of device_is ∙ without_single was generation)
        | inr ne ↦
            let state : states_of new.slots at ≡ states_of fs.slots at = ap (λ (s : Shard). s.slot at) (takes.2 some_rest) ∙ put-other (states_of fs.slots) slot (state_of (without was generation)) at ne in
            let before = subst (λ (state : SlotState). (standings_of state x.row).1 ≢ Out) state two in
            let inside = moving_below new x held_then more.0 more.1.2 in
            let bound = subst (λ (shape : Shape). at < shape.slots) takes.0 ((layouts new.geometry sound_then.shape).back x.row more.0 held_then.own.0 inside).0 in
            ne (sound.devices.one at slot bound below (two_of_row (slot_in fs.slots at).device x.row before) (two_of_row was h.row (second_there fs h held position moves slot slot_is)))
      ]

  pub moved_over : AreLive fs → IsSound new → (slot_in new.slots slot).device ≡ without was generation → MovesOver fs frame slot generation new × ((other : ℕ) → MovesUnreadable new other → ⊥)
  moved_over live sound_then device_is = (moves_over live, none_moves sound_then device_is)
