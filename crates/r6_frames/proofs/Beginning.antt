-- A hold that begins on a row in a free frame.
use Rattle.std.proofs.Common.{◌≡◌, ◌≢◌, ◌⊎◌, ℕ, zero, suc, ◌+◌, ◌*◌, ◌<◌, ◌≤◌, Bool, true, false, cond, Option, List, [], ◌∷◌, ◌++◌, length, map, set, take, get_or, slice_index_or, refl, sym, ap, subst, ◌∙◌, Some, None, inl, inr, arith, add-one}
use Rattle.std.specs.Prelude.{not, nat_eq, ◌&&◌, ◌||◌, is_some, option_map, IfSome}
use Rattle.std.proofs.lemmas.Bool.{and_parts, cases_Bool, cases_eq, cases_lt, eq-eqb, eqb-true, false≢true, lt-ltb, ne_eqb, or_cases, or_parts}
use Rattle.std.proofs.lemmas.List.{ext_get_or, take_all, length-set, length-map, take_more, get_or-map, get_or-set_same, get_or-set_other, get_or_past, set-get_or}
use Rattle.r6_layout.specs.Shape.{Shape, IsShape}
use Rattle.r6_layout.specs.Layout as layout
use Rattle.r6_stripe.specs.Frames as buffers
use Rattle.r6_stripe.proofs.Bound.{to_come-le}
use Rattle.r6_stripe.specs.Holds.{Cell, Kind, Standing, Hold, Event, cell_at, no_cell, standing_cell, targeted, resting, with_target, MayBegin}
use Rattle.r6_stripe.specs.Holds.Standing.{InSync, Target, Out}
use Rattle.r6_stripe.proofs.Course.{begun_unread, begun_width}
use Rattle.r6_stripe.specs.Masks.{flags_of, has}
use Rattle.r6_stripe.specs.declared.mask.Mask.{Mask}
use Rattle.r6_stripe.proofs.BegunMasks.{flags_of_at, length-flags_of}
use Rattle.r6_stripe.specs.Plans.{AreSilent, IsPlanned, Planned, is_in_sync, is_sent, is_met, is_over, planned_at, planned_first}
use Rattle.r6_stripe.specs.Steps.{Held, standing_if, alone_if, but_target, second_at_rest, is_away}
use Rattle.r6_stripe.specs.Views.{kind_of_task}
use Rattle.r6_stripe.specs.Sound.{IsTask}
use Rattle.r6_stripe.specs.declared.command.RowTask.{RowTask}
use Rattle.r6_world.specs.Tables.{put}
use Rattle.r6_world.specs.Layouts.{first}
use Rattle.r6_world.specs.Geometries.{layout_of}
use Rattle.r6_world.specs.Tasks.{Task, kind_of}
use Rattle.r6_world.specs.ShardStates.{generation_in, SlotState, begun, found, frames, second_in, standing_of, standings_of}
use Rattle.r6_world.proofs.Cells.{found-long}
use Rattle.r6_world.proofs.Geometries.{layouts}
use Rattle.r6_world.proofs.Uses as any_use
use Rattle.r6_world.proofs.FullRows.{length-first, first-at}
use Rattle.r6_frames.specs.declared.command.Outstanding.{Outstanding}
use Rattle.r6_frames.specs.declared.rebuilt.RebuiltRows.{RebuiltRows}
use Rattle.r6_frames.specs.declared.slots.Device.{Device}
use Rattle.r6_frames.specs.declared.slots.Device.TheVariants as device
use Rattle.r6_frames.specs.declared.frames.Job.{Job}
use Rattle.r6_frames.specs.declared.frames.Job.TheVariants as job
use Rattle.r6_frames.specs.declared.frames.HeldRow.{HeldRow}
use Rattle.r6_frames.specs.declared.frames.FrameUse.{FrameUse}
use Rattle.r6_frames.specs.declared.frames.FrameUse.TheVariants.{Free, Held as HeldIn, Returning}
use Rattle.r6_frames.specs.FramesState.{FramesState}
use Rattle.r6_frames.specs.Rebuilt.{is_rebuilt}
use Rattle.r6_frames.specs.Slots.{IsOneDoubled, IsRebuiltOn, is_second_synced, second_of, slot_in, state_of, states_of}
use Rattle.r6_frames.specs.declared.successor.Successor.{Successor}
use Rattle.r6_frames.specs.Successors.{beside_in, is_own}
use Rattle.r6_frames.proofs.Devices.{apart_of, different}
use Rattle.r6_frames.specs.Views.{kind_in, is_rebuild, outstanding, rebuilds, task_by, use_at, row_in, hold_at, hold_of, Rest, shard_with, is_synced_at, AreLive}
use Rattle.r6_frames.specs.Calls.{Holds, IsFreeFrame, KeepsDirects, KeepsOthers, KeepsSlots, NotHeldBy}
use Rattle.r6_frames.specs.Owed.{owed_by, owed_in, IsUnmet, OwesCommands}
use Rattle.r6_frames.specs.Sound.{IsDeviceOf, buffer_of, buffers_away, is_buffer_away, is_put_out, is_away_from, count_home, home_in, count_free, successor_in, with_target_of, IsHeld, IsJob, IsSuccessorOf, IsTargetAt, AreApart, AreFrames, AreCommands, IsSound, MayHold}
use Rattle.r6_frames.specs.Uses.{IsForRow, IsSecondIn, begun_hold, begun_successor, has_second_for, second_on, successor_of, synced, begun_row, HasSecondAt}
use Rattle.r6_frames.proofs.BegunOwes.{begun_owes_commands}
use Rattle.r6_frames.proofs.FoundRows.{found-at, found-rests}
use Rattle.r6_frames.proofs.SlotsInTurn.{slot_right, some_slots}
use Rattle.r6_frames.proofs.Held.{use_at_own, use_at_other, apart_put, frame_put, owed_at, owed_set, home_at, home_set, free_at, free_set}

-- ---- the row as the hold finds it

-- the first entries of a list, by what each is
pub taken : {A : Type 0} (n : ℕ) (xs : List A) (f : ℕ → A) (none : A) → n ≤ length xs → ((at : ℕ) → at < n → get_or xs at none ≡ f at) → take n xs ≡ first n f
taken zero xs f none long are = refl
taken (suc n) xs f none long are =
    ap (λ (k : ℕ). take k xs) (sym (add-one n)) ∙ take_more xs n none (omega arith)
    ∙ ap (λ rest. rest ++ get_or xs n none ∷ []) (taken n xs f none (omega arith) (λ at below. are at (omega arith)))
    ∙ ap (λ x. first n f ++ x ∷ []) (are n (omega arith))

-- the flags of a mask, by what it has
pub flags : (n : ℕ) (mask : Mask) (f : ℕ → Bool) → ((at : ℕ) → at < n → has mask at ≡ f at) → flags_of n mask ≡ first n f
flags n mask f are =
    let long : length (flags_of n mask) ≡ n = length-flags_of n mask in
    sym (take_all n (flags_of n mask) (omega arith)) ∙ taken n (flags_of n mask) f false (omega arith)
    (λ at below. flags_of_at n mask at ∙ ap (λ (b : Bool). b && has mask at) (lt-ltb at n below) ∙ are at below)

stands : (state : SlotState) (row : ℕ) → standing_if (is_in_sync (standing_of state row)) ≡ standing_of state row
stands state row = elim (any_use.stands-in-or-out false state row) [
  | inl in_sync ↦ ap (λ (s : Standing). standing_if (is_in_sync s)) in_sync ∙ sym in_sync
  | inr out ↦ ap (λ (s : Standing). standing_if (is_in_sync s)) out ∙ sym out
]

abbrev pub found_in : FramesState → ℕ → Hold
found_in fs row = found (layout_of fs.geometry) (states_of fs.slots) row

abbrev device_at : FramesState → (row position : ℕ) → Device
device_at fs row position = (slot_in fs.slots (layout.slot_at fs.geometry row position)).device

-- which positions are in sync, a rebuild's target not among them
but_at : (kind : Kind) (xs : List Bool) (q : ℕ) (b : Bool) → get_or xs q false ≡ b → (kind ≡ Kind.Rebuild q → b ≡ false) → get_or (but_target kind xs) q false ≡ b
but_at Kind.Idle xs q b is out = is
but_at (Kind.Read index) xs q b is out = is
but_at (Kind.Write batch) xs q b is out = is
but_at (Kind.Rebuild target) xs q b is out =
    elim (cases_eq q target) [
      | inl e ↦
          let none : get_or xs target false ≡ false = ap (λ (k : ℕ). get_or xs k false) (sym e) ∙ is ∙ out (ap Kind.Rebuild (sym e)) in
          ap (λ (ys : List Bool). get_or ys q false) (ap (λ (v : Bool). set xs target v) (sym none) ∙ set-get_or xs target false) ∙ is
      | inr ne ↦ get_or-set_other xs target q false false ne ∙ is
    ]
but_at Kind.Check xs q b is out = is
but_at Kind.Repair xs q b is out = is

length-but : (kind : Kind) (xs : List Bool) → length (but_target kind xs) ≡ length xs
length-but Kind.Idle xs = refl
length-but (Kind.Read index) xs = refl
length-but (Kind.Write batch) xs = refl
length-but (Kind.Rebuild target) xs = length-set xs target false
length-but Kind.Check xs = refl
length-but Kind.Repair xs = refl

-- a slot with one device in sync for the row at most
standings_one : (d : Device) (row : ℕ) → is_second_synced d row ≡ false → standings_of (state_of d) row ≡ (standing_of (state_of d) row, Out)
standings_one (device.Synced generation) row none = refl
standings_one device.Missing row none = refl
standings_one (device.Building generation rebuilt) row none = refl
standings_one (device.Doubled old new rebuilt) row none = ap (λ (b : Bool). (InSync, cond b InSync Out)) none
standings_one (device.Paired old new) row none = absurd (cc)

-- and with two
standings_two : (d : Device) (row : ℕ) → second_of d ≢ None → standings_of (state_of d) row ≡ (InSync, cond (is_second_synced d row) InSync Out)
standings_two (device.Synced generation) row two = absurd (two refl)
standings_two device.Missing row two = absurd (two refl)
standings_two (device.Building generation rebuilt) row two = absurd (two refl)
standings_two (device.Doubled old new rebuilt) row two = refl
standings_two (device.Paired old new) row two = refl

some_second : (d : Device) → is_some (second_of d) ≡ true → second_of d ≢ None
some_second d some none = false≢true (sym (ap is_some none) ∙ some)

single_unsynced : (d : Device) (row : ℕ) → is_some (second_of d) ≡ false → is_second_synced d row ≡ false
single_unsynced (device.Synced generation) row single = refl
single_unsynced device.Missing row single = refl
single_unsynced (device.Building generation rebuilt) row single = refl
single_unsynced (device.Doubled old new rebuilt) row single = absurd (cc)
single_unsynced (device.Paired old new) row single = absurd (cc)

-- a new device alone on which the row isn't rebuilt is out for it
target_out : (d : Device) (row generation : ℕ) (rebuilt : RebuiltRows) → IsRebuiltOn d generation rebuilt → is_rebuilt rebuilt row ≡ false → is_some (second_of d) ≡ false
    → is_in_sync (standing_of (state_of d) row) ≡ false
target_out (device.Synced current) row generation rebuilt is unbuilt single = absurd is
target_out device.Missing row generation rebuilt is unbuilt single = absurd is
target_out (device.Building current rows) row generation rebuilt is unbuilt single =
    ap (λ (b : Bool). is_in_sync (cond b InSync Out)) (ap (λ (r : RebuiltRows). is_rebuilt r row) (sym is.1) ∙ unbuilt)
target_out (device.Doubled old new rows) row generation rebuilt is unbuilt single = absurd (cc)
target_out (device.Paired old new) row generation rebuilt is unbuilt single = absurd is

-- ---- what a hold begins with

none_away : (in_sync : List Bool) (position : ℕ) → slice_index_or (map (λ b. false) in_sync) position false ≡ false
none_away [] position = refl
none_away (b ∷ in_sync) zero = refl
none_away (b ∷ in_sync) (suc position) = none_away in_sync position

-- ---- the row that is held

-- the row as the code makes it
pub begun_as : (fs : FramesState) (row first size : ℕ) (in_sync : List Bool) (what : Job) (task : RowTask) (second : Option ℕ) (hold : Held) (other : Successor) (has_target : Bool) → IsShape fs.geometry
    → first ≡ layout.slot_at fs.geometry row 0 → size ≡ fs.geometry.block → in_sync ≡ synced fs row → hold ≡ begun_hold size in_sync (kind_of_task task) second
    → other ≡ successor_of fs first second → has_target ≡ is_rebuild what
    → record { row = row; first_slot = first; job = what; hold = hold; successor = other; has_target = has_target } ≡ begun_row fs row what task second
begun_as fs row first size in_sync what task second hold other has_target shape first_is size_is sync_is hold_is other_is target_is =
    let same_hold : hold ≡ begun_hold fs.geometry.block (synced fs row) (kind_of_task task) second = hold_is ∙ (λ i. begun_hold (size_is i) (sync_is i) (kind_of_task task) second) in
    let same_other = other_is ∙ by_second second in
    λ i. record { row = row; first_slot = first_is i; job = what; hold = same_hold i; successor = same_other i; has_target = target_is i }
  where
    by_second : (o : Option ℕ) → successor_of fs first o ≡ begun_successor fs row o
    by_second None = refl
    by_second (Some position) = ap (λ (s : ℕ). second_on fs s) (slot_right fs.geometry (some_slots shape) row first position first_is)

-- the position that was found has a second device
found_two : (fs : FramesState) (row p : ℕ) (what : Job) → has_second_for fs row what p ≡ true → second_of (device_at fs row p) ≢ None
found_two fs row p what has = some_second (device_at fs row p) (and_parts (is_some (second_of (device_at fs row p))) (is_second_synced (device_at fs row p) row || rebuilds what (layout.slot_at fs.geometry row p)) has).0

pub successor_may : (fs : FramesState) (row first : ℕ) (what : Job) (second : Option ℕ) → IsShape fs.geometry → first ≡ layout.slot_at fs.geometry row 0 → IsSecondIn fs row what second → IfSome second (HasSecondAt fs first)
successor_may fs row first what None shape first_is is = tt
successor_may fs row first what (Some p) shape first_is is =
    (is.0, subst (λ (s : ℕ). second_of (slot_in fs.slots s).device ≢ None) (sym (slot_right fs.geometry (some_slots shape) row first p first_is)) (found_two fs row p what is.1))

pub start_may : (fs : FramesState) (row count : ℕ) (in_sync : Mask) (what : Job) (second : Option ℕ) → count ≡ fs.geometry.slots → ((q : ℕ) → q < fs.geometry.slots → has in_sync q ≡ is_synced_at fs row q) → IsSecondIn fs row what second
    → IfSome second (λ position. (position < count) × (has in_sync position ≡ true))
start_may fs row count in_sync what None count_is are is = tt
start_may fs row count in_sync what (Some p) count_is are is =
    let below = is.0 in
    (omega arith, are p is.0 ∙ ap (λ (s : Standing × Standing). is_in_sync s.0) (standings_two (device_at fs row p) row (found_two fs row p what is.1)))

-- the hold may take the task in this frame of buffers
pub fits_as : (shape : Shape) (frame : buffers.Shape) (task : RowTask) → IsForRow shape frame → IsTask shape.slots shape.block (Some task) → IsTask frame.count frame.size (Some task)
fits_as shape frame task is fits = subst (λ (f : buffers.Shape). IsTask f.count f.size (Some task)) (sym is) fits

module _ (fs : FramesState) (row : ℕ) (what : Job) (task : RowTask) (second : Option ℕ) where
  abbrev kind : Kind
  kind = kind_of_task task

  abbrev begun_with : HeldRow
  begun_with = begun_row fs row what task second

  wide_in : length (synced fs row) ≡ fs.geometry.slots
  wide_in = length-first fs.geometry.slots (is_synced_at fs row)

  none_out : (o : Option ℕ) → (begun_hold fs.geometry.block (synced fs row) kind o).away ≡ map (λ b. false) (synced fs row)
  none_out None = refl
  none_out (Some position) = refl

  none_apart : (o : Option ℕ) → (begun_hold fs.geometry.block (synced fs row) kind o).second_away ≡ false
  none_apart None = refl
  none_apart (Some position) = refl

  at_home : (position : ℕ) → is_away begun_with.hold position ≡ false
  at_home position = ap (λ (away : List Bool). slice_index_or away position false) (none_out second) ∙ none_away (synced fs row) position

  buffers_home : (buffer : ℕ) → is_buffer_away begun_with.hold buffer ≡ false
  buffers_home buffer =
      (λ i. slice_index_or (none_out second i ++ none_apart second i ∷ []) buffer false) ∙ none_away_more (synced fs row) buffer
    where
      none_away_more : (in_sync : List Bool) (b : ℕ) → slice_index_or (map (λ x. false) in_sync ++ false ∷ []) b false ≡ false
      none_away_more [] zero = refl
      none_away_more [] (suc b) = refl
      none_away_more (x ∷ in_sync) zero = refl
      none_away_more (x ∷ in_sync) (suc b) = none_away_more in_sync b

  home_in_row : count_home (buffers_away begun_with.hold) ≡ fs.geometry.slots + 1
  home_in_row = (λ i. count_home (none_out second i ++ none_apart second i ∷ [])) ∙ all_home_more (synced fs row) ∙ ap (λ (n : ℕ). n + 1) wide_in
    where
      all_home_more : (in_sync : List Bool) → count_home (map (λ b. false) in_sync ++ false ∷ []) ≡ length in_sync + 1
      all_home_more [] = refl
      all_home_more (b ∷ in_sync) = omega (arith, all_home_more in_sync)

  module _ (shape : IsShape fs.geometry) (devices : (slot : ℕ) → IsDeviceOf (layout_of fs.geometry) fs.shard (slot_in fs.slots slot).device) (one : IsOneDoubled fs.geometry.slots fs.slots) (may : MayHold fs row what task) (is : IsSecondIn fs row what second) where
    -- only the position that was found has a second device for the job
    abbrev IsOther : ℕ → Type 0
    IsOther q = second ≢ Some q

    slot_apart : (q p : ℕ) → q < fs.geometry.slots → p < fs.geometry.slots → layout.slot_at fs.geometry row q ≡ layout.slot_at fs.geometry row p → q ≡ p
    slot_apart q p below inside same =
        sym ((layouts fs.geometry shape).back row q may.own.0 below).1 ∙ ap (layout.position_at fs.geometry row) same ∙ ((layouts fs.geometry shape).back row p may.own.0 inside).1

    no_second : (q : ℕ) → q < fs.geometry.slots → IsOther q → has_second_for fs row what q ≡ false
    no_second q below other = by_second second refl is
      where
        by_second : (o : Option ℕ) → second ≡ o → IsSecondIn fs row what o → has_second_for fs row what q ≡ false
        by_second None e none = none q below
        by_second (Some p) e there = elim (cases_Bool (is_some (second_of (device_at fs row q)))) [
          | inl some ↦
              let slots_same = one (layout.slot_at fs.geometry row q) (layout.slot_at fs.geometry row p) ((layouts fs.geometry shape).back row q may.own.0 below).0 ((layouts fs.geometry shape).back row p may.own.0 there.0).0 (some_second (device_at fs row q) some)
              (some_second (device_at fs row p) (and_parts (is_some (second_of (device_at fs row p))) (is_second_synced (device_at fs row p) row || rebuilds what (layout.slot_at fs.geometry row p)) there.1).0) in
              absurd (other (e ∙ ap (λ (k : ℕ). Some k) (sym (slot_apart q p below there.0 slots_same))))
          | inr single ↦ ap (λ (b : Bool). b && (is_second_synced (device_at fs row q) row || rebuilds what (layout.slot_at fs.geometry row q))) single
        ]

    unsynced : (q : ℕ) → q < fs.geometry.slots → IsOther q → is_second_synced (device_at fs row q) row ≡ false
    unsynced q below other = elim (cases_Bool (is_some (second_of (device_at fs row q)))) [
      | inl some ↦
          let none = ap (λ (b : Bool). b && (is_second_synced (device_at fs row q) row || rebuilds what (layout.slot_at fs.geometry row q))) (sym some) ∙ no_second q below other in
          (or_parts (is_second_synced (device_at fs row q) row) (rebuilds what (layout.slot_at fs.geometry row q)) none).0
      | inr single ↦ single_unsynced (device_at fs row q) row single
    ]

    target_at : (q : ℕ) → kind ≡ Kind.Rebuild q → IsTargetAt fs.geometry fs.slots row what q
    target_at q kind_is = elim may.targets [
      | inl none ↦ absurd (none q kind_is)
      | inr t ↦ let same : t.0 ≡ q = rebuild_inj t.0 q (sym t.2 ∙ kind_is) in subst (IsTargetAt fs.geometry fs.slots row what) same t.3
    ]
      where
        rebuild_inj : (a b : ℕ) → Kind.Rebuild a ≡ Kind.Rebuild b → a ≡ b
        rebuild_inj a b e = cc

    rebuilds_there : (q : ℕ) → IsTargetAt fs.geometry fs.slots row what q → rebuilds what (layout.slot_at fs.geometry row q) ≡ true
    rebuilds_there q t = ap (λ (w : Job). rebuilds w (layout.slot_at fs.geometry row q)) t.job ∙ eq-eqb t.target.slot (layout.slot_at fs.geometry row q) (sym t.slot)

    -- a target elsewhere is alone in its slot
    target_single : (q : ℕ) → q < fs.geometry.slots → IsOther q → IsTargetAt fs.geometry fs.slots row what q → is_some (second_of (device_at fs row q)) ≡ false
    target_single q below other t = elim (cases_Bool (is_some (second_of (device_at fs row q)))) [
      | inl some ↦
          let none = ap (λ (b : Bool). b && (is_second_synced (device_at fs row q) row || rebuilds what (layout.slot_at fs.geometry row q))) (sym some) ∙ no_second q below other in
          absurd (false≢true (sym (or_parts (is_second_synced (device_at fs row q) row) (rebuilds what (layout.slot_at fs.geometry row q)) none).1 ∙ rebuilds_there q t))
      | inr single ↦ single
    ]

    target_unsynced : (q : ℕ) → q < fs.geometry.slots → IsOther q → kind ≡ Kind.Rebuild q → is_synced_at fs row q ≡ false
    target_unsynced q below other kind_is =
        let t = target_at q kind_is in
        target_out (device_at fs row q) row t.target.generation t.rebuilt (subst (λ (s : ℕ). IsRebuiltOn (slot_in fs.slots s).device t.target.generation t.rebuilt) (sym t.slot) t.device) t.unbuilt (target_single q below other t)

    -- each position as the code takes it stands as its slot does
    as_found : (q : ℕ) → q < fs.geometry.slots → IsOther q → alone_if (get_or (but_target kind (synced fs row)) q false) ≡ standings_of (states_of fs.slots (layout.slot_at fs.geometry row q)) row
    as_found q below other =
        ap alone_if (but_at kind (synced fs row) q (is_synced_at fs row q) (first-at fs.geometry.slots (is_synced_at fs row) false q below) (target_unsynced q below other))
        ∙ ap (λ (s : Standing). (s, Out)) (stands (states_of fs.slots (layout.slot_at fs.geometry row q)) row)
        ∙ sym (standings_one (device_at fs row q) row (unsynced q below other))

    -- and so does the one with a second device
    as_beside : (p : ℕ) → p < fs.geometry.slots → has_second_for fs row what p ≡ true → (InSync, second_at_rest kind p) ≡ standings_of (states_of fs.slots (layout.slot_at fs.geometry row p)) row
    as_beside p below has =
        let parts = and_parts (is_some (second_of (device_at fs row p))) (is_second_synced (device_at fs row p) row || rebuilds what (layout.slot_at fs.geometry row p)) has in
        let two = some_second (device_at fs row p) parts.0 in
        ap (λ (s : Standing). (InSync, s)) (at_rest kind refl parts.1) ∙ sym (standings_two (device_at fs row p) row two)
      where
        synced_if : (b : Bool) → is_second_synced (device_at fs row p) row ≡ b → cond b InSync Out ≡ cond (is_second_synced (device_at fs row p) row) InSync Out
        synced_if b e = ap (λ (x : Bool). cond x InSync Out) (sym e)

        -- what isn't rebuilt there is in sync there
        not_rebuilt : (k : Kind) → kind ≡ k → ((q : ℕ) → k ≡ Kind.Rebuild q → q ≢ p) → (is_second_synced (device_at fs row p) row || rebuilds what (layout.slot_at fs.geometry row p)) ≡ true
            → InSync ≡ cond (is_second_synced (device_at fs row p) row) InSync Out
        not_rebuilt k e ne either = elim (or_cases (is_second_synced (device_at fs row p) row) (rebuilds what (layout.slot_at fs.geometry row p)) either) [
          | inl synced_is ↦ synced_if true synced_is
          | inr mine ↦ absurd (by_job what refl mine may.job)
        ]
          where
            by_job : (w : Job) → what ≡ w → rebuilds w (layout.slot_at fs.geometry row p) ≡ true → IsJob fs.geometry row w kind → ⊥
            by_job (job.Read served buffer) is_w mine j = false≢true mine
            by_job (job.Write served) is_w mine j = false≢true mine
            by_job (job.Scrub scrub) is_w mine j = false≢true mine
            by_job (job.Rebuild target) is_w mine j =
                ne (layout.position_at fs.geometry row target.slot) (sym e ∙ j.1)
                (ap (layout.position_at fs.geometry row) (eqb-true target.slot (layout.slot_at fs.geometry row p) mine) ∙ ((layouts fs.geometry shape).back row p may.own.0 below).1)

        at_rest : (k : Kind) → kind ≡ k → (is_second_synced (device_at fs row p) row || rebuilds what (layout.slot_at fs.geometry row p)) ≡ true
            → second_at_rest k p ≡ cond (is_second_synced (device_at fs row p) row) InSync Out
        at_rest Kind.Idle e either = not_rebuilt Kind.Idle e (λ q same. absurd (cc)) either
        at_rest (Kind.Read index) e either = not_rebuilt (Kind.Read index) e (λ q same. absurd (cc)) either
        at_rest (Kind.Write batch) e either = not_rebuilt (Kind.Write batch) e (λ q same. absurd (cc)) either
        at_rest (Kind.Rebuild target) e either = elim (cases_eq target p) [
          | inl same ↦
              let t = target_at p (e ∙ ap Kind.Rebuild same) in
              ap (λ (b : Bool). cond b Out InSync) (eq-eqb target p same)
              ∙ synced_if false (own_unsynced (device_at fs row p) t.target.generation t.rebuilt (subst (λ (s : ℕ). IsRebuiltOn (slot_in fs.slots s).device t.target.generation t.rebuilt) (sym t.slot) t.device) t.unbuilt)
          | inr ne ↦
              ap (λ (b : Bool). cond b Out InSync) (ne_eqb target p ne)
              ∙ not_rebuilt (Kind.Rebuild target) e (λ q same is_p. ne (let inj : target ≡ q = cc in inj ∙ is_p)) either
        ]
          where
            own_unsynced : (d : Device) (generation : ℕ) (rebuilt : RebuiltRows) → IsRebuiltOn d generation rebuilt → is_rebuilt rebuilt row ≡ false → is_second_synced d row ≡ false
            own_unsynced (device.Synced current) generation rebuilt on unbuilt = absurd on
            own_unsynced device.Missing generation rebuilt on unbuilt = absurd on
            own_unsynced (device.Building current rows) generation rebuilt on unbuilt = refl
            own_unsynced (device.Doubled old new rows) generation rebuilt on unbuilt = ap (λ (r : RebuiltRows). is_rebuilt r row) (sym on.1) ∙ unbuilt
            own_unsynced (device.Paired old new) generation rebuilt on unbuilt = absurd on
        at_rest Kind.Check e either = not_rebuilt Kind.Check e (λ q same. absurd (cc)) either
        at_rest Kind.Repair e either = not_rebuilt Kind.Repair e (λ q same. absurd (cc)) either

    abbrev standings_found : List (Standing × Standing)
    standings_found = first fs.geometry.slots (λ at. standings_of (states_of fs.slots (layout.slot_at fs.geometry row at)) row)

    wide_alone : length (map alone_if (but_target kind (synced fs row))) ≡ fs.geometry.slots
    wide_alone = length-map (but_target kind (synced fs row)) alone_if ∙ length-but kind (synced fs row) ∙ wide_in

    alone_at : (q : ℕ) → q < fs.geometry.slots → get_or (map alone_if (but_target kind (synced fs row))) q (Out, Out) ≡ alone_if (get_or (but_target kind (synced fs row)) q false)
    alone_at q below = get_or-map alone_if (but_target kind (synced fs row)) q false (Out, Out) (omega (arith, length-but kind (synced fs row), wide_in))

    planned_is : begun_with.hold.planned ≡ planned_first (found_in fs row) kind
    planned_is = by_second second refl is
      where
        wide_found : length standings_found ≡ fs.geometry.slots
        wide_found = length-first fs.geometry.slots (λ at. standings_of (states_of fs.slots (layout.slot_at fs.geometry row at)) row)

        found_at : (q : ℕ) → q < fs.geometry.slots → get_or standings_found q (Out, Out) ≡ standings_of (states_of fs.slots (layout.slot_at fs.geometry row q)) row
        found_at q below = first-at fs.geometry.slots (λ at. standings_of (states_of fs.slots (layout.slot_at fs.geometry row at)) row) (Out, Out) q below

        by_second : (o : Option ℕ) → second ≡ o → IsSecondIn fs row what o → (begun_hold fs.geometry.block (synced fs row) kind o).planned ≡ planned_first (found_in fs row) kind
        by_second None e none =
            ap (λ (standings : List (Standing × Standing)). planned_first (resting fs.geometry.block standings) kind)
            (ext_get_or (Out, Out) (map alone_if (but_target kind (synced fs row))) standings_found (wide_alone ∙ sym wide_found)
            (λ q inside. let below : q < fs.geometry.slots = omega (arith, inside, wide_alone) in
            alone_at q below ∙ as_found q below (λ same. let both : None ≡ Some q = sym e ∙ same in cc) ∙ sym (found_at q below)))
        by_second (Some p) e there =
            let v : Standing × Standing = (InSync, second_at_rest kind p) in
            let few = map alone_if (but_target kind (synced fs row)) in
            ap (λ (standings : List (Standing × Standing)). planned_first (resting fs.geometry.block standings) kind)
            (ext_get_or (Out, Out) (set few p v) standings_found (length-set few p v ∙ wide_alone ∙ sym wide_found)
            (λ q inside. let below : q < fs.geometry.slots = omega (arith, inside, wide_alone, length-set few p v) in
            elim (cases_eq q p) [
              | inl same ↦
                  ap (λ (k : ℕ). get_or (set few p v) k (Out, Out)) same ∙ get_or-set_same few p v (Out, Out) (omega (arith, there.0, wide_alone)) ∙ as_beside p there.0 there.1
                  ∙ sym (found_at p there.0) ∙ ap (λ (k : ℕ). get_or standings_found k (Out, Out)) (sym same)
              | inr ne ↦
                  get_or-set_other few p q v (Out, Out) ne ∙ alone_at q below
                  ∙ as_found q below (λ same. let both : Some p ≡ Some q = sym e ∙ same in let inj : p ≡ q = cc in ne (sym inj)) ∙ sym (found_at q below)
            ]))

    -- it is the hold that the rules begin
    pub hold_is : (asked : Task) → task_by what kind ≡ asked → kind_of (layout_of fs.geometry) row asked ≡ kind → hold_of begun_with ≡ begun (layout_of fs.geometry) (states_of fs.slots) row asked
    hold_is asked task_is kind_is =
        let first_is = planned_is ∙ ap (planned_first (found_in fs row)) (sym kind_is) in
        let kind_same : begun_with.hold.planned.hold.kind ≡ kind = ap (λ (p : Planned). p.hold.kind) planned_is in
        let class_none = class_of second in
        λ i. record { row = row; task = (ap (task_by what) kind_same ∙ task_is) i; course = (first_is i).hold; plan = (first_is i).plan; class = class_none i }
      where
        class_of : (o : Option ℕ) → (begun_hold fs.geometry.block (synced fs row) kind o).class ≡ None
        class_of None = refl
        class_of (Some position) = refl

    abbrev cells : List Cell
    cells = begun_with.hold.planned.hold.cells

    cells_in : cells ≡ with_target kind (found_in fs row).cells
    cells_in = ap (λ (p : Planned). p.hold.cells) planned_is

    wide_cells : length cells ≡ fs.geometry.slots
    wide_cells = ap length cells_in ∙ begun_width (found_in fs row) kind ∙ found-long (layout_of fs.geometry) (states_of fs.slots) row

    -- a position stands as its slot does, or is the target
    cell_in : (q : ℕ) → q < fs.geometry.slots
        → (cell_at cells q ≡ standing_cell (standings_of (states_of fs.slots (layout.slot_at fs.geometry row q)) row) × (kind ≢ Kind.Rebuild q))
        ⊎ ((cell_at cells q ≡ standing_cell (with_target_of (device_at fs row q))) × IsTargetAt fs.geometry fs.slots row what q)
    cell_in q below =
        let at_slot = found-at (layout_of fs.geometry) fs.slots row q below in
        elim (rebuild_or kind q) [
          | inl own ↦
              let t = target_at q own in
              let idle = found_in fs row in
              let inside : q < length idle.cells = omega (arith, below, found-long (layout_of fs.geometry) (states_of fs.slots) row) in
              let begins : MayBegin idle (Kind.Rebuild q) = subst (MayBegin idle) own may.may_begin in
              inr (
                ap (λ cs. cell_at cs q) (cells_in ∙ ap (λ (k : Kind). with_target k idle.cells) own)
                    ∙ get_or-set_same idle.cells q (targeted (cell_at idle.cells q).standing (cell_at idle.cells q)) no_cell inside
                    ∙ ap (λ (c : Cell). targeted c.standing c) at_slot
                    ∙ as_target (device_at fs row q) t.target.generation t.rebuilt (subst (λ (s : ℕ). IsRebuiltOn (slot_in fs.slots s).device t.target.generation t.rebuilt) (sym t.slot) t.device) t.unbuilt,
                t,
              )
          | inr ne ↦ inl (ap (λ cs. cell_at cs q) cells_in ∙ untargeted kind (found_in fs row).cells q ne ∙ at_slot, ne)
        ]
      where
        rebuild_or : (k : Kind) (p : ℕ) → (k ≡ Kind.Rebuild p) ⊎ (k ≢ Kind.Rebuild p)
        rebuild_or Kind.Idle p = inr (λ e. (cc))
        rebuild_or (Kind.Read index) p = inr (λ e. (cc))
        rebuild_or (Kind.Write batch) p = inr (λ e. (cc))
        rebuild_or (Kind.Rebuild target) p = elim (cases_eq target p) [ inl same ↦ inl (ap Kind.Rebuild same) | inr ne ↦ inr (λ e. ne (let inj : target ≡ p = cc in inj)) ]
        rebuild_or Kind.Check p = inr (λ e. (cc))
        rebuild_or Kind.Repair p = inr (λ e. (cc))

        untargeted : (k : Kind) (cs : List Cell) (p : ℕ) → k ≢ Kind.Rebuild p → cell_at (with_target k cs) p ≡ cell_at cs p
        untargeted Kind.Idle cs p ne = refl
        untargeted (Kind.Read index) cs p ne = refl
        untargeted (Kind.Write batch) cs p ne = refl
        untargeted (Kind.Rebuild target) cs p ne = get_or-set_other cs target p (targeted (cell_at cs target).standing (cell_at cs target)) no_cell (λ same. ne (ap Kind.Rebuild (sym same)))
        untargeted Kind.Check cs p ne = refl
        untargeted Kind.Repair cs p ne = refl

        as_target : (d : Device) (generation : ℕ) (rebuilt : RebuiltRows) → IsRebuiltOn d generation rebuilt → is_rebuilt rebuilt row ≡ false
            → targeted (standing_cell (standings_of (state_of d) row)).standing (standing_cell (standings_of (state_of d) row)) ≡ standing_cell (with_target_of d)
        as_target (device.Synced current) generation rebuilt on unbuilt = absurd on
        as_target device.Missing generation rebuilt on unbuilt = absurd on
        as_target (device.Building current rows) generation rebuilt on unbuilt =
            ap (λ (b : Bool). targeted (cond b InSync Out) (standing_cell (cond b InSync Out, Out))) (ap (λ (r : RebuiltRows). is_rebuilt r row) (sym on.1) ∙ unbuilt)
        as_target (device.Doubled old new rows) generation rebuilt on unbuilt = refl
        as_target (device.Paired old new) generation rebuilt on unbuilt = absurd on

    -- only the position that was found has a second device
    second_at : (q : ℕ) → q < fs.geometry.slots → IsOther q → (cell_at cells q).second ≡ Out
    second_at q below other = elim (cell_in q below) [
      | inl stands ↦ ap (λ (c : Cell). c.second) stands.0 ∙ ap (λ (s : Standing × Standing). s.1) (standings_one (device_at fs row q) row (unsynced q below other))
      | inr target ↦ ap (λ (c : Cell). c.second) target.0 ∙ alone_target (device_at fs row q) target.1.target.generation target.1.rebuilt
          (subst (λ (s : ℕ). IsRebuiltOn (slot_in fs.slots s).device target.1.target.generation target.1.rebuilt) (sym target.1.slot) target.1.device) (target_single q below other target.1)
    ]
      where
        alone_target : (d : Device) (generation : ℕ) (rebuilt : RebuiltRows) → IsRebuiltOn d generation rebuilt → is_some (second_of d) ≡ false → (with_target_of d).1 ≡ Out
        alone_target (device.Synced current) generation rebuilt on single = absurd on
        alone_target device.Missing generation rebuilt on single = absurd on
        alone_target (device.Building current rows) generation rebuilt on single = refl
        alone_target (device.Doubled old new rows) generation rebuilt on single = absurd (cc)
        alone_target (device.Paired old new) generation rebuilt on single = absurd on

    past_out : (q : ℕ) → fs.geometry.slots ≤ q → (cell_at cells q).second ≡ Out
    past_out q past = ap (λ (c : Cell). c.second) (get_or_past cells q no_cell (omega (arith, wide_cells, past)))

    all_owed : owed_by begun_with ≤ 2 * fs.geometry.slots + 5
    all_owed = omega (
      arith,
      to_come-le cells (place second) (λ q two. elim (cases_lt q fs.geometry.slots) [
        | inl below ↦ at_place q (λ other. two (second_at q below other))
        | inr past ↦ absurd (two (past_out q past))
      ]),
      wide_cells,
    )
      where
        place : Option ℕ → ℕ
        place None = 0
        place (Some p) = p

        at_place : (q : ℕ) → (IsOther q → ⊥) → q ≡ place second
        at_place q own = by_second second refl
          where
            by_second : (o : Option ℕ) → second ≡ o → q ≡ place o
            by_second None e = absurd (own (λ same. let both : None ≡ Some q = sym e ∙ same in cc))
            by_second (Some p) e = elim (cases_eq q p) [ inl same ↦ same | inr ne ↦ absurd (own (λ same. let both : Some p ≡ Some q = sym e ∙ same in let inj : p ≡ q = cc in ne (sym inj))) ]

    -- which new devices the row has
    successor_in_row : (q : ℕ) → q < fs.geometry.slots → IsSuccessorOf fs.slots (layout.slot_at fs.geometry row q) begun_with (cell_at cells q)
    successor_in_row q below = record {
      beside = λ two. by_two second refl is two;
      single = λ none. by_none second refl is none;
      target = λ targeted_is. elim (cell_in q below) [
        | inl stands ↦ absurd (any_target (states_of fs.slots (layout.slot_at fs.geometry row q)) row (sym (ap (λ (c : Cell). c.standing) stands.0) ∙ targeted_is))
        | inr t ↦ (λ i. is_rebuild (t.1.job i) && rebuilds_there q t.1 i)
      ];
      second_target = λ targeted_is. elim (cell_in q below) [
        | inl stands ↦ absurd (no_target (states_of fs.slots (layout.slot_at fs.geometry row q)) row (sym (ap (λ (c : Cell). c.second) stands.0) ∙ targeted_is))
        | inr t ↦ (λ i. is_rebuild (t.1.job i) && rebuilds_there q t.1 i)
      ];
      out = λ out_is. elim (cell_in q below) [
        | inl stands ↦ not_rebuilt stands.1
        | inr t ↦ absurd (never_out (device_at fs row q) t.1.target.generation t.1.rebuilt (subst (λ (s : ℕ). IsRebuiltOn (slot_in fs.slots s).device t.1.target.generation t.1.rebuilt) (sym t.1.slot) t.1.device)
            (sym (ap (λ (c : Cell). c.standing) t.0) ∙ out_is))
      ];
      own = λ there. own_first second refl is;
    }
      where
        any_target : (state : SlotState) (r : ℕ) → standing_of state r ≡ Target → ⊥
        any_target state r e = elim (any_use.stands-in-or-out false state r) [ inl in_sync ↦ (let both = sym in_sync ∙ e in cc) | inr out ↦ (let both = sym out ∙ e in cc) ]

        no_target : (state : SlotState) (r : ℕ) → (standings_of state r).1 ≡ Target → ⊥
        no_target state r e = elim (any_use.stands-in-or-out true state r) [ inl in_sync ↦ (let both = sym in_sync ∙ e in cc) | inr out ↦ (let both = sym out ∙ e in cc) ]

        never_out : (d : Device) (generation : ℕ) (rebuilt : RebuiltRows) → IsRebuiltOn d generation rebuilt → (with_target_of d).0 ≡ Out → ⊥
        never_out (device.Synced current) generation rebuilt on e = on
        never_out device.Missing generation rebuilt on e = on
        never_out (device.Building current rows) generation rebuilt on e = absurd (cc)
        never_out (device.Doubled old new rows) generation rebuilt on e = absurd (cc)
        never_out (device.Paired old new) generation rebuilt on e = on

        not_rebuilt : kind ≢ Kind.Rebuild q → (is_rebuild what && rebuilds what (layout.slot_at fs.geometry row q)) ≡ false
        not_rebuilt ne = by_job what may.job
          where
            by_job : (w : Job) → IsJob fs.geometry row w kind → (is_rebuild w && rebuilds w (layout.slot_at fs.geometry row q)) ≡ false
            by_job (job.Read served buffer) j = refl
            by_job (job.Write served) j = refl
            by_job (job.Scrub scrub) j = refl
            by_job (job.Rebuild target) j = ne_eqb target.slot (layout.slot_at fs.geometry row q)
                (λ same. ne (j.1 ∙ ap Kind.Rebuild (ap (layout.position_at fs.geometry row) same ∙ ((layouts fs.geometry shape).back row q may.own.0 below).1)))

        by_two : (o : Option ℕ) → second ≡ o → IsSecondIn fs row what o → (cell_at cells q).second ≢ Out
            → beside_in (begun_successor fs row o) (layout.slot_at fs.geometry row q) ≡ Some (second_in (states_of fs.slots (layout.slot_at fs.geometry row q)))
        by_two None e none two = absurd (two (second_at q below (λ same. let both : None ≡ Some q = sym e ∙ same in cc)))
        by_two (Some p) e there two = elim (cases_eq q p) [
          | inl same ↦
              let slots_same = ap (layout.slot_at fs.geometry row) (sym same) in
              ap (λ (b : Bool). cond b (Some (second_in (states_of fs.slots (layout.slot_at fs.geometry row p)))) None) (eq-eqb (layout.slot_at fs.geometry row p) (layout.slot_at fs.geometry row q) slots_same)
              ∙ ap (λ (s : ℕ). Some (second_in (states_of fs.slots s))) slots_same
          | inr ne ↦ absurd (two (second_at q below (λ same. let both : Some p ≡ Some q = sym e ∙ same in let inj : p ≡ q = cc in ne (sym inj))))
        ]

        two_there : (p : ℕ) → p < fs.geometry.slots → has_second_for fs row what p ≡ true → (cell_at cells p).second ≢ Out
        two_there p inside has out_is =
            let parts = and_parts (is_some (second_of (device_at fs row p))) (is_second_synced (device_at fs row p) row || rebuilds what (layout.slot_at fs.geometry row p)) has in
            let two = some_second (device_at fs row p) parts.0 in
            elim (cell_in p inside) [
              | inl stands ↦ elim (or_cases (is_second_synced (device_at fs row p) row) (rebuilds what (layout.slot_at fs.geometry row p)) parts.1) [
                | inl synced_is ↦ (let both : InSync ≡ Out =
                    sym (ap (λ (s : Standing × Standing). s.1) (standings_two (device_at fs row p) row two) ∙ ap (λ (b : Bool). cond b InSync Out) synced_is) ∙ sym (ap (λ (c : Cell). c.second) stands.0) ∙ out_is in cc)
                | inr mine ↦ false≢true (sym (by_job what mine may.job stands.1) ∙ mine)
              ]
              | inr t ↦ (let both : Target ≡ Out =
                  sym (two_target (device_at fs row p) two t.1.target.generation t.1.rebuilt (subst (λ (s : ℕ). IsRebuiltOn (slot_in fs.slots s).device t.1.target.generation t.1.rebuilt) (sym t.1.slot) t.1.device))
                  ∙ sym (ap (λ (c : Cell). c.second) t.0) ∙ out_is in cc)
            ]
          where
            by_job : (w : Job) → rebuilds w (layout.slot_at fs.geometry row p) ≡ true → IsJob fs.geometry row w kind → kind ≢ Kind.Rebuild p → rebuilds w (layout.slot_at fs.geometry row p) ≡ false
            by_job (job.Read served buffer) mine j ne = refl
            by_job (job.Write served) mine j ne = refl
            by_job (job.Scrub scrub) mine j ne = refl
            by_job (job.Rebuild target) mine j ne = ne_eqb target.slot (layout.slot_at fs.geometry row p)
                (λ same. ne (j.1 ∙ ap Kind.Rebuild (ap (layout.position_at fs.geometry row) same ∙ ((layouts fs.geometry shape).back row p may.own.0 inside).1)))

            two_target : (d : Device) → second_of d ≢ None → (generation : ℕ) (rebuilt : RebuiltRows) → IsRebuiltOn d generation rebuilt → (with_target_of d).1 ≡ Target
            two_target (device.Synced current) two generation rebuilt on = absurd on
            two_target device.Missing two generation rebuilt on = absurd on
            two_target (device.Building current rows) two generation rebuilt on = absurd (two refl)
            two_target (device.Doubled old new rows) two generation rebuilt on = refl
            two_target (device.Paired old new) two generation rebuilt on = absurd on

        own_first : (o : Option ℕ) → second ≡ o → IsSecondIn fs row what o → is_own (begun_successor fs row o) (layout.slot_at fs.geometry row q) (generation_in (states_of fs.slots (layout.slot_at fs.geometry row q))) ≡ true
        own_first None e none = refl
        own_first (Some p) e there =
            let parts = and_parts (is_some (second_of (device_at fs row p))) (is_second_synced (device_at fs row p) row || rebuilds what (layout.slot_at fs.geometry row p)) there.1 in
            let s = layout.slot_at fs.geometry row p in
            let t = layout.slot_at fs.geometry row q in
            elim (cases_eq s t) [
              | inl same ↦
                  let apart = different (device_at fs row p) (apart_of fs.geometry fs.shard (device_at fs row p) (devices s)) (some_second (device_at fs row p) parts.0) in
                  not_both (nat_eq s t) (nat_eq (second_in (states_of fs.slots s)) (generation_in (states_of fs.slots t)))
                  (ne_eqb (second_in (states_of fs.slots s)) (generation_in (states_of fs.slots t)) (λ e. apart (ap (λ (k : ℕ). generation_in (states_of fs.slots k)) same ∙ sym e)))
              | inr ne ↦ not_first (nat_eq s t) (nat_eq (second_in (states_of fs.slots s)) (generation_in (states_of fs.slots t))) (ne_eqb s t ne)
            ]
          where
            not_both : (a b : Bool) → b ≡ false → not (a && b) ≡ true
            not_both true true is = absurd (cc)
            not_both true false is = refl
            not_both false b is = refl

            not_first : (a b : Bool) → a ≡ false → not (a && b) ≡ true
            not_first true b is = absurd (cc)
            not_first false b is = refl

        by_none : (o : Option ℕ) → second ≡ o → IsSecondIn fs row what o → (cell_at cells q).second ≡ Out → beside_in (begun_successor fs row o) (layout.slot_at fs.geometry row q) ≡ None
        by_none None e none out_is = refl
        by_none (Some p) e there out_is = elim (cases_eq q p) [
          | inl same ↦ absurd (two_there p there.0 there.1 (ap (λ (k : ℕ). (cell_at cells k).second) (sym same) ∙ out_is))
          | inr ne ↦ ap (λ (b : Bool). cond b (Some (second_in (states_of fs.slots (layout.slot_at fs.geometry row p)))) None)
              (ne_eqb (layout.slot_at fs.geometry row p) (layout.slot_at fs.geometry row q) (λ same. ne (sym (slot_apart p q there.0 below same))))
        ]

    nothing_out : (q : ℕ) → q < fs.geometry.slots → is_put_out (cell_at cells q) ≡ false
    nothing_out q below = elim (cell_in q below) [ inl stands ↦ ap is_put_out stands.0 | inr target ↦ ap is_put_out target.0 ]

    nothing_copied : (q : ℕ) → q < fs.geometry.slots → is_sent (cell_at cells q).copying ≡ false
    nothing_copied q below = elim (cell_in q below) [ inl stands ↦ ap (λ (c : Cell). is_sent c.copying) stands.0 | inr target ↦ ap (λ (c : Cell). is_sent c.copying) target.0 ]

    kind_is : kind_in begun_with ≡ kind
    kind_is = ap (λ (p : Planned). p.hold.kind) planned_is

    begun_is_held : IsHeld fs.geometry fs.shard fs.slots begun_with
    begun_is_held =
        record {
          first = refl;
          own = may.own;
          job = subst (IsJob fs.geometry row what) (sym kind_is) may.job;
          under_way = record {
            slots = fs.slots;
            row = row;
            kind = kind;
            events = [];
            may_begin = may.may_begin;
            may = tt;
            here = sym planned_is;
          };
          size = ap (λ (p : Planned). p.hold.size) planned_is;
          wide = wide_cells;
          wide_away = ap length (none_out second) ∙ length-map (synced fs row) (λ b. false) ∙ wide_in;
          standing = λ q below. elim (cell_in q below) [
            | inl stands ↦ inl (ap (λ (cell : Cell). (cell.standing, cell.second)) stands.0)
            | inr target ↦ inr (ap (λ (cell : Cell). (cell.standing, cell.second)) target.0, target.1)
          ];
          successor = successor_in_row;
          away = λ q below not_out. at_home q ∙ sym (nothing_out q below);
          second_away = λ q below there. none_apart second ∙ sym (nothing_copied q below);
        }

-- what a hold that begins does is what it is asked
pub kind_begun : (fs : FramesState) (row : ℕ) (what : Job) (task : RowTask) (second : Option ℕ) → IsShape fs.geometry → ((slot : ℕ) → IsDeviceOf (layout_of fs.geometry) fs.shard (slot_in fs.slots slot).device) → IsOneDoubled fs.geometry.slots fs.slots → MayHold fs row what task → IsSecondIn fs row what second
    → kind_in (begun_row fs row what task second) ≡ kind_of_task task
kind_begun fs row what task second shape devices one may is = kind_is fs row what task second shape devices one may is

-- ---- the frames with this row

-- a free frame counts
pub free_some : (held : List FrameUse) (f : ℕ) → f < length held → use_at held f ≡ Free → 0 < count_free held
free_some [] f below free = absurd (omega arith)
free_some (Free ∷ held) f below free = omega arith
free_some (HeldIn h ∷ held) zero below free = absurd (cc)
free_some (HeldIn h ∷ held) (suc f) below free = free_some held f (omega arith) free
free_some (Returning r other ∷ held) zero below free = absurd (cc)
free_some (Returning r other ∷ held) (suc f) below free = free_some held f (omega arith) free

abbrev pub with_held : FramesState → List FrameUse → ℕ → FramesState
with_held fs held spare = record fs { uses = held; spare = spare }

pub inside : (fs : FramesState) (frame : ℕ) → IsSound fs → IsFreeFrame fs frame → frame < length fs.uses
inside fs frame sound free = let count = sound.frames.count in omega (arith, free.0)

module _ (fs : FramesState) (frame row : ℕ) (what : Job) (task : RowTask) (second : Option ℕ) (held : List FrameUse) (spare : ℕ)
    (sound : IsSound fs) (free : IsFreeFrame fs frame) (may : MayHold fs row what task) (found_second : IsSecondIn fs row what second) (unheld : NotHeldBy fs row)
    (held_is : held ≡ set fs.uses frame (HeldIn (begun_row fs row what task second))) where
  here : frame < length fs.uses
  here = inside fs frame sound free

  own : use_at held frame ≡ HeldIn (begun_row fs row what task second)
  own = ap (λ items. use_at items frame) held_is ∙ use_at_own fs.uses frame (HeldIn (begun_row fs row what task second)) here

  other : (f : ℕ) → f ≢ frame → use_at held f ≡ use_at fs.uses f
  other f ne = ap (λ items. use_at items f) held_is ∙ use_at_other fs.uses frame (HeldIn (begun_row fs row what task second)) f ne

  -- what is held in the frame now is the row
  row_here : (f : ℕ) (h : HeldRow) → f ≡ frame → hold_at held f ≡ Some h → begun_row fs row what task second ≡ h
  row_here f h e is = let both : Some h ≡ Some (begun_row fs row what task second) = sym is ∙ ap (hold_at held) e ∙ ap row_in own in cc

  frames_sound : fs.spare ≡ spare + 1 → AreFrames (with_held fs held spare)
  frames_sound one_less =
      let was = sound.frames in
      let free_frames = free_set fs.uses frame (HeldIn (begun_row fs row what task second)) here in
      let free_here : free_at (use_at fs.uses frame) ≡ 1 = ap free_at free.1 in
      let free_now = ap count_free held_is in
      let all = was.spare in
      record {
        count = ap length held_is ∙ length-set fs.uses frame (HeldIn (begun_row fs row what task second)) ∙ was.count;
        rows = λ f h is.
            elim (cases_eq f frame) [
              | inl e ↦ subst (IsHeld fs.geometry fs.shard fs.slots) (row_here f h e is) (begun_is_held fs row what task second sound.shape sound.devices.each sound.devices.one may found_second)
              | inr ne ↦ was.rows f h (ap row_in (sym (other f ne)) ∙ is)
            ];
        returning = λ f r left is.
            elim (cases_eq f frame) [
              | inl e ↦ let both : Returning r left ≡ HeldIn (begun_row fs row what task second) = sym is ∙ ap (use_at held) e ∙ own in absurd (cc)
              | inr ne ↦ was.returning f r left (sym (other f ne) ∙ is)
            ];
        one_holder =
            subst AreApart (sym held_is)
            (apart_put fs.uses frame (begun_row fs row what task second) here was.one_holder (λ f h is same. absurd (unheld f h is same)));
        spare = omega arith;
      }

  abbrev buffer_of_use : FrameUse → Outstanding → ℕ
  buffer_of_use u c = cond (is_own (successor_in u) c.slot c.generation) (layout.position_at fs.geometry c.row c.slot) fs.geometry.slots

  -- no command has a buffer of a frame that was free
  apart : AreLive fs → (token : ℕ) (c : Outstanding) → outstanding fs token ≡ Some c → c.frame < frames → c.frame ≢ frame
  apart live token c is below e =
      let old = sound.commands.of_frame live token c is below in
      let home = ap (λ u. is_away_from u (buffer_of fs c)) (ap (use_at fs.uses) e ∙ free.1) in
      let away = old.away in
      absurd (cc)

  buffer_was : AreLive fs → (token : ℕ) (c : Outstanding) → outstanding fs token ≡ Some c → buffer_of fs c ≡ buffer_of (with_held fs held spare) c
  buffer_was live token c is =
      elim (cases_lt c.frame frames) [
        | inl below ↦ ap (λ u. buffer_of_use u c) (sym (other c.frame (apart live token c is below)))
        | inr past ↦ ap (λ u. buffer_of_use u c) (sym (other c.frame (λ e. let inside = free.0 in omega arith)))
      ]

  commands_sound : AreCommands (with_held fs held spare)
  commands_sound =
      let was = sound.commands in
      let homes = home_set fs.geometry.slots fs.uses frame (HeldIn (begun_row fs row what task second)) here in
      let home_here : home_at fs.geometry.slots (use_at fs.uses frame) ≡ fs.geometry.slots + 1 = ap (home_at fs.geometry.slots) free.1 in
      let home_all = home_in_row fs row what task second in
      let home_now = ap (home_in fs.geometry.slots) held_is in
      let room = was.room in
      record {
        next_taken = was.next_taken;
        since = was.since;
        given = was.given;
        untaken = was.untaken;
        sized = was.sized;
        lawful = was.lawful;
        alone = λ live token t c d is_c is_d same buffers_same. was.alone live token t c d is_c is_d same (buffer_was live token c is_c ∙ buffers_same ∙ sym (buffer_was live t d is_d));
        of_frame = λ live token c is below.
            let old = was.of_frame live token c is below in
            let same = other c.frame (apart live token c is below) in
            record {
              away = (λ i. is_away_from (same i) (buffer_of_use (same i) c)) ∙ old.away;
              held = λ h at. let of = old.held h (ap row_in (sym same) ∙ at) in record { row = of.row; abandoned = of.abandoned; device = of.device; writes = of.writes };
              ended = λ none. old.ended (ap row_in (sym same) ∙ none);
            };
        there = λ live f buffer below away.
            elim (cases_eq f frame) [
              | inl e ↦
                  let home = ap (λ what. is_away_from what buffer) (ap (use_at held) e ∙ own) ∙ buffers_home fs row what task second buffer in
                  absurd (cc)
              | inr ne ↦
                  let has = was.there live f buffer below (ap (λ what. is_away_from what buffer) (sym (other f ne)) ∙ away) in
                  (has.0, has.1, has.2, has.3, ap (λ u. buffer_of_use u has.1) (ap (use_at held) has.3 ∙ other f ne ∙ ap (use_at fs.uses) (sym has.3)) ∙ has.4)
            ];
        stopped = was.stopped;
        room = omega arith;
      }

  pub begun_sound : fs.spare ≡ spare + 1 → IsSound (with_held fs held spare)
  begun_sound one_less =
      record { shape = sound.shape; shard = sound.shard; live = sound.live; devices = record { each = sound.devices.each; one = sound.devices.one }; frames = frames_sound one_less; commands = commands_sound; directs = sound.directs }

  -- a hold comes
  pub begun_shard : (asked : Task) → task_by what (kind_of_task task) ≡ asked → kind_of (layout_of fs.geometry) row asked ≡ kind_of_task task → (rest : Rest)
      → shard_with rest (with_held fs held spare)
      ≡ record (shard_with rest fs) { frame = put (shard_with rest fs).frame frame (Some (begun (layout_of fs.geometry) (states_of fs.slots) row asked)) }
  begun_shard asked task_is kind_is rest =
      let frames_are = ap (λ items. λ x. option_map hold_of (hold_at items x)) held_is ∙ frame_put fs.uses frame (HeldIn (begun_row fs row what task second)) here
      ∙ ap (λ hold. put (λ x. option_map hold_of (hold_at fs.uses x)) frame (Some hold)) (hold_is fs row what task second sound.shape sound.devices.each sound.devices.one may found_second asked task_is kind_is) in
      λ i. record (shard_with rest fs) { frame = frames_are i }

  pub begun_owed : owed_in held ≤ owed_in fs.uses + (2 * fs.geometry.slots + 5)
  begun_owed =
      let sums = owed_set fs.uses frame (HeldIn (begun_row fs row what task second)) here in
      let owed_here : owed_at (use_at fs.uses frame) ≡ 0 = ap owed_at free.1 in
      let now = ap owed_in held_is in
      let new = all_owed fs row what task second sound.shape sound.devices.each sound.devices.one may found_second in
      omega arith

  -- nothing was read yet
  pub begun_unmet : IsUnmet (with_held fs held spare) frame
  begun_unmet h is position =
      let unread = begun_unread (found_in fs row) (kind_of_task task) (found-rests fs.geometry sound.shape fs.slots row) position in
      subst (λ (p : Planned). is_met (cell_at p.hold.cells position).reading ≡ false) (sym (planned_is fs row what task second sound.shape sound.devices.each sound.devices.one may found_second) ∙ ap (λ (x : HeldRow). x.hold.planned) (row_here frame h refl is)) (ap is_met unread)

  pub begun_commands : AreLive fs → OwesCommands (with_held fs held spare) frame
  begun_commands live h is =
      let owes = begun_owes_commands fs.geometry fs.slots row (kind_of_task task) sound.shape may.own.0 live.0 may.may_begin in
      subst (λ (planned : Planned). (events : List Event) → AreSilent events → IsPlanned planned events → is_over (planned_at planned events) ≡ false)
      (sym (planned_is fs row what task second sound.shape sound.devices.each sound.devices.one may found_second) ∙ ap (λ (row : HeldRow). row.hold.planned) (row_here frame h refl is)) owes

-- ---- a frame holds one row more, and nothing else changes

pub others_kept : (old : FramesState) (frame : ℕ) (h : HeldRow) (new : FramesState) → Holds old frame h new → KeepsOthers old frame new
others_kept old frame h new holds other ne =
    ap (λ (fs : FramesState). use_at fs.uses other) holds.same ∙ ap (λ items. use_at items other) holds.put ∙ use_at_other old.uses frame (HeldIn h) other ne

pub slots_kept : (old : FramesState) (frame : ℕ) (h : HeldRow) (new : FramesState) → Holds old frame h new → KeepsSlots old new
slots_kept old frame h new holds = (ap (λ (fs : FramesState). fs.slots) holds.same, ap (λ (fs : FramesState). fs.saw_failed) holds.same)

pub directs_kept : (old : FramesState) (frame : ℕ) (h : HeldRow) (new : FramesState) → Holds old frame h new → KeepsDirects old new
directs_kept old frame h new holds = ap (λ (fs : FramesState). fs.directs) holds.same
