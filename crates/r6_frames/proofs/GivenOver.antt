-- A hold loses the positions of its read errors: their slots go out one after another, and the shard has stopped.
use Rattle.std.proofs.Common.{◌≡◌, ◌≢◌, ℕ, suc, ◌+◌, ◌-◌, ◌<◌, ◌≤◌, Bool, true, false, List, [], ◌∷◌, ◌++◌, length, map, refl, sym, ap, subst, ◌∙◌, Option, Some, None, inl, inr, arith}
use mathlib.Core.Path.{fun_ext}
use Rattle.std.specs.Prelude.{◌&&◌, ◌||◌, ◌==◌, not, if◌then◌else◌, option_map}
use Rattle.std.proofs.lemmas.Bool.{and_parts, false≢true}
use Rattle.std.proofs.lemmas.List.{append_assoc, length-append, map-append}
use Rattle.r6_layout.specs.Shape.{Shape, IsShape}
use Rattle.r6_layout.specs.Layout.{position_at, slot_at}
use Rattle.r6_stripe.specs.Holds.{Standing, cell_at}
use Rattle.r6_stripe.specs.Holds.Standing.{InSync}
use Rattle.r6_stripe.specs.Plans.{is_in_error, is_in_sync, is_unreadable, next}
use Rattle.r6_stripe.specs.Plans.Next.{LoseUnreadable}
use Rattle.r6_stripe.proofs.Steps.{in_sync_is}
use Rattle.r6_world.specs.Layouts.{Layout}
use Rattle.r6_world.specs.Geometries.{layout_of}
use Rattle.r6_world.specs.ShardStates.{Command, LossOf, Request, Shard, SlotState, Stage, Waiting, Erred, Held, Reading, Finished, Released, away, has_device, standing_of, devices_of}
use Rattle.r6_world.specs.Changes.{Allowed, Give_over, abandoned_to, in_error_from, is_going_on, lost_slot, lost_slots, read_on, read_stage, slots_in_error}
use Rattle.r6_world.proofs.Geometries.{layouts}
use Rattle.r6_world.proofs.Tables.{put-other}
use Rattle.r6_frames.specs.declared.frames.HeldRow.{HeldRow}
use Rattle.r6_frames.specs.declared.slots.Device.{Device}
use Rattle.r6_frames.specs.declared.slots.Device.TheVariants as device
use Rattle.r6_frames.specs.FramesState.{FramesState}
use Rattle.r6_frames.specs.Slots.{count_out, slot_in, state_of, states_of}
use Rattle.r6_frames.specs.Views.{hold_at, hold_of, held_requests, Rest, reads_on, shard_with, world_commands, AreLive}
use Rattle.r6_frames.specs.Directs.{read_requests}
use Rattle.r6_frames.specs.Calls.{GivesOver, OwesNoMore, KeepsRows, LosesSlot, ReadsOn, entry_on, losses_of}
use Rattle.r6_frames.specs.Reads.{KeepsReaders}
use Rattle.r6_frames.specs.Sound.{IsHeld, IsSound, with_target_of}
use Rattle.r6_frames.proofs.Failing.{some_rest}
use Rattle.r6_frames.proofs.WouldStop.{would_stop}

-- ---- a slot that loses a position has a device

-- the first of its devices, and the others
pub record HasDevices (state : SlotState) : Type 0 where
  pub first : ℕ
  pub others : List ℕ
  pub are : devices_of state ≡ first ∷ others

in_sync_there : (state : SlotState) (row : ℕ) → standing_of state row ≡ InSync → HasDevices state
in_sync_there (SlotState.Synced generation) row is = record { first = generation; others = []; are = refl }
in_sync_there SlotState.Missing row is = absurd (cc)
in_sync_there (SlotState.Building generation built) row is = record { first = generation; others = []; are = refl }
in_sync_there (SlotState.Doubled old new built) row is = record { first = old; others = new ∷ []; are = refl }
in_sync_there (SlotState.Paired old new) row is = record { first = old; others = new ∷ []; are = refl }

beside_target_there : (d : Device) → (with_target_of d).0 ≡ InSync → HasDevices (state_of d)
beside_target_there (device.Synced generation) is = record { first = generation; others = []; are = refl }
beside_target_there device.Missing is = absurd (cc)
beside_target_there (device.Building generation rebuilt) is = absurd (cc)
beside_target_there (device.Doubled old new rebuilt) is = record { first = old; others = new ∷ []; are = refl }
beside_target_there (device.Paired old new) is = record { first = old; others = new ∷ []; are = refl }

-- the losses of these devices of the slot: two at most, and the calls declare them
abbrev pub losses_at : (slot : ℕ) → List ℕ → List (ℕ × ℕ)
losses_at slot generations = map (λ (generation : ℕ). (slot, generation)) generations

two_at_most : (slot : ℕ) (state : SlotState) → length (losses_at slot (devices_of state)) ≤ 2
two_at_most slot (SlotState.Synced generation) = omega arith
two_at_most slot SlotState.Missing = omega arith
two_at_most slot (SlotState.Building generation built) = omega arith
two_at_most slot (SlotState.Doubled old new built) = omega arith
two_at_most slot (SlotState.Paired old new) = omega arith

calls_at : (slot : ℕ) (generations : List ℕ) → losses_of (losses_at slot generations) ≡ map (LossOf slot) generations
calls_at slot [] = refl
calls_at slot (generation ∷ generations) = ap (λ calls. LossOf slot generation ∷ calls) (calls_at slot generations)

-- ---- at least three are out then

module _ (fs : FramesState) (frame : ℕ) (h : HeldRow) (sound : IsSound fs) (live : AreLive fs) (is : hold_at fs.uses frame ≡ Some h) (loses : next h.hold.planned ≡ Some LoseUnreadable) (rest : Rest) where
  abbrev l : Layout
  l = layout_of fs.geometry

  abbrev s : Shard
  s = shard_with rest fs

  abbrev lost : List ℕ
  lost = slots_in_error l (hold_of h)

  held : IsHeld fs.geometry fs.shard fs.slots h
  held = sound.frames.rows frame h is

  pub three_away : 3 ≤ away l (lost_slots l s lost)
  three_away = would_stop fs h sound held rest (inl loses)

  pub may_give : Allowed l fs.shard s (Give_over frame (hold_of h))
  may_give = (ap (option_map hold_of) is, live, loses, three_away)

-- ---- one slot after another

going_before : (stopped : Bool) (slot : ℕ) (state : SlotState) (c : Option Command) → is_going_on (abandoned_to stopped slot state c) ≡ true → is_going_on c ≡ true
going_before stopped slot state None going = going
going_before stopped slot state (Some c) going = by_tests c.abandoned (stopped || ((c.slot == slot) && not (has_device state c.generation))) going
  where
    by_tests : (a b : Bool) → not (a || b) ≡ true → not a ≡ true
    by_tests true b e = e
    by_tests false b e = refl

-- what waited since a loss waits after the next one
stage_twice : (f g : ℕ → Option Command) → ((t : ℕ) → is_going_on (g t) ≡ true → is_going_on (f t) ≡ true) → (stage : Stage) → read_stage g (read_stage f stage) ≡ read_stage g stage
stage_twice f g fewer Waiting = refl
stage_twice f g fewer Erred = refl
stage_twice f g fewer (Held frame) = refl
stage_twice f g fewer (Reading token) = by_going (is_going_on (f token)) (is_going_on (g token)) refl refl
  where
    by_going : (a b : Bool) → is_going_on (f token) ≡ a → is_going_on (g token) ≡ b → read_stage g (if a then Reading token else Waiting) ≡ (if b then Reading token else Waiting)
    by_going true b e k = ap (λ (x : Bool). if x then Reading token else Waiting) k
    by_going false false e k = refl
    by_going false true e k = absurd (false≢true (sym e ∙ fewer token k))
stage_twice f g fewer (Finished reply) = refl
stage_twice f g fewer (Released reply) = refl

request_twice : (f g : ℕ → Option Command) → ((t : ℕ) → is_going_on (g t) ≡ true → is_going_on (f t) ≡ true) → (r : Option Request) → read_on g (read_on f r) ≡ read_on g r
request_twice f g fewer None = refl
request_twice f g fewer (Some r) = ap (λ (stage : Stage). Some (record { op = r.op; stage = stage })) (stage_twice f g fewer r.stage)

entries_twice : (now new : FramesState) → ((t : ℕ) → is_going_on (world_commands new t) ≡ true → is_going_on (world_commands now t) ≡ true) → (entries : List (ℕ × Request))
    → map (entry_on new) (map (entry_on now) entries) ≡ map (entry_on new) entries
entries_twice now new fewer [] = refl
entries_twice now new fewer (entry ∷ entries) =
    let here = stage_twice (world_commands now) (world_commands new) fewer entry.1.stage in
    let rest = entries_twice now new fewer entries in
    λ i. (entry.0, record { op = entry.1.op; stage = here i }) ∷ rest i

-- what the shard has beside its frames once these slots were lost
abbrev pub rest_after : FramesState → List (ℕ × ℕ) → Rest → Rest
rest_after now [] rest = rest
rest_after now (loss ∷ losses) rest = record (reads_on now rest) { calls = rest.calls ++ losses_of (loss ∷ losses) }

abbrev pub reads_after : FramesState → List (ℕ × ℕ) → FramesState → Type 0
reads_after old [] now = now ≡ old
reads_after old (loss ∷ losses) now = ReadsOn old now

-- the slots of the positions below this one that are to be lost are, and the others of the row are to be
pub record IsGivingOver (old : FramesState) (h : HeldRow) (at : ℕ) (losses : List (ℕ × ℕ)) (now : FramesState) : Type 0 where
  pub sound : IsSound now
  pub same : (now.geometry ≡ old.geometry) × (now.shard ≡ old.shard)
  pub few : length losses ≤ at + at
  pub inside : at ≤ length h.hold.planned.hold.cells
  pub lost : (rest : Rest)
      → lost_slots (layout_of old.geometry) (shard_with (rest_after now losses rest) now) (in_error_from (layout_of old.geometry) (hold_of h) at (length h.hold.planned.hold.cells - at))
      ≡ lost_slots (layout_of old.geometry) (shard_with rest old) (slots_in_error (layout_of old.geometry) (hold_of h))
  -- those are as they were
  pub devices : (position : ℕ) → at ≤ position → position < length h.hold.planned.hold.cells
      → states_of now.slots (slot_at old.geometry h.row position) ≡ states_of old.slots (slot_at old.geometry h.row position)
  pub reads : reads_after old losses now
  pub rows : KeepsRows old now
  pub owed : OwesNoMore old now
  pub readers : KeepsReaders old now
  pub requests : held_requests now ≡ held_requests old

pub giving_none : (fs : FramesState) (h : HeldRow) → IsSound fs → IsGivingOver fs h 0 [] fs
giving_none fs h sound =
    let whole : length h.hold.planned.hold.cells - 0 ≡ length h.hold.planned.hold.cells = omega arith in
    record { sound = sound; same = (refl, refl); few = omega arith; inside = omega arith; lost = λ rest. ap (λ (n : ℕ). lost_slots (layout_of fs.geometry) (shard_with rest fs) (in_error_from (layout_of fs.geometry) (hold_of h) 0 n)) whole; devices = λ position from inside. refl; reads = refl; rows = λ frame. refl; owed = (omega arith, refl); readers = λ number. refl; requests = refl }

module _ (old : FramesState) (h : HeldRow) (at : ℕ) (losses : List (ℕ × ℕ)) (now : FramesState) (is : IsGivingOver old h at losses now) (below : at < length h.hold.planned.hold.cells) where
  abbrev wide : ℕ
  wide = length h.hold.planned.hold.cells

  abbrev l' : Layout
  l' = layout_of old.geometry

  one_less : wide - at ≡ suc (wide - suc at)
  one_less = omega (arith, below)

  -- what is to be lost from here on
  abbrev from_here : Bool → List ℕ
  from_here b = if b then l'.slot_at h.row at ∷ in_error_from l' (hold_of h) (suc at) (wide - suc at) else in_error_from l' (hold_of h) (suc at) (wide - suc at)

  to_lose : (b : Bool) → is_in_error (cell_at h.hold.planned.hold.cells at) ≡ b → in_error_from l' (hold_of h) at (wide - at) ≡ from_here b
  to_lose b e = ap (in_error_from l' (hold_of h) at) one_less ∙ ap from_here e

  -- the position isn't one of them
  pub giving_past : is_in_error (cell_at h.hold.planned.hold.cells at) ≡ false → IsGivingOver old h (suc at) losses now
  giving_past readable = record {
    sound = is.sound;
    same = is.same;
    few = omega (arith, is.few);
    inside = omega (arith, below);
    lost = λ rest. sym (ap (lost_slots l' (shard_with (rest_after now losses rest) now)) (to_lose false readable)) ∙ is.lost rest;
    devices = λ position from inside. is.devices position (omega arith) inside;
    reads = is.reads;
    rows = is.rows;
    owed = is.owed;
    readers = is.readers;
    requests = is.requests;
  }

  -- its slot has a device then
  pub lost_there : IsHeld old.geometry old.shard old.slots h → is_in_error (cell_at h.hold.planned.hold.cells at) ≡ true → HasDevices (states_of now.slots (slot_at old.geometry h.row at))
  lost_there held error =
      let cell = cell_at h.hold.planned.hold.cells at in
      let there = (slot_in old.slots (slot_at old.geometry h.row at)).device in
      let in_sync = in_sync_is cell.standing (and_parts (is_in_sync cell.standing) (is_unreadable cell.reading) error).0 in
      subst HasDevices (sym (is.devices at (omega arith) below))
      (elim (held.standing at (omega (arith, below, held.wide))) [
        | inl same ↦ in_sync_there (state_of there) h.row (sym (ap (λ (x : Standing × Standing). x.0) same) ∙ in_sync)
        | inr target ↦ beside_target_there there (sym (ap (λ (x : Standing × Standing). x.0) target.0) ∙ in_sync)
      ])

  module _ (slot : ℕ) (new : FramesState) (error : is_in_error (cell_at h.hold.planned.hold.cells at) ≡ true) (slot_is : slot ≡ slot_at old.geometry h.row at) (loses : LosesSlot now slot new) where
    abbrev lost_devices : List ℕ
    lost_devices = devices_of (states_of now.slots slot)

    abbrev more : List (ℕ × ℕ)
    more = losses ++ losses_at slot lost_devices

    fewer : (t : ℕ) → is_going_on (world_commands new t) ≡ true → is_going_on (world_commands now t) ≡ true
    fewer t going =
        let commands = ap (λ (x : Shard). x.command t) (loses.2 some_rest) in
        going_before _ slot SlotState.Missing (world_commands now t) (sym (ap is_going_on commands) ∙ going)

    rest_then : HasDevices (states_of now.slots slot) → (rest : Rest) → record (reads_on new (rest_after now losses rest)) { calls = (rest_after now losses rest).calls ++ map (LossOf slot) lost_devices } ≡ rest_after new more rest
    rest_then has rest =
        subst (λ (devices : List ℕ). record (reads_on new (rest_after now losses rest)) { calls = (rest_after now losses rest).calls ++ map (LossOf slot) devices } ≡ rest_after new (losses ++ losses_at slot devices) rest) (sym has.are)
        (by_losses losses)
      where
        by_losses : (some : List (ℕ × ℕ)) → record (reads_on new (rest_after now some rest)) { calls = (rest_after now some rest).calls ++ map (LossOf slot) (has.first ∷ has.others) } ≡ rest_after new (some ++ losses_at slot (has.first ∷ has.others)) rest
        by_losses [] = let calls = sym (calls_at slot (has.first ∷ has.others)) in λ i. record (reads_on new rest) { calls = rest.calls ++ calls i }
        by_losses (loss ∷ some) =
            let requests = fun_ext (λ (id : ℕ). request_twice (world_commands now) (world_commands new) fewer (rest.request id)) in
            let behind = losses_at slot (has.first ∷ has.others) in
            let calls = append_assoc rest.calls (losses_of (loss ∷ some)) (map (LossOf slot) (has.first ∷ has.others))
            ∙ ap (λ cs. rest.calls ++ (losses_of (loss ∷ some) ++ cs)) (sym (calls_at slot (has.first ∷ has.others)))
            ∙ ap (λ cs. rest.calls ++ cs) (sym (map-append (λ (x : ℕ × ℕ). LossOf x.0 x.1) (loss ∷ some) behind)) in
            λ i. record rest { request = requests i; calls = calls i }

    shard_then : HasDevices (states_of now.slots slot) → (rest : Rest) → shard_with (rest_after new more rest) new ≡ lost_slot l' (shard_with (rest_after now losses rest) now) slot
    shard_then has rest =
        ap (λ r. shard_with r new) (sym (rest_then has rest)) ∙ loses.2 (rest_after now losses rest) ∙ ap (λ (g : Shape). lost_slot (layout_of g) (shard_with (rest_after now losses rest) now) slot) is.same.0

    -- the slots of the positions behind it are as they were
    devices_then : IsShape old.geometry → IsHeld old.geometry old.shard old.slots h → (position : ℕ) → suc at ≤ position → position < wide
        → states_of new.slots (slot_at old.geometry h.row position) ≡ states_of old.slots (slot_at old.geometry h.row position)
    devices_then lawful held position from inside =
        let slots = layouts old.geometry lawful in
        let other = slot_at old.geometry h.row position in
        let apart : other ≢ slot =
        λ same. let twice = sym (slots.back h.row position held.own.0 (omega (arith, inside, held.wide))).1
        ∙ ap (position_at old.geometry h.row) (same ∙ slot_is) ∙ (slots.back h.row at held.own.0 (omega (arith, below, held.wide))).1 in omega arith in
        ap (λ (x : Shard). x.slot other) (loses.2 some_rest) ∙ put-other (states_of now.slots) slot SlotState.Missing other apart ∙ is.devices position (omega arith) inside

    -- it is, and its slot has gone out
    pub giving_one : IsShape old.geometry → IsHeld old.geometry old.shard old.slots h → IsSound new → KeepsRows now new → OwesNoMore now new → KeepsReaders now new → held_requests new ≡ held_requests now → IsGivingOver old h (suc at) more new
    giving_one lawful held sound rows owed readers requests = record {
      sound = sound;
      same = (loses.0 ∙ is.same.0, loses.1 ∙ is.same.1);
      few =
          let both = length-append losses (losses_at slot lost_devices) in
          let two = two_at_most slot (states_of now.slots slot) in
          let few = is.few in
          omega arith;
      inside = omega (arith, below);
      lost = λ rest.
          ap (λ (x : Shard). lost_slots l' x (in_error_from l' (hold_of h) (suc at) (wide - suc at))) (shard_then has_devices rest ∙ ap (lost_slot l' (shard_with (rest_after now losses rest) now)) slot_is)
          ∙ sym (ap (lost_slots l' (shard_with (rest_after now losses rest) now)) (to_lose true error)) ∙ is.lost rest;
      devices = devices_then lawful held;
      reads = reads_then losses is.reads;
      rows = λ frame. rows frame ∙ is.rows frame;
      owed = (omega (arith, owed.0, is.owed.0), owed.1 ∙ is.owed.1);
      readers = λ number. readers number ∙ is.readers number;
      requests = requests ∙ is.requests;
    }
      where
        has_devices : HasDevices (states_of now.slots slot)
        has_devices = subst (λ (s : ℕ). HasDevices (states_of now.slots s)) (sym slot_is) (lost_there held error)

        reads_then : (some : List (ℕ × ℕ)) → reads_after old some now → reads_after old (some ++ losses_at slot lost_devices) new
        reads_then [] same =
            subst (λ (devices : List ℕ). reads_after old (losses_at slot devices) new) (sym has_devices.are)
            (loses.3 ∙ ap (λ (fs : FramesState). map (entry_on new) (read_requests fs)) same)
        reads_then (loss ∷ some) on = loses.3 ∙ ap (map (entry_on new)) on ∙ entries_twice now new fewer (read_requests old)

-- ---- then all are

module _ (old : FramesState) (frame : ℕ) (h : HeldRow) (losses : List (ℕ × ℕ)) (new : FramesState) (sound : IsSound old) (live : AreLive old) (held : hold_at old.uses frame ≡ Some h)
    (loses : next h.hold.planned ≡ Some LoseUnreadable) (is : IsGivingOver old h (length h.hold.planned.hold.cells) losses new) where
  abbrev lo : Layout
  lo = layout_of old.geometry

  all_lost : (rest : Rest) → shard_with (rest_after new losses rest) new ≡ lost_slots lo (shard_with rest old) (slots_in_error lo (hold_of h))
  all_lost rest =
      let wide = length h.hold.planned.hold.cells in
      let none : wide - wide ≡ 0 = omega arith in
      sym (ap (λ (n : ℕ). lost_slots lo (shard_with (rest_after new losses rest) new) (in_error_from lo (hold_of h) wide n)) none) ∙ is.lost rest

  many : (rest : Rest) → 3 ≤ away lo (shard_with (rest_after new losses rest) new)
  many rest = subst (λ (x : Shard). 3 ≤ away lo x) (sym (all_lost rest)) (three_away old frame h sound live held loses rest)

  pub given_stopped : AreLive new → ⊥
  given_stopped now =
      let out = many some_rest in
      let few = now.0 in
      let same = ap (λ (g : Shape). g.slots) is.same.0 in
      let count = ap (count_out new.slots) same in
      omega arith

  pub gives : GivesOver old frame losses new
  gives = by_losses losses is.reads all_lost many
    where
      by_losses : (some : List (ℕ × ℕ)) → reads_after old some new → ((rest : Rest) → shard_with (rest_after new some rest) new ≡ lost_slots lo (shard_with rest old) (slots_in_error lo (hold_of h)))
          → ((rest : Rest) → 3 ≤ away lo (shard_with (rest_after new some rest) new)) → GivesOver old frame some new
      by_losses [] same all three =
          let few = live.0 in
          let out = subst (λ (fs : FramesState). 3 ≤ away lo (shard_with some_rest fs)) same (three some_rest) in
          absurd (omega arith)
      by_losses (loss ∷ some) reads all three = (is.same.0, is.same.1, λ rest. (hold_of h, may_give old frame h sound live held loses rest, all rest), reads)
