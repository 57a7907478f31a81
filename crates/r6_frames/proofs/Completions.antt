-- What the answer to a command does to the held rows and their commands.
use Rattle.std.proofs.Common.{◌≡◌, ◌≢◌, ◌⊎◌, ℕ, ◌+◌, ◌%◌, ◌<◌, ◌≤◌, Bool, true, false, [], ◌∷◌, length, map, set, refl, sym, ap, subst, ◌∙◌, Option, Some, None, inl, inr, arith}
use Rattle.std.specs.Prelude.{if◌then◌else◌, option_map, slice_index_or}
use Rattle.std.specs.FinMap as finite
use Rattle.std.proofs.lemmas.Bool.{cases_lt, and_parts, eq-eqb, ne_eqb, lt-ltb}
use Rattle.r6_layout.specs.Shape.{IsShape}
use Rattle.r6_layout.specs.Layout.{position_at, slot_at}
use Rattle.r6_layout.proofs.Roles.{position_at-lt, slot_at-position_at}
use Rattle.r6_stripe.specs.Holds.Reading.{Unread, Recalled, Asked, Unreadable, Fixing, Fixed, AskedAgain, Known, Replaced}
use Rattle.r6_stripe.specs.Holds.{Event, Kind, Reading, Standing, cell_at, wants_all, after_event}
use Rattle.r6_recover.specs.declared.class.RowClass.{RowClass}
use Rattle.r6_stripe.specs.Checks.{IsClassAfter, IsClassIf, IsClassRead, is_read_whole}
use Rattle.r6_stripe.specs.Holds.Event.{Gives, Settles}
use Rattle.r6_stripe.specs.RowWorld.{confirming}
use Rattle.r6_stripe.specs.Holds.Standing.{Out}
use Rattle.r6_stripe.specs.Plans.{planned_after}
use Rattle.r6_stripe.specs.Steps.{Held as HeldHold, is_away}
use Rattle.r6_layout.specs.PlainArray.{Block}
use Rattle.r6_world.specs.Tables.{put}
use Rattle.r6_world.specs.ShardStates.{Command, Fetch, Shard, frames, generation_in, second_in, standings_of}
use Rattle.r6_world.specs.Changes.{Change, Learn, Confirm, Classify, Allowed, IsChecked, after, confirmed_by}
use Rattle.r6_world.specs.Steps.{Takes, Good, Taken, Through}
use Rattle.r6_world.specs.Layouts.{Layout}
use Rattle.r6_world.specs.Geometries.{layout_of}
use Rattle.r6_world.specs.Tasks.{Hold}
use Rattle.r6_frames.specs.declared.command.Outstanding.{Outstanding}
use Rattle.r6_frames.specs.declared.frames.Job.{Job}
use Rattle.r6_frames.specs.declared.frames.Job.TheVariants as job
use Rattle.r6_frames.specs.declared.frames.Scrub.TheVariants as scrub
use Rattle.r6_frames.specs.declared.frames.HeldRow.{HeldRow}
use Rattle.r6_frames.specs.declared.frames.FrameUse.{FrameUse}
use Rattle.r6_frames.specs.declared.frames.FrameUse.TheVariants.{Held as HeldIn}
use Rattle.r6_frames.specs.FramesState.{FramesState, Commands}
use Rattle.r6_frames.specs.declared.command.Action.{Action}
use Rattle.r6_frames.specs.declared.command.Action.TheVariants as action
use Rattle.r6_frames.specs.Actions.{is_write}
use Rattle.r6_frames.specs.Successors.{is_own, brought_home}
use Rattle.r6_frames.specs.Slots.{is_abandoned, second_of, slot_in, states_of}
use Rattle.r6_frames.proofs.Devices.{AreApart, apart_of, different, two_of_row, two_of_target}
use Rattle.r6_frames.specs.Views.{hold_at, hold_of, kind_in, task_by, held_entry, requests_by, request_at, held_requests, outstanding, command_of, transfer_of, use_at, Rest, shard_with, AreLive}
use Rattle.r6_frames.specs.Calls.{Answers, Classifies, IsAwaited, IsAbandoned, KeepsOthers, KeepsRows}
use Rattle.r6_frames.specs.Owed.{owed, LacksBlocks}
use Rattle.r6_frames.specs.Reads.{IsOfRead}
use Rattle.r6_frames.specs.Uses.{IsBufferAway}
use Rattle.r6_frames.specs.Sound.{IsSound, IsHeld, IsJob, AreDevices, buffer_of, buffers_away, device_in, is_away_from, is_buffer_away, is_write_out, place_of, standing_for, successor_in, with_target_of}
use Rattle.r6_frames.proofs.SlotsInTurn.{some_slots, position_left}
use Rattle.r6_stripe.proofs.Steps.{not_out_is}
use Rattle.r6_stripe.proofs.CellsAfter.{kind_after}
use Rattle.r6_frames.proofs.UnderWay.{under_way_fine}
use Rattle.r6_frames.proofs.LeftDevices.{buffer_own, buffer_apart}
use Rattle.r6_frames.proofs.HeldRows.{owes_no_more, use_found, standing_stays, second_stays}
use Rattle.r6_frames.proofs.Held.{use_at_other, use_held, held_within, hold_at_own, frame_put, put_own, put_twice, rows_stay, free_at, owed_at}
use Rattle.r6_frames.proofs.Readable.{IsHelpful, Lacks, lacks_before, lacks_in, lacks_at}
use Rattle.r6_frames.proofs.AnsweredRows.{Comes, answer_event, answer_at, heard_comes, settled_comes, settled_is, copy_sent, comes_row, away_then, apart_then, with_class, classed_held}
use Rattle.r6_frames.proofs.BuffersHome.{IsHome, live_cases, home_of, buffers_then, buffer_below, left_of, commands_gone, sound_left, owed_left, requests_left}

-- ---- a command and its row

pub place_within : (fs : FramesState) (c : Outstanding) → IsSound fs → place_of fs c < fs.geometry.slots
place_within fs c sound = position_at-lt fs.geometry c.row c.slot (some_slots sound.shape)

-- it left with its position's own buffer
abbrev pub own_of : Outstanding → HeldRow → Bool
own_of c h = is_own h.successor c.slot c.generation

-- the command was taken and not abandoned, and is one of the held row
pub record IsOut (fs : FramesState) (token : ℕ) (c : Outstanding) (h : HeldRow) : Type 0 where
  pub live : AreLive fs
  pub taken : token < fs.next_taken
  pub there : outstanding fs token ≡ Some c
  pub wanted : is_abandoned fs.slots token c ≡ false
  pub held : hold_at fs.uses c.frame ≡ Some h
  pub whole : IsHeld fs.geometry fs.shard fs.slots h
  pub row : c.row ≡ h.row
  pub inside : place_of fs c < fs.geometry.slots
  pub slot : c.slot < fs.geometry.slots
  -- with its position's own buffer, or the one that is no position's
  pub buffer : buffer_of fs c ≡ (if own_of c h then place_of fs c else fs.geometry.slots)
  pub away : is_buffer_away h.hold (buffer_of fs c) ≡ true
  pub own_away : own_of c h ≡ true → is_away h.hold (place_of fs c) ≡ true
  pub second_away : own_of c h ≡ false → h.hold.second_away ≡ true
  pub device : c.generation ≡ device_in (own_of c h) (states_of fs.slots c.slot)
  pub not_out : standing_for (own_of c h) (cell_at h.hold.planned.hold.cells (place_of fs c)) ≢ Out
  pub writes : is_write c.action ≡ is_write_out (own_of c h) (cell_at h.hold.planned.hold.cells (place_of fs c))

pub not_abandoned : (fs : FramesState) (token : ℕ) (c : Outstanding) → outstanding fs token ≡ Some c → (IsAbandoned fs token → ⊥) → is_abandoned fs.slots token c ≡ false
not_abandoned fs token c there wanted =
    elim (is_abandoned fs.slots token c) as (λ b. is_abandoned fs.slots token c ≡ b → is_abandoned fs.slots token c ≡ false) [
      | true ↦ λ e. absurd (wanted (c, there, e))
      | false ↦ λ e. e
    ] refl

-- a command that isn't abandoned is one of a held row, and holds go on
pub out_of : (fs : FramesState) (token : ℕ) (c : Outstanding) → IsSound fs → IsAwaited fs token → (IsAbandoned fs token → ⊥) → (IsOfRead fs token → ⊥) → outstanding fs token ≡ Some c → (h : HeldRow) × IsOut fs token c h
out_of fs token c sound awaited wanted held there =
    let still = not_abandoned fs token c there wanted in
    let live : AreLive fs = elim (live_cases fs) [
      | inl live ↦ live
      | inr stopped ↦ absurd (wanted (c, there, sound.commands.stopped stopped token c there))
    ] in
    let of_frame : c.frame < frames = elim (cases_lt c.frame frames) [ inl below ↦ below | inr above ↦ absurd (held (c, there, above)) ] in
    let of = sound.commands.of_frame live token c there of_frame in
    let inside = place_within fs c sound in
    elim (hold_at fs.uses c.frame) as (λ o. hold_at fs.uses c.frame ≡ o → (h : HeldRow) × IsOut fs token c h) [
      | None ↦ λ none. absurd (let abandoned = of.ended none in cc)
      | Some h ↦ λ held.
          let mine = of.held h held in
          let whole = sound.frames.rows c.frame h held in (
            h,
            record {
              live = live;
              taken = awaited.2;
              there = there;
              wanted = still;
              held = held;
              whole = whole;
              row = mine.row;
              inside = inside;
              slot = (sound.commands.lawful token c there).0;
              buffer = buffer c h (use_held fs.uses c.frame h held);
              away = away_is c h (use_held fs.uses c.frame h held) of.away;
              own_away = λ own.
                  sym (buffer_own h.hold (place_of fs c) (omega (arith, whole.wide_away, inside)))
                  ∙ ap (is_buffer_away h.hold) (sym (buffer c h (use_held fs.uses c.frame h held) ∙ ap (λ (o : Bool). if o then place_of fs c else fs.geometry.slots) own))
                  ∙ away_is c h (use_held fs.uses c.frame h held) of.away;
              second_away = λ apart.
                  sym (buffer_apart h.hold)
                  ∙ ap (is_buffer_away h.hold) (whole.wide_away ∙ sym (buffer c h (use_held fs.uses c.frame h held) ∙ ap (λ (o : Bool). if o then place_of fs c else fs.geometry.slots) apart))
                  ∙ away_is c h (use_held fs.uses c.frame h held) of.away;
              device = mine.device still;
              not_out = not_out_is (standing_for (own_of c h) (cell_at h.hold.planned.hold.cells (place_of fs c))) (sym mine.abandoned ∙ still);
              writes = mine.writes still;
            },
          )
    ] refl
  where
    buffer : (c : Outstanding) (h : HeldRow) → use_at fs.uses c.frame ≡ HeldIn h → buffer_of fs c ≡ (if own_of c h then place_of fs c else fs.geometry.slots)
    buffer c h is = ap (λ v. if is_own (successor_in v) c.slot c.generation then place_of fs c else fs.geometry.slots) is

    away_is : (c : Outstanding) (h : HeldRow) → use_at fs.uses c.frame ≡ HeldIn h → is_away_from (use_at fs.uses c.frame) (buffer_of fs c) ≡ true → is_buffer_away h.hold (buffer_of fs c) ≡ true
    away_is c h is away = sym (ap (λ v. is_away_from v (buffer_of fs c)) is) ∙ away

-- the use of the command's frame, as it is read
pub out_there : (fs : FramesState) (token : ℕ) (c : Outstanding) (read : FrameUse) → IsSound fs → IsAwaited fs token → (IsAbandoned fs token → ⊥) → (IsOfRead fs token → ⊥) → outstanding fs token ≡ Some c
    → read ≡ slice_index_or fs.uses c.frame read → (h : HeldRow) × (read ≡ HeldIn h) × IsOut fs token c h
out_there fs token c read sound awaited wanted held there value =
    let out = out_of fs token c sound awaited wanted held there in
    let below = held_within fs.uses c.frame out.0 out.1.held in
    (out.0, sym (use_found fs.uses c.frame read read below value refl) ∙ use_held fs.uses c.frame out.0 out.1.held, out.1)

pub out_row : (fs : FramesState) (token : ℕ) (c : Outstanding) (h : HeldRow) (read : FrameUse) → IsSound fs → IsAwaited fs token → (IsAbandoned fs token → ⊥) → (IsOfRead fs token → ⊥) → outstanding fs token ≡ Some c
    → read ≡ slice_index_or fs.uses c.frame read → read ≡ HeldIn h → IsOut fs token c h
out_row fs token c h read sound awaited wanted held there value is =
    let out = out_there fs token c read sound awaited wanted held there value in
    let same : out.0 ≡ h = let both = sym out.1 ∙ is in cc in
    subst (IsOut fs token c) same out.2

pub out_held : (fs : FramesState) (token : ℕ) (c : Outstanding) (h : HeldRow) → IsSound fs → IsAwaited fs token → (IsAbandoned fs token → ⊥) → (IsOfRead fs token → ⊥) → outstanding fs token ≡ Some c
    → hold_at fs.uses c.frame ≡ Some h → IsOut fs token c h
out_held fs token c h sound awaited wanted held there is =
    let out = out_of fs token c sound awaited wanted held there in
    let same : out.0 ≡ h = let both = sym out.1.held ∙ is in cc in
    subst (IsOut fs token c) same out.1

-- its place, as far from the row's first slot
pub place_left : (fs : FramesState) (token : ℕ) (c : Outstanding) (h : HeldRow) (position : ℕ) → IsShape fs.geometry → IsOut fs token c h → position < fs.geometry.slots
    → (position + h.first_slot) % fs.geometry.slots ≡ c.slot → position ≡ place_of fs c
place_left fs token c h position shape out below is =
    position_left fs.geometry (some_slots shape) h.row h.first_slot position c.slot out.whole.first below is
    ∙ ap (λ row. position_at fs.geometry row c.slot) (sym out.row)

-- its buffer is away from the row
pub buffer_away : (fs : FramesState) (token : ℕ) (c : Outstanding) (h : HeldRow) (position : ℕ) → IsOut fs token c h → position ≡ place_of fs c → (own : Bool) → own_of c h ≡ own → IsBufferAway own h.hold position
buffer_away fs token c h position out at true is = ap (is_away h.hold) at ∙ out.own_away is
buffer_away fs token c h position out at false is = out.second_away is

-- ---- which event it is

abbrev pub event_of : (own write : Bool) → Reading → ℕ → Block → Event
event_of own write reading position block = if own then answer_event write reading position block else Settles position

abbrev AreSlotsApart : FramesState → Type 0
AreSlotsApart fs = (slot : ℕ) → AreApart (slot_in fs.slots slot).device

second_there : (fs : FramesState) (c : Outstanding) (h : HeldRow) → IsHeld fs.geometry fs.shard fs.slots h → AreSlotsApart fs → c.row ≡ h.row → place_of fs c < fs.geometry.slots → c.slot < fs.geometry.slots
    → (cell_at h.hold.planned.hold.cells (place_of fs c)).second ≢ Out → generation_in (states_of fs.slots c.slot) ≢ second_in (states_of fs.slots c.slot)
second_there fs c h whole apart row inside slot there =
    let d = (slot_in fs.slots c.slot).device in
    let is_slot : slot_at fs.geometry h.row (place_of fs c) ≡ c.slot = ap (λ (r : ℕ). slot_at fs.geometry r (place_of fs c)) (sym row) ∙ slot_at-position_at fs.geometry c.row c.slot slot in
    let two : second_of d ≢ None = elim (whole.standing (place_of fs c) inside) [
      | inl same ↦ two_of_row d h.row (λ out. there (ap (λ (s : Standing × Standing). s.1) same ∙ ap (λ (slot : ℕ). (standings_of (states_of fs.slots slot) h.row).1) is_slot ∙ out))
      | inr t ↦ two_of_target d (λ out. there (ap (λ (s : Standing × Standing). s.1) t.0 ∙ ap (λ (slot : ℕ). (with_target_of (slot_in fs.slots slot).device).1) is_slot ∙ out))
    ] in
    different d (apart c.slot) two

-- ---- the state

module _ (fs : FramesState) (token : ℕ) (c : Outstanding) (h : HeldRow) (out : IsOut fs token c h) where
  abbrev at : ℕ
  at = place_of fs c

  abbrev own : Bool
  own = own_of c h

  -- the row and the frames when the command was answered by this event, and its hold has this class
  abbrev pub row_of : Event → Option RowClass → HeldRow
  row_of event class = with_class (comes_row h own at event) class

  abbrev pub answered_of : Event → Option RowClass → FramesState
  answered_of event class = left_of fs token (set fs.uses c.frame (HeldIn (row_of event class))) fs.spare

  module _ (sound : IsSound fs) (event : Event) (a : Comes fs.geometry fs.shard fs.slots h own at event) (class : Option RowClass) where
    abbrev h' : HeldRow
    h' = row_of event class

    answered_home : IsHome fs c (HeldIn h')
    answered_home =
        let cells = h.hold.planned.hold.cells in
        let later = (after_event h.hold.planned.hold event).cells in
        home_of fs c h h' out.held
        (subst (λ (b : ℕ). b < length (buffers_away h.hold)) (sym out.buffer) (buffer_below h.hold.away h.hold.second_away own at fs.geometry.slots out.whole.wide_away out.inside))
        out.away
        (buffers_then h.hold.away h.hold.second_away own at fs.geometry.slots out.whole.wide_away out.inside ∙ ap (λ (b : ℕ). set (buffers_away h.hold) b false) (sym out.buffer))
        (record {
          was = h;
          is = out.held;
          whole = classed_held fs.geometry fs.shard fs.slots (comes_row h own at event) class a.whole;
          row = refl;
          successor = refl;
          stands = λ o j.
              let first = standing_stays h.hold.planned.hold event j a.steady in
              let second = second_stays h.hold.planned.hold event j a.steady in
              λ i. if o then first i else second i;
          writes = λ j other. a.writes j (λ is_own e. other (e ∙ sym (out.buffer ∙ ap (λ (o : Bool). if o then at else fs.geometry.slots) is_own)));
        })
        refl

    pub answered_sound : IsSound (answered_of event class)
    answered_sound =
        let of_row = use_held fs.uses c.frame h out.held in
        let below = held_within fs.uses c.frame h out.held in
        sound_left fs token c out.there (set fs.uses c.frame (HeldIn h')) fs.spare (HeldIn h') refl answered_home (omega (arith, sound.frames.count, below)) sound out.taken
        (omega (arith, ap free_at of_row))

    pub answered_owed : owed (answered_of event class) ≤ owed fs
    answered_owed =
        let of_row = use_held fs.uses c.frame h out.held in
        let below = held_within fs.uses c.frame h out.held in
        owed_left fs token c out.there (set fs.uses c.frame (HeldIn h')) fs.spare (HeldIn h') refl answered_home (omega (arith, sound.frames.count, below))
        (omega (arith, owes_no_more h.hold.planned event (under_way_fine fs.geometry h.hold.planned sound.shape out.whole.under_way) a.may, ap owed_at of_row))

    pub answered_requests : held_requests (answered_of event class) ≡ held_requests fs
    answered_requests =
        let of_row = use_held fs.uses c.frame h out.held in
        let below = held_within fs.uses c.frame h out.held in
        requests_left fs token c out.there (set fs.uses c.frame (HeldIn h')) fs.spare (HeldIn h') refl answered_home (omega (arith, sound.frames.count, below))
        (ap (λ k. map (held_entry c.frame) (requests_by h.job k)) (kind_after h.hold.planned.hold event) ∙ sym (ap (request_at c.frame) of_row))

  stores : (what : Action) (block : Option Block) → is_write what ≡ true → transfer_of what block ≢ Fetch
  stores action.Read block is e = absurd (cc)
  stores action.Write None is e = cc
  stores action.Write (Some block) is e = cc
  stores action.Copy None is e = cc
  stores action.Copy (Some block) is e = cc

  fetches : (what : Action) (block : Option Block) → is_write what ≡ false → transfer_of what block ≡ Fetch
  fetches action.Read block is = refl
  fetches action.Write block is = absurd (cc)
  fetches action.Copy block is = absurd (cc)

  -- the frame's hold as the world has it
  frame_is : (event : Event) (class : Option RowClass) → (λ x. option_map hold_of (hold_at (answered_of event class).uses x))
      ≡ put (λ x. option_map hold_of (hold_at fs.uses x)) c.frame (Some (hold_of (row_of event class)))
  frame_is event class = frame_put fs.uses c.frame (HeldIn (row_of event class)) (held_within fs.uses c.frame h out.held)

  -- the shard when the command was answered
  pub shard_is : (rest : Rest) (event : Event) (class : Option RowClass) → shard_with rest (answered_of event class)
      ≡ record (shard_with rest fs) { frame = put (shard_with rest fs).frame c.frame (Some (hold_of (row_of event class))); command = put (shard_with rest fs).command token None }
  shard_is rest event class = λ i. record (shard_with rest fs) { frame = frame_is event class i; command = commands_gone fs.slots fs.commands.entries fs.next_taken token i }

  -- the class is that of the row then, or as it was
  abbrev Classed : Event → Option RowClass → Type 0
  Classed event class = IsClassAfter (after_event h.hold.planned.hold event) h.hold.class class ⊎ (class ≡ h.hold.class)

  -- then the row is classified, if the whole of it was read
  classifies : (rest : Rest) (event : Event) (class : Option RowClass) → Classed event class
      → Through (layout_of fs.geometry) fs.shard Classifies (shard_with rest (answered_of event h.hold.class)) (shard_with rest (answered_of event class))
  classifies rest event class classed = elim classed [
    | inl found ↦ by_class h.hold.class refl found
    | inr same ↦ none same
  ]
    where
      kind : kind_in (comes_row h own at event) ≡ kind_in h
      kind = kind_after h.hold.planned.hold event

      l : Layout
      l = layout_of fs.geometry

      s : Shard
      s = shard_with rest (answered_of event h.hold.class)

      first : Hold
      first = hold_of (comes_row h own at event)

      none : class ≡ h.hold.class → Through l fs.shard Classifies s (shard_with rest (answered_of event class))
      none same = ([], ap (λ x. shard_with rest (answered_of event x)) same)

      checked : wants_all (kind_in h) ≡ true → IsChecked (task_by h.job (kind_in h))
      checked all = by_job h.job out.whole.job
        where
          by_job : (what : Job) → IsJob fs.geometry h.row what (kind_in h) → IsChecked (task_by what (kind_in h))
          by_job (job.Read served buffer) is = absurd (let e = sym (ap wants_all is.1) ∙ all in cc)
          by_job (job.Write served) is = absurd (let e = sym (ap wants_all is.2) ∙ all in cc)
          by_job (job.Scrub scrub.Check) is = record {}
          by_job (job.Scrub scrub.Repair) is = record {}
          by_job (job.Rebuild target) is = absurd (let e = sym (ap wants_all is.1) ∙ all in cc)

      one : (found : RowClass) → h.hold.class ≡ None → class ≡ Some found → is_read_whole first.course ≡ true → IsClassRead first.course.cells found
          → Through l fs.shard Classifies s (shard_with rest (answered_of event class))
      one found unclassed is whole read = (
        Classify c.frame first found ∷ [],
        (
          record {},
          (
            ap (λ (g : ℕ → Option Hold). g c.frame) (frame_is event h.hold.class) ∙ put_own (λ x. option_map hold_of (hold_at fs.uses x)) c.frame (Some first),
            out.live,
            subst (λ (k : Kind). IsChecked (task_by h.job k)) (sym kind) (checked (sym (ap wants_all kind) ∙ (and_parts (wants_all first.course.kind) _ whole).0)),
            unclassed,
            read,
          ),
          classified,
        ),
      )
        where
          classified : shard_with rest (answered_of event class) ≡ after l s (Classify c.frame first found)
          classified =
              shard_is rest event class
              ∙ ap (λ x. record (shard_with rest fs) { frame = put (shard_with rest fs).frame c.frame (Some (hold_of (row_of event x))); command = put (shard_with rest fs).command token None }) is
              ∙ sym (ap (λ (x : Shard). record x { frame = put x.frame c.frame (Some (record first { class = Some found })) }) (shard_is rest event h.hold.class)
              ∙ ap (λ g. record (shard_with rest fs) { frame = g; command = put (shard_with rest fs).command token None })
              (put_twice (shard_with rest fs).frame c.frame (Some first) (Some (record first { class = Some found }))))

      by_class : (old : Option RowClass) → h.hold.class ≡ old → IsClassAfter first.course old class → Through l fs.shard Classifies s (shard_with rest (answered_of event class))
      by_class (Some was) same found = none (found ∙ sym same)
      by_class None same found = by_whole (is_read_whole first.course) refl found
        where
          by_whole : (whole : Bool) → is_read_whole first.course ≡ whole → IsClassIf whole first.course.cells class → Through l fs.shard Classifies s (shard_with rest (answered_of event class))
          by_whole false e found = none (found ∙ sym same)
          by_whole true e found = one found.0 same found.1 e found.2

  -- the hold of the frame with another course
  abbrev course_of : Event → Hold
  course_of event = record (hold_of h) { course = after_event (hold_of h).course event }

  -- the event leaves the plan
  plan_stays : (event : Event) (class : Option RowClass) → planned_after h.hold.planned event ≡ record { hold = after_event h.hold.planned.hold event; plan = h.hold.planned.plan }
      → class ≡ h.hold.class → hold_of (row_of event class) ≡ record (course_of event) { task = task_by h.job (kind_in (row_of event class)) }
  plan_stays event class same found = λ i. record (hold_of (row_of event class)) { course = (same i).hold; plan = (same i).plan; class = found i }

  pub answers : (block : Block) (event : Event) (class : Option RowClass) → AreDevices fs → event ≡ event_of own (is_write c.action) (cell_at h.hold.planned.hold.cells at).reading at block
      → planned_after h.hold.planned event ≡ record { hold = after_event h.hold.planned.hold event; plan = h.hold.planned.plan }
      → Classed event class
      → Answers fs token block (answered_of event class)
  answers block event class devices event_is plan found = (refl, refl, λ rest. by_kind rest (is_write c.action) refl own refl, refl)
    where
      l : Layout
      l = layout_of fs.geometry

      wc : Command
      wc = command_of fs.slots fs.next_taken token c

      first : ℕ
      first = position_at fs.geometry h.row c.slot

      here : at ≡ first
      here = ap (λ (row : ℕ). position_at fs.geometry row c.slot) out.row

      -- the course by the world's event, which is this one
      heard : (rest : Rest) (other : Event) → event ≡ other
          → shard_with rest (answered_of event h.hold.class)
          ≡ record (shard_with rest fs) { frame = put (shard_with rest fs).frame c.frame (Some (course_of other)); command = put (shard_with rest fs).command token None }
      heard rest other same =
          shard_is rest event h.hold.class
          ∙ (λ i. record (shard_with rest fs) {
            frame = put (shard_with rest fs).frame c.frame (Some ((plan_stays event h.hold.class plan refl ∙ (λ j. record (course_of event) { task = task_by h.job (kind_after h.hold.planned.hold event j) }) ∙ ap course_of same) i));
            command = put (shard_with rest fs).command token None;
          })

      -- the world takes it for an answer of the same one of the slot's devices
      of_first : own ≡ true → confirming (cell_at h.hold.planned.hold.cells first).reading first ≡ confirmed_by (states_of fs.slots c.slot) c.generation (cell_at h.hold.planned.hold.cells first).reading first
      of_first is =
          let state = states_of fs.slots c.slot in
          let same = eq-eqb (generation_in state) c.generation (sym (out.device ∙ ap (λ (o : Bool). device_in o state) is)) in
          sym (ap (λ (b : Bool). if b then confirming (cell_at h.hold.planned.hold.cells first).reading first else Settles first) same)

      of_second : own ≡ false → Settles first ≡ confirmed_by (states_of fs.slots c.slot) c.generation (cell_at h.hold.planned.hold.cells first).reading first
      of_second is =
          let state = states_of fs.slots c.slot in
          let two = second_there fs c h out.whole (λ slot. apart_of fs.geometry fs.shard (slot_in fs.slots slot).device (devices.each slot)) out.row out.inside out.slot (λ none. out.not_out (ap (λ (o : Bool). standing_for o (cell_at h.hold.planned.hold.cells at)) is ∙ none)) in
          let other = ne_eqb (generation_in state) c.generation (λ e. two (e ∙ out.device ∙ ap (λ (o : Bool). device_in o state) is)) in
          sym (ap (λ (b : Bool). if b then confirming (cell_at h.hold.planned.hold.cells first).reading first else Settles first) other)

      event_at : (o w : Bool) → own ≡ o → is_write c.action ≡ w → event ≡ event_of o w (cell_at h.hold.planned.hold.cells first).reading first block
      event_at o w owned writes = event_is ∙ (λ i. event_of (owned i) (writes i) (cell_at h.hold.planned.hold.cells (here i)).reading (here i) block)

      by_kind : (rest : Rest) (w : Bool) → is_write c.action ≡ w → (o : Bool) → own ≡ o
          → (change : Change) × Takes l (shard_with rest fs) token (Good block) Taken change × Allowed l fs.shard (shard_with rest fs) change
          × Through l fs.shard Classifies (after l (shard_with rest fs) change) (shard_with rest (answered_of event class))
      by_kind rest false writes true owned = (
        Learn token wc (hold_of h) block,
        (refl, refl, lt-ltb token fs.next_taken out.taken),
        (ap (option_map (command_of fs.slots fs.next_taken token)) out.there, out.wanted, ap (option_map hold_of) out.held, fetches c.action c.buffer writes),
        subst (λ (x : Shard). Through l fs.shard Classifies x (shard_with rest (answered_of event class)))
            (heard rest (Gives first block) (event_at true false owned writes))
            (classifies rest event class found),
      )
      by_kind rest false writes false owned =
          absurd (let w = out.writes ∙ ap (λ (o : Bool). is_write_out o (cell_at h.hold.planned.hold.cells at)) owned in let both = sym writes ∙ w in cc)
      by_kind rest true writes o owned = (
        Confirm token wc (hold_of h),
        (refl, lt-ltb token fs.next_taken out.taken),
        (ap (option_map (command_of fs.slots fs.next_taken token)) out.there, out.wanted, ap (option_map hold_of) out.held, stores c.action c.buffer writes),
        subst (λ (x : Shard). Through l fs.shard Classifies x (shard_with rest (answered_of event class)))
            (heard rest (confirmed_by (states_of fs.slots c.slot) c.generation (cell_at h.hold.planned.hold.cells first).reading first)
            (event_at o true owned writes ∙ by_own o owned))
            (classifies rest event class found),
      )
        where
          by_own : (o : Bool) → own ≡ o → event_of o true (cell_at h.hold.planned.hold.cells first).reading first block ≡ confirmed_by (states_of fs.slots c.slot) c.generation (cell_at h.hold.planned.hold.cells first).reading first
          by_own true is = of_first is
          by_own false is = of_second is

-- ---- the call

-- what the call leaves, when the hold has heard the answer
pub record Completed (fs : FramesState) (token : ℕ) (block : Block) (frame : ℕ) (h : HeldRow) (new : FramesState) : Type 0 where
  pub sound : IsSound new
  pub answers : Answers fs token block new
  pub held : hold_at new.uses frame ≡ Some h
  pub rows : KeepsRows fs new
  pub others : KeepsOthers fs frame new
  pub owed : owed new ≤ owed fs
  pub readable : LacksBlocks new frame → LacksBlocks fs frame
  pub requests : held_requests new ≡ held_requests fs

answer_helps : (own write : Bool) (reading : Reading) (position : ℕ) (block : Block) → IsHelpful (event_of own write reading position block)
answer_helps false write reading position block = record {}
answer_helps true false reading position block = record {}
answer_helps true true Unread position block = record {}
answer_helps true true Recalled position block = record {}
answer_helps true true Asked position block = record {}
answer_helps true true Unreadable position block = record {}
answer_helps true true Fixing position block = record {}
answer_helps true true Fixed position block = record {}
answer_helps true true AskedAgain position block = record {}
answer_helps true true (Known b) position block = record {}
answer_helps true true Replaced position block = record {}

-- the hold hears it so
record IsAnswer (fs : FramesState) (c : Outstanding) (h : HeldRow) (block : Block) (event : Event) : Type 0 where
  comes : Comes fs.geometry fs.shard fs.slots h (own_of c h) (place_of fs c) event
  is : (brought_home (own_of c h) h.hold (place_of fs c) block).planned ≡ planned_after h.hold.planned event
  -- no plan changes
  plan : planned_after h.hold.planned event ≡ record { hold = after_event h.hold.planned.hold event; plan = h.hold.planned.plan }

answer_is : (fs : FramesState) (token : ℕ) (c : Outstanding) (h : HeldRow) (block : Block) → IsSound fs → IsOut fs token c h → (own : Bool) → own_of c h ≡ own
    → IsAnswer fs c h block (event_of own (is_write c.action) (cell_at h.hold.planned.hold.cells (place_of fs c)).reading (place_of fs c) block)
answer_is fs token c h block sound out true is =
    let at = place_of fs c in
    let cell = cell_at h.hold.planned.hold.cells at in
    let a = answer_at fs.geometry fs.shard fs.slots h at block (is_write c.action) sound.shape out.whole out.inside (λ o. out.not_out (ap (λ (o : Bool). standing_for o cell) is ∙ o)) (out.own_away is)
    (out.writes ∙ ap (λ (o : Bool). is_write_out o cell) is) in
    record {
      comes = subst (λ (o : Bool). Comes fs.geometry fs.shard fs.slots h o at (answer_event (is_write c.action) cell.reading at block)) (sym is) (heard_comes fs.geometry fs.shard fs.slots h at (answer_event (is_write c.action) cell.reading at block) out.whole out.inside a.heard);
      plan = a.plan;
      is = ap (λ (o : Bool). (brought_home o h.hold at block).planned) is ∙ a.is;
    }
answer_is fs token c h block sound out false is =
    let at = place_of fs c in
    let cell = cell_at h.hold.planned.hold.cells at in
    let there : cell.second ≢ Out = λ o. out.not_out (ap (λ (o : Bool). standing_for o cell) is ∙ o) in
    let sent = copy_sent fs.geometry fs.shard fs.slots h at out.whole out.inside there (out.second_away is) in
    record {
      comes = subst (λ (o : Bool). Comes fs.geometry fs.shard fs.slots h o at (Settles at)) (sym is) (settled_comes fs.geometry fs.shard fs.slots h at sound.shape out.whole out.inside there sent);
      plan = refl;
      is = ap (λ (o : Bool). (brought_home o h.hold at block).planned) is ∙ settled_is h.hold.planned at there sent;
    }

brought_is : (own : Bool) (h : HeldRow) (position : ℕ) (block : Block) → brought_home own h.hold position block
    ≡ record { planned = (brought_home own h.hold position block).planned; away = away_then h own position; class = h.hold.class; second_away = apart_then h own }
brought_is true h position block = refl
brought_is false h position block = refl

pub completed : (fs : FramesState) (token : ℕ) (c : Outstanding) (h : HeldRow) (block : Block) (position : ℕ) (hold : HeldHold) (commands : Commands) → IsSound fs → IsOut fs token c h
    → position ≡ place_of fs c → hold ≡ record (brought_home (own_of c h) h.hold position block) { class = hold.class }
    → (own_of c h ≡ true → IsClassAfter hold.planned.hold h.hold.class hold.class) → (own_of c h ≡ false → hold.class ≡ h.hold.class)
    → commands ≡ record { next = fs.commands.next; entries = finite.remove fs.commands.entries token }
    → Completed fs token block c.frame (record h { hold = hold }) (record fs { uses = set fs.uses c.frame (HeldIn (record h { hold = hold })); commands = commands })
completed fs token c h block position hold commands sound out at done found kept rest =
    let event = event_of (own_of c h) (is_write c.action) (cell_at h.hold.planned.hold.cells (place_of fs c)).reading (place_of fs c) block in
    let a = answer_is fs token c h block sound out (own_of c h) refl in
    let goes : hold ≡ (with_class (comes_row h (own_of c h) (place_of fs c) event) hold.class).hold =
    done ∙ ap (λ p. record (brought_home (own_of c h) h.hold p block) { class = hold.class }) at
    ∙ ap (λ (x : HeldHold). record x { class = hold.class }) (brought_is (own_of c h) h (place_of fs c) block)
    ∙ (λ i. record { planned = a.is i; away = away_then h (own_of c h) (place_of fs c); class = hold.class; second_away = apart_then h (own_of c h) }) in
    let same : record fs { uses = set fs.uses c.frame (HeldIn (record h { hold = hold })); commands = commands } ≡ answered_of fs token c h out event hold.class =
    λ i. record fs { uses = set fs.uses c.frame (HeldIn (record h { hold = goes i })); commands = rest i } in
    let after : IsClassAfter (after_event h.hold.planned.hold event) h.hold.class hold.class ⊎ (hold.class ≡ h.hold.class) =
    elim (own_of c h) as (λ o. own_of c h ≡ o → IsClassAfter (after_event h.hold.planned.hold event) h.hold.class hold.class ⊎ (hold.class ≡ h.hold.class)) [
      | true ↦ λ is. inl (subst (λ (x : HeldHold). IsClassAfter x.planned.hold h.hold.class hold.class) goes (found is))
      | false ↦ λ is. inr (kept is)
    ] refl in
    record {
      sound = subst IsSound (sym same) (answered_sound fs token c h out sound event a.comes hold.class);
      answers = subst (Answers fs token block) (sym same) (answers fs token c h out block event hold.class sound.devices refl a.plan after);
      held = hold_at_own fs.uses c.frame (HeldIn (record h { hold = hold })) (held_within fs.uses c.frame h out.held);
      rows = rows_stay fs.uses c.frame h (record h { hold = hold }) out.held refl;
      others = λ other ne. use_at_other fs.uses c.frame (HeldIn (record h { hold = hold })) other ne;
      owed = subst (λ (x : FramesState). owed x ≤ owed fs) (sym same) (answered_owed fs token c h out sound event a.comes hold.class);
      readable = λ lacks.
          let own = hold_at_own fs.uses c.frame (HeldIn (record h { hold = hold })) (held_within fs.uses c.frame h out.held) in
          let new : FramesState = record fs { uses = set fs.uses c.frame (HeldIn (record h { hold = hold })); commands = commands } in
          let now = lacks_in new c.frame (record h { hold = hold }) own lacks in
          lacks_at fs c.frame h out.held
          (lacks_before h.hold.planned event (answer_helps (own_of c h) (is_write c.action) (cell_at h.hold.planned.hold.cells (place_of fs c)).reading (place_of fs c) block) a.comes.may
          (subst (λ (x : HeldHold). Lacks x.planned) goes now));
      requests = ap held_requests same ∙ answered_requests fs token c h out sound event a.comes hold.class;
    }
