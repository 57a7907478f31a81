-- What the buffer of an abandoned command does when it comes home.
use Rattle.std.proofs.Common.{◌≡◌, ◌≢◌, inl, inr, ℕ, ◌+◌, ◌<◌, Bool, true, false, cond, List, [], ◌∷◌, ◌++◌, length, set, refl, sym, ap, subst, ◌∙◌, Option, Some, None, arith, get_or-set_same, get_or-set_other}
use Rattle.std.specs.Prelude.{◌&&◌, not, nat_eq, option_map, slice_index_or, if◌then◌else◌}
use mathlib.Core.Path.{fun_ext}
use Rattle.std.specs.FinMap as map
use Rattle.std.specs.List.{All}
use Rattle.std.proofs.lemmas.Bool.{lt-ltb}
use Rattle.std.proofs.lemmas.List.{length-set}
use Rattle.std.proofs.lemmas.List.Elements.{All-cons, All-nil}
use Rattle.r6_stripe.specs.Frames as buffers
use Rattle.r6_stripe.specs.Holds.{Event, Kind, cell_at}
use Rattle.r6_stripe.specs.Holds.Standing.{Out}
use Rattle.r6_stripe.specs.Holds.Event.{Confirms, Gives, Mends, Settles}
use Rattle.r6_stripe.specs.Plans.{Planned, is_fixing, is_out, is_sent, planned_after}
use Rattle.r6_stripe.specs.Steps.{Held as StripeHold, is_away, with_answer, with_settled}
use Rattle.r6_stripe.proofs.CellsAfter.{kind_after, size_after, width_after}
use Rattle.r6_stripe.proofs.Steps.{out_is}
use Rattle.r6_layout.specs.PlainArray.{Block}
use Rattle.r6_world.specs.ShardStates.{frames}
use Rattle.r6_frames.specs.declared.command.Outstanding.{Outstanding}
use Rattle.r6_frames.specs.declared.frames.HeldRow.{HeldRow}
use Rattle.r6_frames.specs.declared.frames.FrameUse.{FrameUse}
use Rattle.r6_frames.specs.declared.frames.FrameUse.TheVariants.{Free, Held as HeldIn, Returning}
use Rattle.r6_frames.specs.declared.successor.Successor.{Successor}
use Rattle.r6_frames.specs.declared.successor.Successor.TheVariants.{None as NoOther, Beside, InPlace, Dropped}
use Rattle.r6_frames.specs.Successors.{beside_in, brought_home, is_own}
use Rattle.r6_frames.proofs.LeftDevices.{buffer_own, buffer_apart}
use Rattle.std.specs.List.{list_any}
use Rattle.r6_layout.specs.Layout.{slot_at}
use Rattle.r6_layout.proofs.Roles.{slot_at-position_at}
use Rattle.r6_frames.specs.FramesState.{FramesState, Commands}
use Rattle.r6_frames.specs.Slots.{is_abandoned}
use Rattle.r6_frames.specs.Views.{use_at, row_in, hold_at, hold_of, plan_in, request_at, held_requests, outstanding, command_of, shard_with, AreLive}
use Rattle.r6_frames.specs.Calls.{ComesHome, IsAwaited, IsAbandoned, KeepsHeld, KeepsOthers}
use Rattle.r6_frames.specs.Directs.{direct_at, returned}
use Rattle.r6_frames.proofs.DirectReads.{stopped_read}
use Rattle.r6_frames.proofs.DirectCommands.{with_home, home_sound}
use Rattle.r6_frames.proofs.ReadsAgain.{reads_stay}
use Rattle.r6_frames.specs.Owed.{owed}
use Rattle.r6_frames.specs.Uses.{IsForRow, has_away, AwaitsBuffer, IsBufferAway, IsLateFor, use_home, spared_home}
use Rattle.r6_frames.specs.Sound.{IsSound, IsHeld, IsReturning, buffer_of, buffers_away, count_home, is_away_from, is_buffer_away, place_of, standing_for, successor_in}
use Rattle.r6_frames.proofs.Held.{use_within, use_held, free_at, home_at, owed_at, free_set}
use Rattle.r6_frames.proofs.Ending.{none-away-at, some-away, count_home-all, any-behind}
use Rattle.r6_frames.proofs.Finishing.{count_free-le}
use Rattle.r6_frames.proofs.AnsweredRows.{late_row, late_held, late_is, late_settled_is}
use Rattle.r6_frames.proofs.BuffersHome.{IsHome, home_of, home_back, buffers_then, buffer_below, length_behind, left_of, commands_gone, commands_left, directs_left, other_same, each_same, sound_left, owed_kept, requests_left}
use Rattle.r6_frames.proofs.Completions.{place_within}
use Rattle.r6_frames.proofs.UnderWay.{out_or}

-- what the call leaves
pub record CameHome (fs : FramesState) (token : ℕ) (new : FramesState) : Type 0 where
  pub sound : IsSound new
  pub comes : ComesHome fs token new
  pub holds : KeepsHeld fs new
  pub others : (frame : ℕ) × KeepsOthers fs frame new
  pub owed : owed new ≡ owed fs
  pub next : new.commands.next ≡ fs.commands.next
  pub requests : held_requests new ≡ held_requests fs

abandoned_one : (fs : FramesState) (token : ℕ) (c : Outstanding) → IsAbandoned fs token → outstanding fs token ≡ Some c → is_abandoned fs.slots token c ≡ true
abandoned_one fs token c abandoned there =
    let same : abandoned.0 ≡ c = let both = sym abandoned.1 ∙ there in cc in
    sym (ap (is_abandoned fs.slots token) same) ∙ abandoned.2

-- ---- the change of the shard

comes_home : (fs : FramesState) (token : ℕ) (c : Outstanding) (held : List FrameUse) (spare : ℕ) → IsAwaited fs token → IsAbandoned fs token → outstanding fs token ≡ Some c
    → ((frame : ℕ) → option_map hold_of (hold_at held frame) ≡ option_map hold_of (hold_at fs.uses frame)) → ComesHome fs token (left_of fs token held spare)
comes_home fs token c held spare awaited abandoned there same = (
  refl,
  refl,
  λ rest. (
    command_of fs.slots fs.next_taken token c,
    lt-ltb token fs.next_taken awaited.2,
    (ap (option_map (command_of fs.slots fs.next_taken token)) there, abandoned_one fs token c abandoned there),
    λ i. record (shard_with rest fs) { frame = fun_ext same i; command = commands_gone fs.slots fs.commands.entries fs.next_taken token i },
  ),
  refl,
)

-- ---- holds don't go on

pub stopped_home : (fs : FramesState) (token : ℕ) (c : Outstanding) (commands : Commands) → IsSound fs → IsAwaited fs token → IsAbandoned fs token → outstanding fs token ≡ Some c
    → c.frame < frames → (AreLive fs → ⊥) → commands ≡ record { next = fs.commands.next; entries = map.remove fs.commands.entries token }
    → CameHome fs token (record fs { commands = commands })
stopped_home fs token c commands sound awaited abandoned there of_frame stopped rest =
    subst (λ (t : Commands). CameHome fs token (record fs { commands = t })) (sym rest) (record {
      sound = record {
        shape = sound.shape;
        shard = sound.shard;
        live = sound.live;
        devices = record { each = sound.devices.each; one = sound.devices.one };
        frames = record {
          count = sound.frames.count;
          rows = sound.frames.rows;
          returning = sound.frames.returning;
          one_holder = sound.frames.one_holder;
          spare = sound.frames.spare;
        };
        commands = commands_left fs token c there fs.uses fs.spare sound.commands awaited.2 (λ live. absurd (stopped live)) (λ live. absurd (stopped live)) (λ live. absurd (stopped live)) (omega arith);
        directs = directs_left fs token c there fs.uses fs.spare sound.directs sound.commands.given of_frame;
      };
      comes = comes_home fs token c fs.uses fs.spare awaited abandoned there (λ frame. refl);
      holds = λ frame. refl;
      others = (0, λ other ne. refl);
      owed = refl;
      next = refl;
      requests = refl;
    })

-- ---- to a direct read's

-- the read of its buffer, if one has it, has stopped
pub direct_home : (fs : FramesState) (token : ℕ) (c : Outstanding) (number : ℕ) (block : Block) → IsSound fs → IsAwaited fs token → IsAbandoned fs token → outstanding fs token ≡ Some c
    → c.frame ≡ frames + number → length block ≡ fs.geometry.block → CameHome fs token (with_home fs token number (returned (direct_at fs.directs number) block))
direct_home fs token c number block sound awaited abandoned there at size =
    let of = sound.directs.of_direct token c there (omega arith) in
    let below = of.1.below in
    let frame = of.1.frame in
    record {
      sound =
          home_sound fs token number (returned (direct_at fs.directs number) block) c sound awaited.2 there (omega arith) at block refl size
          (λ r has. (has, stopped_read fs.geometry fs.shard fs.slots fs.commands fs.directs sound.directs token c there number (omega arith) at (abandoned_one fs token c abandoned there) r has));
      comes =
          let home = comes_home fs token c fs.uses fs.spare awaited abandoned there (λ frame. refl) in
          (refl, refl, home.2, reads_stay fs.slots fs.directs number (returned (direct_at fs.directs number) block) refl);
      holds = λ frame. refl;
      others = (0, λ other ne. refl);
      owed = refl;
      next = refl;
      requests = refl;
    }

-- ---- holds go on

-- the command was taken and abandoned, and left with a buffer of its frame
pub record IsLate (fs : FramesState) (token : ℕ) (c : Outstanding) : Type 0 where
  pub awaited : IsAwaited fs token
  pub abandoned : IsAbandoned fs token
  pub there : outstanding fs token ≡ Some c
  pub below : c.frame < length fs.uses
  pub inside : place_of fs c < fs.geometry.slots
  pub slot : c.slot < fs.geometry.slots
  pub away : is_away_from (use_at fs.uses c.frame) (buffer_of fs c) ≡ true
  pub out : (h : HeldRow) → hold_at fs.uses c.frame ≡ Some h → (c.row ≡ h.row) × (standing_for (is_own h.successor c.slot c.generation) (cell_at h.hold.planned.hold.cells (place_of fs c)) ≡ Out)

pub is_late : (fs : FramesState) (token : ℕ) (c : Outstanding) → IsSound fs → AreLive fs → IsAwaited fs token → IsAbandoned fs token → outstanding fs token ≡ Some c → c.frame < frames → IsLate fs token c
is_late fs token c sound live awaited abandoned there of_frame =
    let of = sound.commands.of_frame live token c there of_frame in
    record {
      awaited = awaited;
      abandoned = abandoned;
      there = there;
      below = use_within fs.uses c.frame (λ free. let home = sym (ap (λ v. is_away_from v (buffer_of fs c)) free) ∙ of.away in absurd (cc));
      inside = place_within fs c sound;
      slot = (sound.commands.lawful token c there).0;
      away = of.away;
      out = λ h held.
          let cell = cell_at h.hold.planned.hold.cells (place_of fs c) in
          let mine = of.held h held in
          (mine.row, out_is (standing_for (is_own h.successor c.slot c.generation) cell) (sym mine.abandoned ∙ abandoned_one fs token c abandoned there));
    }

-- the use of a frame whose row, if it has one, is as it was, its buffers aside
record IsSameRow (old new : FrameUse) : Type 0 where
  hold : option_map hold_of (row_in new) ≡ option_map hold_of (row_in old)
  plan : option_map plan_in (row_in new) ≡ option_map plan_in (row_in old)
  owed : owed_at new ≡ owed_at old
  requests : (frame : ℕ) → request_at frame new ≡ request_at frame old

-- whatever a hold hears, what holds before and after each event holds of it
pub heard_has : (planned : Planned) (position : ℕ) (P : Planned → Type 0) (block : Block) → P planned → ((event : Event) → P (planned_after planned event))
    → P (with_answer planned position block)
heard_has planned position P block before later =
    by_tests (is_out (cell_at planned.hold.cells position).standing) (is_sent (cell_at planned.hold.cells position).writing) (is_fixing (cell_at planned.hold.cells position).reading)
  where
    by_tests : (out sent fixing : Bool)
        → P (if out then planned
        else (if sent then planned_after planned (Confirms position)
        else (if fixing then planned_after planned (Mends position) else planned_after planned (Gives position block))))
    by_tests true sent fixing = before
    by_tests false true fixing = later (Confirms position)
    by_tests false false true = later (Mends position)
    by_tests false false false = later (Gives position block)

settled_has : (planned : Planned) (position : ℕ) (P : Planned → Type 0) → P planned → ((event : Event) → P (planned_after planned event)) → P (with_settled planned position)
settled_has planned position P before later = by_test (not (is_out (cell_at planned.hold.cells position).second) && is_sent (cell_at planned.hold.cells position).copying)
  where
    by_test : (sent : Bool) → P (if sent then planned_after planned (Settles position) else planned)
    by_test true = later (Settles position)
    by_test false = before

pub brought_has : (own : Bool) (r : StripeHold) (position : ℕ) (P : Planned → Type 0) (block : Block) → P r.planned → ((event : Event) → P (planned_after r.planned event))
    → P (brought_home own r position block).planned
brought_has true r position P block before later = heard_has r.planned position P block before later
brought_has false r position P block before later = settled_has r.planned position P before later

-- no device stands beside another one, if that of the command doesn't
no_second : (s : Successor) (slot generation : ℕ) → beside_in s slot ≡ None → is_own s slot generation ≡ false → (other : ℕ) → beside_in s other ≡ None
no_second NoOther slot generation none apart other = refl
no_second (Beside target) slot generation none apart other =
    absurd (by_slot (nat_eq target.slot slot) (nat_eq target.generation generation) none apart)
  where
    by_slot : (s g : Bool) → ◌≡◌ {A = Option ℕ} (if s then Some target.generation else None) None → not (s && g) ≡ false → ⊥
    by_slot true g none apart = absurd (cc)
    by_slot false g none apart = absurd (cc)
no_second (InPlace target) slot generation none apart other = refl
no_second (Dropped target) slot generation none apart other = refl

module _ (fs : FramesState) (token : ℕ) (c : Outstanding) (sound : IsSound fs) (late : IsLate fs token c) where
  below_frames : c.frame < frames
  below_frames = let below = late.below in let count = sound.frames.count in omega arith

  came_home : (held : List FrameUse) (spare : ℕ) (old new : FrameUse) → use_at fs.uses c.frame ≡ old → held ≡ set fs.uses c.frame new → IsHome fs c new → IsSameRow old new
      → spare + free_at old ≡ fs.spare + free_at new → CameHome fs token (left_of fs token held spare)
  came_home held spare old new was items home same more = record {
    sound = sound_left fs token c late.there held spare new items home below_frames sound late.awaited.2 (ap (λ v. spare + free_at v) was ∙ more);
    comes = comes_home fs token c held spare late.awaited late.abandoned late.there
        (each_same fs token c late.there held spare new items home below_frames (λ v. option_map hold_of (row_in v)) (same.hold ∙ sym (ap (λ v. option_map hold_of (row_in v)) was)));
    holds = each_same fs token c late.there held spare new items home below_frames (λ v. option_map plan_in (row_in v)) (same.plan ∙ sym (ap (λ v. option_map plan_in (row_in v)) was));
    others = (c.frame, other_same fs token c late.there held spare new items home below_frames);
    owed = owed_kept fs token c late.there held spare new items home below_frames (same.owed ∙ sym (ap owed_at was));
    next = refl;
    requests = requests_left fs token c late.there held spare new items home below_frames (same.requests c.frame ∙ sym (ap (request_at c.frame) was));
  }

  -- ---- to a held row

  module _ (h : HeldRow) (is_held : hold_at fs.uses c.frame ≡ Some h) where
    whole : IsHeld fs.geometry fs.shard fs.slots h
    whole = sound.frames.rows c.frame h is_held

    held_was : use_at fs.uses c.frame ≡ HeldIn h
    held_was = use_held fs.uses c.frame h is_held

    abbrev own : Bool
    own = is_own h.successor c.slot c.generation

    abbrev at : ℕ
    at = place_of fs c

    buffer : buffer_of fs c ≡ (if own then at else fs.geometry.slots)
    buffer = ap (λ v. if is_own (successor_in v) c.slot c.generation then place_of fs c else fs.geometry.slots) held_was

    away_from_row : is_buffer_away h.hold (buffer_of fs c) ≡ true
    away_from_row = sym (ap (λ v. is_away_from v (buffer_of fs c)) held_was) ∙ late.away

    own_out : own ≡ true → (cell_at h.hold.planned.hold.cells at).standing ≡ Out
    own_out is = sym (ap (λ (o : Bool). standing_for o (cell_at h.hold.planned.hold.cells at)) is) ∙ (late.out h is_held).1

    second_out : own ≡ false → (cell_at h.hold.planned.hold.cells at).second ≡ Out
    second_out is = sym (ap (λ (o : Bool). standing_for o (cell_at h.hold.planned.hold.cells at)) is) ∙ (late.out h is_held).1

    none_beside : own ≡ false → (slot : ℕ) → beside_in h.successor slot ≡ None
    none_beside apart slot =
        no_second h.successor c.slot c.generation
        (ap (beside_in h.successor) (sym (ap (λ (row : ℕ). slot_at fs.geometry row at) (sym (late.out h is_held).0) ∙ slot_at-position_at fs.geometry c.row c.slot late.slot))
        ∙ (whole.successor at late.inside).single (second_out apart)) apart slot

    all_single : own ≡ false → (j : ℕ) → j < fs.geometry.slots → (cell_at h.hold.planned.hold.cells j).second ≡ Out
    all_single apart j below = elim (out_or (cell_at h.hold.planned.hold.cells j).second) [
      | inl out ↦ out
      | inr there ↦ absurd (let is = (whole.successor j below).beside there in let none = none_beside apart (slot_at fs.geometry h.row j) in cc)
    ]

    late_home : IsHome fs c (HeldIn (late_row h own at))
    late_home =
        home_of fs c h (late_row h own at) is_held
        (subst (λ (b : ℕ). b < length (buffers_away h.hold)) (sym buffer) (buffer_below h.hold.away h.hold.second_away own at fs.geometry.slots whole.wide_away late.inside))
        away_from_row
        (buffers_then h.hold.away h.hold.second_away own at fs.geometry.slots whole.wide_away late.inside ∙ ap (λ (b : ℕ). set (buffers_away h.hold) b false) (sym buffer))
        (record {
          was = h;
          is = is_held;
          whole = late_held fs.geometry fs.shard fs.slots h own at whole own_out all_single;
          row = refl;
          successor = refl;
          stands = λ o j. refl;
          writes = λ j other. refl;
        })
        refl

    hears : (o : Bool) → own ≡ o → (block : Block) → brought_home o h.hold at block ≡ (late_row h o at).hold
    hears true is block = λ i. record { planned = late_is h.hold.planned at block (own_out is) i; away = set h.hold.away at false; class = h.hold.class; second_away = h.hold.second_away }
    hears false is block = λ i. record { planned = late_settled_is h.hold.planned at (second_out is) i; away = h.hold.away; class = h.hold.class; second_away = false }

    pub held_home : (position : ℕ) (block : Block) (held : List FrameUse) (spare : ℕ) → position ≡ at
        → held ≡ set fs.uses c.frame (use_home (HeldIn h) (c.slot, c.generation) position block) → spare ≡ fs.spare
        → CameHome fs token (left_of fs token held spare)
    held_home position block held spare here items same =
        let goes : brought_home own h.hold position block ≡ (late_row h own at).hold =
        ap (λ p. brought_home own h.hold p block) here ∙ hears own refl block in
        came_home held spare (HeldIn h) (HeldIn (late_row h own at)) held_was
        (items ∙ ap (λ (hold : StripeHold). set fs.uses c.frame (HeldIn (record h { hold = hold }))) goes) late_home
        (record { hold = refl; plan = refl; owed = refl; requests = λ frame. refl }) (ap (λ (n : ℕ). n + 0) same)

    pub row_size : h.hold.planned.hold.size ≡ fs.geometry.block
    row_size = whole.size

    pub row_late : (position : ℕ) → position ≡ at → (o : Bool) → own ≡ o → IsBufferAway o h.hold position × IsLateFor o h.hold position
    row_late position here true is = (
      ap (is_away h.hold) here ∙ sym (buffer_own h.hold at (omega (arith, whole.wide_away, late.inside)))
          ∙ ap (is_buffer_away h.hold) (sym (buffer ∙ ap (λ (o : Bool). if o then at else fs.geometry.slots) is)) ∙ away_from_row,
      ap (λ p. is_out (cell_at h.hold.planned.hold.cells p).standing) here ∙ ap is_out (own_out is),
    )
    row_late position here false is = (
      sym (buffer_apart h.hold) ∙ ap (is_buffer_away h.hold) (whole.wide_away ∙ sym (buffer ∙ ap (λ (o : Bool). if o then at else fs.geometry.slots) is)) ∙ away_from_row,
      ap (λ p. is_out (cell_at h.hold.planned.hold.cells p).second) here ∙ ap is_out (second_out is),
    )

  -- ---- to a frame whose hold has ended

  module _ (r : StripeHold) (other : Successor) (was : use_at fs.uses c.frame ≡ Returning r other) where
    abbrev its : Bool
    its = is_own other c.slot c.generation

    returns : IsReturning fs.geometry r
    returns = sound.frames.returning c.frame r other was

    left_with : buffer_of fs c ≡ (if its then place_of fs c else fs.geometry.slots)
    left_with = ap (λ v. if is_own (successor_in v) c.slot c.generation then place_of fs c else fs.geometry.slots) was

    away_from_frame : is_buffer_away r (buffer_of fs c) ≡ true
    away_from_frame = sym (ap (λ v. is_away_from v (buffer_of fs c)) was) ∙ late.away

    pub returning_size : r.planned.hold.size ≡ fs.geometry.block
    returning_size = returns.size

    pub returning_away : (position : ℕ) → position ≡ place_of fs c → (o : Bool) → its ≡ o → IsBufferAway o r position
    returning_away position here true is =
        ap (is_away r) here ∙ sym (buffer_own r (place_of fs c) (omega (arith, returns.wide_away, late.inside)))
        ∙ ap (is_buffer_away r) (sym (left_with ∙ ap (λ (o : Bool). if o then place_of fs c else fs.geometry.slots) is)) ∙ away_from_frame
    returning_away position here false is =
        sym (buffer_apart r) ∙ ap (is_buffer_away r) (returns.wide_away ∙ sym (left_with ∙ ap (λ (o : Bool). if o then place_of fs c else fs.geometry.slots) is)) ∙ away_from_frame

    module _ (position : ℕ) (block : Block) (here : position ≡ place_of fs c) where
      abbrev hold : StripeHold
      hold = brought_home its r position block

      abbrev there : ℕ
      there = place_of fs c

      goes : hold ≡ brought_home its r there block
      goes = ap (λ p. brought_home its r p block) here

      parts : (o : Bool) → ((brought_home o r there block).away ≡ cond o (set r.away there false) r.away) × ((brought_home o r there block).second_away ≡ cond o r.second_away false)
      parts true = (refl, refl)
      parts false = (refl, refl)

      buffers_are : buffers_away hold ≡ set (buffers_away r) (buffer_of fs c) false
      buffers_are =
          ap buffers_away goes ∙ (λ i. (parts its).0 i ++ (parts its).1 i ∷ [])
          ∙ buffers_then r.away r.second_away its there fs.geometry.slots returns.wide_away late.inside ∙ ap (λ (b : ℕ). set (buffers_away r) b false) (sym left_with)

      within_buffers : buffer_of fs c < length (buffers_away r)
      within_buffers = subst (λ (b : ℕ). b < length (buffers_away r)) (sym left_with) (buffer_below r.away r.second_away its there fs.geometry.slots returns.wide_away late.inside)

      wide_away : length hold.away ≡ fs.geometry.slots
      wide_away = ap (λ (x : StripeHold). length x.away) goes ∙ ap length (parts its).0 ∙ long its
        where
          long : (o : Bool) → length (cond o (set r.away there false) r.away) ≡ fs.geometry.slots
          long true = length-set r.away there false ∙ returns.wide_away
          long false = returns.wide_away

      heard : (P : Planned → Type 0) → P r.planned → ((event : Event) → P (planned_after r.planned event)) → P hold.planned
      heard P before later = subst (λ (x : StripeHold). P x.planned) (sym goes) (brought_has its r there P block before later)

      ended : hold.planned.hold.kind ≡ Kind.Idle
      ended = heard (λ p. p.hold.kind ≡ Kind.Idle) returns.ended (λ event. kind_after r.planned.hold event ∙ returns.ended)

      size : hold.planned.hold.size ≡ fs.geometry.block
      size = heard (λ p. p.hold.size ≡ fs.geometry.block) returns.size (λ event. size_after r.planned.hold event ∙ returns.size)

      wide : length hold.planned.hold.cells ≡ fs.geometry.slots
      wide = heard (λ p. length p.hold.cells ≡ fs.geometry.slots) returns.wide (λ event. width_after r.planned.hold event ∙ returns.wide)

      now_home : is_buffer_away hold (buffer_of fs c) ≡ false
      now_home = ap (λ away. slice_index_or away (buffer_of fs c) false) buffers_are ∙ get_or-set_same (buffers_away r) (buffer_of fs c) false false within_buffers

      others_same : (j : ℕ) → j ≢ buffer_of fs c → is_buffer_away hold j ≡ is_away_from (use_at fs.uses c.frame) j
      others_same j apart =
          ap (λ away. slice_index_or away j false) buffers_are ∙ get_or-set_other (buffers_away r) (buffer_of fs c) j false false apart ∙ sym (ap (λ v. is_away_from v j) was)

      one_more : count_home (buffers_away hold) ≡ home_at fs.geometry.slots (use_at fs.uses c.frame) + 1
      one_more =
          ap count_home buffers_are ∙ home_back (buffers_away r) (buffer_of fs c) away_from_frame
          ∙ sym (ap (λ v. home_at fs.geometry.slots v + 1) was)

      any_away : has_away hold ≡ list_any (λ (b : Bool). b) (buffers_away hold)
      any_away = any-behind hold.away hold.second_away

      -- buffers are away still
      away_home : has_away hold ≡ true → IsHome fs c (Returning hold other)
      away_home away = record {
        below = late.below;
        home = now_home;
        others = others_same;
        successor = λ in_use. sym (ap successor_in was);
        more = let e = one_more in omega arith;
        row = λ x is. absurd (cc);
        ended = λ none. ap row_in was;
        returning = λ x left is.
            let same : hold ≡ x = cc in
            let some = some-away (buffers_away hold) (sym any_away ∙ away) in
            let long = length_behind hold.away hold.second_away in
            subst (IsReturning fs.geometry) same (record {
              ended = ended;
              size = size;
              wide = wide;
              wide_away = wide_away;
              some_away = (some.0, omega (arith, some.1, long, wide_away), some.2);
            });
      }

      -- the last one is home
      free_home : has_away hold ≡ false → IsHome fs c Free
      free_home home = record {
        below = late.below;
        home = refl;
        others = λ j apart. sym (none-away-at (buffers_away hold) (sym any_away ∙ home) j) ∙ others_same j apart;
        successor = λ in_use. absurd (in_use refl);
        more = let e = one_more in let all = count_home-all (buffers_away hold) (sym any_away ∙ home) in let long = length_behind hold.away hold.second_away in let n = wide_away in omega arith;
        row = λ x is. absurd (cc);
        ended = λ none. ap row_in was;
        returning = λ x left is. absurd (cc);
      }

      abbrev mine : buffers.Shape
      mine = record { count = length hold.planned.hold.cells; size = hold.planned.hold.size }

      for_row : IsForRow fs.geometry mine
      for_row i = record { count = wide i; size = size i }

      pub returning_home : (held : List FrameUse) (spare : ℕ) → held ≡ set fs.uses c.frame (use_home (Returning r other) (c.slot, c.generation) position block)
          → spare ≡ fs.spare + length (spared_home (Returning r other) (c.slot, c.generation) position block) → CameHome fs token (left_of fs token held spare)
      returning_home held spare items more = by_away (has_away hold) refl items more
        where
          by_away : (away : Bool) → has_away hold ≡ away → held ≡ set fs.uses c.frame (if away then Returning hold other else Free)
              → spare ≡ fs.spare + length (if away then [] else mine ∷ []) → CameHome fs token (left_of fs token held spare)
          by_away true away at spares =
              came_home held spare (Returning r other) (Returning hold other) was at (away_home away)
              (record { hold = refl; plan = refl; owed = refl; requests = λ frame. refl }) (omega (arith, spares))
          by_away false home at spares =
              came_home held spare (Returning r other) Free was at (free_home home)
              (record { hold = refl; plan = refl; owed = refl; requests = λ frame. refl })
              (omega (arith, spares))

      pub spared_returning : All (IsForRow fs.geometry) (spared_home (Returning r other) (c.slot, c.generation) position block)
      spared_returning = by_away (has_away hold)
        where
          by_away : (away : Bool) → All (IsForRow fs.geometry) (if away then [] else mine ∷ [])
          by_away true = All-nil (IsForRow fs.geometry)
          by_away false = All-cons (IsForRow fs.geometry) mine [] for_row (All-nil (IsForRow fs.geometry))

  -- ---- whatever the frame is used for

  not_free_now : use_at fs.uses c.frame ≢ Free
  not_free_now free = let home = ap (λ v. is_away_from v (buffer_of fs c)) free in let away = late.away in absurd (cc)

  pub brought : (u : FrameUse) (position : ℕ) (block : Block) (held : List FrameUse) (spare : ℕ) → use_at fs.uses c.frame ≡ u → position ≡ place_of fs c
      → held ≡ set fs.uses c.frame (use_home u (c.slot, c.generation) position block) → spare ≡ fs.spare + length (spared_home u (c.slot, c.generation) position block)
      → CameHome fs token (left_of fs token held spare)
  brought Free position block held spare was at items more = absurd (not_free_now was)
  brought (HeldIn h) position block held spare was at items more =
      held_home h (ap row_in was) position block held spare at items (omega (arith, more))
  brought (Returning r other) position block held spare was at items more = returning_home r other was position block at held spare items more

  -- the buffers that are spare then are for a row of the array
  pub spared_shapes : (u : FrameUse) (position : ℕ) (block : Block) → use_at fs.uses c.frame ≡ u → position ≡ place_of fs c → All (IsForRow fs.geometry) (spared_home u (c.slot, c.generation) position block)
  spared_shapes Free position block was here = All-nil (IsForRow fs.geometry)
  spared_shapes (HeldIn h) position block was here = All-nil (IsForRow fs.geometry)
  spared_shapes (Returning r other) position block was here = spared_returning r other was position block here

  pub awaits_buffer : (u : FrameUse) (position : ℕ) (block : Block) → use_at fs.uses c.frame ≡ u → position ≡ place_of fs c → length block ≡ fs.geometry.block
      → AwaitsBuffer u (c.slot, c.generation) position block
  awaits_buffer Free position block was here sized = absurd (not_free_now was)
  awaits_buffer (HeldIn h) position block was here sized =
      let late = row_late h (ap row_in was) position here (is_own h.successor c.slot c.generation) refl in
      (late.0, sized ∙ sym (row_size h (ap row_in was)), late.1)
  awaits_buffer (Returning r other) position block was here sized =
      (returning_away r other was position here (is_own other c.slot c.generation) refl, sized ∙ sym (returning_size r other was), (returns r other was).ended)

  pub has_room : fs.spare < frames
  has_room =
      let one = free_set fs.uses c.frame Free late.below in
      let none = not_free (use_at fs.uses c.frame) late.away in
      let few = count_free-le (set fs.uses c.frame Free) in
      omega (arith, one, none, few, length-set fs.uses c.frame Free, sound.frames.spare, sound.frames.count)
    where
      not_free : (u : FrameUse) → is_away_from u (buffer_of fs c) ≡ true → free_at u ≡ 0
      not_free Free away = absurd (cc)
      not_free (HeldIn h) away = refl
      not_free (Returning r other) away = refl
