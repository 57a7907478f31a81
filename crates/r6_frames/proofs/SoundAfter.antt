-- The frames stay sound when a hold prepares and when it puts a command out.
use Rattle.std.proofs.Common.{map, ◌≡◌, ◌≢◌, ℕ, ◌+◌, ◌<◌, ◌≤◌, Bool, true, false, cond, List, [], ◌∷◌, length, set, refl, sym, ap, subst, ◌∙◌, Some, inl, inr, arith, get_or-set_same, get_or-set_other, length-set}
use Rattle.std.specs.Prelude.{◌||◌, ◌&&◌, not, slice_index_or, if◌then◌else◌}
use Rattle.std.proofs.lemmas.Bool.{cases_eq, and_parts, or_cases, or_left, or_right}
use Rattle.r6_layout.specs.Layout.{position_at, slot_at}
use Rattle.r6_stripe.specs.Holds.{Hold, Standing, Cell, Reading, Writing, Kind, Event, cell_at, no_cell, doubled, after_event, commands, FirstIsSent, IsUnasked, IsReadOver}
use Rattle.r6_stripe.specs.Holds.Standing.{InSync, Target, Out}
use Rattle.r6_stripe.specs.Holds.Reading.{Unread, Recalled, Asked, Unreadable, Fixing, Fixed, AskedAgain, Known, Replaced}
use Rattle.r6_stripe.specs.Holds.Writing.{Unwritten, Ready, Sent}
use Rattle.r6_stripe.specs.Holds.Event.{Asks, AsksAgain, Fixes, Writes, Copies}
use Rattle.r6_stripe.specs.Plans.{Planned, next, is_out, is_asked, is_asked_again, is_fixing, is_sent, is_over, is_none, gives_up, has_enough, any_live, has_asked, has_asked_again, has_fix_out, has_read_out, has_write_out, planned_after, planned_at, MayFollow, IsPlanned, AreSilent}
use Rattle.r6_stripe.specs.Steps.{is_idle, has_outcome}
use Rattle.r6_stripe.proofs.Bound.{within}
use Rattle.r6_stripe.proofs.CellsAfter.{kind_after}
use Rattle.r6_stripe.proofs.Places.{any_true}
use Rattle.r6_stripe.proofs.Steps.{step_by_rules, not_false}
use Rattle.r6_frames.specs.declared.frames.HeldRow.{HeldRow}
use Rattle.r6_frames.specs.declared.frames.FrameUse.TheVariants.{Held as HeldIn, Returning}
use Rattle.r6_frames.specs.FramesState.{FramesState, Commands}
use Rattle.r6_frames.specs.Views.{use_at, hold_at, held_entry, requests_by, request_at, requests_from, kind_in}
use Rattle.r6_frames.specs.Owed.{owed_by, owed_in, HasOut, IsOver}
use Rattle.r6_frames.specs.Sound.{IsHeld, IsSound, AreFrames, AreCommands, device_in, is_buffer_away, is_put_out, is_read_put_out, is_write_out, is_write_put_out, standing_for}
use Rattle.r6_frames.proofs.UnderWay.{under_way_course, under_way_fine, awaits}
use Rattle.r6_frames.proofs.AnsweredRows.{only_one}
use Rattle.r6_frames.proofs.LeftDevices.{buffer_own, buffer_apart}
use Rattle.r6_frames.proofs.Devices.{keeps}
use Rattle.r6_layout.specs.Shape.{IsShape}
use Rattle.r6_frames.specs.Actions.{is_copy, is_write}
use Rattle.r6_frames.specs.Successors.{is_own}
use Rattle.r6_frames.specs.Slots.{slot_in, states_of}
use Rattle.r6_frames.proofs.Held.{held_within, same_requests, use_held, use_at_own, use_at_other, apart_still, owed_at, owed_set, free_at, free_set}
use Rattle.r6_frames.proofs.HeldRows.{Prepared, prepared, held_after, IsSteady, standing_stays, second_stays, home_is, in_sync_not_out, are_prepared, like_writes, owes_fewer}
use Rattle.r6_world.specs.ShardStates.{frames}
use Rattle.r6_frames.specs.Directs.{AreDirects}
use Rattle.r6_frames.proofs.CommandComes.{with_row, sent_off, held_then, PutsOutAt}
use Rattle.r6_frames.proofs.PuttingOut.{Way, FirstRead, SecondRead, FixWrite, NewBlock, SecondWrite, action_of_way, put_event}

-- ---- frames with another row in one of them

-- the frames with another row in the frame, and other commands
abbrev pub changed : FramesState → ℕ → HeldRow → Commands → FramesState
changed fs frame h commands = record (with_row fs frame h) { commands = commands }

module _ (fs : FramesState) (frame : ℕ) (h new : HeldRow) (commands : Commands) (is : hold_at fs.uses frame ≡ Some h) where
  inside : frame < length fs.uses
  inside = held_within fs.uses frame h is

  pub frames_changed : IsHeld fs.geometry fs.shard fs.slots new → new.row ≡ h.row → AreFrames fs → AreFrames (changed fs frame new commands)
  frames_changed held same_row all = record {
    count = length-set fs.uses frame (HeldIn new) ∙ all.count;
    rows = λ other x there. elim (held_then fs.uses frame h new other x is there) [
      | inl mine ↦ subst (λ (x : HeldRow). IsHeld fs.geometry fs.shard fs.slots x) mine.1 held
      | inr old ↦ all.rows other x old.1
    ];
    returning = λ other r beside there. elim (cases_eq other frame) [
      | inl e ↦
          absurd (let both : HeldIn new ≡ Returning r beside = sym (ap (use_at (set fs.uses frame (HeldIn new))) e ∙ use_at_own fs.uses frame (HeldIn new) inside) ∙ there in cc)
      | inr ne ↦ all.returning other r beside (sym (use_at_other fs.uses frame (HeldIn new) other ne) ∙ there)
    ];
    one_holder = apart_still fs.uses frame h new is same_row all.one_holder;
    spare =
        let free = free_set fs.uses frame (HeldIn new) inside in
        let was : free_at (use_at fs.uses frame) ≡ 0 = ap free_at (use_held fs.uses frame h is) in
        let spare = all.spare in
        omega arith;
  }

  pub sound_changed : IsSound fs → IsHeld fs.geometry fs.shard fs.slots new → new.row ≡ h.row → AreCommands (changed fs frame new commands) → AreDirects fs.geometry fs.shard fs.slots commands fs.directs → IsSound (changed fs frame new commands)
  sound_changed sound held same_row are directs = record { shape = sound.shape; shard = sound.shard; live = sound.live; devices = record { each = sound.devices.each; one = sound.devices.one }; frames = frames_changed held same_row sound.frames; commands = are; directs = directs }

  pub owed_changed : owed_in (set fs.uses frame (HeldIn new)) + owed_by h ≡ owed_in fs.uses + owed_by new
  owed_changed =
      let sum = owed_set fs.uses frame (HeldIn new) inside in
      let was : owed_at (use_at fs.uses frame) ≡ owed_by h = ap owed_at (use_held fs.uses frame h is) in
      omega arith

  pub requests_changed : request_at frame (HeldIn new) ≡ request_at frame (HeldIn h) → requests_from 0 (set fs.uses frame (HeldIn new)) ≡ requests_from 0 fs.uses
  requests_changed same =
      same_requests 0 fs.uses frame frame (HeldIn new) (omega arith) (same ∙ sym (ap (request_at frame) (use_held fs.uses frame h is)))

pub request_same : (frame : ℕ) (h : HeldRow) (planned : Planned) (away : List Bool) (apart : Bool) → planned.hold.kind ≡ kind_in h
    → request_at frame (HeldIn (record h { hold = record { planned = planned; away = away; class = h.hold.class; second_away = apart } })) ≡ request_at frame (HeldIn h)
request_same frame h planned away apart same = ap (λ (k : Kind). map (held_entry frame) (requests_by h.job k)) same

-- ---- the position of a command

put_cell : Way → Cell → Cell
put_cell FirstRead cell = record cell { reading = Asked }
put_cell SecondRead cell = record cell { reading = AskedAgain }
put_cell FixWrite cell = record cell { reading = Fixing }
put_cell NewBlock cell = record cell { writing = Sent; doubling = doubled cell.second cell.doubling }
put_cell SecondWrite cell = record cell { copying = Sent }

-- with the position's own buffer, or the one that is no position's
abbrev pub own_of_way : Way → Bool
own_of_way way = not (is_copy (action_of_way way))

-- a command is put out at the position, where none was
record IsPut (way : Way) (before later : Cell) : Type 0 where
  pub was_home : awaits (own_of_way way) before ≡ false
  pub is_out : awaits (own_of_way way) later ≡ true
  pub writes : is_write (action_of_way way) ≡ is_write_out (own_of_way way) later
  pub copying : own_of_way way ≡ true → later.copying ≡ before.copying
  pub apart : own_of_way way ≡ false → (is_put_out later ≡ is_put_out before) × (is_write_put_out later ≡ is_write_put_out before)

-- a read, or a fix, of what isn't written
reading_put : (way : Way) (cell : Cell) (was is : Reading) → cell.reading ≡ was → cell.writing ≡ Unwritten
    → IsPut way (record cell { reading = was; writing = Unwritten }) (record cell { reading = is; writing = Unwritten }) → IsPut way cell (record cell { reading = is })
reading_put way cell was is reads unwritten put =
    subst (λ (r : Reading). IsPut way (record cell { reading = r }) (record cell { reading = is })) (sym reads)
    (subst (λ (w : Writing). IsPut way (record cell { reading = was; writing = w }) (record cell { reading = is; writing = w })) (sym unwritten) put)

-- a first read
unasked_put : (r : Reading) (cell : Cell) → IsUnasked r → IsPut FirstRead (record cell { reading = r; writing = Unwritten }) (record cell { reading = Asked; writing = Unwritten })
unasked_put Unread cell unasked = record { was_home = refl; is_out = refl; writes = refl; copying = λ _. refl; apart = λ e. absurd (cc) }
unasked_put Recalled cell unasked = record { was_home = refl; is_out = refl; writes = refl; copying = λ _. refl; apart = λ e. absurd (cc) }
unasked_put Asked cell unasked = absurd unasked
unasked_put Unreadable cell unasked = absurd unasked
unasked_put Fixing cell unasked = absurd unasked
unasked_put Fixed cell unasked = absurd unasked
unasked_put AskedAgain cell unasked = absurd unasked
unasked_put (Known bytes) cell unasked = absurd unasked
unasked_put Replaced cell unasked = absurd unasked

-- the position whose new block is put out
abbrev sent : Cell → Cell
sent cell = record cell { writing = Sent; doubling = doubled cell.second cell.doubling }

ready_put : (r : Reading) (cell : Cell) (block : List ℕ) → IsReadOver r → IsPut NewBlock (record cell { reading = r; writing = Ready block }) (sent (record cell { reading = r }))
ready_put Unread cell block quiet = record { was_home = refl; is_out = refl; writes = refl; copying = λ _. refl; apart = λ e. absurd (cc) }
ready_put Recalled cell block quiet = record { was_home = refl; is_out = refl; writes = refl; copying = λ _. refl; apart = λ e. absurd (cc) }
ready_put Asked cell block quiet = absurd quiet
ready_put Unreadable cell block quiet = absurd quiet
ready_put Fixing cell block quiet = absurd quiet
ready_put Fixed cell block quiet = absurd quiet
ready_put AskedAgain cell block quiet = absurd quiet
ready_put (Known bytes) cell block quiet = record { was_home = refl; is_out = refl; writes = refl; copying = λ _. refl; apart = λ e. absurd (cc) }
ready_put Replaced cell block quiet = record { was_home = refl; is_out = refl; writes = refl; copying = λ _. refl; apart = λ e. absurd (cc) }

write_put : (cell : Cell) (block : List ℕ) → IsReadOver cell.reading → cell.writing ≡ Ready block → IsPut NewBlock cell (sent cell)
write_put cell block quiet ready =
    subst (λ (w : Writing). IsPut NewBlock (record cell { writing = w }) (sent cell)) (sym ready) (ready_put cell.reading cell block quiet)

copy_put : (cell : Cell) (block : List ℕ) → cell.copying ≡ Ready block → IsPut SecondWrite cell (record cell { copying = Sent })
copy_put cell block ready = record { was_home = ap is_sent ready; is_out = refl; writes = refl; copying = λ e. absurd (cc); apart = λ _. (refl, refl) }

-- what the command's event makes of the cells
record IsPutAt (hold : Hold) (way : Way) (position : ℕ) (buffer : List ℕ) : Type 0 where
  pub below : position < length hold.cells
  pub there : standing_for (own_of_way way) (cell_at hold.cells position) ≢ Out
  pub in_sync : way ≢ NewBlock → way ≢ SecondWrite → (cell_at hold.cells position).standing ≡ InSync
  pub cells : (after_event hold (put_event position way buffer)).cells ≡ set hold.cells position (put_cell way (cell_at hold.cells position))
  pub put : IsPut way (cell_at hold.cells position) (put_cell way (cell_at hold.cells position))
  pub one : commands (put_event position way buffer ∷ []) ≡ 1

unfolded : (way : Way) (planned : Planned) (position : ℕ) (buffer : List ℕ) → ((j : ℕ) → (cell_at planned.hold.cells j).second ≢ Out → (cell_at planned.hold.cells j).standing ≡ InSync) → MayFollow planned (put_event position way buffer) → IsPutAt planned.hold way position buffer
unfolding put_cell
unfolded FirstRead planned position buffer beside may =
    let rules = step_by_rules planned (Asks position) may in
    let cell = cell_at planned.hold.cells position in
    let not_out = in_sync_not_out cell.standing rules.in_sync in
    record {
      below = within planned.hold.cells position not_out;
      there = not_out;
      in_sync = λ _ _. rules.in_sync;
      cells = refl;
      put = reading_put FirstRead cell cell.reading Asked refl (rules.before_writes position).0 (unasked_put cell.reading cell rules.unread);
      one = refl;
    }
unfolded SecondRead planned position buffer beside may =
    let rules = step_by_rules planned (AsksAgain position) may in
    let cell = cell_at planned.hold.cells position in
    let not_out = in_sync_not_out cell.standing rules.in_sync in
    record {
      below = within planned.hold.cells position not_out;
      there = not_out;
      in_sync = λ _ _. rules.in_sync;
      cells = refl;
      put = reading_put SecondRead cell Fixed AskedAgain rules.fixed (rules.before_writes position).0 (record { was_home = refl; is_out = refl; writes = refl; copying = λ _. refl; apart = λ e. absurd (cc) });
      one = refl;
    }
unfolded FixWrite planned position buffer beside may =
    let rules = step_by_rules planned (Fixes position buffer) may in
    let cell = cell_at planned.hold.cells position in
    let not_out = in_sync_not_out cell.standing rules.in_sync in
    record {
      below = within planned.hold.cells position not_out;
      there = not_out;
      in_sync = λ _ _. rules.in_sync;
      cells = refl;
      put = reading_put FixWrite cell Unreadable Fixing rules.unreadable (rules.before_writes position).0 (record { was_home = refl; is_out = refl; writes = refl; copying = λ _. refl; apart = λ e. absurd (cc) });
      one = refl;
    }
unfolded NewBlock planned position buffer beside may =
    let rules = step_by_rules planned (Writes position buffer) may in
    let cell = cell_at planned.hold.cells position in
    record {
      below = within planned.hold.cells position rules.not_out;
      there = rules.not_out;
      in_sync = λ other _. absurd (other refl);
      cells = refl;
      put = write_put cell buffer rules.after_read rules.ready;
      one = refl;
    }
unfolded SecondWrite planned position buffer beside may =
    let rules = step_by_rules planned (Copies position buffer) may in
    let cell = cell_at planned.hold.cells position in
    let there = second_there cell.second cell.writing rules.second in
    record {
      below = within planned.hold.cells position (in_sync_not_out cell.standing (beside position there));
      there = there;
      in_sync = λ _ other. absurd (other refl);
      cells = refl;
      put = copy_put cell buffer rules.ready;
      one = refl;
    }
  where
    second_there : (s : Standing) (w : Writing) → FirstIsSent s w → s ≢ Out
    second_there InSync w sent out = cc
    second_there Target w sent out = cc
    second_there Out w sent out = absurd sent

-- a hold with a command put out at a position that isn't out
some_out : (hold : Hold) (j : ℕ) → j < length hold.cells → is_out (cell_at hold.cells j).standing ≡ false → is_put_out (cell_at hold.cells j) ≡ true → (has_read_out hold || has_write_out hold) ≡ true
some_out hold j below home out =
    let cell = cell_at hold.cells j in
    elim (or_cases (is_read_put_out cell) (is_write_put_out cell) out) [
      | inl reads ↦ or_left (has_read_out hold) (has_write_out hold) (elim (or_cases (is_asked cell.reading) (is_asked_again cell.reading) reads) [
        | inl asked ↦ or_left (has_asked hold) (has_asked_again hold) (live (λ c. is_asked c.reading) asked)
        | inr again ↦ or_right (has_asked hold) (has_asked_again hold) (live (λ c. is_asked_again c.reading) again)
      ])
      | inr writes ↦ or_right (has_read_out hold) (has_write_out hold) (elim (or_cases (is_fixing cell.reading) (is_sent cell.writing) writes) [
        | inl fixing ↦ or_left (has_fix_out hold) _ (live (λ c. is_fixing c.reading) fixing)
        | inr sent ↦ or_right (has_fix_out hold) _ (or_left (any_live (λ c. is_sent c.writing) hold) _ (live (λ c. is_sent c.writing) sent))
      ])
    ]
  where
    live : (test : Cell → Bool) → test (cell_at hold.cells j) ≡ true → any_live test hold ≡ true
    live test passes = any_true (λ c. not (is_out c.standing) && test c) hold.cells j below (λ i. not (home i) && passes i)

-- or to its second device
some_copied : (hold : Hold) (j : ℕ) → j < length hold.cells → is_out (cell_at hold.cells j).second ≡ false → is_sent (cell_at hold.cells j).copying ≡ true → (has_read_out hold || has_write_out hold) ≡ true
some_copied hold j below home sent =
    or_right (has_read_out hold) (has_write_out hold) (or_right (has_fix_out hold) _ (or_right (any_live (λ c. is_sent c.writing) hold) _
    (any_true (λ c. not (is_out c.second) && is_sent c.copying) hold.cells j below (λ i. not (home i) && sent i))))

-- ---- a row puts a command out

-- what a row is once its hold has put a command out at the position
pub record HasPutOut (fs : FramesState) (frame : ℕ) (h new : HeldRow) (planned : Planned) (position slot generation : ℕ) (way : Way) (buffer : List ℕ) : Type 0 where
  pub held : IsHeld fs.geometry fs.shard fs.slots new
  pub request : request_at frame (HeldIn new) ≡ request_at frame (HeldIn h)
  pub out : (has_read_out new.hold.planned.hold || has_write_out new.hold.planned.hold) ≡ true
  pub puts : PutsOutAt fs frame h planned position slot generation (action_of_way way) buffer
  pub fewer : owed_by new + 1 ≤ owed_by h

module _ (fs : FramesState) (frame : ℕ) (h : HeldRow) (events : List Event) (position : ℕ) (way : Way) (buffer : List ℕ) (lawful : IsShape fs.geometry)
    (is : hold_at fs.uses frame ≡ Some h) (held : IsHeld fs.geometry fs.shard fs.slots h) (silent : AreSilent events) (may : IsPlanned h.hold.planned events)
    (follows : MayFollow (planned_at h.hold.planned events) (put_event position way buffer)) where
  abbrev before : Planned
  before = planned_at h.hold.planned events

  abbrev planned : Planned
  planned = planned_after before (put_event position way buffer)

  abbrev own : Bool
  own = own_of_way way

  abbrev new : HeldRow
  new = sent_off h planned own position

  p : Prepared fs.geometry fs.shard fs.slots h (prepared h before)
  p = are_prepared fs.geometry fs.shard fs.slots h events lawful held silent may

  u : IsPutAt before.hold way position buffer
  u = unfolded way before position buffer (under_way_course fs.geometry before lawful p.held.under_way).beside follows

  pub put_below : position < fs.geometry.slots
  put_below = subst (λ (n : ℕ). position < n) p.held.wide u.below

  below_away : position < length h.hold.away
  below_away = subst (λ (n : ℕ). position < n) (sym held.wide_away) put_below

  -- the position's device was there from the first
  before_same : (o : Bool) (j : ℕ) → standing_for o (cell_at before.hold.cells j) ≡ standing_for o (cell_at h.hold.planned.hold.cells j)
  before_same o j = let like = p.like j in λ i. if o then like.standing i else like.second i

  pub put_there : standing_for own (cell_at h.hold.planned.hold.cells position) ≢ Out
  put_there out = u.there (before_same own position ∙ out)

  -- and the first one is in sync, unless a new block is put out
  pub put_in_sync : way ≢ NewBlock → way ≢ SecondWrite → (cell_at h.hold.planned.hold.cells position).standing ≡ InSync
  put_in_sync other further = sym (p.like position).standing ∙ u.in_sync other further

  put_steady : (w : Way) → IsSteady (put_event position w buffer)
  put_steady FirstRead = record {}
  put_steady SecondRead = record {}
  put_steady FixWrite = record {}
  put_steady NewBlock = record {}
  put_steady SecondWrite = record {}

  standing_is : (o : Bool) (j : ℕ) → standing_for o (cell_at planned.hold.cells j) ≡ standing_for o (cell_at before.hold.cells j)
  standing_is o j =
      let first = standing_stays before.hold (put_event position way buffer) j (put_steady way) in
      let second = second_stays before.hold (put_event position way buffer) j (put_steady way) in
      λ i. if o then first i else second i

  home_then : is_out (standing_for own (cell_at planned.hold.cells position)) ≡ false
  home_then = home_is (standing_for own (cell_at planned.hold.cells position)) (λ out. u.there (sym (standing_is own position) ∙ out))

  here : cell_at planned.hold.cells position ≡ put_cell way (cell_at before.hold.cells position)
  here = ap (λ (cells : List Cell). cell_at cells position) u.cells ∙ get_or-set_same before.hold.cells position (put_cell way (cell_at before.hold.cells position)) no_cell u.below

  elsewhere : (j : ℕ) → j ≢ position → cell_at planned.hold.cells j ≡ cell_at before.hold.cells j
  elsewhere j ne = ap (λ (cells : List Cell). cell_at cells j) u.cells ∙ get_or-set_other before.hold.cells position j (put_cell way (cell_at before.hold.cells position)) no_cell ne

  out_here : awaits own (cell_at planned.hold.cells position) ≡ true
  out_here = ap (awaits own) here ∙ u.put.is_out

  -- what is put out with a position's own buffer
  away_by : (o : Bool) → own ≡ o → (j : ℕ) → j < fs.geometry.slots → (cell_at before.hold.cells j).standing ≢ Out → slice_index_or (cond o (set h.hold.away position true) h.hold.away) j false ≡ is_put_out (cell_at planned.hold.cells j)
  away_by true is_own j below not_out =
      elim (cases_eq j position) [
        | inl e ↦
            subst (λ (k : ℕ). slice_index_or (set h.hold.away position true) k false ≡ is_put_out (cell_at planned.hold.cells k)) (sym e)
            (get_or-set_same h.hold.away position true false below_away ∙ sym (ap (λ (o : Bool). awaits o (cell_at planned.hold.cells position)) (sym is_own) ∙ out_here))
        | inr ne ↦ get_or-set_other h.hold.away position j true false ne ∙ p.held.away j below not_out ∙ sym (ap is_put_out (elsewhere j ne))
      ]
  away_by false apart j below not_out =
      p.held.away j below not_out
      ∙ sym (elim (cases_eq j position) [
        | inl e ↦
            ap (λ (k : ℕ). is_put_out (cell_at planned.hold.cells k)) e ∙ ap is_put_out here ∙ (u.put.apart apart).0 ∙ sym (ap (λ (k : ℕ). is_put_out (cell_at before.hold.cells k)) e)
        | inr ne ↦ ap is_put_out (elsewhere j ne)
      ])

  -- and with the one that is no position's
  apart_by : (o : Bool) → own ≡ o → (j : ℕ) → j < fs.geometry.slots → (cell_at before.hold.cells j).second ≢ Out → cond o h.hold.second_away true ≡ is_sent (cell_at planned.hold.cells j).copying
  apart_by true is_own j below there =
      p.held.second_away j below there
      ∙ sym (elim (cases_eq j position) [
        | inl e ↦
            ap (λ (k : ℕ). is_sent (cell_at planned.hold.cells k).copying) e ∙ ap (λ (c : Cell). is_sent c.copying) here ∙ ap is_sent (u.put.copying is_own) ∙ sym (ap (λ (k : ℕ). is_sent (cell_at before.hold.cells k).copying) e)
        | inr ne ↦ ap (λ (c : Cell). is_sent c.copying) (elsewhere j ne)
      ])
  apart_by false apart j below there =
      let same = only_one fs.geometry fs.shard fs.slots (prepared h before) lawful p.held j position below put_below there (λ out. u.there (ap (λ (o : Bool). standing_for o (cell_at before.hold.cells position)) apart ∙ out)) in
      sym (ap (λ (k : ℕ). is_sent (cell_at planned.hold.cells k).copying) same ∙ ap (λ (o : Bool). awaits o (cell_at planned.hold.cells position)) (sym apart) ∙ out_here)

  fewer : owed_by new + 1 ≤ owed_by h
  fewer = omega (arith, owes_fewer before (put_event position way buffer) (under_way_fine fs.geometry before lawful p.held.under_way) follows, u.one, p.owes)

  wide_then : (o : Bool) → length (cond o (set h.hold.away position true) h.hold.away) ≡ fs.geometry.slots
  wide_then true = length-set h.hold.away position true ∙ held.wide_away
  wide_then false = held.wide_away

  out_then : (o : Bool) → own ≡ o → position < length planned.hold.cells → (has_read_out planned.hold || has_write_out planned.hold) ≡ true
  out_then true is_own below =
      some_out planned.hold position below (ap (λ (o : Bool). is_out (standing_for o (cell_at planned.hold.cells position))) (sym is_own) ∙ home_then)
      (ap (λ (o : Bool). awaits o (cell_at planned.hold.cells position)) (sym is_own) ∙ out_here)
  out_then false apart below =
      some_copied planned.hold position below (ap (λ (o : Bool). is_out (standing_for o (cell_at planned.hold.cells position))) (sym apart) ∙ home_then)
      (ap (λ (o : Bool). awaits o (cell_at planned.hold.cells position)) (sym apart) ∙ out_here)

  home_before : (o : Bool) → own ≡ o → is_buffer_away h.hold (if o then position else fs.geometry.slots) ≡ false
  home_before true is_own =
      buffer_own h.hold position below_away
      ∙ p.held.away position put_below (λ out. u.there (ap (λ (o : Bool). standing_for o (cell_at before.hold.cells position)) is_own ∙ out))
      ∙ ap (λ (o : Bool). awaits o (cell_at before.hold.cells position)) (sym is_own) ∙ u.put.was_home
  home_before false apart =
      ap (is_buffer_away h.hold) (sym held.wide_away) ∙ buffer_apart h.hold
      ∙ p.held.second_away position put_below (λ out. u.there (ap (λ (o : Bool). standing_for o (cell_at before.hold.cells position)) apart ∙ out))
      ∙ ap (λ (o : Bool). awaits o (cell_at before.hold.cells position)) (sym apart) ∙ u.put.was_home

  others_then : (o : Bool) → own ≡ o → (j : ℕ) → (o ≡ true → j ≢ position) → is_write_put_out (cell_at planned.hold.cells j) ≡ is_write_put_out (cell_at before.hold.cells j)
  others_then true is_own j ne = ap is_write_put_out (elsewhere j (ne refl))
  others_then false apart j ne = elim (cases_eq j position) [
    | inl e ↦
        ap (λ (k : ℕ). is_write_put_out (cell_at planned.hold.cells k)) e ∙ ap is_write_put_out here ∙ (u.put.apart apart).1 ∙ sym (ap (λ (k : ℕ). is_write_put_out (cell_at before.hold.cells k)) e)
    | inr other ↦ ap is_write_put_out (elsewhere j other)
  ]

  pub row_put_out : (slot generation : ℕ) → frame < frames → slot < fs.geometry.slots → slot ≡ slot_at fs.geometry h.row position → position_at fs.geometry h.row slot ≡ position → length buffer ≡ h.hold.planned.hold.size
      → is_own h.successor slot generation ≡ own → generation ≡ device_in own (states_of fs.slots slot) → keeps (slot_in fs.slots slot).device generation ≡ true
      → HasPutOut fs frame h new planned position slot generation way buffer
  row_put_out slot generation frame_below slot_below slot_is inverse sized mine device there =
      let held_now = held_after fs.geometry fs.shard fs.slots (prepared h before) (put_event position way buffer) (cond own (set h.hold.away position true) h.hold.away) (cond own h.hold.second_away true) p.held follows (put_steady way)
      (wide_then own) (away_by own refl) (apart_by own refl) in
      record {
        held = held_now;
        request = request_same frame h planned (cond own (set h.hold.away position true) h.hold.away) (cond own h.hold.second_away true) (kind_after before.hold (put_event position way buffer) ∙ p.kind);
        out = out_then own refl (subst (λ (n : ℕ). position < n) (sym held_now.wide) put_below);
        puts = record {
          held = is;
          frame_below = frame_below;
          own = held.own;
          wide = held.wide_away;
          below = put_below;
          slot_below = slot_below;
          slot_is = slot_is;
          inverse = inverse;
          home = ap (λ (o : Bool). is_buffer_away h.hold (if o then position else fs.geometry.slots)) mine ∙ home_before own refl;
          device = device ∙ ap (λ (o : Bool). device_in o (states_of fs.slots slot)) (sym mine);
          there = there;
          not_out = ap (λ (o : Bool). is_out (standing_for o (cell_at planned.hold.cells position))) mine ∙ home_then;
          writes = u.put.writes ∙ ap (is_write_out own) (sym here) ∙ ap (λ (o : Bool). is_write_out o (cell_at planned.hold.cells position)) (sym mine);
          standing = λ o j. standing_is o j ∙ before_same o j;
          others = λ j ne not_out. others_then own refl j (λ is_own. ne (mine ∙ is_own)) ∙ like_writes (cell_at h.hold.planned.hold.cells j) (cell_at before.hold.cells j) (p.like j) not_out;
          sized = sized ∙ held.size;
        };
        fewer = fewer;
      }

-- ---- a hold with a command out isn't over

pub over_not : (fs : FramesState) (frame : ℕ) → HasOut fs frame → IsOver fs frame → ⊥
over_not fs frame has over =
    let both : Some has.0 ≡ Some over.0 = sym has.1 ∙ over.1 in
    let same : over.0 ≡ has.0 = cc in
    let planned = has.0.hold.planned in
    let ends : has_outcome planned ≡ true = subst (λ (x : HeldRow). has_outcome x.hold.planned ≡ true) same over.2 in
    let whole = and_parts (not (is_idle planned.hold.kind)) (is_over planned) ends in
    let three = and_parts (not (has_read_out planned.hold) && not (has_write_out planned.hold) && is_none (next planned)) (gives_up planned.hold || has_enough planned.plan planned.hold) whole.1 in
    let two = and_parts (not (has_read_out planned.hold) && not (has_write_out planned.hold)) (is_none (next planned)) three.0 in
    let one = and_parts (not (has_read_out planned.hold)) (not (has_write_out planned.hold)) two.0 in
    let no_read = not_false (has_read_out planned.hold) one.0 in
    let no_write = not_false (has_write_out planned.hold) one.1 in
    let none : (has_read_out planned.hold || has_write_out planned.hold) ≡ false = λ i. no_read i || no_write i in
    let out = has.2 in
    absurd (cc)
