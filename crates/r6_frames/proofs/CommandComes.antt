-- The commands, when a held row goes on and when a command comes.
use Rattle.std.proofs.Common.{◌≡◌, ◌≢◌, ◌⊎◌, ℕ, zero, suc, ◌+◌, ◌<◌, ◌≤◌, Bool, true, false, cond, List, [], ◌∷◌, length, set, refl, sym, ap, subst, ◌∙◌, Some, None, inl, inr, arith, get_or-set_same, get_or-set_other}
use Rattle.std.specs.Prelude.{◌||◌, not, nat_eq, if◌then◌else◌, slice_index_or, option_map}
use Rattle.std.specs.Ordering.{nat_cmp}
use Rattle.std.specs.FinMap as map
use Rattle.std.specs.FinMap.{FinMap}
use Rattle.std.proofs.lemmas.Bool.{cases_eq, ne_eqb, le-ltb}
use Rattle.r6_layout.specs.Layout.{position_at, slot_at}
use Rattle.r6_stripe.specs.Holds.{Cell, cell_at}
use Rattle.r6_stripe.specs.Holds.Standing.{Out}
use Rattle.r6_stripe.specs.Plans.{Planned, is_out}
use Rattle.r6_world.specs.Tables.{put}
use Rattle.r6_world.specs.ShardStates.{frames, generation_in}
use Rattle.r6_world.specs.Layouts.{IsRowOf}
use Rattle.r6_world.specs.Geometries.{layout_of}
use Rattle.r6_frames.specs.declared.slots.Slot.{Slot}
use Rattle.r6_frames.specs.declared.command.Action.{Action}
use Rattle.r6_frames.specs.Actions.{is_copy, is_write}
use Rattle.r6_frames.specs.declared.successor.Successor.{Successor}
use Rattle.r6_frames.specs.Successors.{is_own}
use Rattle.r6_frames.proofs.Devices.{keeps}
use Rattle.r6_frames.proofs.BuffersHome.{buffers_with, buffer_below}
use Rattle.r6_frames.specs.declared.command.Outstanding.{Outstanding}
use Rattle.r6_frames.specs.declared.frames.HeldRow.{HeldRow}
use Rattle.r6_frames.specs.declared.frames.FrameUse.{FrameUse}
use Rattle.r6_frames.specs.declared.frames.FrameUse.TheVariants.{Held as HeldIn}
use Rattle.r6_frames.specs.FramesState.{FramesState}
use Rattle.r6_frames.specs.Slots.{is_abandoned, is_gone, since_of, slot_in, state_of, states_of}
use Rattle.r6_frames.specs.Views.{use_at, hold_at, outstanding, command_of, transfer_of, AreLive}
use Rattle.r6_frames.specs.Sound.{most_commands, AreCommands, IsOfHold, IsOfFrame, HasCommand, buffer_of, buffers_away, device_in, is_away_from, is_buffer_away, is_write_out, place_of, is_write_put_out, count_home, home_in, standing_for, successor_in}
use Rattle.r6_frames.specs.Directs.{AreDirects, count_home_directs}
use Rattle.r6_frames.proofs.DirectReads.{directs_kept, putting}
use Rattle.r6_frames.proofs.Lists.{same_put}
use Rattle.r6_frames.proofs.Pushed.{pushed, no_number}
use Rattle.r6_frames.proofs.Tables.{inserted-own, inserted-other, len-inserted}
use Rattle.r6_frames.proofs.Held.{held_within, held_put, use_held, use_at_own, use_at_other, hold_at_own, hold_at_other, home_at, home_set}
use Rattle.r6_frames.proofs.HeldRows.{Prepared, prepared, like_writes}

-- the frames with another row held in the frame
abbrev pub with_row : FramesState → ℕ → HeldRow → FramesState
with_row fs frame h = record fs { uses = set fs.uses frame (HeldIn h) }

-- what is held in a frame when another row is in this one
pub held_then : (held : List FrameUse) (frame : ℕ) (h new : HeldRow) (other : ℕ) (x : HeldRow) → hold_at held frame ≡ Some h → hold_at (set held frame (HeldIn new)) other ≡ Some x
    → ((other ≡ frame) × (new ≡ x)) ⊎ ((other ≢ frame) × (hold_at held other ≡ Some x))
held_then held frame h new other x is there = held_put held frame new other x (held_within held frame h is) there

-- ---- the commands of a frame whose row goes on

-- a buffer has the same number while the row's new device is the same
pub buffer_stays : (fs : FramesState) (frame : ℕ) (h new : HeldRow) (c : Outstanding) → hold_at fs.uses frame ≡ Some h → new.successor ≡ h.successor → buffer_of (with_row fs frame new) c ≡ buffer_of fs c
buffer_stays fs frame h new c is same =
    elim (cases_eq c.frame frame) [
      | inl e ↦
          ap (λ (f : ℕ). by_use (use_at (set fs.uses frame (HeldIn new)) f)) e ∙ ap by_use (use_at_own fs.uses frame (HeldIn new) (held_within fs.uses frame h is))
          ∙ ap (λ (s : Successor). cond (is_own s c.slot c.generation) (place_of fs c) fs.geometry.slots) same
          ∙ sym (ap (λ (f : ℕ). by_use (use_at fs.uses f)) e ∙ ap by_use (use_held fs.uses frame h is))
      | inr ne ↦ ap by_use (use_at_other fs.uses frame (HeldIn new) c.frame ne)
    ]
  where
    by_use : FrameUse → ℕ
    by_use u = cond (is_own (successor_in u) c.slot c.generation) (place_of fs c) fs.geometry.slots

-- the command of the frame's row is one of the row as it is now
pub record StaysOf (fs : FramesState) (c : Outstanding) (h new : HeldRow) : Type 0 where
  pub row : new.row ≡ h.row
  pub successor : new.successor ≡ h.successor
  pub away : is_buffer_away h.hold (buffer_of fs c) ≡ true → is_buffer_away new.hold (buffer_of fs c) ≡ true
  pub standing : (own : Bool) → standing_for own (cell_at new.hold.planned.hold.cells (place_of fs c)) ≡ standing_for own (cell_at h.hold.planned.hold.cells (place_of fs c))
  pub writes : is_own h.successor c.slot c.generation ≡ true → (cell_at h.hold.planned.hold.cells (place_of fs c)).standing ≢ Out
      → is_write_put_out (cell_at new.hold.planned.hold.cells (place_of fs c)) ≡ is_write_put_out (cell_at h.hold.planned.hold.cells (place_of fs c))

pub of_frame_stays : (fs : FramesState) (frame : ℕ) (h new : HeldRow) (token : ℕ) (c : Outstanding) → hold_at fs.uses frame ≡ Some h → new.successor ≡ h.successor → (c.frame ≡ frame → StaysOf fs c h new)
    → IsOfFrame fs token c → IsOfFrame (with_row fs frame new) token c
of_frame_stays fs frame h new token c is successor stays o =
    elim (cases_eq c.frame frame) [
      | inl e ↦
          let s = stays e in
          let was : hold_at fs.uses c.frame ≡ Some h = ap (hold_at fs.uses) e ∙ is in
          let now : hold_at (set fs.uses frame (HeldIn new)) c.frame ≡ Some new = ap (hold_at (set fs.uses frame (HeldIn new))) e ∙ hold_at_own fs.uses frame (HeldIn new) inside in
          let of_h = o.held h was in
          let at = place_of fs c in
          let is_mine : is_own h.successor c.slot c.generation ≡ is_own new.successor c.slot c.generation = ap (λ (x : Successor). is_own x c.slot c.generation) (sym s.successor) in
          let own : IsOfHold (with_row fs frame new) token c new = record {
            row = of_h.row ∙ sym s.row;
            abandoned = of_h.abandoned ∙ ap is_out (sym (s.standing (is_own h.successor c.slot c.generation))) ∙ ap (λ (b : Bool). is_out (standing_for b (cell_at new.hold.planned.hold.cells at))) is_mine;
            device = λ kept. of_h.device kept ∙ ap (λ (b : Bool). device_in b (states_of fs.slots c.slot)) is_mine;
            writes = λ kept.
                of_h.writes kept
                ∙ write_same (is_own h.successor c.slot c.generation) (cell_at h.hold.planned.hold.cells at) (cell_at new.hold.planned.hold.cells at)
                (λ mine. sym (s.writes mine (λ out. let not_out : is_out (cell_at h.hold.planned.hold.cells at).standing ≡ false = ap (λ (b : Bool). is_out (standing_for b (cell_at h.hold.planned.hold.cells at))) (sym mine) ∙ sym of_h.abandoned ∙ kept in let both = sym not_out ∙ ap is_out out in absurd (cc))))
                ∙ ap (λ (b : Bool). is_write_out b (cell_at new.hold.planned.hold.cells at)) is_mine;
          } in
          record {
            away = ap (is_away_from (use_at (set fs.uses frame (HeldIn new)) c.frame)) (buffer_stays fs frame h new c is successor) ∙ ap (λ (u : FrameUse). is_away_from u (buffer_of fs c)) (use_held (set fs.uses frame (HeldIn new)) c.frame new now)
                ∙ s.away (sym (ap (λ (u : FrameUse). is_away_from u (buffer_of fs c)) (use_held fs.uses c.frame h was)) ∙ o.away);
            held = λ x there. let both : Some new ≡ Some x = sym now ∙ there in let same : new ≡ x = cc in subst (IsOfHold (with_row fs frame new) token c) same own;
            ended = λ none. absurd (let both : Some new ≡ None = sym now ∙ none in cc);
          }
      | inr ne ↦
          let same = use_at_other fs.uses frame (HeldIn new) c.frame ne in
          let held_same = hold_at_other fs.uses frame (HeldIn new) c.frame ne in
          record {
            away = ap (is_away_from (use_at (set fs.uses frame (HeldIn new)) c.frame)) (buffer_stays fs frame h new c is successor) ∙ ap (λ (u : FrameUse). is_away_from u (buffer_of fs c)) same ∙ o.away;
            held = λ x there. let of_x = o.held x (sym held_same ∙ there) in record { row = of_x.row; abandoned = of_x.abandoned; device = of_x.device; writes = of_x.writes };
            ended = λ none. o.ended (sym held_same ∙ none);
          }
    ]
  where
    inside : frame < length fs.uses
    inside = held_within fs.uses frame h is

    write_same : (o : Bool) (before later : Cell) → (o ≡ true → is_write_put_out before ≡ is_write_put_out later) → is_write_out o before ≡ is_write_out o later
    write_same true before later same = same refl
    write_same false before later same = refl

-- ---- a hold prepares: its commands stay

module _ (fs : FramesState) (frame : ℕ) (h : HeldRow) (planned : Planned) (live : AreLive fs) (is : hold_at fs.uses frame ≡ Some h)
    (p : Prepared fs.geometry fs.shard fs.slots h (prepared h planned)) where
  abbrev prepared_frames : FramesState
  prepared_frames = with_row fs frame (prepared h planned)

  inside : frame < length fs.uses
  inside = held_within fs.uses frame h is

  away_same : (f position : ℕ) → is_away_from (use_at (set fs.uses frame (HeldIn (prepared h planned))) f) position ≡ is_away_from (use_at fs.uses f) position
  away_same f position =
      elim (cases_eq f frame) [
        | inl e ↦
            ap (λ (k : ℕ). is_away_from (use_at (set fs.uses frame (HeldIn (prepared h planned))) k) position) e
            ∙ ap (λ (u : FrameUse). is_away_from u position) (use_at_own fs.uses frame (HeldIn (prepared h planned)) inside)
            ∙ sym (ap (λ (k : ℕ). is_away_from (use_at fs.uses k) position) e ∙ ap (λ (u : FrameUse). is_away_from u position) (use_held fs.uses frame h is))
        | inr ne ↦ ap (λ (u : FrameUse). is_away_from u position) (use_at_other fs.uses frame (HeldIn (prepared h planned)) f ne)
      ]

  pub commands_prepared : AreCommands fs → AreCommands prepared_frames
  commands_prepared all = record {
    next_taken = all.next_taken;
    given = all.given;
    since = all.since;
    untaken = all.untaken;
    sized = all.sized;
    lawful = all.lawful;
    alone = λ live token other c d is_c is_d same buffers.
        all.alone live token other c d is_c is_d same (sym (buffer_stays fs frame h (prepared h planned) c is refl) ∙ buffers ∙ buffer_stays fs frame h (prepared h planned) d is refl);
    of_frame = λ live token c out below.
        of_frame_stays fs frame h (prepared h planned) token c is refl
        (λ e. record {
          row = refl;
          successor = refl;
          away = λ away. away;
          standing = λ own. let like = p.like (place_of fs c) in λ i. if own then like.standing i else like.second i;
          writes = λ mine. like_writes (cell_at h.hold.planned.hold.cells (place_of fs c)) (cell_at planned.hold.cells (place_of fs c)) (p.like (place_of fs c));
        })
        (all.of_frame live token c out below);
    there = λ live f buffer below away.
        let has = all.there live f buffer below (sym (away_same f buffer) ∙ away) in
        (has.0, has.1, has.2, has.3, buffer_stays fs frame h (prepared h planned) has.1 is refl ∙ has.4);
    stopped = λ not_live. absurd (not_live live);
    room =
        let home = home_set fs.geometry.slots fs.uses frame (HeldIn (prepared h planned)) inside in
        let was : home_at fs.geometry.slots (use_at fs.uses frame) ≡ count_home (buffers_away h.hold) = ap (home_at fs.geometry.slots) (use_held fs.uses frame h is) in
        let room = all.room in
        omega arith;
  }

-- ---- a command comes

-- the row with its buffer away: the position's own, or the one that is no position's
abbrev pub sent_off : HeldRow → Planned → (own : Bool) → ℕ → HeldRow
sent_off h planned own position =
    record h {
      hold = record {
        planned = planned;
        away = cond own (set h.hold.away position true) h.hold.away;
        class = h.hold.class;
        second_away = cond own h.hold.second_away true;
      };
    }

abbrev pub new_command : ℕ → ℕ → ℕ → ℕ → Action → List ℕ → Outstanding
new_command frame slot generation row action buffer = record { frame = frame; slot = slot; generation = generation; row = row; action = action; buffer = Some buffer }

-- the frames with the command of the frame's hold put out
abbrev pub with_command : FramesState → ℕ → HeldRow → Planned → (position slot generation : ℕ) → Action → List ℕ → FramesState
with_command fs frame h planned position slot generation what buffer =
    record (with_row fs frame (sent_off h planned (is_own h.successor slot generation) position)) { commands = pushed fs.commands (new_command frame slot generation h.row what buffer) }

-- the command is put out at the position, whose buffer was home
pub record PutsOutAt (fs : FramesState) (frame : ℕ) (h : HeldRow) (planned : Planned) (position slot generation : ℕ) (what : Action) (buffer : List ℕ) : Type 0 where
  pub held : hold_at fs.uses frame ≡ Some h
  pub frame_below : frame < frames
  pub own : IsRowOf (layout_of fs.geometry) fs.shard h.row
  pub wide : length h.hold.away ≡ fs.geometry.slots
  pub below : position < fs.geometry.slots
  pub slot_below : slot < fs.geometry.slots
  pub slot_is : slot ≡ slot_at fs.geometry h.row position
  pub inverse : position_at fs.geometry h.row slot ≡ position
  pub home : is_buffer_away h.hold (if is_own h.successor slot generation then position else fs.geometry.slots) ≡ false
  pub device : generation ≡ device_in (is_own h.successor slot generation) (states_of fs.slots slot)
  pub there : keeps (slot_in fs.slots slot).device generation ≡ true
  pub not_out : is_out (standing_for (is_own h.successor slot generation) (cell_at planned.hold.cells position)) ≡ false
  pub writes : is_write what ≡ is_write_out (is_own h.successor slot generation) (cell_at planned.hold.cells position)
  pub standing : (o : Bool) (j : ℕ) → standing_for o (cell_at planned.hold.cells j) ≡ standing_for o (cell_at h.hold.planned.hold.cells j)
  pub others : (j : ℕ) → (is_own h.successor slot generation ≡ true → j ≢ position) → (cell_at h.hold.planned.hold.cells j).standing ≢ Out
      → is_write_put_out (cell_at planned.hold.cells j) ≡ is_write_put_out (cell_at h.hold.planned.hold.cells j)
  pub sized : length buffer ≡ fs.geometry.block

pub count_home-set : (away : List Bool) (j : ℕ) → j < length away → slice_index_or away j false ≡ false → count_home (set away j true) + 1 ≡ count_home away
count_home-set [] j below home = absurd (omega arith)
count_home-set (false ∷ away) zero below home = omega arith
count_home-set (true ∷ away) zero below home = absurd (cc)
count_home-set (false ∷ away) (suc j) below home = omega (arith, count_home-set away j (omega arith) home)
count_home-set (true ∷ away) (suc j) below home = omega (arith, count_home-set away j (omega arith) home)

-- a command put out now goes on, if its device is there
pub goes_on_at : (slot : Slot) (next generation : ℕ) → keeps slot.device generation ≡ true → slot.since ≤ next → slot.since_second ≤ next → is_gone slot next generation ≡ false
goes_on_at slot next generation there first second = λ i. not (there i) || le-ltb next (since_of slot generation) below i
  where
    below : since_of slot generation ≤ next
    below = by_first (nat_eq (generation_in (state_of slot.device)) generation)
      where
        by_first : (b : Bool) → (if b then slot.since else slot.since_second) ≤ next
        by_first true = first
        by_first false = second

-- the commands as the shard has them
pub command_came : (slots : List Slot) (m : FinMap nat_cmp Outstanding) (next_taken next : ℕ) (c : Outstanding) → next_taken ≤ next → is_abandoned slots next c ≡ false
    → (λ token. option_map (command_of slots next_taken token) (map.get (map.insert m next c) token))
    ≡ put (λ token. option_map (command_of slots next_taken token) (map.get m token)) next
    (Some (record { frame = c.frame; slot = c.slot; generation = c.generation; row = c.row; transfer = transfer_of c.action c.buffer; taken = false; abandoned = false; copy = is_copy c.action }))
command_came slots m next_taken next c below kept =
    let untaken = le-ltb next next_taken below in
    same_put (λ token. option_map (command_of slots next_taken token) (map.get m token)) (λ token. option_map (command_of slots next_taken token) (map.get (map.insert m next c) token)) next
    (Some (record { frame = c.frame; slot = c.slot; generation = c.generation; row = c.row; transfer = transfer_of c.action c.buffer; taken = false; abandoned = false; copy = is_copy c.action }))
    (ap (option_map (command_of slots next_taken next)) (inserted-own m next c) ∙ (λ i. Some (record (command_of slots next_taken next c) { taken = untaken i; abandoned = kept i })))
    (λ q e. ap (option_map (command_of slots next_taken q)) (inserted-other m next c q e))

module _ (fs : FramesState) (frame : ℕ) (h : HeldRow) (planned : Planned) (position slot generation : ℕ) (what : Action) (buffer : List ℕ)
    (live : AreLive fs) (can : PutsOutAt fs frame h planned position slot generation what buffer) (all : AreCommands fs) where
  abbrev m : FinMap nat_cmp Outstanding
  m = fs.commands.entries

  abbrev next : ℕ
  next = fs.commands.next

  abbrev mine : Bool
  mine = is_own h.successor slot generation

  abbrev buffer_number : ℕ
  buffer_number = if mine then position else fs.geometry.slots

  abbrev new : HeldRow
  new = sent_off h planned mine position

  abbrev c : Outstanding
  c = new_command frame slot generation h.row what buffer

  abbrev later : FramesState
  later = with_command fs frame h planned position slot generation what buffer

  within : frame < length fs.uses
  within = held_within fs.uses frame h can.held

  within_away : buffer_number < length (buffers_away h.hold)
  within_away = buffer_below h.hold.away h.hold.second_away mine position fs.geometry.slots can.wide can.below

  buffers_are : buffers_away new.hold ≡ set (buffers_away h.hold) buffer_number true
  buffers_are = buffers_with true h.hold.away h.hold.second_away mine position fs.geometry.slots can.wide can.below

  buffer_same : (d : Outstanding) → buffer_of later d ≡ buffer_of fs d
  buffer_same d = buffer_stays fs frame h new d can.held refl

  own_buffer : buffer_of fs c ≡ buffer_number
  own_buffer =
      ap (λ (u : FrameUse). if is_own (successor_in u) slot generation then place_of fs c else fs.geometry.slots) (use_held fs.uses frame h can.held)
      ∙ ap (λ (p : ℕ). if mine then p else fs.geometry.slots) can.inverse

  own_use : use_at (set fs.uses frame (HeldIn new)) frame ≡ HeldIn new
  own_use = use_at_own fs.uses frame (HeldIn new) within

  own_row : hold_at (set fs.uses frame (HeldIn new)) frame ≡ Some new
  own_row = hold_at_own fs.uses frame (HeldIn new) within

  own : outstanding later next ≡ Some c
  own = inserted-own m next c

  -- it isn't abandoned: those that are were put out before it
  pub not_abandoned : is_abandoned fs.slots next c ≡ false
  not_abandoned = goes_on_at (slot_in fs.slots slot) next generation can.there (all.since slot).0 (all.since slot).1

  other_token : (token : ℕ) → token ≢ next → outstanding later token ≡ outstanding fs token
  other_token token ne = inserted-other m next c token (ne_eqb token next ne)

  which : (token : ℕ) (d : Outstanding) → outstanding later token ≡ Some d → ((token ≡ next) × (c ≡ d)) ⊎ (outstanding fs token ≡ Some d)
  which token d out =
      elim (cases_eq token next) [
        | inl e ↦ let both : Some c ≡ Some d = sym own ∙ ap (outstanding later) (sym e) ∙ out in inl (e, cc)
        | inr ne ↦ inr (sym (other_token token ne) ∙ out)
      ]

  -- no old command of the frame has its buffer
  home_still : (token : ℕ) (d : Outstanding) → outstanding fs token ≡ Some d → d.frame ≡ frame → buffer_of fs d ≢ buffer_number
  home_still token d out e at =
      let here : use_at fs.uses d.frame ≡ HeldIn h = ap (use_at fs.uses) e ∙ use_held fs.uses frame h can.held in
      let inside = can.frame_below in
      let away : is_buffer_away h.hold buffer_number ≡ true =
      ap (is_buffer_away h.hold) (sym at) ∙ sym (ap (λ (u : FrameUse). is_away_from u (buffer_of fs d)) here) ∙ (all.of_frame live token d out (omega arith)).away in
      let home = can.home in
      absurd (cc)

  stays : (token : ℕ) (d : Outstanding) → outstanding fs token ≡ Some d → d.frame ≡ frame → StaysOf fs d h new
  stays token d out e =
      let apart = home_still token d out e in
      record {
        row = refl;
        successor = refl;
        away = λ away. ap (λ (bs : List Bool). slice_index_or bs (buffer_of fs d) false) buffers_are ∙ get_or-set_other (buffers_away h.hold) buffer_number (buffer_of fs d) true false apart ∙ away;
        standing = λ o. can.standing o (place_of fs d);
        writes = λ is_mine. can.others (place_of fs d)
            (λ own_too same. apart (buffer_at d e ∙ ap (λ (b : Bool). if b then place_of fs d else fs.geometry.slots) is_mine ∙ same ∙ sym (ap (λ (b : Bool). if b then position else fs.geometry.slots) own_too)));
      }
    where
      buffer_at : (d : Outstanding) → d.frame ≡ frame → buffer_of fs d ≡ (if is_own h.successor d.slot d.generation then place_of fs d else fs.geometry.slots)
      buffer_at d e = ap (λ (u : FrameUse). if is_own (successor_in u) d.slot d.generation then place_of fs d else fs.geometry.slots) (ap (use_at fs.uses) e ∙ use_held fs.uses frame h can.held)

  of_frame_then : (token : ℕ) (d : Outstanding) → outstanding fs token ≡ Some d → d.frame < frames → IsOfFrame later token d
  of_frame_then token d out below =
      let o = of_frame_stays fs frame h new token d can.held refl (stays token d out) (all.of_frame live token d out below) in
      record { away = o.away; held = λ x there. let of_x = o.held x there in record { row = of_x.row; abandoned = of_x.abandoned; device = of_x.device; writes = of_x.writes }; ended = o.ended }

  away_now : is_buffer_away new.hold buffer_number ≡ true
  away_now = ap (λ (bs : List Bool). slice_index_or bs buffer_number false) buffers_are ∙ get_or-set_same (buffers_away h.hold) buffer_number true false within_away

  of_hold_new : IsOfHold later next c new
  of_hold_new = record {
    row = refl;
    abandoned = not_abandoned ∙ sym (ap (λ (k : ℕ). is_out (standing_for mine (cell_at planned.hold.cells k))) can.inverse ∙ can.not_out);
    device = λ _. can.device;
    writes = λ _. can.writes ∙ ap (λ (k : ℕ). is_write_out mine (cell_at planned.hold.cells k)) (sym can.inverse);
  }

  of_frame_new : IsOfFrame later next c
  of_frame_new = record {
    away = ap (λ (u : FrameUse). is_away_from u (buffer_of later c)) own_use ∙ ap (is_buffer_away new.hold) (buffer_same c ∙ own_buffer) ∙ away_now;
    held = λ x there. let both : Some new ≡ Some x = sym own_row ∙ there in let same : new ≡ x = cc in subst (IsOfHold later next c) same of_hold_new;
    ended = λ none. absurd (let both : Some new ≡ None = sym own_row ∙ none in cc);
  }

  alone_then : (token other : ℕ) (a b : Outstanding) → outstanding later token ≡ Some a → outstanding later other ≡ Some b → a.frame ≡ b.frame → buffer_of later a ≡ buffer_of later b → token ≡ other
  alone_then token other a b out_a out_b same_frame buffers =
      let same : buffer_of fs a ≡ buffer_of fs b = sym (buffer_same a) ∙ buffers ∙ buffer_same b in
      elim (which token a out_a) [
        | inl mine ↦ elim (which other b out_b) [
          | inl yours ↦ mine.0 ∙ sym yours.0
          | inr old ↦ absurd (home_still other b old (sym same_frame ∙ sym (ap (λ (x : Outstanding). x.frame) mine.1)) (sym same ∙ sym (ap (buffer_of fs) mine.1) ∙ own_buffer))
        ]
        | inr was ↦ elim (which other b out_b) [
          | inl yours ↦ absurd (home_still token a was (same_frame ∙ sym (ap (λ (x : Outstanding). x.frame) yours.1)) (same ∙ sym (ap (buffer_of fs) yours.1) ∙ own_buffer))
          | inr old ↦ all.alone live token other a b was old same_frame same
        ]
      ]

  kept : (f at : ℕ) → HasCommand fs f at → HasCommand later f at
  kept f at has =
      let below = all.given has.0 has.1 has.2 in
      (has.0, has.1, other_token has.0 (λ e. absurd (omega arith)) ∙ has.2, has.3, buffer_same has.1 ∙ has.4)

  there_new : (at : ℕ) → at ≤ fs.geometry.slots → is_buffer_away new.hold at ≡ true → HasCommand later frame at
  there_new at below away =
      elim (cases_eq at buffer_number) [
        | inl e ↦ (next, c, own, refl, buffer_same c ∙ own_buffer ∙ sym e)
        | inr ne ↦
            let was : is_buffer_away h.hold at ≡ true = sym (ap (λ (bs : List Bool). slice_index_or bs at false) buffers_are ∙ get_or-set_other (buffers_away h.hold) buffer_number at true false ne) ∙ away in
            kept frame at (all.there live frame at below (ap (λ (u : FrameUse). is_away_from u at) (use_held fs.uses frame h can.held) ∙ was))
      ]

  there_then : (f at : ℕ) → at ≤ fs.geometry.slots → is_away_from (use_at (set fs.uses frame (HeldIn new)) f) at ≡ true → HasCommand later f at
  there_then f at below away =
      elim (cases_eq f frame) [
        | inl e ↦
            let here : use_at (set fs.uses frame (HeldIn new)) f ≡ HeldIn new = ap (use_at (set fs.uses frame (HeldIn new))) e ∙ own_use in
            subst (λ (k : ℕ). HasCommand later k at) (sym e) (there_new at below (sym (ap (λ (u : FrameUse). is_away_from u at) here) ∙ away))
        | inr ne ↦ kept f at (all.there live f at below (sym (ap (λ (u : FrameUse). is_away_from u at) (use_at_other fs.uses frame (HeldIn new) f ne)) ∙ away))
      ]

  untaken_then : (token : ℕ) → fs.next_taken ≤ token → token < next + 1 → (d : Outstanding) × (outstanding later token ≡ Some d) × (d.buffer ≢ None)
  untaken_then token low high =
      elim (cases_eq token next) [
        | inl e ↦ (c, ap (outstanding later) e ∙ own, λ e. (cc))
        | inr ne ↦ let old = all.untaken token low (omega arith) in (old.0, other_token token ne ∙ old.1, old.2)
      ]

  sized_then : (token : ℕ) (d : Outstanding) (block : List ℕ) → outstanding later token ≡ Some d → d.buffer ≡ Some block → length block ≡ fs.geometry.block
  sized_then token d block out has =
      elim (which token d out) [
        | inl mine ↦ let own : Some buffer ≡ Some block = ap (λ (x : Outstanding). x.buffer) mine.1 ∙ has in let same : buffer ≡ block = cc in ap length (sym same) ∙ can.sized
        | inr old ↦ all.sized token d block old has
      ]

  lawful_then : (token : ℕ) (d : Outstanding) → outstanding later token ≡ Some d → (d.slot < fs.geometry.slots) × IsRowOf (layout_of fs.geometry) fs.shard d.row
  lawful_then token d out =
      elim (which token d out) [
        | inl mine ↦ subst (λ (x : Outstanding). (x.slot < fs.geometry.slots) × IsRowOf (layout_of fs.geometry) fs.shard x.row) mine.1 (can.slot_below, can.own)
        | inr old ↦ all.lawful token d old
      ]

  was_home : home_at fs.geometry.slots (use_at fs.uses frame) ≡ count_home (buffers_away h.hold)
  was_home = ap (home_at fs.geometry.slots) (use_held fs.uses frame h can.held)

  -- there was room for it
  pub room_for : map.len m < most_commands fs.geometry
  room_for =
      let home = count_home-set (buffers_away h.hold) buffer_number within_away can.home in
      let now = ap count_home buffers_are in
      let sum = home_set fs.geometry.slots fs.uses frame (HeldIn new) within in
      let was = was_home in
      let room = all.room in
      omega arith

  room_then : map.len (map.insert m next c) + home_in fs.geometry.slots (set fs.uses frame (HeldIn new)) + count_home_directs fs.directs ≤ most_commands fs.geometry
  room_then =
      let home = count_home-set (buffers_away h.hold) buffer_number within_away can.home in
      let now = ap count_home buffers_are in
      let sum = home_set fs.geometry.slots fs.uses frame (HeldIn new) within in
      let was = was_home in
      let more = len-inserted m next c (no_number m next (λ d out. let below = all.given next d out in absurd (omega arith))) in
      let room = all.room in
      omega arith

  pub commands_came : AreCommands later
  commands_came = record {
    next_taken = let below = all.next_taken in omega arith;
    given = λ token d out. elim (which token d out) [
      | inl mine ↦ let e = mine.0 in omega arith
      | inr old ↦ let below = all.given token d old in omega arith
    ];
    since = λ s. let below = all.since s in (let first = below.0 in omega arith, let second = below.1 in omega arith);
    untaken = untaken_then;
    sized = sized_then;
    lawful = lawful_then;
    alone = λ live. alone_then;
    of_frame = λ live token d out below. elim (which token d out) [
      | inl mine ↦ subst (λ (k : ℕ). IsOfFrame later k d) (sym mine.0) (subst (λ (x : Outstanding). IsOfFrame later next x) mine.1 of_frame_new)
      | inr old ↦ of_frame_then token d old below
    ];
    there = λ live. there_then;
    stopped = λ not_live. absurd (not_live live);
    room = room_then;
  }

  pub directs_came : AreDirects fs.geometry fs.shard fs.slots fs.commands fs.directs → AreDirects fs.geometry fs.shard fs.slots later.commands fs.directs
  directs_came are = directs_kept fs.geometry fs.shard fs.slots fs.commands fs.slots later.commands fs.directs (putting fs.geometry fs.shard fs.slots fs.commands c can.frame_below all.given) are
