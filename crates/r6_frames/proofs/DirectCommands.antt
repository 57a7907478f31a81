-- The frames when a direct read is put out, when its buffer comes home, and when it is handed back: they stay sound.
use Rattle.std.proofs.Common.{◌≡◌, ◌≢◌, ◌⊎◌, ℕ, ◌+◌, ◌<◌, ◌≤◌, true, false, List, length, set, refl, sym, ap, subst, ◌∙◌, Some, None, inl, inr, arith}
use Rattle.std.specs.Ordering.{nat_cmp}
use Rattle.std.specs.FinMap as map
use Rattle.std.specs.FinMap.{FinMap}
use Rattle.std.proofs.lemmas.Bool.{cases_eq, ne_eqb, false≢true}
use Rattle.std.proofs.lemmas.List.{length-set}
use Rattle.r6_world.specs.Layouts.{IsRowOf}
use Rattle.r6_world.specs.Geometries.{layout_of}
use Rattle.r6_world.specs.ShardStates.{InSyncFor, frames, direct_buffers}
use Rattle.r6_layout.specs.Layout as layout
use Rattle.r6_frames.specs.declared.command.Action.TheVariants as action
use Rattle.r6_frames.specs.declared.command.Outstanding.{Outstanding}
use Rattle.r6_frames.specs.declared.directs.Direct.{Direct}
use Rattle.r6_frames.specs.declared.directs.DirectRead.{DirectRead}
use Rattle.r6_frames.specs.declared.frames.ServedRequest.{ServedRequest}
use Rattle.r6_frames.specs.declared.frames.FrameUse.{FrameUse}
use Rattle.r6_frames.specs.FramesState.{FramesState, Commands}
use Rattle.r6_frames.specs.Slots.{is_abandoned, states_of}
use Rattle.r6_frames.specs.Views.{use_at, outstanding, AreLive}
use Rattle.r6_frames.specs.Directs.{AreDirects, IsReadOf, IsCommandFor, IsOfDirect, direct_at, is_stopped, home_of}
use Rattle.r6_frames.specs.Reads.{IsReadable}
use Rattle.r6_frames.specs.Sound.{IsSound, AreFrames, AreCommands, IsOfFrame, HasCommand, is_away_from, most_commands}
use Rattle.r6_frames.proofs.Tables.{inserted-own, inserted-other, removed-other, len-inserted, len-removed}
use Rattle.r6_frames.proofs.Held.{use_within}
use Rattle.r6_frames.proofs.BuffersHome.{removed_was}
use Rattle.r6_frames.proofs.Pushed.{pushed, no_number}
use Rattle.r6_frames.proofs.DirectReads.{direct_own, direct_other, home_directs_set, directs_home}

-- ---- other direct buffers, and the same commands of frames

module _ (fs : FramesState) (commands : Commands) (directs : List Direct) where
  abbrev pub with_directs : FramesState
  with_directs = record fs { commands = commands; directs = directs }

  pub frames_still : AreFrames fs → AreFrames with_directs
  frames_still are = record { count = are.count; rows = are.rows; returning = are.returning; one_holder = are.one_holder; spare = are.spare }

  module _ (was : (token : ℕ) (c : Outstanding) → map.get commands.entries token ≡ Some c → c.frame < frames → outstanding fs token ≡ Some c)
      (still : (token : ℕ) (c : Outstanding) → outstanding fs token ≡ Some c → c.frame < frames → map.get commands.entries token ≡ Some c) where
    pub of_frame_still : AreCommands fs → AreLive fs → (token : ℕ) (c : Outstanding) → map.get commands.entries token ≡ Some c → c.frame < frames → IsOfFrame with_directs token c
    of_frame_still all live token c there below =
        let of = all.of_frame live token c (was token c there below) below in
        record {
          away = of.away;
          held = λ h is. let o = of.held h is in record { row = o.row; abandoned = o.abandoned; device = o.device; writes = o.writes };
          ended = of.ended;
        }

    pub there_still : AreFrames fs → AreCommands fs → AreLive fs → (frame position : ℕ) → position ≤ fs.geometry.slots → is_away_from (use_at fs.uses frame) position ≡ true → HasCommand with_directs frame position
    there_still are all live frame position below away =
        let has = all.there live frame position below away in
        let inside = use_within fs.uses frame (λ free. false≢true (sym (ap (λ (u : FrameUse). is_away_from u position) free) ∙ away)) in
        let count = are.count in
        let same = has.3 in
        (has.0, has.1, still has.0 has.1 has.2 (omega arith), has.3, has.4)

-- ---- a direct read is put out

module _ (fs : FramesState) (number slot generation row : ℕ) (served : ServedRequest) (buffer block : List ℕ) where
  abbrev pub read_of : DirectRead
  read_of = record { served = served; slot = slot; generation = generation; token = fs.commands.next; buffer = buffer }

  abbrev pub command_for : Outstanding
  command_for = record { frame = frames + number; slot = slot; generation = generation; row = row; action = action.Read; buffer = Some block }

  abbrev lent : Direct
  lent = record { read = Some read_of; buffer = None }

  abbrev pub with_read : FramesState
  with_read = with_directs fs (pushed fs.commands command_for) (set fs.directs number lent)

  module _ (sound : IsSound fs) (live : AreLive fs) (below : number < direct_buffers) (home : (direct_at fs.directs number).buffer ≡ Some block)
      (slot_below : slot < fs.geometry.slots) (own_row : IsRowOf (layout_of fs.geometry) fs.shard row) (readable : IsReadable fs served buffer)
      (row_is : row ≡ layout.row_of fs.geometry served.block) (in_sync : InSyncFor (states_of fs.slots slot) row generation) where
    abbrev m : FinMap nat_cmp Outstanding
    m = fs.commands.entries

    abbrev next : ℕ
    next = fs.commands.next

    abbrev r : DirectRead
    r = read_of

    abbrev c : Outstanding
    c = command_for

    abbrev directs' : List Direct
    directs' = set fs.directs number lent

    within : number < length fs.directs
    within = let count = sound.directs.count in omega arith

    own_command : outstanding with_read next ≡ Some c
    own_command = inserted-own m next c

    kept : (token : ℕ) (d : Outstanding) → outstanding fs token ≡ Some d → outstanding with_read token ≡ Some d
    kept token d there =
        let below = sound.commands.given token d there in
        let ne : token ≢ next = λ e. omega arith in
        inserted-other m next c token (ne_eqb token next ne) ∙ there

    which : (token : ℕ) (d : Outstanding) → outstanding with_read token ≡ Some d → ((token ≡ next) × (c ≡ d)) ⊎ (outstanding fs token ≡ Some d)
    which token d out =
        elim (cases_eq token next) [
          | inl e ↦ let both : Some c ≡ Some d = sym own_command ∙ ap (outstanding with_read) (sym e) ∙ out in inl (e, cc)
          | inr ne ↦ inr (sym (inserted-other m next c token (ne_eqb token next ne)) ∙ out)
        ]

    -- no old command has the buffer
    pub no_old : (token : ℕ) (d : Outstanding) → outstanding fs token ≡ Some d → d.frame ≡ frames + number → ⊥
    no_old token d there at =
        let of = sound.directs.of_direct token d there (omega arith) in
        let frame = of.1.frame in
        let same : of.0 ≡ number = omega arith in
        let none : Some block ≡ None = sym home ∙ ap (λ (k : ℕ). (direct_at fs.directs k).buffer) (sym same) ∙ of.1.away in
        cc

    old_frame : (token : ℕ) (d : Outstanding) → outstanding with_read token ≡ Some d → d.frame < frames → outstanding fs token ≡ Some d
    old_frame token d out inside =
        elim (which token d out) [
          | inl mine ↦ let frame = ap (λ (o : Outstanding). o.frame) mine.1 in absurd (omega arith)
          | inr old ↦ old
        ]

    alone_then : (token other : ℕ) (a b : Outstanding) → outstanding with_read token ≡ Some a → outstanding with_read other ≡ Some b → a.frame ≡ b.frame
        → (outstanding fs token ≡ Some a → outstanding fs other ≡ Some b → token ≡ other) → token ≡ other
    alone_then token other a b out_a out_b same_frame before =
        elim (which token a out_a) [
          | inl mine ↦ elim (which other b out_b) [
            | inl yours ↦ mine.0 ∙ sym yours.0
            | inr old ↦ absurd (no_old other b old (sym same_frame ∙ sym (ap (λ (x : Outstanding). x.frame) mine.1)))
          ]
          | inr was ↦ elim (which other b out_b) [
            | inl yours ↦ absurd (no_old token a was (same_frame ∙ sym (ap (λ (x : Outstanding). x.frame) yours.1)))
            | inr old ↦ before was old
          ]
        ]

    -- there was room for it
    pub room_for_read : map.len m < most_commands fs.geometry
    room_for_read =
        let homes = home_directs_set fs.directs number lent within in
        let here = ap home_of home in
        let room = sound.commands.room in
        omega arith

    commands_then : AreCommands with_read
    commands_then =
        let all = sound.commands in
        record {
          next_taken = let below = all.next_taken in omega arith;
          given = λ token d out. elim (which token d out) [
            | inl mine ↦ let e = mine.0 in omega arith
            | inr old ↦ let below = all.given token d old in omega arith
          ];
          since = λ s. let below = all.since s in (let first = below.0 in omega arith, let second = below.1 in omega arith);
          untaken = λ token low high. elim (cases_eq token next) [
            | inl e ↦ (c, ap (outstanding with_read) e ∙ own_command, λ e. (cc))
            | inr ne ↦ let old = all.untaken token low (omega arith) in (old.0, kept token old.0 old.1, old.2)
          ];
          sized = λ token d b out has. elim (which token d out) [
            | inl mine ↦
                let both : Some block ≡ Some b = ap (λ (x : Outstanding). x.buffer) mine.1 ∙ has in
                let same : block ≡ b = cc in
                ap length (sym same) ∙ sound.directs.sized number block home
            | inr old ↦ all.sized token d b old has
          ];
          lawful = λ token d out. elim (which token d out) [
            | inl mine ↦ subst (λ (x : Outstanding). (x.slot < fs.geometry.slots) × IsRowOf (layout_of fs.geometry) fs.shard x.row) mine.1 (slot_below, own_row)
            | inr old ↦ all.lawful token d old
          ];
          alone = λ live token other a b out_a out_b same_frame same_place.
              alone_then token other a b out_a out_b same_frame (λ is_a is_b. all.alone live token other a b is_a is_b same_frame same_place);
          of_frame = of_frame_still fs (pushed fs.commands c) directs' old_frame (λ token d there inside. kept token d there) all;
          there = there_still fs (pushed fs.commands c) directs' old_frame (λ token d there inside. kept token d there) sound.frames all;
          stopped = λ not_live. absurd (not_live live);
          room =
              let more = len-inserted m next c (no_number m next (λ d out. let below = all.given next d out in absurd (omega arith))) in
              let homes = home_directs_set fs.directs number lent within in
              let here = ap home_of home in
              let room = all.room in
              omega arith;
        }

    own_direct : direct_at directs' number ≡ lent
    own_direct = direct_own fs.directs number lent within

    other_direct : (k : ℕ) → k ≢ number → direct_at directs' k ≡ direct_at fs.directs k
    other_direct k ne = direct_other fs.directs number lent k ne

    -- the read of a buffer is this one, or was there
    which_read : (k : ℕ) (s : DirectRead) → (direct_at directs' k).read ≡ Some s → ((k ≡ number) × (r ≡ s)) ⊎ ((k ≢ number) × ((direct_at fs.directs k).read ≡ Some s))
    which_read k s has =
        elim (cases_eq k number) [
          | inl e ↦
              let both : Some r ≡ Some s = ap (λ (d : Direct). d.read) (sym own_direct) ∙ ap (λ (n : ℕ). (direct_at directs' n).read) (sym e) ∙ has in
              inl (e, cc)
          | inr ne ↦ inr (ne, ap (λ (d : Direct). d.read) (sym (other_direct k ne)) ∙ has)
        ]

    going_now : IsCommandFor (pushed fs.commands c) number r c
    going_now = record { there = own_command; frame = refl; slot = refl; generation = refl }

    of_direct_now : IsOfDirect fs.slots directs' next c number
    of_direct_now = record {
      below = below;
      frame = refl;
      reads = refl;
      away = ap (λ (d : Direct). d.buffer) own_direct;
      read = λ wanted. (r, ap (λ (d : Direct). d.read) own_direct, refl, refl, refl);
    }

    directs_then : AreDirects fs.geometry fs.shard fs.slots (pushed fs.commands c) directs'
    directs_then =
        let are = sound.directs in
        record {
          count = length-set fs.directs number lent ∙ are.count;
          sized = λ k b has. elim (cases_eq k number) [
            | inl e ↦
                let both : None ≡ Some b = ap (λ (d : Direct). d.buffer) (sym own_direct) ∙ ap (λ (n : ℕ). (direct_at directs' n).buffer) (sym e) ∙ has in
                absurd (cc)
            | inr ne ↦ are.sized k b (ap (λ (d : Direct). d.buffer) (sym (other_direct k ne)) ∙ has)
          ];
          reads = λ k s has. elim (which_read k s has) [
            | inl mine ↦ subst (IsReadOf fs.geometry fs.shard (pushed fs.commands c)) mine.1 (record { there = readable.there; own = subst (IsRowOf (layout_of fs.geometry) fs.shard) row_is own_row; slot = slot_below; sized = readable.sized; given = omega arith })
            | inr old ↦ let read = are.reads k s old.1 in let given = read.given in record { there = read.there; own = read.own; slot = read.slot; sized = read.sized; given = omega arith }
          ];
          going = λ k s has on. elim (which_read k s has) [
            | inl mine ↦ (
              c,
              subst (λ (n : ℕ). IsCommandFor (pushed fs.commands c) n s c) (sym mine.0) (subst (λ (x : DirectRead). IsCommandFor (pushed fs.commands c) number x c) mine.1 going_now),
            )
            | inr old ↦ let going = are.going k s old.1 on in (going.0, record { there = kept s.token going.0 going.1.there; frame = going.1.frame; slot = going.1.slot; generation = going.1.generation })
          ];
          synced = λ k s has on. elim (which_read k s has) [
            | inl mine ↦
                subst (λ (x : DirectRead). InSyncFor (states_of fs.slots x.slot) (layout.row_of fs.geometry x.served.block) x.generation) mine.1
                (subst (λ (at : ℕ). InSyncFor (states_of fs.slots slot) at generation) row_is in_sync)
            | inr old ↦ are.synced k s old.1 on
          ];
          of_direct = λ token d out direct. elim (which token d out) [
            | inl mine ↦ (
              number,
              subst (λ (t : ℕ). IsOfDirect fs.slots directs' t d number) (sym mine.0) (subst (λ (x : Outstanding). IsOfDirect fs.slots directs' next x number) mine.1 of_direct_now),
            )
            | inr old ↦
                let of = are.of_direct token d old direct in
                let ne : of.0 ≢ number = λ e. no_old token d old (of.1.frame ∙ ap (λ (n : ℕ). frames + n) e) in
                let same = other_direct of.0 ne in (
                  of.0,
                  record {
                    below = of.1.below;
                    frame = of.1.frame;
                    reads = of.1.reads;
                    away = ap (λ (x : Direct). x.buffer) same ∙ of.1.away;
                    read = λ wanted. let s = of.1.read wanted in (s.0, ap (λ (x : Direct). x.read) same ∙ s.1, s.2, s.3, s.4);
                  },
                )
          ];
          there = λ k inside away. elim (cases_eq k number) [
            | inl e ↦ (next, c, own_command, ap (λ (n : ℕ). frames + n) (sym e))
            | inr ne ↦ let has = are.there k inside (ap (λ (d : Direct). d.buffer) (sym (other_direct k ne)) ∙ away) in (has.0, has.1, kept has.0 has.1 has.2, has.3)
          ];
          alone = λ token other a b out_a out_b direct same.
              alone_then token other a b out_a out_b same (λ is_a is_b. are.alone token other a b is_a is_b direct same);
        }

    pub read_sound : IsSound with_read
    read_sound = record {
      shape = sound.shape;
      shard = sound.shard;
      live = sound.live;
      devices = record { each = sound.devices.each; one = sound.devices.one };
      frames = frames_still fs (pushed fs.commands c) directs' sound.frames;
      commands = commands_then;
      directs = directs_then;
    }

-- ---- a direct buffer comes home

module _ (fs : FramesState) (token : ℕ) (number : ℕ) (now : Direct) where
  abbrev removed : Commands
  removed = record { next = fs.commands.next; entries = map.remove fs.commands.entries token }

  abbrev pub with_home : FramesState
  with_home = with_directs fs removed (set fs.directs number now)

  module _ (c : Outstanding) (sound : IsSound fs) (taken : token < fs.next_taken) (there : outstanding fs token ≡ Some c) (below : number < direct_buffers) (at : c.frame ≡ frames + number)
      (block : List ℕ) (home : now.buffer ≡ Some block) (size : length block ≡ fs.geometry.block)
      (kept : (r : DirectRead) → now.read ≡ Some r → ((direct_at fs.directs number).read ≡ Some r) × (is_stopped fs.slots r ≡ true)) where
    still : (t : ℕ) (d : Outstanding) → outstanding fs t ≡ Some d → d.frame < frames → map.get removed.entries t ≡ Some d
    still t d is inside =
        let ne : t ≢ token = λ e.
        let both : Some d ≡ Some c = sym is ∙ ap (map.get fs.commands.entries) e ∙ there in
        let same : d ≡ c = cc in
        let frame = ap (λ (o : Outstanding). o.frame) same in
        omega arith in
        removed-other fs.commands.entries token t (ne_eqb t token ne) ∙ is

    away : (direct_at fs.directs number).buffer ≡ None
    away =
        let of = sound.directs.of_direct token c there (omega arith) in
        let frame = of.1.frame in
        let same : of.0 ≡ number = omega arith in
        ap (λ (k : ℕ). (direct_at fs.directs k).buffer) (sym same) ∙ of.1.away

    within_home : number < length fs.directs
    within_home = let count = sound.directs.count in omega arith

    commands_home : AreCommands with_home
    commands_home =
        let all = sound.commands in
        record {
          next_taken = all.next_taken;
          given = λ t d is. all.given t d (removed_was fs.commands.entries token t d is).1;
          since = all.since;
          untaken = λ t low high.
              let ne : t ≢ token = λ e. omega arith in
              let old = all.untaken t low high in
              (old.0, removed-other fs.commands.entries token t (ne_eqb t token ne) ∙ old.1, old.2);
          sized = λ t d b is has. all.sized t d b (removed_was fs.commands.entries token t d is).1 has;
          lawful = λ t d is. all.lawful t d (removed_was fs.commands.entries token t d is).1;
          alone = λ live t u d e is_d is_e same_frame same_place. all.alone live t u d e (removed_was fs.commands.entries token t d is_d).1 (removed_was fs.commands.entries token u e is_e).1 same_frame same_place;
          of_frame = of_frame_still fs removed (set fs.directs number now) (λ t d is inside. (removed_was fs.commands.entries token t d is).1) still all;
          there = there_still fs removed (set fs.directs number now) (λ t d is inside. (removed_was fs.commands.entries token t d is).1) still sound.frames all;
          stopped = λ not_live t d is. all.stopped not_live t d (removed_was fs.commands.entries token t d is).1;
          room =
              let fewer = len-removed fs.commands.entries token c there in
              let homes = home_directs_set fs.directs number now within_home in
              let before = ap home_of away in
              let here = ap home_of home in
              let room = all.room in
              omega arith;
        }

    pub home_sound : IsSound with_home
    home_sound = record {
      shape = sound.shape;
      shard = sound.shard;
      live = sound.live;
      devices = record { each = sound.devices.each; one = sound.devices.one };
      frames = frames_still fs removed (set fs.directs number now) sound.frames;
      commands = commands_home;
      directs = directs_home fs.geometry fs.shard fs.slots fs.commands fs.directs sound.directs token c there number below at now block home size kept;
    }

-- ---- a read is handed back

module _ (fs : FramesState) (number : ℕ) (r : DirectRead) where
  abbrev left : Direct
  left = record { read = None; buffer = (direct_at fs.directs number).buffer }

  abbrev pub without_read : FramesState
  without_read = with_directs fs fs.commands (set fs.directs number left)

  module _ (sound : IsSound fs) (has : (direct_at fs.directs number).read ≡ Some r) (stopped : is_stopped fs.slots r ≡ true) (within : number < length fs.directs) where
    own_left : direct_at (set fs.directs number left) number ≡ left
    own_left = direct_own fs.directs number left within

    other_left : (k : ℕ) → k ≢ number → direct_at (set fs.directs number left) k ≡ direct_at fs.directs k
    other_left k ne = direct_other fs.directs number left k ne

    buffer_same : (k : ℕ) → (direct_at (set fs.directs number left) k).buffer ≡ (direct_at fs.directs k).buffer
    buffer_same k =
        elim (cases_eq k number) [
          | inl e ↦ ap (λ (n : ℕ). (direct_at (set fs.directs number left) n).buffer) e ∙ ap (λ (d : Direct). d.buffer) own_left ∙ ap (λ (n : ℕ). (direct_at fs.directs n).buffer) (sym e)
          | inr ne ↦ ap (λ (d : Direct). d.buffer) (other_left k ne)
        ]

    still_read : (k : ℕ) (s : DirectRead) → (direct_at (set fs.directs number left) k).read ≡ Some s → (k ≢ number) × ((direct_at fs.directs k).read ≡ Some s)
    still_read k s is =
        elim (cases_eq k number) [
          | inl e ↦
              let none : None ≡ Some s = ap (λ (d : Direct). d.read) (sym own_left) ∙ ap (λ (n : ℕ). (direct_at (set fs.directs number left) n).read) (sym e) ∙ is in
              absurd (cc)
          | inr ne ↦ (ne, ap (λ (d : Direct). d.read) (sym (other_left k ne)) ∙ is)
        ]

    commands_left_then : AreCommands without_read
    commands_left_then =
        let all = sound.commands in
        record {
          next_taken = all.next_taken;
          given = all.given;
          since = all.since;
          untaken = all.untaken;
          sized = all.sized;
          lawful = all.lawful;
          alone = all.alone;
          of_frame = of_frame_still fs fs.commands (set fs.directs number left) (λ t d is inside. is) (λ t d is inside. is) all;
          there = there_still fs fs.commands (set fs.directs number left) (λ t d is inside. is) (λ t d is inside. is) sound.frames all;
          stopped = all.stopped;
          room = let homes = home_directs_set fs.directs number left within in let room = all.room in omega arith;
        }

    directs_left_then : AreDirects fs.geometry fs.shard fs.slots fs.commands (set fs.directs number left)
    directs_left_then =
        let are = sound.directs in
        record {
          count = length-set fs.directs number left ∙ are.count;
          sized = λ k b is. are.sized k b (sym (buffer_same k) ∙ is);
          reads = λ k s is. are.reads k s (still_read k s is).1;
          going = λ k s is on. are.going k s (still_read k s is).1 on;
          synced = λ k s is on. are.synced k s (still_read k s is).1 on;
          of_direct = λ token c there direct.
              let of = are.of_direct token c there direct in (
                of.0,
                record {
                  below = of.1.below;
                  frame = of.1.frame;
                  reads = of.1.reads;
                  away = buffer_same of.0 ∙ of.1.away;
                  read = λ wanted.
                      let s = of.1.read wanted in
                      let ne : of.0 ≢ number = λ e.
                      let both : Some s.0 ≡ Some r = sym s.1 ∙ ap (λ (n : ℕ). (direct_at fs.directs n).read) e ∙ has in
                      let same : s.0 ≡ r = cc in
                      let on : is_stopped fs.slots s.0 ≡ false = (λ i. is_abandoned fs.slots (s.2 i) (record c { slot = s.3 i; generation = s.4 i })) ∙ wanted in
                      false≢true (sym on ∙ ap (is_stopped fs.slots) same ∙ stopped) in
                      (s.0, ap (λ (d : Direct). d.read) (other_left of.0 ne) ∙ s.1, s.2, s.3, s.4);
                },
              );
          there = λ k below away. are.there k below (sym (buffer_same k) ∙ away);
          alone = are.alone;
        }

    pub back_sound : IsSound without_read
    back_sound = record {
      shape = sound.shape;
      shard = sound.shard;
      live = sound.live;
      devices = record { each = sound.devices.each; one = sound.devices.one };
      frames = frames_still fs fs.commands (set fs.directs number left) sound.frames;
      commands = commands_left_then;
      directs = directs_left_then;
    }
