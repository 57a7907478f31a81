-- A row of a new device is rebuilt, and the frames stay sound.
use Rattle.std.proofs.Common.{◌≡◌, ◌≢◌, ◌⊎◌, ℕ, ◌+◌, ◌<◌, ◌≤◌, Bool, true, false, cond, length, set, Option, Some, None, inl, inr, refl, sym, ap, subst, ◌∙◌, arith, get_or-set_same, get_or-set_other}
use mathlib.Core.Path.{fun_ext}
use Rattle.std.specs.Prelude.{◌||◌, not, nat_eq, nat_lt, if◌then◌else◌, option_map}
use Rattle.std.proofs.lemmas.Bool.{cases_eq, eqb-false, false≢true}
use Rattle.r6_layout.specs.Layout as layout
use Rattle.r6_stripe.specs.Holds.{Standing}
use Rattle.r6_stripe.specs.Holds.Standing.{InSync, Out}
use Rattle.r6_world.specs.Changes.{AllBuilt, with_row}
use Rattle.r6_world.specs.Geometries.{layout_of}
use Rattle.r6_world.specs.Layouts.{Layout, IsRowOf}
use Rattle.r6_world.specs.Changes as changes
use Rattle.r6_frames.specs.Successors.{is_own}
use Rattle.r6_frames.proofs.Devices.{keeps}
use Rattle.r6_world.specs.ShardStates.{InSyncFor, SlotState, generation_in, is_away, second_in, standings_of}
use Rattle.r6_world.specs.Tables.{put}
use Rattle.r6_world.proofs.Geometries.{layouts}
use Rattle.r6_world.proofs.Tables.{count-le, put-same, put-other}
use Rattle.r6_frames.specs.declared.command.Outstanding.{Outstanding}
use Rattle.r6_frames.specs.FramesState.{FramesState}
use Rattle.r6_frames.specs.declared.frames.HeldRow.{HeldRow}
use Rattle.r6_frames.specs.declared.rebuilt.RebuiltRows.{RebuiltRows}
use Rattle.r6_frames.specs.declared.rebuilt.Target.{Target}
use Rattle.r6_frames.specs.declared.slots.Device.{Device}
use Rattle.r6_frames.specs.declared.slots.Device.TheVariants as device
use Rattle.r6_frames.specs.declared.slots.Slot.{Slot}
use Rattle.r6_frames.specs.Rebuilt.{AreNext, IsNext, IsRebuilt, is_rebuilt, next_row}
use Rattle.r6_frames.specs.Slots.{IsRebuiltOn, brought_in, is_abandoned, is_gone, no_slot, rows_of, second_of, slot_in, state_of, states_of, with_rows}
use Rattle.r6_frames.specs.Views.{Rest, AreLive, command_of, outstanding, shard_with}
use Rattle.r6_frames.specs.Calls.{BringsIn, Marks, NotHeldBy}
use Rattle.r6_frames.specs.Sound.{AreDevices, IsDeviceOf, IsHeld, IsOfFrame, IsSound, Stands, device_in, with_target_of}
use Rattle.r6_frames.specs.Calls.{KeepsReads}
use Rattle.r6_frames.proofs.DirectReads.{StaysSynced, directs_kept, abandoning}
use Rattle.r6_frames.proofs.ReadsAgain.{reads_same}
use Rattle.r6_frames.proofs.Lists.{same_put}
use Rattle.r6_frames.proofs.Marking.{at_most, built}

-- ---- a slot whose device is in sync for one row more

-- what stays for the other rows
pub record StaysFor (fs : FramesState) (o : Device) (row : ℕ) (d : Device) : Type 0 where
  pub stands : (other : ℕ) → IsRowOf (layout_of fs.geometry) fs.shard other → other ≢ row → standings_of (state_of d) other ≡ standings_of (state_of o) other
  pub target : (other : ℕ) → IsRowOf (layout_of fs.geometry) fs.shard other → other ≢ row → (generation : ℕ) (rows : RebuiltRows) → IsRebuiltOn o generation rows → IsNext rows other → is_rebuilt rows other ≡ false
      → (now : RebuiltRows) × IsRebuiltOn d generation now × IsNext now other × (is_rebuilt now other ≡ false) × (with_target_of d ≡ with_target_of o)
  pub lawful : IsDeviceOf (layout_of fs.geometry) fs.shard d
  pub synced : (other generation : ℕ) → IsRowOf (layout_of fs.geometry) fs.shard other → InSyncFor (state_of o) other generation → InSyncFor (state_of d) other generation
  pub first : generation_in (state_of d) ≡ generation_in (state_of o)
  pub second : second_in (state_of d) ≡ second_in (state_of o)
  pub has : (generation : ℕ) → keeps d generation ≡ keeps o generation
  pub away : is_away (state_of d) ≡ true → is_away (state_of o) ≡ true
  pub two : second_of d ≢ None → second_of o ≢ None

module _ (fs : FramesState) (slot : ℕ) (o : Device) (row : ℕ) (d : Device) (sound : IsSound fs) (live : AreLive fs) (below : slot < fs.geometry.slots) (within : slot < length fs.slots)
    (old_is : (slot_in fs.slots slot).device ≡ o) (unheld : NotHeldBy fs row) (stays : StaysFor fs o row d) where
  abbrev now_slot : Slot
  now_slot = record (slot_in fs.slots slot) { device = d }

  abbrev pub marked : FramesState
  marked = record fs { slots = set fs.slots slot now_slot }

  at_slot : slot_in marked.slots slot ≡ now_slot
  at_slot = get_or-set_same fs.slots slot now_slot no_slot within

  elsewhere : (other : ℕ) → other ≢ slot → slot_in marked.slots other ≡ slot_in fs.slots other
  elsewhere other ne = get_or-set_other fs.slots slot other now_slot no_slot ne

  -- what is the same of the two devices is the same of all slots
  each_same : {A : Type 0} (F : Slot → A) → F now_slot ≡ F (slot_in fs.slots slot) → (other : ℕ) → F (slot_in marked.slots other) ≡ F (slot_in fs.slots other)
  each_same F same other = elim (cases_eq other slot) [
    | inl e ↦ ap (λ (k : ℕ). F (slot_in marked.slots k)) e ∙ ap F at_slot ∙ same ∙ sym (ap (λ (k : ℕ). F (slot_in fs.slots k)) e)
    | inr ne ↦ ap F (elsewhere other ne)
  ]

  device_there : (slot_in marked.slots slot).device ≡ d
  device_there = ap (λ (s : Slot). s.device) at_slot

  firsts : (other : ℕ) → generation_in (states_of marked.slots other) ≡ generation_in (states_of fs.slots other)
  firsts = each_same (λ (s : Slot). generation_in (state_of s.device)) (stays.first ∙ sym (ap (λ (x : Device). generation_in (state_of x)) old_is))

  seconds : (other : ℕ) → second_in (states_of marked.slots other) ≡ second_in (states_of fs.slots other)
  seconds = each_same (λ (s : Slot). second_in (state_of s.device)) (stays.second ∙ sym (ap (λ (x : Device). second_in (state_of x)) old_is))

  gone_same : (other token generation : ℕ) → is_gone (slot_in marked.slots other) token generation ≡ is_gone (slot_in fs.slots other) token generation
  gone_same other token generation =
      each_same (λ (s : Slot). is_gone s token generation)
      (let has = stays.has generation ∙ sym (ap (λ (x : Device). keeps x generation) old_is) in
      let first = stays.first ∙ sym (ap (λ (x : Device). generation_in (state_of x)) old_is) in
      let old = slot_in fs.slots slot in
      λ i. not (has i) || nat_lt token (if nat_eq (first i) generation then old.since else old.since_second)) other

  abandoned_same : (token : ℕ) (c : Outstanding) → is_abandoned marked.slots token c ≡ is_abandoned fs.slots token c
  abandoned_same token c = gone_same c.slot token c.generation

  pub live_then : AreLive marked
  live_then =
      let more = count-le fs.geometry.slots (λ s. is_away (states_of marked.slots s)) (λ s. is_away (states_of fs.slots s))
      (λ s inside away. elim (cases_eq s slot) [
        | inl e ↦
            ap (λ (k : ℕ). is_away (states_of fs.slots k)) e ∙ ap (λ (x : Device). is_away (state_of x)) old_is
            ∙ stays.away (sym (ap (λ (k : ℕ). is_away (states_of marked.slots k)) e ∙ ap (λ (x : Device). is_away (state_of x)) device_there) ∙ away)
        | inr ne ↦ sym (ap (λ (x : Slot). is_away (state_of x.device)) (elsewhere s ne)) ∙ away
      ]) in
      let few = live.0 in
      (omega arith, live.1)

  two_were : (other : ℕ) → second_of (slot_in marked.slots other).device ≢ None → second_of (slot_in fs.slots other).device ≢ None
  two_were other two none = elim (cases_eq other slot) [
    | inl e ↦
        stays.two (λ no. two (ap (λ (k : ℕ). second_of (slot_in marked.slots k).device) e ∙ ap second_of device_there ∙ no))
        (sym (ap second_of old_is) ∙ sym (ap (λ (k : ℕ). second_of (slot_in fs.slots k).device) e) ∙ none)
    | inr ne ↦ two (ap (λ (s : Slot). second_of s.device) (elsewhere other ne) ∙ none)
  ]

  devices_then : AreDevices marked
  devices_then = record {
    each = λ other. elim (cases_eq other slot) [
      | inl e ↦ subst (λ (x : Device). IsDeviceOf (layout_of fs.geometry) fs.shard x) (sym (ap (λ (s : ℕ). (slot_in marked.slots s).device) e ∙ device_there)) stays.lawful
      | inr ne ↦ subst (λ (x : Slot). IsDeviceOf (layout_of fs.geometry) fs.shard x.device) (sym (elsewhere other ne)) (sound.devices.each other)
    ];
    one = λ a b below beneath two two'. sound.devices.one a b below beneath (two_were a two) (two_were b two');
  }

  -- another row stands as it stood
  stands_then : (h : HeldRow) → IsHeld fs.geometry fs.shard fs.slots h → h.row ≢ row → (position : ℕ) (s : Standing × Standing)
      → Stands fs.geometry fs.slots h.row h.job position s → Stands fs.geometry marked.slots h.row h.job position s
  stands_then h held other position s (inl same) =
      elim (cases_eq (layout.slot_at fs.geometry h.row position) slot) [
        | inl e ↦
            inl (same ∙ ap (λ (k : ℕ). standings_of (states_of fs.slots k) h.row) e ∙ ap (λ (x : Device). standings_of (state_of x) h.row) old_is
            ∙ sym (stays.stands h.row held.own other) ∙ sym (ap (λ (k : ℕ). standings_of (states_of marked.slots k) h.row) e ∙ ap (λ (x : Device). standings_of (state_of x) h.row) device_there))
        | inr ne ↦ inl (same ∙ sym (ap (λ (x : Slot). standings_of (state_of x.device) h.row) (elsewhere (layout.slot_at fs.geometry h.row position) ne)))
      ]
  stands_then h held other position s (inr t) =
      elim (cases_eq t.1.target.slot slot) [
        | inl e ↦
            let on : IsRebuiltOn o t.1.target.generation t.1.rebuilt = subst (λ (x : Device). IsRebuiltOn x t.1.target.generation t.1.rebuilt) (ap (λ (k : ℕ). (slot_in fs.slots k).device) e ∙ old_is) t.1.device in
            let later = stays.target h.row held.own other t.1.target.generation t.1.rebuilt on t.1.next t.1.unbuilt in
            let here = t.1.slot ∙ e in
            inr (
              t.0 ∙ ap (λ (k : ℕ). with_target_of (slot_in fs.slots k).device) here ∙ ap with_target_of old_is ∙ sym later.4
                  ∙ sym (ap (λ (k : ℕ). with_target_of (slot_in marked.slots k).device) here ∙ ap with_target_of device_there),
              record {
                target = t.1.target;
                job = t.1.job;
                slot = t.1.slot;
                rebuilt = later.0;
                device = subst (λ (x : Device). IsRebuiltOn x t.1.target.generation later.0) (sym (ap (λ (k : ℕ). (slot_in marked.slots k).device) e ∙ device_there)) later.1;
                next = later.2;
                unbuilt = later.3;
              },
            )
        | inr ne ↦
            let apart : layout.slot_at fs.geometry h.row position ≢ slot = λ same. ne (sym t.1.slot ∙ same) in
            inr (
              t.0 ∙ sym (ap (λ (x : Slot). with_target_of x.device) (elsewhere (layout.slot_at fs.geometry h.row position) apart)),
              record {
                target = t.1.target;
                job = t.1.job;
                slot = t.1.slot;
                rebuilt = t.1.rebuilt;
                device = subst (λ (x : Slot). IsRebuiltOn x.device t.1.target.generation t.1.rebuilt) (sym (elsewhere t.1.target.slot ne)) t.1.device;
                next = t.1.next;
                unbuilt = t.1.unbuilt;
              },
            )
      ]

  row_then : (h : HeldRow) → IsHeld fs.geometry fs.shard fs.slots h → h.row ≢ row → IsHeld fs.geometry fs.shard marked.slots h
  row_then h held other = record {
    first = held.first;
    own = held.own;
    job = held.job;
    under_way = held.under_way;
    size = held.size;
    wide = held.wide;
    wide_away = held.wide_away;
    standing = λ position inside. stands_then h held other position _ (held.standing position inside);
    successor = λ position inside.
        let is = held.successor position inside in
        let s = layout.slot_at fs.geometry h.row position in
        record {
          beside = λ there. is.beside there ∙ ap (λ (k : ℕ). Some k) (sym (seconds s));
          single = is.single;
          target = is.target;
          second_target = is.second_target;
          out = is.out;
          own = λ there. ap (is_own h.successor s) (firsts s) ∙ is.own there;
        };
    away = held.away;
    second_away = held.second_away;
  }

  device_same : (own : Bool) (other : ℕ) → device_in own (states_of marked.slots other) ≡ device_in own (states_of fs.slots other)
  device_same true other = firsts other
  device_same false other = seconds other

  of_frame_then : (token : ℕ) (c : Outstanding) → IsOfFrame fs token c → IsOfFrame marked token c
  of_frame_then token c of = record {
    away = of.away;
    held = λ h is. let mine = of.held h is in record {
      row = mine.row;
      abandoned = abandoned_same token c ∙ mine.abandoned;
      device = λ kept. mine.device (sym (abandoned_same token c) ∙ kept) ∙ sym (device_same (is_own h.successor c.slot c.generation) c.slot);
      writes = λ kept. mine.writes (sym (abandoned_same token c) ∙ kept);
    };
    ended = λ none. abandoned_same token c ∙ of.ended none;
  }

  -- a device that was in sync for a row of the shard is so still
  still_synced : StaysSynced fs.geometry fs.shard fs.slots fs.commands.next marked.slots
  still_synced other token generation at given its on before =
      elim (cases_eq other slot) [
        | inl e ↦
            subst (λ (x : Device). InSyncFor (state_of x) at generation) (sym (ap (λ (k : ℕ). (slot_in marked.slots k).device) e ∙ device_there))
            (stays.synced at generation its (subst (λ (x : Device). InSyncFor (state_of x) at generation) (ap (λ (k : ℕ). (slot_in fs.slots k).device) e ∙ old_is) before))
        | inr ne ↦ subst (λ (x : Slot). InSyncFor (state_of x.device) at generation) (sym (elsewhere other ne)) before
      ]

  since_both : (other : ℕ) → ((slot_in marked.slots other).since ≡ (slot_in fs.slots other).since) × ((slot_in marked.slots other).since_second ≡ (slot_in fs.slots other).since_second)
  since_both other = (each_same (λ (s : Slot). s.since) refl other, each_same (λ (s : Slot). s.since_second) refl other)

  pub sound_then : IsSound marked
  sound_then =
      let frames = sound.frames in
      let commands = sound.commands in
      record {
        shape = sound.shape;
        shard = sound.shard;
        live = (λ told. live_then, λ still. sound.live.1 live);
        devices = devices_then;
        frames = record {
          count = frames.count;
          rows = λ frame h is. row_then h (frames.rows frame h is) (unheld frame h is);
          returning = frames.returning;
          one_holder = frames.one_holder;
          spare = frames.spare;
        };
        commands = record {
          next_taken = commands.next_taken;
          given = commands.given;
          untaken = commands.untaken;
          sized = commands.sized;
          lawful = commands.lawful;
          alone = λ still. commands.alone live;
          since = λ other. let most = commands.since other in let same = since_both other in (let first = most.0 in let e = same.0 in omega arith, let second = most.1 in let e = same.1 in omega arith);
          of_frame = λ still token c there below. of_frame_then token c (commands.of_frame live token c there below);
          there = λ still. commands.there live;
          stopped = λ not_live. absurd (not_live live_then);
          room = commands.room;
        };
        directs =
            directs_kept fs.geometry fs.shard fs.slots fs.commands marked.slots fs.commands fs.directs
            (abandoning fs.geometry fs.shard fs.slots marked.slots fs.commands commands.given (λ other token generation given gone. gone_same other token generation ∙ gone) still_synced) sound.directs;
      }

  pub reads_then : KeepsReads fs marked
  reads_then = reads_same fs.slots marked.slots gone_same fs.directs

  -- the shard has the slot so
  states_then : states_of marked.slots ≡ put (states_of fs.slots) slot (state_of d)
  states_then =
      same_put (states_of fs.slots) (states_of marked.slots) slot (state_of d) (ap state_of device_there)
      (λ other e. ap (λ (s : Slot). state_of s.device) (elsewhere other (eqb-false other slot e)))

  pub shard_then : (rest : Rest) → shard_with rest marked ≡ record (shard_with rest fs) { slot = put (states_of fs.slots) slot (state_of d) }
  shard_then rest =
      let commands : (λ token. option_map (command_of marked.slots fs.next_taken token) (outstanding fs token)) ≡ (λ token. option_map (command_of fs.slots fs.next_taken token) (outstanding fs token)) =
      fun_ext (λ token. by_command token (outstanding fs token)) in
      λ i. record (shard_with rest fs) { command = commands i; slot = states_then i }
    where
      by_command : (token : ℕ) (o : Option Outstanding) → option_map (command_of marked.slots fs.next_taken token) o ≡ option_map (command_of fs.slots fs.next_taken token) o
      by_command token None = refl
      by_command token (Some c) = λ i. Some (record (command_of fs.slots fs.next_taken token c) { abandoned = abandoned_same token c i })

-- ---- one row more is rebuilt

-- what the code makes of the rows that are rebuilt
pub record HasMarked (r : RebuiltRows) (row : ℕ) (now : RebuiltRows) : Type 0 where
  pub start : now.start ≡ r.start
  pub built : is_rebuilt now ≡ put (is_rebuilt r) row true
  pub rows : (end : ℕ) → AreNext end r → row < end → AreNext end now
  pub others : (other : ℕ) → IsNext r other → other ≢ row → IsNext now other

module _ (fs : FramesState) (row : ℕ) (now : RebuiltRows) (sound : IsSound fs) (own : IsRowOf (layout_of fs.geometry) fs.shard row) where
  abbrev end : ℕ
  end = layout.first_row fs.geometry (fs.shard + 1)

  abbrev start : ℕ
  start = layout.first_row fs.geometry fs.shard

  inside : (other : ℕ) → IsRowOf (layout_of fs.geometry) fs.shard other → (start ≤ other) × (other < end)
  inside other its =
      let shared = (layouts fs.geometry sound.shape).shared other its.0 in
      subst (λ (n : ℕ). (layout.first_row fs.geometry n ≤ other) × (other < layout.first_row fs.geometry (n + 1))) its.1 (shared.1, shared.2)

  module _ (r : RebuiltRows) (lawful : IsRebuilt start end r) (is : HasMarked r row now) where
    same_for : (other : ℕ) → other ≢ row → is_rebuilt now other ≡ is_rebuilt r other
    same_for other ne = ap (λ (b : ℕ → Bool). b other) is.built ∙ put-other (is_rebuilt r) row true other ne

    -- what was built is still
    more_built : (other : ℕ) → is_rebuilt r other ≡ true → is_rebuilt now other ≡ true
    more_built other was = elim (cases_eq other row) [
      | inl e ↦ ap (λ (b : ℕ → Bool). b other) is.built ∙ put-same (is_rebuilt r) row true other e
      | inr ne ↦ same_for other ne ∙ was
    ]

    pub next_now : AreNext end now
    next_now = is.rows end lawful.next (inside row own).1

    lawful_now : next_row now 0 < end → IsRebuilt start end now
    lawful_now left = record { start = is.start ∙ lawful.start; next = next_now; some_left = left }

    pub all_built : end ≤ next_row now 0 → (other : ℕ) → IsRowOf (layout_of fs.geometry) fs.shard other → is_rebuilt now other ≡ true
    all_built none other its =
        let there = inside other its in
        let last = at_most end now next_now 0 7 (omega arith) (omega arith) in
        built now other next_now.count (record {
          from = omega (arith, is.start, lawful.start, there.0);
          before = omega (arith, there.1, none, last);
          not_next = λ next. let first = at_most end now next_now 0 next.0 (omega arith) next.1 in omega (arith, first, none, there.1, next.2);
        })

    was_built : end ≤ next_row now 0 → (other : ℕ) → IsRowOf (layout_of fs.geometry) fs.shard other → other ≢ row → is_rebuilt r other ≡ true
    was_built none other its ne = sym (same_for other ne) ∙ all_built none other its

  -- some rows are left
  pub stays_more : (o : Device) (generation : ℕ) (r : RebuiltRows) → IsRebuiltOn o generation r → IsDeviceOf (layout_of fs.geometry) fs.shard o → HasMarked r row now → next_row now 0 < end → StaysFor fs o row (with_rows o now)
  stays_more (device.Synced first) generation r on lawful is left = absurd on
  stays_more device.Missing generation r on lawful is left = absurd on
  stays_more (device.Building first rows) generation r on lawful is left =
      let its = subst (λ (x : RebuiltRows). HasMarked x row now) on.1 is in
      record {
        stands = λ other own ne. (λ i. (cond (same_for rows lawful its other ne i) InSync Out, Out));
        target = λ other own ne g rs mine next unbuilt. (now, (mine.0, refl), its.others other (subst (λ (x : RebuiltRows). IsNext x other) mine.1 next) ne, same_for rows lawful its other ne ∙ ap (λ (x : RebuiltRows). is_rebuilt x other) (sym mine.1) ∙ unbuilt, refl);
        lawful = lawful_now rows lawful its left;
        synced = λ other g its_row before. (before.0, more_built rows lawful its other before.1);
        first = refl;
        second = refl;
        has = λ g. refl;
        away = λ e. e;
        two = λ two. two;
      }
  stays_more (device.Doubled first second rows) generation r on lawful is left =
      let its = subst (λ (x : RebuiltRows). HasMarked x row now) on.1 is in
      record {
        stands = λ other own ne. (λ i. (InSync, cond (same_for rows lawful.1 its other ne i) InSync Out));
        target = λ other own ne g rs mine next unbuilt. (now, (mine.0, refl), its.others other (subst (λ (x : RebuiltRows). IsNext x other) mine.1 next) ne, same_for rows lawful.1 its other ne ∙ ap (λ (x : RebuiltRows). is_rebuilt x other) (sym mine.1) ∙ unbuilt, refl);
        lawful = (lawful.0, lawful_now rows lawful.1 its left);
        synced = λ other g its_row before. elim before [ inl old ↦ inl old | inr new ↦ inr (new.0, more_built rows lawful.1 its other new.1) ];
        first = refl;
        second = refl;
        has = λ g. refl;
        away = λ e. e;
        two = λ two. two;
      }
  stays_more (device.Paired first second) generation r on lawful is left = absurd on

  -- none is
  pub stays_whole : (o : Device) (generation : ℕ) (r : RebuiltRows) → IsRebuiltOn o generation r → IsDeviceOf (layout_of fs.geometry) fs.shard o → HasMarked r row now → end ≤ next_row now 0 → StaysFor fs o row (brought_in o)
  stays_whole (device.Synced first) generation r on lawful is none = absurd on
  stays_whole device.Missing generation r on lawful is none = absurd on
  stays_whole (device.Building first rows) generation r on lawful is none =
      let its = subst (λ (x : RebuiltRows). HasMarked x row now) on.1 is in
      record {
        stands = λ other own ne. sym (λ i. (cond (was_built rows lawful its none other own ne i) InSync Out, Out));
        target = λ other own ne g rs mine next unbuilt. absurd (false≢true (sym unbuilt ∙ ap (λ (x : RebuiltRows). is_rebuilt x other) mine.1 ∙ was_built rows lawful its none other own ne));
        lawful = tt;
        synced = λ other g its_row before. before.0;
        first = refl;
        second = refl;
        has = λ g. refl;
        away = λ e. absurd (false≢true e);
        two = λ two. two;
      }
  stays_whole (device.Doubled first second rows) generation r on lawful is none =
      let its = subst (λ (x : RebuiltRows). HasMarked x row now) on.1 is in
      record {
        stands = λ other own ne. sym (λ i. (InSync, cond (was_built rows lawful.1 its none other own ne i) InSync Out));
        target = λ other own ne g rs mine next unbuilt. absurd (false≢true (sym unbuilt ∙ ap (λ (x : RebuiltRows). is_rebuilt x other) mine.1 ∙ was_built rows lawful.1 its none other own ne));
        lawful = lawful.0;
        synced = λ other g its_row before. elim before [ inl old ↦ inl old | inr new ↦ inr new.0 ];
        first = refl;
        second = refl;
        has = λ g. refl;
        away = λ e. absurd (false≢true e);
        two = λ two. two;
      }
  stays_whole (device.Paired first second) generation r on lawful is none = absurd on

-- ---- the slot in the world

state_more : (o : Device) (generation : ℕ) (r now : RebuiltRows) (row : ℕ) → IsRebuiltOn o generation r → HasMarked r row now → state_of (with_rows o now) ≡ with_row (state_of o) row
state_more (device.Synced first) generation r now row on is = absurd on
state_more device.Missing generation r now row on is = absurd on
state_more (device.Building first rows) generation r now row on is = ap (SlotState.Building first) (is.built ∙ ap (λ (x : RebuiltRows). put (is_rebuilt x) row true) on.1)
state_more (device.Doubled first second rows) generation r now row on is = ap (SlotState.Doubled first second) (is.built ∙ ap (λ (x : RebuiltRows). put (is_rebuilt x) row true) on.1)
state_more (device.Paired first second) generation r now row on is = absurd on

state_whole : (o : Device) → state_of (brought_in o) ≡ changes.brought_in (state_of o)
state_whole (device.Synced first) = refl
state_whole device.Missing = refl
state_whole (device.Building first rows) = refl
state_whole (device.Doubled first second rows) = refl
state_whole (device.Paired first second) = refl

built_with : (l : Layout) (n : ℕ) (o : Device) (generation : ℕ) (r now : RebuiltRows) → IsRebuiltOn o generation r → ((row : ℕ) → IsRowOf l n row → is_rebuilt now row ≡ true) → AllBuilt l n (state_of (with_rows o now))
built_with l n (device.Synced first) generation r now on all = absurd on
built_with l n device.Missing generation r now on all = absurd on
built_with l n (device.Building first rows) generation r now on all = all
built_with l n (device.Doubled first second rows) generation r now on all = all
built_with l n (device.Paired first second) generation r now on all = absurd on

pub rows_on : (o : Device) (generation : ℕ) (r rows : RebuiltRows) → IsRebuiltOn o generation r → rows_of o ≡ Some rows → IsRebuiltOn o generation rows
rows_on (device.Synced first) generation r rows on is = absurd on
rows_on device.Missing generation r rows on is = absurd on
rows_on (device.Building first built) generation r rows on is = let same : built ≡ rows = cc in (on.0, sym same)
rows_on (device.Doubled first second built) generation r rows on is = let same : built ≡ rows = cc in (on.0, sym same)
rows_on (device.Paired first second) generation r rows on is = absurd on

pub some_rows : (o : Device) (generation : ℕ) (r : RebuiltRows) → IsRebuiltOn o generation r → rows_of o ≢ None
some_rows (device.Synced first) generation r on is = absurd on
some_rows device.Missing generation r on is = absurd on
some_rows (device.Building first built) generation r on is = absurd (cc)
some_rows (device.Doubled first second built) generation r on is = absurd (cc)
some_rows (device.Paired first second) generation r on is = absurd on

pub same_rows : (o : Device) (generation : ℕ) (r rows : RebuiltRows) → IsRebuiltOn o generation r → IsRebuiltOn o generation rows → r ≡ rows
same_rows (device.Synced first) generation r rows on is = absurd on
same_rows device.Missing generation r rows on is = absurd on
same_rows (device.Building first built) generation r rows on is = on.1 ∙ sym is.1
same_rows (device.Doubled first second built) generation r rows on is = on.1 ∙ sym is.1
same_rows (device.Paired first second) generation r rows on is = absurd on

pub rows_lawful : (l : Layout) (n : ℕ) (o : Device) (generation : ℕ) (r : RebuiltRows) → IsRebuiltOn o generation r → IsDeviceOf l n o → IsRebuilt (l.first_row n) (l.end_row n) r
rows_lawful l n (device.Synced first) generation r on is = absurd on
rows_lawful l n device.Missing generation r on is = absurd on
rows_lawful l n (device.Building first built) generation r on is = subst (IsRebuilt (l.first_row n) (l.end_row n)) (sym on.1) is
rows_lawful l n (device.Doubled first second built) generation r on is = subst (IsRebuilt (l.first_row n) (l.end_row n)) (sym on.1) is.1
rows_lawful l n (device.Paired first second) generation r on is = absurd on

-- ---- what the code puts in the slot

module _ (fs : FramesState) (target : Target) (r : RebuiltRows) (row : ℕ) (now : RebuiltRows) (d : Device) (sound : IsSound fs) (live : AreLive fs) (below : target.slot < fs.geometry.slots)
    (within : target.slot < length fs.slots) (unheld : NotHeldBy fs row)
    (own : IsRowOf (layout_of fs.geometry) fs.shard row) (on : IsRebuiltOn (slot_in fs.slots target.slot).device target.generation r) (is : HasMarked r row now) where
  abbrev o : Device
  o = (slot_in fs.slots target.slot).device

  -- all devices are in sync with the last row, and else one is new still
  abbrev pub IsChosen : Type 0
  IsChosen = ((d ≡ brought_in o) × (layout.first_row fs.geometry (fs.shard + 1) ≤ next_row now 0))
      ⊎ ((d ≡ with_rows o now) × (next_row now 0 < layout.first_row fs.geometry (fs.shard + 1)))

  chosen_stays : IsChosen → StaysFor fs o row d
  chosen_stays (inl last) = subst (StaysFor fs o row) (sym last.0) (stays_whole fs row now sound own o target.generation r on (sound.devices.each target.slot) is last.1)
  chosen_stays (inr left) = subst (StaysFor fs o row) (sym left.0) (stays_more fs row now sound own o target.generation r on (sound.devices.each target.slot) is left.1)

  abbrev pub later : FramesState
  later = record fs { slots = set fs.slots target.slot (record (slot_in fs.slots target.slot) { device = d }) }

  pub chosen_sound : IsChosen → IsSound later
  chosen_sound chosen = sound_then fs target.slot o row d sound live below within refl unheld (chosen_stays chosen)

  pub chosen_reads : IsChosen → KeepsReads fs later
  chosen_reads chosen = reads_then fs target.slot o row d sound live below within refl unheld (chosen_stays chosen)

  pub chosen_live : IsChosen → AreLive later
  chosen_live chosen = live_then fs target.slot o row d sound live below within refl unheld (chosen_stays chosen)

  pub chosen_marks : IsChosen → d ≡ with_rows o now → Marks fs target row later
  chosen_marks chosen d_is = (
    refl,
    refl,
    λ rest.
        shard_then fs target.slot o row d sound live below within refl unheld (chosen_stays chosen) rest
        ∙ ap (λ (state : SlotState). record (shard_with rest fs) { slot = put (states_of fs.slots) target.slot state })
        (ap state_of d_is ∙ state_more o target.generation r now row on is),
    chosen_reads chosen,
  )

  pub chosen_brings : IsChosen → d ≡ brought_in o → layout.first_row fs.geometry (fs.shard + 1) ≤ next_row now 0 → BringsIn fs target row later
  chosen_brings chosen d_is none = (
    refl,
    refl,
    λ rest. (
      subst (AllBuilt (layout_of fs.geometry) fs.shard) (state_more o target.generation r now row on is)
          (built_with (layout_of fs.geometry) fs.shard o target.generation r now on
          (all_built fs row now sound own r (rows_lawful (layout_of fs.geometry) fs.shard o target.generation r on (sound.devices.each target.slot)) is none)),
      shard_then fs target.slot o row d sound live below within refl unheld (chosen_stays chosen) rest
          ∙ ap (λ (state : SlotState). record (shard_with rest fs) { slot = put (states_of fs.slots) target.slot state }) (ap state_of d_is ∙ state_whole o),
    ),
    chosen_reads chosen,
  )
