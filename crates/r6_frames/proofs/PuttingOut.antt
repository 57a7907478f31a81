-- A hold puts a command out: what it does by itself first, and the command, as changes of the shard.
use Rattle.std.proofs.Common.{◌≡◌, ◌≢◌, Bool, inl, inr, ℕ, ◌+◌, ◌<◌, ◌≤◌, true, false, List, [], ◌∷◌, length, set, refl, sym, ap, subst, ◌∙◌, Option, Some}
use Rattle.std.specs.Prelude.{◌⊎◌, not, option_map}
use Rattle.r6_layout.specs.Layout.{position_at}
use Rattle.r6_stripe.specs.Holds.{Event, MayAsk, MayCopy, MayAskAgain, MayFix, MayWrite, after_event}
use Rattle.r6_stripe.specs.Holds.Event.{Asks, Fixes, AsksAgain, Restores, Computes, Writes, Copies, Gives, Fails, Confirms, Mends, Settles, Loses, Moves, Drops}
use Rattle.r6_stripe.specs.Plans.{Planned, planned_after, planned_at, MayFollow, IsPlanned, IsSilent, AreSilent}
use Rattle.r6_stripe.specs.Steps.{Held, PutsOut as PutsOutNext}
use Rattle.r6_stripe.proofs.Steps.{step_by_rules}
use Rattle.r6_world.specs.Tables.{put}
use Rattle.r6_world.specs.Layouts.{Layout}
use Rattle.r6_world.specs.Geometries.{layout_of}
use Rattle.r6_world.specs.Tasks.{Hold, Task}
use Rattle.r6_world.specs.ShardStates.{Shard, SlotState, InSyncFor, IsFirstFor, IsLive, generation_in}
use Rattle.r6_world.specs.Changes.{Change, Ask, Ask_again, Copy, Fix, Prepare, Send, IsTarget, IsWorkedOut, after, put_out}
use Rattle.r6_world.specs.Steps.{Leads, Through}
use Rattle.r6_frames.specs.declared.command.Action.{Action}
use Rattle.r6_frames.specs.declared.command.Action.TheVariants as action
use Rattle.r6_frames.specs.Actions.{is_copy}
use Rattle.r6_frames.specs.Successors.{is_own}
use Rattle.r6_frames.specs.declared.frames.HeldRow.{HeldRow}
use Rattle.r6_frames.specs.declared.frames.FrameUse.TheVariants.{Held as HeldIn}
use Rattle.r6_frames.specs.FramesState.{FramesState}
use Rattle.r6_frames.specs.Slots.{is_gone, slot_in, states_of}
use Rattle.r6_frames.specs.Views.{hold_at, hold_of, frame_of, row_command, command_of, outstanding, transfer_of, Rest, shard_with, AreLive}
use Rattle.r6_frames.proofs.Lists.{same_put}
use Rattle.r6_frames.proofs.Held.{put_own, put_twice, frame_put, held_within}
use Rattle.r6_frames.proofs.HeldRows.{prepared}
use Rattle.r6_frames.proofs.CommandComes.{with_command, sent_off, new_command, command_came}

-- ---- what a hold does by itself

worked_out : (event : Event) → IsSilent event → IsWorkedOut event
worked_out (Restores i block) silent = record {}
worked_out (Computes new) silent = record {}
worked_out (Asks i) silent = absurd silent
worked_out (Fixes i block) silent = absurd silent
worked_out (AsksAgain i) silent = absurd silent
worked_out (Writes i block) silent = absurd silent
worked_out (Gives i block) silent = absurd silent
worked_out (Fails i) silent = absurd silent
worked_out (Confirms i) silent = absurd silent
worked_out (Mends i) silent = absurd silent
worked_out (Copies i block) silent = absurd silent
worked_out (Settles i) silent = absurd silent
worked_out (Loses i) silent = absurd silent
worked_out (Moves i) silent = absurd silent
worked_out (Drops i) silent = absurd silent

hold_prepared : (h : HeldRow) (event : Event) → IsSilent event → record (hold_of h) { course = after_event h.hold.planned.hold event } ≡ hold_of (prepared h (planned_after h.hold.planned event))
hold_prepared h (Restores i block) silent = refl
hold_prepared h (Computes new) silent = refl
hold_prepared h (Asks i) silent = absurd silent
hold_prepared h (Fixes i block) silent = absurd silent
hold_prepared h (AsksAgain i) silent = absurd silent
hold_prepared h (Writes i block) silent = absurd silent
hold_prepared h (Gives i block) silent = absurd silent
hold_prepared h (Fails i) silent = absurd silent
hold_prepared h (Confirms i) silent = absurd silent
hold_prepared h (Mends i) silent = absurd silent
hold_prepared h (Copies i block) silent = absurd silent
hold_prepared h (Settles i) silent = absurd silent
hold_prepared h (Loses i) silent = absurd silent
hold_prepared h (Moves i) silent = absurd silent
hold_prepared h (Drops i) silent = absurd silent

pub prepare_leads : (Kind : Change → Type 0) → ((f : ℕ) (h : Hold) (event : Event) → Kind (Prepare f h event)) → (l : Layout) (n : ℕ) (s new : Shard) (frame : ℕ) (h : HeldRow) (events : List Event) (rest : List Change)
    → s.frame frame ≡ Some (hold_of h) → IsLive l s → AreSilent events → IsPlanned h.hold.planned events
    → Leads l n Kind (record s { frame = put s.frame frame (Some (hold_of (prepared h (planned_at h.hold.planned events)))) }) rest new
    → Through l n Kind s new
prepare_leads Kind prepares l n s new frame h [] rest is live silent may leads =
    let same : put s.frame frame (Some (hold_of h)) ≡ s.frame = sym (same_put s.frame s.frame frame (Some (hold_of h)) is (λ q e. refl)) in
    (rest, subst (λ (f : ℕ → Option _). Leads l n Kind (record s { frame = f }) rest new) same leads)
prepare_leads Kind prepares l n s new frame h (event ∷ events) rest is live silent may leads =
    let h' = prepared h (planned_after h.hold.planned event) in
    let first = record (hold_of h) { course = after_event h.hold.planned.hold event } in
    let last = hold_of (prepared h (planned_at h.hold.planned (event ∷ events))) in
    let s' = after l s (Prepare frame (hold_of h) event) in
    let later = prepare_leads Kind prepares l n s' new frame h' events rest (put_own s.frame frame (Some first) ∙ ap (λ x. Some x) (hold_prepared h event silent.0)) live silent.1 may.1
    (subst (λ (f : ℕ → Option _). Leads l n Kind (record s { frame = f }) rest new) (sym (put_twice s.frame frame (Some first) (Some last))) leads) in
    (Prepare frame (hold_of h) event ∷ later.0, (prepares frame (hold_of h) event, (is, live, worked_out event silent.0, step_by_rules h.hold.planned event may.0, may.0), later.1))

-- ---- the command

-- which read or write of a position it is
pub data Way : Type 0 where
  FirstRead SecondRead FixWrite NewBlock SecondWrite : Way

abbrev pub action_of_way : Way → Action
action_of_way FirstRead = action.Read
action_of_way SecondRead = action.Read
action_of_way FixWrite = action.Write
action_of_way NewBlock = action.Write
action_of_way SecondWrite = action.Copy

abbrev pub put_event : ℕ → Way → List ℕ → Event
put_event position FirstRead buffer = Asks position
put_event position SecondRead buffer = AsksAgain position
put_event position FixWrite buffer = Fixes position buffer
put_event position NewBlock buffer = Writes position buffer
put_event position SecondWrite buffer = Copies position buffer

abbrev pub put_change : ℕ → Hold → (slot generation : ℕ) → Way → List ℕ → Change
put_change frame h slot generation FirstRead buffer = Ask frame h slot generation
put_change frame h slot generation SecondRead buffer = Ask_again frame h slot generation
put_change frame h slot generation FixWrite buffer = Fix frame h slot generation buffer
put_change frame h slot generation NewBlock buffer = Send frame h slot generation buffer
put_change frame h slot generation SecondWrite buffer = Copy frame h slot generation buffer

-- all go to the first device that is in sync for the row, and a new block to a target and to a second one too
abbrev pub MayGo : Way → Task → (slot generation : ℕ) → SlotState → (row : ℕ) → Type 0
MayGo FirstRead task slot generation state row = IsFirstFor state row generation
MayGo SecondRead task slot generation state row = IsFirstFor state row generation
MayGo FixWrite task slot generation state row = IsFirstFor state row generation
MayGo NewBlock task slot generation state row = (InSyncFor state row generation ⊎ IsTarget task slot generation state) × (generation ≡ generation_in state)
MayGo SecondWrite task slot generation state row = (InSyncFor state row generation ⊎ IsTarget task slot generation state) × (generation ≢ generation_in state)

module _ (fs : FramesState) (frame : ℕ) (h : HeldRow) (planned : Planned) (position slot generation : ℕ) (buffer : List ℕ) (rest : Rest)
    (is : hold_at fs.uses frame ≡ Some h) (inverse : position_at fs.geometry h.row slot ≡ position) (below : slot < fs.geometry.slots) (live : AreLive fs)
    (next_taken : fs.next_taken ≤ fs.commands.next) (goes_on : is_gone (slot_in fs.slots slot) fs.commands.next generation ≡ false) where
  abbrev l : Layout
  l = layout_of fs.geometry

  abbrev mid : Hold
  mid = hold_of (prepared h planned)

  -- the shard once the hold has prepared
  abbrev ready : Shard
  ready = let s = shard_with rest fs in record s { frame = put s.frame frame (Some mid) }

  abbrev with_put : Way → FramesState
  with_put way = with_command fs frame h (planned_after planned (put_event position way buffer)) position slot generation (action_of_way way) buffer

  abbrev mine : Bool
  mine = is_own h.successor slot generation

  frame_then : (event : ℕ → Event) (new : HeldRow) → hold_of new ≡ record mid { course = after_event planned.hold (event position) }
      → (λ x. option_map hold_of (hold_at (set fs.uses frame (HeldIn new)) x))
      ≡ put (put (frame_of fs) frame (Some mid)) frame (Some (record mid { course = after_event planned.hold (event (position_at fs.geometry h.row slot)) }))
  frame_then event new same =
      frame_put fs.uses frame (HeldIn new) (held_within fs.uses frame h is)
      ∙ ap (λ x. put (frame_of fs) frame (Some x)) (same ∙ ap (λ p. record mid { course = after_event planned.hold (event p) }) (sym inverse))
      ∙ sym (put_twice (frame_of fs) frame (Some mid) (Some (record mid { course = after_event planned.hold (event (position_at fs.geometry h.row slot)) })))

  commands_then : (what : Action)
      → (λ token. option_map (command_of fs.slots fs.next_taken token) (outstanding (with_command fs frame h planned position slot generation what buffer) token))
      ≡ put (λ token. option_map (command_of fs.slots fs.next_taken token) (outstanding fs token)) fs.commands.next (Some (record (put_out frame slot generation h.row (transfer_of what (Some buffer))) { copy = is_copy what }))
  commands_then what = command_came fs.slots fs.commands.entries fs.next_taken fs.commands.next (new_command frame slot generation h.row what buffer) next_taken goes_on

  pub put_leads : (Kind : Change → Type 0) (way : Way) → Kind (put_change frame mid slot generation way buffer) → MayGo way mid.task slot generation (states_of fs.slots slot) h.row → MayFollow planned (put_event position way buffer) → Leads l fs.shard Kind ready (put_change frame mid slot generation way buffer ∷ []) (shard_with rest (with_put way))
  put_leads Kind FirstRead kind goes follows =
      let may : MayAsk planned.hold position = step_by_rules planned (Asks position) follows in (
        kind,
        (put_own (frame_of fs) frame (Some mid), below, goes, live, subst (λ (p : ℕ). MayAsk planned.hold p) (sym inverse) may, subst (λ (p : ℕ). MayFollow planned (Asks p)) (sym inverse) follows),
        λ i. record (shard_with rest fs) { frame = frame_then Asks (sent_off h (planned_after planned (Asks position)) mine position) refl i; command = commands_then action.Read i; tokens = fs.commands.next + 1 },
      )
  put_leads Kind SecondRead kind goes follows =
      let may : MayAskAgain planned.hold position = step_by_rules planned (AsksAgain position) follows in (
        kind,
        (
          put_own (frame_of fs) frame (Some mid),
          below,
          goes,
          live,
          subst (λ (p : ℕ). MayAskAgain planned.hold p) (sym inverse) may,
          subst (λ (p : ℕ). MayFollow planned (AsksAgain p)) (sym inverse) follows,
        ),
        λ i. record (shard_with rest fs) { frame = frame_then AsksAgain (sent_off h (planned_after planned (AsksAgain position)) mine position) refl i; command = commands_then action.Read i; tokens = fs.commands.next + 1 },
      )
  put_leads Kind FixWrite kind goes follows =
      let may : MayFix planned.hold position buffer = step_by_rules planned (Fixes position buffer) follows in (
        kind,
        (
          put_own (frame_of fs) frame (Some mid),
          below,
          goes,
          live,
          subst (λ (p : ℕ). MayFix planned.hold p buffer) (sym inverse) may,
          subst (λ (p : ℕ). MayFollow planned (Fixes p buffer)) (sym inverse) follows,
        ),
        λ i. record (shard_with rest fs) { frame = frame_then (λ p. Fixes p buffer) (sent_off h (planned_after planned (Fixes position buffer)) mine position) refl i; command = commands_then action.Write i; tokens = fs.commands.next + 1 },
      )
  put_leads Kind NewBlock kind goes follows =
      let may : MayWrite planned.hold position buffer = step_by_rules planned (Writes position buffer) follows in (
        kind,
        (
          put_own (frame_of fs) frame (Some mid),
          below,
          goes.0,
          live,
          subst (λ (p : ℕ). MayWrite planned.hold p buffer) (sym inverse) may,
          subst (λ (p : ℕ). MayFollow planned (Writes p buffer)) (sym inverse) follows,
          goes.1,
        ),
        λ i. record (shard_with rest fs) { frame = frame_then (λ p. Writes p buffer) (sent_off h (planned_after planned (Writes position buffer)) mine position) refl i; command = commands_then action.Write i; tokens = fs.commands.next + 1 },
      )
  put_leads Kind SecondWrite kind goes follows =
      let may : MayCopy planned.hold position buffer = step_by_rules planned (Copies position buffer) follows in (
        kind,
        (
          put_own (frame_of fs) frame (Some mid),
          below,
          goes.0,
          live,
          subst (λ (p : ℕ). MayCopy planned.hold p buffer) (sym inverse) may,
          subst (λ (p : ℕ). MayFollow planned (Copies p buffer)) (sym inverse) follows,
          goes.1,
        ),
        λ i. record (shard_with rest fs) { frame = frame_then (λ p. Copies p buffer) (sent_off h (planned_after planned (Copies position buffer)) mine position) refl i; command = commands_then action.Copy i; tokens = fs.commands.next + 1 },
      )

-- ---- what the hold answered

-- the hold prepares by these events, and puts a command out
pub record HasPut (h : HeldRow) (position : ℕ) (what : Action) (buffer : List ℕ) (new : Held) : Type 0 where
  pub way : Way
  pub action_is : action_of_way way ≡ what
  pub events : List Event
  pub silent : AreSilent events
  pub may : IsPlanned h.hold.planned events
  pub follows : MayFollow (planned_at h.hold.planned events) (put_event position way buffer)
  pub new_is : new ≡ (sent_off h (planned_after (planned_at h.hold.planned events) (put_event position way buffer)) (not (is_copy (action_of_way way))) position).hold
  pub sized : length buffer ≡ h.hold.planned.hold.size

pub has_put : (h : HeldRow) (position : ℕ) (what : Action) (buffer : List ℕ) (new : Held) → PutsOutNext h.hold (Some (row_command position what buffer)) new → HasPut h position what buffer new
has_put h position action.Read buffer new puts =
    elim puts.0 [
      | inl first ↦ record { way = FirstRead; action_is = refl; events = []; silent = tt; may = tt; follows = first.0; new_is = first.1; sized = puts.1 }
      | inr again ↦ record { way = SecondRead; action_is = refl; events = []; silent = tt; may = tt; follows = again.0; new_is = again.1; sized = puts.1 }
    ]
has_put h position action.Write buffer new puts =
    elim puts.0 [
      | inl fix ↦ record { way = FixWrite; action_is = refl; events = []; silent = tt; may = tt; follows = fix.0; new_is = fix.1; sized = puts.1 }
      | inr write ↦
          let back : write.0 ≡ planned_at h.hold.planned write.1.0 = sym write.1.3 in
          let follows : MayFollow write.0 (Writes position buffer) = (write.2, write.3) in
          record {
            way = NewBlock;
            action_is = refl;
            events = write.1.0;
            silent = write.1.1;
            may = write.1.2;
            follows = subst (λ (p : Planned). MayFollow p (Writes position buffer)) back follows;
            new_is = write.4 ∙ ap (λ (p : Planned). (sent_off h (planned_after p (Writes position buffer)) true position).hold) back;
            sized = puts.1;
          }
    ]
has_put h position action.Copy buffer new puts =
    let copy = puts.0 in
    let back : copy.0 ≡ planned_at h.hold.planned copy.1.0 = sym copy.1.3 in
    let follows : MayFollow copy.0 (Copies position buffer) = (copy.2, copy.3) in
    record {
      way = SecondWrite;
      action_is = refl;
      events = copy.1.0;
      silent = copy.1.1;
      may = copy.1.2;
      follows = subst (λ (p : Planned). MayFollow p (Copies position buffer)) back follows;
      new_is = copy.4 ∙ ap (λ (p : Planned). (sent_off h (planned_after p (Copies position buffer)) false position).hold) back;
      sized = puts.1;
    }
