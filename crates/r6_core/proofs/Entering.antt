-- A request is accepted: it starts, or it waits behind all others.
use Rattle.std.proofs.Common.{◌≡◌, ℕ, [], ◌∷◌, ◌++◌, length, refl, sym, ap, subst, ◌∙◌, append-nil, IsPermutation}
use Rattle.std.specs.List.{AllByRecursion}
use Rattle.std.proofs.lemmas.List.Sorted.{IsPermutation-append_comm}
use Rattle.r6_kernels.specs.Blocks.{IsBlock}
use Rattle.r6_world.specs.Tasks.{Task}
use Rattle.r6_world.specs.ShardStates.{Shard}
use Rattle.r6_world.specs.Changes.{Accept, after}
use Rattle.r6_world.specs.Steps.{Through, Scans}
use Rattle.r6_world.specs.declared.values.Op.{Op}
use Rattle.r6_core.specs.declared.queued.Queued.{Queued}
use Rattle.r6_frames.specs.declared.frames.Frames.{Frames}
use Rattle.r6_world.specs.Values.{op_of, buffer_of}
use Rattle.r6_frames.specs.Views.{AreLive}
use Rattle.r6_waiters.specs.Line.{entries_of}
use Rattle.r6_core.specs.declared.scan.Room.TheVariants as room
use Rattle.r6_core.specs.declared.state.State.{State}
use Rattle.r6_core.specs.Shards.{state_of, layout_in, core_of, requests_in, waiting_of}
use Rattle.r6_core.specs.Order.{InTurn, IsWaiting, HaveTurns, Starts}
use Rattle.r6_core.specs.Refusals.{HasSubmitFault, HasNone, submit_faults}
use Rattle.r6_core.specs.Inside.{IsCore, IsReadDirectly, IsSettled, Waits, WaitsFor, anything}
use Rattle.r6_core.proofs.Accepting.{with_request, accepted_core, accepted_state, pushed_requests}
use Rattle.r6_core.proofs.Passed.{all-middle}
use Rattle.r6_core.proofs.InTurns.{turn_of, turns_both, turns_of_all, turns_waited}
use Rattle.r6_core.proofs.Scanned.{all_must, all_wait, room_taken, waiting_wait}
use Rattle.r6_core.proofs.ReadStarts.{IsReadStart, read_core, read_leads, read_like, read_started}
use Rattle.r6_core.proofs.HeldSettled.{HasDriven, begun_like, begun_settled, begun_takes}
use Rattle.r6_core.proofs.HeldStarts.{HasBegun, begun_leads, begun_starts}
use Rattle.r6_core.proofs.Starting.{IsLeft, with_frames}
use Rattle.r6_core.proofs.Waking.{none_can}
use Rattle.std.specs.Prelude.{false}
use Rattle.r6_frames.proofs.Held.{all_append}

module _ (s : State) (o : Op) (core : IsCore s) (right : HasNone (HasSubmitFault (core_of s) o) submit_faults) (sized : IsBlock (length (buffer_of o)) (buffer_of o)) where
  abbrev pub entered : Queued
  entered = record { id = s.accepted; op = o; erred = false }

  -- the request waits, for this
  abbrev pub waiting : (cause : ℕ) → State
  waiting cause = with_request s cause entered

  pub waiting_settled : (cause : ℕ) → IsSettled (waiting cause)
  waiting_settled cause = accepted_core s cause o core.settled right sized

  accepts : (cause : ℕ) → state_of (waiting cause) ≡ after (layout_in s) (state_of s) (Accept (op_of o))
  accepts cause = accepted_state s cause o core.settled.sound

  pub waits_core : (cause : ℕ) → (AreLive s.frames → WaitsFor s.frames cause entered) → IsCore (waiting cause)
  waits_core cause waits = record {
    settled = waiting_settled cause;
    waits = λ live. all_append (Waits s.frames) (entries_of s.waiting) ((cause, entered) ∷ []) (core.waits live) (waits live, tt);
  }

  pub waits_turns : (cause : ℕ) → (AreLive s.frames → WaitsFor s.frames cause entered)
      → HaveTurns (core_of s) (after (layout_in s) (state_of s) (Accept (op_of o))) (waiting_of s ++ entered ∷ []) (core_of (waiting cause))
  waits_turns cause waits =
      let now = waiting cause in
      subst (λ (from : Shard). HaveTurns (core_of s) from (waiting_of s ++ entered ∷ []) (core_of now)) (accepts cause)
      (subst (λ rs. HaveTurns (core_of s) (state_of now) rs (core_of now)) (pushed_requests s cause entered)
      (all_wait now (waiting_settled cause) (none_can now (waits_core cause waits).waits)))

  pub waits_leads : (cause : ℕ) → Through (layout_in s) s.frames.shard Scans (after (layout_in s) (state_of s) (Accept (op_of o))) (state_of (waiting cause))
  waits_leads cause = ([], accepts cause)

  -- it starts
  abbrev pub entering : State
  entering = waiting anything

  -- the others are left
  pub others_left : IsLeft entering (waiting_of s ++ []) s.waiting
  others_left = record { requests = sym (append-nil (waiting_of s)); capacity = refl; causes = refl }

  pub entering_items : waiting_of entering ≡ waiting_of s ++ entered ∷ []
  entering_items = pushed_requests s anything entered

  -- all wait, and it too
  all_are_waiting : AllByRecursion (IsWaiting (state_of entering)) (waiting_of s ++ entered ∷ [])
  all_are_waiting = subst (AllByRecursion (IsWaiting (state_of entering))) entering_items (waiting_wait entering (waiting_settled anything).sound)

  pub parts : IsWaiting (state_of entering) entered × AllByRecursion (IsWaiting (state_of entering)) (waiting_of s ++ [])
  parts = all-middle (IsWaiting (state_of entering)) (waiting_of s) entered [] all_are_waiting

  -- the others had their turns before it, and none could start
  module _ (new : State) (starts : Starts (layout_in s) s.frames.shard (state_of entering) entered [] (state_of new)) (left : new.waiting ≡ s.waiting) where
    pub start_turns : HaveTurns (core_of s) (after (layout_in s) (state_of s) (Accept (op_of o))) (waiting_of s ++ entered ∷ []) (core_of new)
    start_turns =
        let l = layout_in s in
        let n = s.frames.shard in
        let first = turns_waited l n (entered ∷ []) (state_of entering) (waiting_of s) (subst (AllByRecursion (IsWaiting (state_of entering))) (append-nil (waiting_of s)) parts.1)
        (all_must entering (waiting_of s) (waiting_settled anything) (none_can s core.waits)) in
        let start = turn_of l n [] (state_of entering) entered (state_of new) parts.0 starts in
        let both = turns_of_all l n (state_of entering) (waiting_of s ++ entered ∷ []) (state_of new) (waiting_of s ++ [])
        (turns_both l n [] (state_of entering) (waiting_of s) (state_of entering) (waiting_of s) (entered ∷ []) (state_of new) [] first start) in
        subst (λ (from : Shard). HaveTurns (core_of s) from (waiting_of s ++ entered ∷ []) (core_of new)) (accepts anything)
        (all_are_waiting, subst (λ rs. InTurn l n (state_of entering) (waiting_of s ++ entered ∷ []) (state_of new) rs) (append-nil (waiting_of s) ∙ sym (ap requests_in left)) both)

  -- its row is held
  module _ (task : Task) (frame : ℕ) (mid new : Frames) (roomed : State) (plain : IsReadDirectly s.frames entered → ⊥) (is : HasBegun entering entered [] task (entered ∷ []) s.waiting (waiting_of s) frame mid new)
      (does : HasDriven entering s.waiting frame mid new roomed) where
    abbrev pub running : State
    running = record entering { waiting = s.waiting; frames = new; rooms = roomed.rooms }

    pub starts_core : IsCore running
    starts_core =
        record {
          settled = begun_settled entering entered [] task (entered ∷ []) s.waiting (waiting_of s) frame mid new roomed is does (waiting_settled anything);
          waits = λ live.
              room_taken (room.Frame frame) s.frames entered new (begun_like entering entered [] task (entered ∷ []) s.waiting (waiting_of s) frame mid new roomed is does) (plain, is.can)
              (begun_takes entering entered [] task (entered ∷ []) s.waiting (waiting_of s) frame mid new roomed is does) (entries_of s.waiting) (core.waits is.can.0);
        }

    pub starts_leads : Through (layout_in s) s.frames.shard Scans (after (layout_in s) (state_of s) (Accept (op_of o))) (state_of running)
    starts_leads =
        subst (λ (from : Shard). Through (layout_in s) s.frames.shard Scans from (state_of running)) (accepts anything)
        (begun_leads entering entered [] task (entered ∷ []) s.waiting (waiting_of s) frame mid new roomed is (waiting_settled anything).sound)

    pub starts_turns : HaveTurns (core_of s) (after (layout_in s) (state_of s) (Accept (op_of o))) (waiting_of s ++ entered ∷ []) (core_of running)
    starts_turns = start_turns running (begun_starts entering entered [] task (entered ∷ []) s.waiting (waiting_of s) frame mid new roomed is (waiting_settled anything).sound) refl

  -- those that wait are the request and the others
  pub entering_all : IsPermutation (waiting_of entering) ((entered ∷ []) ++ waiting_of s)
  entering_all = subst (λ rs. IsPermutation rs (entered ∷ waiting_of s)) (sym entering_items) (IsPermutation-append_comm (waiting_of s) (entered ∷ []))

  -- it is read directly
  module _ (number : ℕ) (new : Frames) (is : IsReadStart entering (waiting_of s) entered [] s.waiting number new) where
    abbrev pub reading : State
    reading = with_frames entering s.waiting new

    pub reads_core : IsCore reading
    reads_core =
        record {
          settled = read_core entering (waiting_of s) entered [] s.waiting number new is (waiting_settled anything);
          waits = λ live.
              room_taken (room.Direct number) s.frames entered new (read_like entering (waiting_of s) entered [] s.waiting number new is) (is.unerred, is.can)
              (is.holds, is.taken) (entries_of s.waiting) (core.waits is.can.0);
        }

    pub reads_leads : Through (layout_in s) s.frames.shard Scans (after (layout_in s) (state_of s) (Accept (op_of o))) (state_of reading)
    reads_leads =
        subst (λ (from : Shard). Through (layout_in s) s.frames.shard Scans from (state_of reading)) (accepts anything)
        (read_leads entering (waiting_of s) entered [] s.waiting number new is (waiting_settled anything).sound)

    pub reads_turns : HaveTurns (core_of s) (after (layout_in s) (state_of s) (Accept (op_of o))) (waiting_of s ++ entered ∷ []) (core_of reading)
    reads_turns = start_turns reading (read_started entering (waiting_of s) entered [] s.waiting number new is [] (waiting_settled anything).sound) refl
