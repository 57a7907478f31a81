-- Between public calls, with no request left that could start, a shard is at rest.
use Rattle.std.proofs.Common.{◌≡◌, ◌≢◌, ◌-◌, refl, ℕ, Bool, true, false, cond, List, [], ◌∷◌, ◌++◌, map, sym, ap, subst, Option, Some, None, ◌∙◌}
use Rattle.std.specs.Prelude.{nat_eq, option_map}
use Rattle.std.specs.List.{AllByRecursion}
use Rattle.r6_layout.specs.Shape.{Shape}
use Rattle.r6_world.specs.Geometries.{layout_of}
use Rattle.r6_world.specs.PlainArray as world
use Rattle.r6_world.specs.ShardStates.{Request, Stage, Waiting, Erred, Held, Finished, Released, NotHeld, Reading}
use Rattle.r6_world.specs.Steps.{AtRest}
use Rattle.r6_world.specs.declared.values.Request.{Request as Entered}
use Rattle.r6_core.specs.declared.state.State.{State}
use Rattle.r6_world.specs.Values.{op_of}
use Rattle.r6_frames.specs.Views.{hold_of, held_requests}
use Rattle.r6_frames.specs.Calls.{NotHeldBy}
use Rattle.r6_core.specs.Shards.{state_of, rest_of, layout_in, framed_requests, waiting_request, finished_request, replied_requests, waiting_of}
use Rattle.r6_frames.specs.declared.frames.Frames.{Frames}
use Rattle.r6_frames.specs.declared.directs.Direct.{Direct}
use Rattle.r6_frames.specs.declared.directs.DirectRead.{DirectRead}
use Rattle.r6_frames.specs.declared.slots.Slot.{Slot}
use Rattle.r6_frames.specs.Directs.{is_stopped, stage_of, read_by, reads_from, read_requests}
use Rattle.r6_core.specs.Order.{MustWait}
use Rattle.r6_core.specs.declared.queued.Queued.{Queued}
use Rattle.r6_core.specs.Queued.{waiting_stage}
use Rattle.r6_core.specs.Turns.{CouldLeave}
use Rattle.r6_core.specs.Inside.{row_for}
use Rattle.r6_core.proofs.Unerred.{waits_so}
use Rattle.r6_core.proofs.Waking.{CouldBegin}
use Rattle.r6_frames.specs.Calls.{IsFreeFrame}
use Rattle.r6_world.specs.ShardStates.{CouldHold, IsLive}
use Rattle.r6_core.specs.Inside.{AreReadOn, IsCore, IsReadOn, IsSettled, SameFrames}
use Rattle.r6_frames.proofs.Lists.{Entries, table, looked_up}
use Rattle.r6_core.proofs.Waking.{CannotStart, none_can}
use Rattle.r6_core.proofs.HeldRequests.{all_held}
use Rattle.r6_core.proofs.ReadOn.{free_direct_is, read_synced, synced_read}
use Rattle.r6_core.proofs.Replied.{all_replied}
use Rattle.r6_frames.proofs.Resting.{goes_on, nothing_next, brought_in, free_frame_is}
use Rattle.r6_frames.proofs.Held.{all_append}

-- ---- who waits, stands among the waiting

abbrev pub IsPast : Stage → Type 0
IsPast Waiting = ⊥
IsPast Erred = ⊥
IsPast (Held f) = Unit {0}
IsPast (Reading token) = Unit {0}
IsPast (Finished reply) = Unit {0}
IsPast (Released reply) = Unit {0}

abbrev pub AllPast : Entries Request → Type 0
AllPast es = AllByRecursion (λ e. IsPast e.1.stage) es

ended_past : (saw_failed : Bool) (r : Entered) → IsPast (finished_request saw_failed r).1.stage
ended_past true r = tt
ended_past false r = tt

stage_past : (stopped : Bool) (token : ℕ) → stage_of stopped token ≢ Waiting → IsPast (stage_of stopped token)
stage_past true token on = absurd (on refl)
stage_past false token on = tt

read_past : (slots : List Slot) (directs : List Direct) → AllByRecursion IsReadOn (reads_from slots directs) → AllPast (reads_from slots directs)
read_past slots [] on = tt
read_past slots (d ∷ directs) on = by_read d.read (read_past slots directs) on
  where
    by_read : (read : Option DirectRead) → (AllByRecursion IsReadOn (reads_from slots directs) → AllPast (reads_from slots directs))
        → AllByRecursion IsReadOn (read_by slots read ++ reads_from slots directs) → AllPast (read_by slots read ++ reads_from slots directs)
    by_read None later on = later on
    by_read (Some r) later on = (stage_past (is_stopped slots r) r.token on.0, later on.1)

framed_past : (fs : Frames) → AreReadOn fs → AllPast (framed_requests fs)
framed_past fs on =
    all_append (λ e. IsPast e.1.stage) (held_requests fs) (read_requests fs) (all_held (λ e. IsPast e.1.stage) (λ f r. tt) 0 fs.uses) (read_past fs.slots fs.directs on)

rest_past : (s : State) → IsCore s → AllPast (framed_requests s.frames ++ replied_requests s.frames.saw_failed s.released s.replies.items)
rest_past s core =
    all_append (λ e. IsPast e.1.stage) (framed_requests s.frames) _ (framed_past s.frames core.settled.reading)
    (all_replied (λ e. IsPast e.1.stage) s.frames.saw_failed (λ r. tt) (ended_past s.frames.saw_failed) s.released s.replies.items)

abbrev asked : Option Request → world.Op → world.Op
asked None op = op
asked (Some r) op = r.op

abbrev standing : Option Request → Stage → Stage
standing None stage = stage
standing (Some r) stage = r.stage

-- a request that waits is one of those of which this holds, and met a read error if the shard has it so
pub waits_at : (P : Queued → Type 0) (qs : List Queued) (rest : Entries Request) (id : ℕ) (op : world.Op) (erred : Bool) → AllPast rest → AllByRecursion P qs
    → table (map waiting_request qs ++ rest) id ≡ Some (record { op = op; stage = waiting_stage erred }) → (q : Queued) × P q × (op ≡ op_of q.op) × (q.erred ≡ erred)
waits_at P [] rest id op erred past all is =
    absurd (waits_so (λ x. IsPast x → ⊥) (λ never. never) (λ never. never) erred (looked_up (λ r. IsPast r.stage) id rest _ past is))
waits_at P (q ∷ qs) rest id op erred past all is =
    elim (nat_eq id q.id) as (λ b. cond b (Some (waiting_request q).1) (table (map waiting_request qs ++ rest) id) ≡ Some (record { op = op; stage = waiting_stage erred }) → (x : Queued) × P x × (op ≡ op_of x.op) × (x.erred ≡ erred)) [
      | true ↦ λ e. (q, all.0, sym (ap (λ o. asked o op) e), same_bit q.erred erred (ap (λ o. standing o Waiting) e))
      | false ↦ λ e. waits_at P qs rest id op erred past all.1 e
    ] is
  where
    same_bit : (a b : Bool) → waiting_stage a ≡ waiting_stage b → a ≡ b
    same_bit false false e = refl
    same_bit false true e = absurd (cc e)
    same_bit true false e = absurd (cc e)
    same_bit true true e = refl

-- ---- the frames of the code are those of the shard

pub not_held_by : (s : State) (row : ℕ) → NotHeld (state_of s) row → NotHeldBy s.frames row
not_held_by s row not_held frame h is at = not_held frame (hold_of h) (ap (option_map hold_of) is) at

-- what can't start in the frames of the code can't start in the shard
pub must_wait : (s : State) → IsSettled s → (q : Queued) → CannotStart s.frames q → MustWait (layout_in s) (state_of s) q
must_wait s core q cannot live could = cannot live (by_bit q.erred refl could)
  where
    free_for : CouldHold (layout_in s) (state_of s) (op_of q.op) → NotHeldBy s.frames (row_for s.frames q.op) × (frame : ℕ) × IsFreeFrame s.frames frame
    free_for free = (not_held_by s _ free.0, free.1, free_frame_is (rest_of s) s.frames free.1 core.sound.frames live free.2)

    by_bit : (erred : Bool) → q.erred ≡ erred → CouldLeave erred (layout_in s) (state_of s) (op_of q.op) → CouldBegin s.frames q
    by_bit false plain could = record {
      buffer = λ for.
          let free = could.0 (read_synced (rest_of s) s.frames q.op for.1) in
          (free.0 - 64, free_direct_is (rest_of s) s.frames core.sound.frames core.reading free.0 free.1);
      frame = λ held. free_for (could.1 (λ direct. held (direct.0, (plain, synced_read (rest_of s) s.frames q.op direct.1))));
    }
    by_bit true erred could = record {
      buffer = λ for. absurd (let both : true ≡ false = sym erred ∙ for.0 in cc both);
      frame = λ held. free_for could;
    }

-- ---- at rest

-- no request that waits could start, whether it met a read error or not
none_could : (s : State) → IsCore s → IsLive (layout_in s) (state_of s) → (id : ℕ) (op : world.Op) (erred : Bool)
    → (state_of s).request id ≡ Some (record { op = op; stage = waiting_stage erred }) → CouldLeave erred (layout_in s) (state_of s) op → ⊥
none_could s core live id op erred is could =
    let rest : Entries Request = framed_requests s.frames ++ replied_requests s.frames.saw_failed s.released s.replies.items in
    let there = waits_at (CannotStart s.frames) (waiting_of s) rest id op erred (rest_past s core) (none_can s core.waits) is in
    must_wait s core.settled there.0 there.1 live
    (subst (λ (x : Bool × world.Op). CouldLeave x.0 (layout_in s) (state_of s) x.1) (λ i. (sym there.3 i, there.2 i)) could)

pub at_rest : (s : State) → IsCore s → AtRest (layout_in s) s.frames.shard (state_of s)
at_rest s core =
    record {
      goes_on = λ live frame h is. goes_on (rest_of s) s.frames core.settled.sound.frames live frame h (core.settled.rested live frame).0 (core.settled.rested live frame).1 is;
      nothing_next = λ live frame h is. nothing_next s.frames frame h (core.settled.rested live frame).0 is;
      none_could_start = λ live id op is could. none_could s core live id op false is could;
      none_could_hold = λ live id op is could. none_could s core live id op true is could;
      brought_in = λ live slot built. brought_in (rest_of s) s.frames core.settled.sound.frames slot built;
    }

-- and the shard that it was before a call is at rest
pub rests_in : (s new : State) → SameFrames s new → IsCore new → AtRest (layout_in s) s.frames.shard (state_of new)
rests_in s new same core =
    subst (λ (g : Shape). AtRest (layout_of g) s.frames.shard (state_of new)) same.0
    (subst (λ (n : ℕ). AtRest (layout_in new) n (state_of new)) same.1 (at_rest new core))
