-- A request that was just accepted starts, and its row is held.
use Rattle.std.proofs.Common.{◌≡◌, ℕ, [], ◌∷◌, ◌++◌, sym, ap, subst, ◌∙◌, None, IsPermutation}
use Rattle.r6_kernels.specs.Blocks.{IsBlock}
use Rattle.std.specs.Prelude.{length}
use Rattle.r6_world.specs.Changes.{Accept, after}
use Rattle.r6_world.specs.Steps.{Scans, Through}
use Rattle.r6_world.specs.declared.values.Op.{Op}
use Rattle.r6_core.specs.declared.queued.Queued.{Queued}
use Rattle.r6_world.specs.Values.{buffer_of, op_of}
use Rattle.r6_waiters.specs.Line.{Line, capacity_of, causes_of}
use Rattle.r6_core.specs.declared.state.State.{State}
use Rattle.r6_core.specs.declared.scan.Room.TheVariants as room
use Rattle.r6_core.specs.Shards.{core_of, layout_in, requests_in, state_of, waiting_of}
use Rattle.r6_core.specs.Refusals.{HasNone, HasSubmitFault, submit_faults}
use Rattle.r6_core.specs.Order.{HaveTurns}
use Rattle.r6_core.specs.Inside.{CanStart, HoldsFor, IsCore, anything}
use Rattle.std.specs.Prelude.{false}
use Rattle.r6_core.specs.Queued.{request_in}
use Rattle.r6_core.proofs.Accepting.{request_of}
use Rattle.r6_core.proofs.Entering.{entered, entering, entering_all, parts, starts_core, starts_leads, starts_turns, waiting_settled}
use Rattle.r6_core.proofs.HeldFor.{alone_for, held_begun, held_driven, held_state}
use Rattle.r6_core.proofs.HeldSettled.{HasDriven}
use Rattle.r6_core.proofs.HeldStarts.{HasBegun, IsServed}

module _ (s : State) (o : Op) (core : IsCore s) (right : HasNone (HasSubmitFault (core_of s) o) submit_faults) (sized : IsBlock (length (buffer_of o)) (buffer_of o)) (frame : ℕ)
    (can : CanStart s.frames (record { id = s.accepted; op = o; erred = false }) (room.Frame frame)) (new : State)
    (holds : HoldsFor None frame (record (entering s o core right sized) { waiting = s.waiting }) (record { id = s.accepted; op = o }) new) where
  abbrev from : State
  from = entering s o core right sized

  abbrev r : Queued
  r = entered s o core right sized

  alone : IsServed from r [] holds.begins.task (r ∷ []) × (holds.begins.served ≡ request_in r ∷ []) × (new.waiting ≡ s.waiting)
  alone =
      alone_for from (waiting_settled s o core right sized anything) s.waiting r (record { request = request_of s o right sized s.accepted; read = λ e. absurd (cc e) }) (parts s o core right sized).0 can.0 frame new holds

  items : IsPermutation (waiting_of from) (r ∷ requests_in new.waiting)
  items = subst (λ (x : Line Queued). IsPermutation (waiting_of from) (r ∷ requests_in x)) (sym alone.2) (entering_all s o core right sized)

  begun : HasBegun from r [] holds.begins.task (r ∷ []) s.waiting (waiting_of s) frame holds.mid.frames new.frames
  begun =
      subst (λ (x : Line Queued). HasBegun from r [] holds.begins.task (r ∷ []) x (requests_in x) frame holds.mid.frames new.frames) alone.2
      (held_begun from s.waiting None frame r new holds [] (r ∷ []) can.1.0 alone.0 alone.1 items can.1)

  driven : HasDriven from s.waiting frame holds.mid.frames new.frames new
  driven =
      subst (λ (line : Line Queued). HasDriven from line frame holds.mid.frames new.frames new) alone.2
      (held_driven from s.waiting None frame r new holds (waiting_settled s o core right sized anything).sound (ap capacity_of alone.2) (ap causes_of alone.2))

  abbrev then : State
  then = record from { waiting = s.waiting; frames = new.frames; rooms = new.rooms }

  is_then : new ≡ then
  is_then = held_state from s.waiting None frame r new holds ∙ ap (λ (line : Line Queued). record from { waiting = line; frames = new.frames; rooms = new.rooms }) alone.2

  pub accepted_core : IsCore new
  accepted_core = subst IsCore (sym is_then) (starts_core s o core right sized holds.begins.task frame holds.mid.frames new.frames new can.0 begun driven)

  pub accepted_leads : Through (layout_in s) s.frames.shard Scans (after (layout_in s) (state_of s) (Accept (op_of o))) (state_of new)
  accepted_leads =
      subst (λ (x : State). Through (layout_in s) s.frames.shard Scans (after (layout_in s) (state_of s) (Accept (op_of o))) (state_of x)) (sym is_then)
      (starts_leads s o core right sized holds.begins.task frame holds.mid.frames new.frames new can.0 begun driven)

  pub accepted_turns : HaveTurns (core_of s) (after (layout_in s) (state_of s) (Accept (op_of o))) (waiting_of s ++ r ∷ []) (core_of new)
  accepted_turns =
      subst (λ (x : State). HaveTurns (core_of s) (after (layout_in s) (state_of s) (Accept (op_of o))) (waiting_of s ++ r ∷ []) (core_of x)) (sym is_then)
      (starts_turns s o core right sized holds.begins.task frame holds.mid.frames new.frames new can.0 begun driven)
