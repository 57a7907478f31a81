use Rattle.std.proofs.Common.{◌+◌, ◌<◌, ◌++◌, ◌∷◌, [], ℕ, ap, length, refl, sym, subst, ◌∙◌, length-append, arith}
use Rattle.r6_waiters.specs.Line.{Line, entries_of}
use Rattle.r6_world.specs.Steps.{Through, Scans}
use Rattle.r6_world.specs.Changes.{Accept, after}
use Rattle.r6_core.specs.declared.queued.Queued.{Queued}
use Rattle.r6_world.specs.Values.{op_of}
use Rattle.r6_core.specs.Shards.{state_of, layout_in, core_of, waiting_of}
use Rattle.r6_core.specs.Order.{HaveTurns}
use Rattle.r6_core.specs.declared.state.State.{State}
use Rattle.r6_core.specs.Inside.{CanStart, IsCore, anything}
use Rattle.r6_core.proofs.Accepting.{request_of, may_accept}
use Rattle.r6_core.proofs.ReadStarts.{IsReadStart, own_op}
use Rattle.r6_core.proofs.Entering.{entering, entering_items, others_left, reads_core, reads_leads, reads_turns, entered, waiting_settled, waits_core, waits_turns, waits_leads}
use Rattle.r6_core.proofs.HeldFor.{entries_own, one_more_hold}
use Rattle.r6_core.proofs.Accepted.{accepted_core, accepted_leads, accepted_turns}
use Rattle.std.specs.Prelude.{drop, false, take}
use Rattle.r6_core.proofs.state.State.accept.Goals as goal

-- ---- what it starts with

pub room_for-requires-clause-request : goal.room_for-requires-clause-request
room_for-requires-clause-request c = own_op c.args.self.now.frames _ (request_of c.args.self.now c.args.op c.requires.right c.requires.sized c.args.self.now.accepted)

-- ---- its row is held

pub hold-requires-clause-sound : goal.hold-requires-clause-sound
hold-requires-clause-sound c = c.requires.core.settled.sound.frames

pub hold-requires-clause-rooms : goal.hold-requires-clause-rooms
hold-requires-clause-rooms c = c.requires.core.settled.sound.room.rooms

pub hold-requires-clause-request : goal.hold-requires-clause-request
hold-requires-clause-request c = request_of c.args.self.now c.args.op c.requires.right c.requires.sized c.args.self.now.accepted

pub hold-requires-clause-waiting : goal.hold-requires-clause-waiting
hold-requires-clause-waiting c =
    let s = c.args.self.now in
    entries_own s.frames (entries_of s.waiting) c.requires.core.settled.sound.requests.waiting

pub hold-requires-clause-can : goal.hold-requires-clause-can
hold-requires-clause-can c = (subst (CanStart c.args.self.now.frames (record { id = c.args.self.now.accepted; op = c.args.op; erred = false })) c.in-Ok-Frame.field-0-is c.in-Ok-Frame.ensures).1

pub hold-requires-clause-numbers : goal.hold-requires-clause-numbers
hold-requires-clause-numbers c =
    let s = c.args.self.now in
    let r = entered s c.args.op c.requires.core c.requires.right c.requires.sized in
    let items = ap length (entering_items s c.args.op c.requires.core c.requires.right c.requires.sized) in
    let many = length-append (waiting_of s) (r ∷ []) in
    one_more_hold (entering s c.args.op c.requires.core c.requires.right c.requires.sized) (waiting_settled s c.args.op c.requires.core c.requires.right c.requires.sized anything).sound
    (omega (arith, items, many))

pub returns-in-Ok-Frame-clause-core : goal.returns-in-Ok-Frame-clause-core
returns-in-Ok-Frame-clause-core c =
    accepted_core c.args.self.now c.args.op c.requires.core c.requires.right c.requires.sized c.in-Ok-Frame.frame
    (subst (CanStart c.args.self.now.frames (record { id = c.args.self.now.accepted; op = c.args.op; erred = false })) c.in-Ok-Frame.field-0-is c.in-Ok-Frame.ensures) c.hold.new.self c.hold.ensures

pub returns-in-Ok-Frame-clause-leads : goal.returns-in-Ok-Frame-clause-leads
returns-in-Ok-Frame-clause-leads c =
    accepted_leads c.args.self.now c.args.op c.requires.core c.requires.right c.requires.sized c.in-Ok-Frame.frame
    (subst (CanStart c.args.self.now.frames (record { id = c.args.self.now.accepted; op = c.args.op; erred = false })) c.in-Ok-Frame.field-0-is c.in-Ok-Frame.ensures) c.hold.new.self c.hold.ensures

pub returns-in-Ok-Frame-clause-turns : goal.returns-in-Ok-Frame-clause-turns
returns-in-Ok-Frame-clause-turns c =
    accepted_turns c.args.self.now c.args.op c.requires.core c.requires.right c.requires.sized c.in-Ok-Frame.frame
    (subst (CanStart c.args.self.now.frames (record { id = c.args.self.now.accepted; op = c.args.op; erred = false })) c.in-Ok-Frame.field-0-is c.in-Ok-Frame.ensures) c.hold.new.self c.hold.ensures

pub returns-in-Err-clause-core : goal.returns-in-Err-clause-core
returns-in-Err-clause-core c =
    let s = c.args.self.now in
    subst (λ (w : Line Queued). IsCore (record s { accepted = s.accepted + 1; unanswered = s.unanswered + 1; waiting = w })) (sym c.wait.ensures)
    (waits_core s c.args.op c.requires.core c.requires.right c.requires.sized c.in-Err.cause c.in-Err.ensures.1)

pub returns-in-Err-clause-leads : goal.returns-in-Err-clause-leads
returns-in-Err-clause-leads c =
    let s = c.args.self.now in
    let from = after (layout_in s) (state_of s) (Accept (op_of c.args.op)) in
    subst (λ (w : Line Queued). Through (layout_in s) s.frames.shard Scans from (state_of (record s { accepted = s.accepted + 1; unanswered = s.unanswered + 1; waiting = w }))) (sym c.wait.ensures)
    (waits_leads s c.args.op c.requires.core c.requires.right c.requires.sized c.in-Err.cause)

pub returns-in-Err-clause-turns : goal.returns-in-Err-clause-turns
returns-in-Err-clause-turns c =
    let s = c.args.self.now in
    let r = entered s c.args.op c.requires.core c.requires.right c.requires.sized in
    let from = after (layout_in s) (state_of s) (Accept (op_of c.args.op)) in
    subst (λ (w : Line Queued). HaveTurns (core_of s) from (waiting_of s ++ r ∷ []) (core_of (record s { accepted = s.accepted + 1; unanswered = s.unanswered + 1; waiting = w }))) (sym c.wait.ensures)
    (waits_turns s c.args.op c.requires.core c.requires.right c.requires.sized c.in-Err.cause c.in-Err.ensures.1)

-- ---- it is read directly

pub read-requires-clause-request : goal.read-requires-clause-request
read-requires-clause-request c = request_of c.args.self.now c.args.op c.requires.right c.requires.sized c.args.self.now.accepted

pub read-requires-clause-can : goal.read-requires-clause-can
read-requires-clause-can c = (subst (CanStart c.args.self.now.frames (record { id = c.args.self.now.accepted; op = c.args.op; erred = false })) c.in-Ok-Direct.field-0-is c.in-Ok-Direct.ensures).1

read_start : (c : goal.After-read) → IsReadStart (entering c.args.self.now c.args.op c.requires.core c.requires.right c.requires.sized) (waiting_of c.args.self.now)
    (entered c.args.self.now c.args.op c.requires.core c.requires.right c.requires.sized) [] c.args.self.now.waiting c.in-Ok-Direct.number c.read.new.self.frames
read_start c =
    let done = c.read.ensures in
    record { left = others_left c.args.self.now c.args.op c.requires.core c.requires.right c.requires.sized; items = entering_items c.args.self.now c.args.op c.requires.core c.requires.right c.requires.sized; unerred = refl; can = (subst (CanStart c.args.self.now.frames (record { id = c.args.self.now.accepted; op = c.args.op; erred = false })) c.in-Ok-Direct.field-0-is c.in-Ok-Direct.ensures).1; sound = done.sound; live = done.live; reads = done.reads; holds = done.holds; slots = done.slots; taken = done.taken; next = done.next }

pub returns-in-Ok-Direct-clause-core : goal.returns-in-Ok-Direct-clause-core
returns-in-Ok-Direct-clause-core c =
    subst IsCore (sym c.read.ensures.same) (reads_core c.args.self.now c.args.op c.requires.core c.requires.right c.requires.sized _ _ (read_start c))

pub returns-in-Ok-Direct-clause-leads : goal.returns-in-Ok-Direct-clause-leads
returns-in-Ok-Direct-clause-leads c =
    let s = c.args.self.now in
    subst (λ (x : State). Through (layout_in s) s.frames.shard Scans (after (layout_in s) (state_of s) (Accept (op_of c.args.op))) (state_of x)) (sym c.read.ensures.same)
    (reads_leads s c.args.op c.requires.core c.requires.right c.requires.sized _ _ (read_start c))

pub returns-in-Ok-Direct-clause-turns : goal.returns-in-Ok-Direct-clause-turns
returns-in-Ok-Direct-clause-turns c =
    let s = c.args.self.now in
    let r = entered s c.args.op c.requires.core c.requires.right c.requires.sized in
    subst (λ (x : State). HaveTurns (core_of s) (after (layout_in s) (state_of s) (Accept (op_of c.args.op))) (waiting_of s ++ r ∷ []) (core_of x)) (sym c.read.ensures.same)
    (reads_turns s c.args.op c.requires.core c.requires.right c.requires.sized _ _ (read_start c))

pub overflow_add-self : goal.overflow_add-self
overflow_add-self c = omega (arith, c.requires.core.settled.sound.accepted)

pub overflow_add-self-2 : goal.overflow_add-self-2
overflow_add-self-2 c = omega (arith, c.requires.core.settled.sound.requests.few)

pub room_for-requires-clause-sound : goal.room_for-requires-clause-sound
room_for-requires-clause-sound c = c.requires.core.settled.sound.frames

pub room_for-requires-clause-place : goal.room_for-requires-clause-place
room_for-requires-clause-place c = c.requires.place

pub read-requires-clause-place : goal.read-requires-clause-place
read-requires-clause-place c = c.requires.place

pub hold-requires-clause-place : goal.hold-requires-clause-place
hold-requires-clause-place c = c.requires.place

pub wait-requires-clause-cause : goal.wait-requires-clause-cause
wait-requires-clause-cause c = subst (λ (n : ℕ). c.in-Err.cause < n) (sym c.requires.core.settled.sound.room.causes) c.in-Err.ensures.0

pub returns-in-Ok-Direct-clause-id : goal.returns-in-Ok-Direct-clause-id
returns-in-Ok-Direct-clause-id c = refl

pub returns-in-Ok-Direct-clause-allowed : goal.returns-in-Ok-Direct-clause-allowed
returns-in-Ok-Direct-clause-allowed c = may_accept c.args.self.now c.args.op c.requires.right c.requires.sized

pub returns-in-Ok-Direct-clause-calls : goal.returns-in-Ok-Direct-clause-calls
returns-in-Ok-Direct-clause-calls c =
    let same = c.read.ensures.same in
    (ap (λ (x : State). x.calls) same, ap (λ (x : State). x.untold) same)

pub returns-in-Ok-Direct-clause-order : goal.returns-in-Ok-Direct-clause-order
returns-in-Ok-Direct-clause-order c =
    let same = c.read.ensures.same in
    (ap (λ (x : State). drop x.released x.replies.items) same, ap (λ (x : State). take x.released x.replies.items) same)

pub returns-in-Ok-Direct-clause-unanswered : goal.returns-in-Ok-Direct-clause-unanswered
returns-in-Ok-Direct-clause-unanswered c =
    let same = c.read.ensures.same in
    ap (λ (x : State). x.unanswered) same

pub returns-in-Ok-Frame-clause-id : goal.returns-in-Ok-Frame-clause-id
returns-in-Ok-Frame-clause-id c = refl

pub returns-in-Ok-Frame-clause-allowed : goal.returns-in-Ok-Frame-clause-allowed
returns-in-Ok-Frame-clause-allowed c = may_accept c.args.self.now c.args.op c.requires.right c.requires.sized

pub returns-in-Ok-Frame-clause-calls : goal.returns-in-Ok-Frame-clause-calls
returns-in-Ok-Frame-clause-calls c =
    let same = c.hold.ensures.rest ∙ ap (λ (x : State). record x { frames = c.hold.new.self.frames }) c.hold.ensures.begins.rest in
    (ap (λ (x : State). x.calls) same, ap (λ (x : State). x.untold) same)

pub returns-in-Ok-Frame-clause-order : goal.returns-in-Ok-Frame-clause-order
returns-in-Ok-Frame-clause-order c =
    let same = c.hold.ensures.rest ∙ ap (λ (x : State). record x { frames = c.hold.new.self.frames }) c.hold.ensures.begins.rest in
    (ap (λ (x : State). drop x.released x.replies.items) same, ap (λ (x : State). take x.released x.replies.items) same)

pub returns-in-Ok-Frame-clause-unanswered : goal.returns-in-Ok-Frame-clause-unanswered
returns-in-Ok-Frame-clause-unanswered c =
    let same = c.hold.ensures.rest ∙ ap (λ (x : State). record x { frames = c.hold.new.self.frames }) c.hold.ensures.begins.rest in
    ap (λ (x : State). x.unanswered) same

pub returns-in-Err-clause-id : goal.returns-in-Err-clause-id
returns-in-Err-clause-id c = refl

pub returns-in-Err-clause-allowed : goal.returns-in-Err-clause-allowed
returns-in-Err-clause-allowed c = may_accept c.args.self.now c.args.op c.requires.right c.requires.sized

pub returns-in-Err-clause-same : goal.returns-in-Err-clause-same
returns-in-Err-clause-same c = (refl, refl)

pub returns-in-Err-clause-calls : goal.returns-in-Err-clause-calls
returns-in-Err-clause-calls c = (refl, refl)

pub returns-in-Err-clause-order : goal.returns-in-Err-clause-order
returns-in-Err-clause-order c = (refl, refl)

pub returns-in-Err-clause-unanswered : goal.returns-in-Err-clause-unanswered
returns-in-Err-clause-unanswered c = refl

pub returns-in-Ok-Direct-clause-same : goal.returns-in-Ok-Direct-clause-same
returns-in-Ok-Direct-clause-same c = c.read.ensures.reads.same

pub returns-in-Ok-Frame-clause-same : goal.returns-in-Ok-Frame-clause-same
returns-in-Ok-Frame-clause-same c =
    let begun = c.hold.ensures.begins.begins.shard in
    let drives = c.hold.ensures.drives in
    (drives.0 ∙ begun.0, drives.1 ∙ begun.1)
