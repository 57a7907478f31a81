-- What the acceptance of a request does to the state.
use Rattle.std.proofs.Common.{◌≡◌, ◌≢◌, ◌==◌, if◌then◌else◌, ℕ, zero, suc, ◌+◌, ◌*◌, ◌<◌, ◌≤◌, Bool, true, false, List, [], ◌∷◌, ◌++◌, length, map, refl, sym, ap, subst, ◌∙◌, Option, Some, None, inl, inr, arith, append_assoc, length-append}
use Rattle.std.specs.Prelude.{nat_eq}
use Rattle.std.specs.List.{IsDistinct, AllByRecursion}
use Rattle.std.specs.Map.{keys_of}
use Rattle.std.proofs.Math.Nat.{lt_of_not-le, suc-mul, add-mul, mul_comm, mul-le-mul}
use Rattle.std.proofs.lemmas.Bool.{ne_eqb, cases_eq, cases_lt, eqb-true}
use Rattle.std.proofs.lemmas.List.{map-append, length-map, get_or_past}
use Rattle.r6_kernels.specs.Blocks.{IsBlock}
use Rattle.r6_layout.specs.Shape.{Shape, IsShape}
use Rattle.r6_layout.specs.Layout.{shard_of, row_of}
use Rattle.r6_world.specs.Tables.{put}
use Rattle.r6_world.specs.PlainArray.{block_of}
use Rattle.r6_world.specs.ShardStates.{Request, frames}
use Rattle.r6_world.specs.Changes.{Accept, Allowed, IsSized, after}
use Rattle.r6_world.specs.Geometries.{layout_of}
use Rattle.r6_world.specs.declared.values.Op.TheVariants as op
use Rattle.r6_frames.specs.declared.frames.Frames.{Frames}
use Rattle.r6_world.specs.declared.values.Op.{Op}
use Rattle.r6_core.specs.declared.queued.Queued.{Queued}
use Rattle.r6_frames.specs.declared.slots.Slot.{Slot}
use Rattle.r6_frames.specs.declared.frames.HeldRow.{HeldRow}
use Rattle.r6_frames.specs.declared.frames.FrameUse.{FrameUse}
use Rattle.r6_frames.specs.declared.frames.FrameUse.TheVariants as uses
use Rattle.r6_core.specs.declared.state.State.{State}
use Rattle.r6_world.specs.Values.{op_of, buffer_of}
use Rattle.r6_frames.specs.Views.{hold_at, held_requests, shard_with}
use Rattle.r6_frames.specs.Calls.{IsRequestOf}
use Rattle.r6_frames.specs.Owed.{owed, owed_in, most_owed}
use Rattle.r6_stripe.proofs.Bound.{to_come-le}
use Rattle.r6_core.specs.Shards.{state_of, layout_in, framed_requests, requests_of, waiting_request, replied_requests, core_of, requests_in, rest_of, waiting_of}
use Rattle.r6_world.specs.ShardStates.{limit}
use Rattle.r6_core.specs.Refusals.{most_unanswered, HasSubmitFault, HasNone, submit_faults}
use Rattle.r6_frames.specs.Directs.{read_requests}
use Rattle.r6_core.specs.Inside.{IsSound, IsSettled, AreRequests}
use Rattle.r6_core.specs.Limits.{count_unheld, most_tokens}
use Rattle.r6_frames.specs.Sound.{IsHeld}
use Rattle.r6_frames.specs.declared.successor.Successor.{Successor}
use Rattle.r6_frames.specs.declared.successor.Successor.TheVariants as successor
use Rattle.r6_frames.specs.Successors.{beside_in}
use Rattle.r6_layout.specs.Layout as layout
use Rattle.r6_stripe.specs.Holds.{Cell, cell_at, no_cell}
use Rattle.r6_stripe.specs.Holds.Standing.{Out}
use Rattle.r6_world.proofs.Geometries.{layouts}
use Rattle.r6_frames.proofs.Lists.{Entries, table, came, none_of, distinct_with, all_with}
use Rattle.r6_waiters.specs.Line.{Line, entries_of, with_entries}
use Rattle.r6_core.proofs.Lined.{values_both}
use Rattle.r6_core.specs.Inside.{IsQueuedOf}
use Rattle.r6_frames.proofs.Held.{all_append}

-- ---- a number above all is new

pub new_number : (n : ℕ) (es : Entries Request) → AllByRecursion (λ id. id < n) (keys_of es) → AllByRecursion (λ y. nat_eq n y ≡ false) (keys_of es)
new_number n [] h = tt
new_number n (e ∷ es) h = (ne_eqb n e.0 (λ same. let below = h.0 in omega arith), new_number n es h.1)

all_below_more : (n : ℕ) (ks : List ℕ) → AllByRecursion (λ id. id < n) ks → AllByRecursion (λ id. id < n + 1) ks
all_below_more n [] h = tt
all_below_more n (k ∷ ks) h = (let below = h.0 in omega arith, all_below_more n ks h.1)

-- ---- the requests when one more waits

-- the requests that don't wait
abbrev pub others : State → Entries Request
others s = framed_requests s.frames ++ replied_requests s.frames.saw_failed s.released s.replies.items

pub record IsAccepted (s : State) (r : Queued) (new : Entries Request) : Type 0 where
  pub now : table new ≡ put (table (requests_of s)) r.id (Some (waiting_request r).1)
  pub distinct : IsDistinct nat_eq (keys_of new)
  pub numbered : AllByRecursion (λ id. id < s.accepted + 1) (keys_of new)
  pub counted : length new ≡ length (requests_of s) + 1

pub accepted : (s : State) (r : Queued) → AreRequests s → r.id ≡ s.accepted → IsAccepted s r (map waiting_request (waiting_of s ++ r ∷ []) ++ others s)
accepted s r are is =
    let w = map waiting_request (waiting_of s) in
    let new : map waiting_request (waiting_of s ++ r ∷ []) ++ others s ≡ w ++ waiting_request r ∷ others s =
    ap (λ es. es ++ others s) (map-append waiting_request (waiting_of s) (r ∷ [])) ∙ (simp append_assoc) in
    let none : table (w ++ others s) r.id ≡ None = ap (table (w ++ others s)) is ∙ none_of s.accepted (w ++ others s) (new_number s.accepted (w ++ others s) are.numbered) in
    record {
      now = ap table new ∙ came w r.id (waiting_request r).1 (others s) none;
      distinct = subst (λ es. IsDistinct nat_eq (keys_of es)) (sym new) (distinct_with w r.id (waiting_request r).1 (others s) are.distinct none);
      numbered = subst (λ es. AllByRecursion (λ id. id < s.accepted + 1) (keys_of es)) (sym new) (all_with (λ id. id < s.accepted + 1) w r.id (waiting_request r).1 (others s) (omega (arith, is)) (all_below_more s.accepted (keys_of (w ++ others s)) are.numbered));
      counted = ap length new ∙ length-append w (waiting_request r ∷ others s) ∙ omega (arith, length-append w (others s));
    }

-- ---- a hold owes at most two commands a position, and one more of one that has a second device

-- one slot has it at most
abbrev slot_of : Successor → ℕ
slot_of successor.None = 0
slot_of (successor.Beside target) = target.slot
slot_of (successor.InPlace target) = target.slot
slot_of (successor.Dropped target) = target.slot

beside_slot : (t : Successor) (slot generation : ℕ) → beside_in t slot ≡ Some generation → slot_of t ≡ slot
beside_slot successor.None slot generation is = absurd (cc)
beside_slot (successor.Beside target) slot generation is = by_slot (target.slot == slot) refl is
  where
    by_slot : (b : Bool) → (target.slot == slot) ≡ b → (if b then Some target.generation else None) ≡ Some generation → target.slot ≡ slot
    by_slot true e is = eqb-true target.slot slot e
    by_slot false e is = absurd (cc)
beside_slot (successor.InPlace target) slot generation is = absurd (cc)
beside_slot (successor.Dropped target) slot generation is = absurd (cc)

second_at : (shape : Shape) (shard : ℕ) (slots : List Slot) (h : HeldRow) → IsShape shape → IsHeld shape shard slots h → (position : ℕ)
    → (cell_at h.hold.planned.hold.cells position).second ≢ Out → position ≡ layout.position_at shape h.row (slot_of h.successor)
second_at shape shard slots h lawful is position second =
    let cells = h.hold.planned.hold.cells in
    let inside = within-second cells position second in
    let low : position < shape.slots = omega (arith, inside, is.wide) in
    let back = (layouts shape lawful).back h.row position is.own.0 low in
    let has = (is.successor position low).beside second in
    sym back.1 ∙ ap (layout.position_at shape h.row) (sym (beside_slot h.successor (layout.slot_at shape h.row position) _ has))
  where
    within-second : (cells : List Cell) (at : ℕ) → (cell_at cells at).second ≢ Out → at < length cells
    within-second cells at ne = elim (cases_lt at (length cells)) [
      | inl lower ↦ lower
      | inr past ↦ absurd (ne (ap (λ (c : Cell). c.second) (get_or_past cells at no_cell past)))
    ]

pub owed_in-le : (shape : Shape) (shard : ℕ) (slots : List Slot) (held : List FrameUse) → IsShape shape → ((frame : ℕ) (h : HeldRow) → hold_at held frame ≡ Some h → IsHeld shape shard slots h)
    → owed_in held ≤ length held * (most_owed shape.slots)
owed_in-le shape shard slots [] lawful rows = omega arith
owed_in-le shape shard slots (uses.Free ∷ held) lawful rows =
    let rest = owed_in-le shape shard slots held lawful (λ frame h is. rows (suc frame) h is) in omega (arith, suc-mul (length held) (most_owed shape.slots), rest)
owed_in-le shape shard slots (uses.Returning r other ∷ held) lawful rows =
    let rest = owed_in-le shape shard slots held lawful (λ frame h is. rows (suc frame) h is) in omega (arith, suc-mul (length held) (most_owed shape.slots), rest)
owed_in-le shape shard slots (uses.Held h ∷ held) lawful rows =
    let rest = owed_in-le shape shard slots held lawful (λ frame h is. rows (suc frame) h is) in
    let row = rows zero h refl in
    let own = to_come-le h.hold.planned.hold.cells (layout.position_at shape h.row (slot_of h.successor)) (second_at shape shard slots h lawful row) in
    omega (arith, suc-mul (length held) (most_owed shape.slots), rest, own, row.wide)

-- with so few frames, and so few requests that wait or may wait again, so many commands may come at most
pub room_for_all : (slots waiting held owes : ℕ) → slots ≤ 32 → owes ≤ held * (most_owed slots) → held ≡ frames → waiting ≤ most_unanswered
    → owes + most_owed slots * waiting ≤ most_owed 32 * (most_unanswered + frames)
room_for_all slots waiting held owes few at_most_owes count all =
    let both : (held + waiting) * (most_owed slots) ≡ held * (most_owed slots) + waiting * (most_owed slots) = add-mul held waiting (most_owed slots) in
    let turned : most_owed slots * waiting ≡ waiting * (most_owed slots) = mul_comm (most_owed slots) waiting in
    let rows : held + waiting ≤ 320 = omega (arith, count, all) in
    let commands : most_owed slots ≤ 69 = omega arith in
    let at_most : (held + waiting) * (most_owed slots) ≤ 320 * 69 = mul-le-mul rows commands in
    omega (arith, both, turned, at_most, at_most_owes)

-- those that wait or may wait again are among the unanswered
parts_counted : (s : State) → IsSound s
    → length (waiting_of s) + (length (held_requests s.frames) + length (read_requests s.frames) + length (replied_requests s.frames.saw_failed s.released s.replies.items)) ≡ s.unanswered
parts_counted s sound =
    let w = length-map (waiting_of s) waiting_request in
    let all = length-append (map waiting_request (waiting_of s)) (others s) in
    let rest = length-append (framed_requests s.frames) (replied_requests s.frames.saw_failed s.released s.replies.items) in
    let framed = length-append (held_requests s.frames) (read_requests s.frames) in
    omega (arith, w, all, rest, framed, sound.requests.counted)

pub few_unheld : (s : State) → IsSound s → count_unheld s ≤ most_unanswered
few_unheld s sound = omega (arith, parts_counted s sound, sound.requests.few)

-- ---- the state with one more request

abbrev pub pushed : State → (cause : ℕ) → Queued → Line Queued
pushed s cause r = with_entries s.waiting (entries_of s.waiting ++ (cause, r) ∷ [])

abbrev pub with_request : State → (cause : ℕ) → Queued → State
with_request s cause r = record s { accepted = s.accepted + 1; unanswered = s.unanswered + 1; waiting = pushed s cause r }

pub pushed_requests : (s : State) (cause : ℕ) (r : Queued) → requests_in (pushed s cause r) ≡ waiting_of s ++ r ∷ []
pushed_requests s cause r = values_both (entries_of s.waiting) ((cause, r) ∷ [])

-- a request with no fault is one of the shard's
pub request_of : (s : State) (o : Op) → HasNone (HasSubmitFault (core_of s) o) submit_faults → IsBlock (length (buffer_of o)) (buffer_of o) → (id : ℕ)
    → IsRequestOf s.frames (record { id = id; op = o })
request_of s o right sized id =
    record {
      there = lt_of_not-le right.0;
      own = elim (cases_eq (shard_of s.frames.geometry (row_of s.frames.geometry (block_of (op_of o)))) s.frames.shard) [ inl e ↦ e | inr ne ↦ absurd (right.1.0 ne) ];
      sized = elim (cases_eq (length (buffer_of o)) s.frames.geometry.block) [ inl e ↦ record { length_is = e; bytes = sized.bytes } | inr ne ↦ absurd (right.1.1.0 ne) ];
    }

pub accepted_core : (s : State) (cause : ℕ) (o : Op) → IsSettled s → HasNone (HasSubmitFault (core_of s) o) submit_faults → IsBlock (length (buffer_of o)) (buffer_of o)
    → IsSettled (with_request s cause (record { id = s.accepted; op = o; erred = false }))
accepted_core s cause o core right sized =
    let sound = core.sound in
    let r : Queued = record { id = s.accepted; op = o; erred = false } in
    let back : waiting_of s ++ r ∷ [] ≡ requests_in (pushed s cause r) = sym (pushed_requests s cause r) in
    let more = accepted s r sound.requests refl in
    let tokens : s.frames.commands.next < limit = lt_of_not-le (λ le. right.1.1.1.1.0 (inl le)) in
    let fresh : s.accepted < limit = lt_of_not-le (λ le. right.1.1.1.1.0 (inr le)) in
    let few : s.unanswered < most_unanswered = lt_of_not-le right.1.1.1.1.1.0 in
    let longer : length (waiting_of s ++ r ∷ []) ≡ length (waiting_of s) + 1 = length-append (waiting_of s) (r ∷ []) in
    let owes = owed_in-le s.frames.geometry s.frames.shard s.frames.slots s.frames.uses sound.frames.shape sound.frames.frames.rows in
    let many : length (waiting_of s) + 1 + length (read_requests s.frames) ≤ most_unanswered = omega (arith, parts_counted s sound, few) in
    let room = room_for_all s.frames.geometry.slots (length (waiting_of s) + 1 + length (read_requests s.frames)) (length s.frames.uses) (owed s.frames) sound.frames.shape.slots_allowed.1 owes sound.frames.frames.count many in
    record {
      sound = record {
        frames = sound.frames;
        requests = record {
          distinct = subst (λ rs. IsDistinct nat_eq (keys_of (map waiting_request rs ++ others s))) back more.distinct;
          numbered = subst (λ rs. AllByRecursion (λ id. id < s.accepted + 1) (keys_of (map waiting_request rs ++ others s))) back more.numbered;
          counted = subst (λ rs. length (map waiting_request rs ++ others s) ≡ s.unanswered + 1) back (more.counted ∙ ap (λ n. n + 1) sound.requests.counted);
          few = omega (arith, few);
          waiting = subst (AllByRecursion (IsQueuedOf s.frames)) back (all_append (IsQueuedOf s.frames) (waiting_of s) (r ∷ []) sound.requests.waiting (record { request = request_of s o right sized s.accepted; read = λ e. absurd (cc e) }, tt));
          sized = sound.requests.sized;
          marked = sound.requests.marked;
        };
        room = record {
          waiting = sound.room.waiting;
          causes = sound.room.causes;
          replies = sound.room.replies;
          calls = sound.room.calls;
          few_calls = sound.room.few_calls;
          rooms = sound.room.rooms;
          space = sound.room.space;
        };
        tokens = subst (λ n. s.frames.commands.next + owed s.frames + most_owed s.frames.geometry.slots * (n + length (read_requests s.frames)) ≤ most_tokens) (sym longer ∙ ap length back) (omega (arith, room, tokens));
        accepted = omega (arith, fresh);
        counted = sound.counted;
        next_rows = sound.next_rows;
      };
      reading = core.reading;
      rested = core.rested;
    }

pub accepted_state : (s : State) (cause : ℕ) (o : Op) → IsSound s
    → state_of (with_request s cause (record { id = s.accepted; op = o; erred = false })) ≡ after (layout_in s) (state_of s) (Accept (op_of o))
accepted_state s cause o sound =
    ap (λ rs. shard_with (record (rest_of s) { accepted = s.accepted + 1; request = table (map waiting_request rs ++ others s) }) s.frames) (pushed_requests s cause (record { id = s.accepted; op = o; erred = false }))
    ∙ (let more = accepted s (record { id = s.accepted; op = o; erred = false }) sound.requests refl in
    ap (λ (requests : ℕ → Option Request). record (state_of s) { accepted = s.accepted + 1; request = requests }) more.now)

-- so that it may be accepted
pub may_accept : (s : State) (o : Op) → HasNone (HasSubmitFault (core_of s) o) submit_faults → IsBlock (length (buffer_of o)) (buffer_of o)
    → Allowed (layout_in s) s.frames.shard (state_of s) (Accept (op_of o))
may_accept s o right sized =
    let r = request_of s o right sized s.accepted in
    (r.there, sized_op s.frames o r.sized, r.own, not_true s.frames.saw_failed right.1.1.1.0)
  where
    sized_op : (fs : Frames) (o : Op) → IsBlock fs.geometry.block (buffer_of o) → IsSized (layout_of fs.geometry) (op_of o)
    sized_op fs (op.Read block buffer) is = record {}
    sized_op fs (op.Write block buffer) is = is

    not_true : (b : Bool) → (b ≡ true → ⊥) → b ≡ false
    not_true true never = absurd (never refl)
    not_true false never = refl
