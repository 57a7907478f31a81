-- What taking a reply does to the state.
use Rattle.r6_frames.specs.Directs.{is_stopped, read_requests, stage_of}
use Rattle.r6_frames.specs.declared.frames.Frames.{Frames}
use Rattle.std.proofs.Common.{◌≡◌, ◌≢◌, ◌⊎◌, inl, inr, ℕ, zero, suc, ◌+◌, ◌-◌, ◌<◌, Bool, true, false, List, [], ◌∷◌, ◌++◌, map, take, drop, refl, sym, ap, subst, ◌∙◌, Option, Some, None, length, arith, append_assoc, length-append}
use Rattle.std.specs.Prelude.{nat_eq, nat_lt, slice_get}
use Rattle.std.specs.List.{IsDistinct, AllByRecursion}
use Rattle.std.proofs.lemmas.Bool.{ltb-true, ltb-false}
use Rattle.std.specs.Map.{keys_of}
use Rattle.circular_buffer.specs.Buffer.{Buffer, buffer}
use Rattle.r6_world.specs.Tables.{put}
use Rattle.r6_world.specs.PlainArray.{Op, Reply}
use Rattle.r6_world.specs.ShardStates as shards
use Rattle.r6_world.specs.ShardStates.{Stage, Waiting, Erred, Held, Finished, Released, Reading}
use Rattle.r6_world.specs.Steps.{Take_reply, No_reply}
use Rattle.r6_world.specs.declared.values.Request.{Request}
use Rattle.r6_core.specs.declared.state.State.{State}
use Rattle.r6_world.specs.declared.values.Op.{Op as Entered}
use Rattle.r6_world.specs.declared.values.Op.TheVariants as op
use Rattle.r6_world.specs.Values.{op_of, reply_of}
use Rattle.r6_frames.specs.Views.{held_requests}
use Rattle.r6_frames.specs.Calls.{HasOneBlock}
use Rattle.r6_core.specs.declared.queued.Queued.{Queued}
use Rattle.r6_core.proofs.Unerred.{waits_so}
use Rattle.r6_core.specs.Shards.{Step, answer_of, state_of, requests_of, waiting_request, finished_request, released_request, replied_requests, core_of, framed_requests, waiting_of}
use Rattle.r6_core.specs.Order.{HasNoReply, BringsBack, TakesFirst, reply_to}
use Rattle.r6_core.specs.Inside.{IsSettled, reply_for}
use Rattle.r6_frames.proofs.Lists.{Entries, table, gone, own, apart, all_parts, distinct_without, looked_up}
use Rattle.r6_core.proofs.HeldRequests.{all_held, all_read}
use Rattle.r6_frames.proofs.Held.{all_append}

-- the first of a buffer goes
pub none_popped : {X : Type 0} (items : List X) → slice_get items 0 ≡ None → (items ≡ []) × (drop 1 items ≡ items)
none_popped [] e = (refl, refl)
none_popped (x ∷ xs) e = absurd (cc)

pub some_popped : {X : Type 0} (items : List X) (x : X) → slice_get items 0 ≡ Some x → items ≡ x ∷ drop 1 items
some_popped [] x e = absurd (cc)
some_popped (y ∷ ys) x e = let same : y ≡ x = cc in ap (λ z. z ∷ ys) same

-- who isn't released
abbrev IsUnreleased : Stage → Type 0
IsUnreleased Waiting = Unit {0}
IsUnreleased Erred = Unit {0}
IsUnreleased (Held frame) = Unit {0}
IsUnreleased (Reading token) = Unit {0}
IsUnreleased (Finished reply) = Unit {0}
IsUnreleased (Released reply) = ⊥

abbrev AllUnreleased : Entries shards.Request → Type 0
AllUnreleased es = AllByRecursion (λ e. IsUnreleased e.1.stage) es

waiting_unreleased : (rs : List Queued) → AllUnreleased (map waiting_request rs)
waiting_unreleased [] = tt
waiting_unreleased (r ∷ rs) = (waits_so IsUnreleased tt tt r.erred, waiting_unreleased rs)

finished_unreleased : (rs : List Request) → AllUnreleased (map (finished_request false) rs)
finished_unreleased [] = tt
finished_unreleased (r ∷ rs) = (tt, finished_unreleased rs)

-- once the failure was seen, what is finished is released
ended_unreleased : (saw_failed : Bool) (rs : List Request) → (saw_failed ≡ true → rs ≡ []) → AllUnreleased (map (finished_request saw_failed) rs)
ended_unreleased false rs none = finished_unreleased rs
ended_unreleased true rs none = subst (λ (rs : List Request). AllUnreleased (map (finished_request true) rs)) (sym (none refl)) tt

read_unreleased : (stopped : Bool) (token : ℕ) → IsUnreleased (stage_of stopped token)
read_unreleased true token = tt
read_unreleased false token = tt

framed_unreleased : (fs : Frames) → AllUnreleased (framed_requests fs)
framed_unreleased fs =
    all_append (λ e. IsUnreleased e.1.stage) (held_requests fs) (read_requests fs) (all_held (λ e. IsUnreleased e.1.stage) (λ f r. tt) 0 fs.uses)
    (all_read (λ e. IsUnreleased e.1.stage) fs.slots (λ r. read_unreleased (is_stopped fs.slots r) r.token) fs.directs)

none_released : (s : State) → HasNoReply (core_of s) → (id : ℕ) (op : Op) (reply : Reply) → table (requests_of s) id ≢ Some (record { op = op; stage = Released reply })
none_released s empty id op reply is =
    let P = λ (r : shards.Request). IsUnreleased r.stage in
    let finished = drop s.released s.replies.items in
    let es = λ (released : List Request). map waiting_request (waiting_of s) ++ (framed_requests s.frames ++ (map released_request released ++ map (finished_request s.frames.saw_failed) finished)) in
    let all : AllUnreleased (es []) =
    all_append (λ e. P e.1) _ _ (waiting_unreleased (waiting_of s))
    (all_append (λ e. P e.1) (framed_requests s.frames) _ (framed_unreleased s.frames) (ended_unreleased s.frames.saw_failed finished empty.1)) in
    looked_up P id (es []) _ all (ap (λ rs. table (es rs) id) (sym empty.0) ∙ is)

-- no reply is ready
pub no_reply : (s : State) → HasNoReply (core_of s) → Step (core_of s) No_reply (core_of s)
no_reply s none = ((refl, refl), (none_released s none, refl))

-- a buffer from which nothing was popped
pub unpopped : {X : Type 0} (old new : Buffer X) → slice_get old.items 0 ≡ None → new ≡ buffer (drop 1 old.items) old.capacity → new ≡ old
unpopped old new none popped = let empty = none_popped old.items none in popped ∙ ap (λ items. buffer items old.capacity) empty.1

-- ---- what is handed over

reply_as : (o : Entered) → reply_of (reply_to o) ≡ answer_of o
reply_as (op.Read block buffer) = refl
reply_as (op.Write block buffer) = refl

brings : (is_released : Bool) (o : Entered) (stage : Stage) → BringsBack (Some (record { op = op_of o; stage = stage })) (reply_for is_released o)
brings true (op.Read block buffer) stage = (block, refl)
brings true (op.Write block buffer) stage = (block, refl)
brings false (op.Read block buffer) stage = λ other new_data e. absurd (cc)
brings false (op.Write block buffer) stage = λ other new_data e. let same : buffer ≡ new_data = cc in same

-- ---- the first of those with a reply is taken

-- the mark when the first is taken
fewer : (count : ℕ) → suc count - 1 ≡ count
fewer count = omega arith

abbrev answered : (is_released : Bool) → Request → shards.Request
answered is_released r = record { op = op_of r.op; stage = Released (reply_of (reply_for is_released r.op)) }

-- what the mark says of the first
pub record IsMarked (is_released : Bool) (count : ℕ) : Type 0 where
  pub some : is_released ≡ true → 0 < count
  pub none : is_released ≡ false → count ≡ 0

pub marked_by : (count : ℕ) → IsMarked (nat_lt 0 count) count
marked_by count = record { some = ltb-true 0 count; none = λ e. let le = ltb-false 0 count e in omega (arith, le) }

-- it is released, or the array has failed
first_replied : (seen is_released : Bool) (count : ℕ) (r : Request) (rest : List Request) → IsMarked is_released count → (is_released ≡ false → seen ≡ true)
    → replied_requests seen count (r ∷ rest) ≡ (r.id, answered is_released r) ∷ replied_requests seen (count - 1) rest
first_replied seen true zero r rest is failed = absurd (let some = is.some refl in omega (arith, some))
first_replied seen false zero r rest is failed = ap (λ b. finished_request b r ∷ map (finished_request seen) rest) (failed refl)
first_replied seen false (suc count) r rest is failed = absurd (let none = is.none refl in omega (arith, none))
first_replied seen true (suc count) r rest is failed =
    ap (λ reply. (r.id, record { op = op_of r.op; stage = Released reply }) ∷ replied_requests seen count rest) (sym (reply_as r.op))
    ∙ ap (λ n. (r.id, answered true r) ∷ replied_requests seen n rest) (sym (fewer count))

first_order : (is_released : Bool) (count : ℕ) (r : Request) (rest : List Request) → IsMarked is_released count
    → ((take count (r ∷ rest) ≡ r ∷ take (count - 1) rest) × (drop (count - 1) rest ≡ drop count (r ∷ rest)) × (is_released ≡ true))
    ⊎ ((take count (r ∷ rest) ≡ []) × (take (count - 1) rest ≡ take count (r ∷ rest)) × (drop count (r ∷ rest) ≡ r ∷ drop (count - 1) rest) × (is_released ≡ false))
first_order true zero r rest is = absurd (let some = is.some refl in omega (arith, some))
first_order false zero r rest is = inr (refl, refl, refl, refl)
first_order false (suc count) r rest is = absurd (let none = is.none refl in omega (arith, none))
first_order true (suc count) r rest is = inl (ap (λ n. r ∷ take n rest) (sym (fewer count)), ap (λ n. drop n rest) (fewer count), refl)

record IsTaken (s : State) (is_released : Bool) (r : Request) (new : Entries shards.Request) : Type 1 where
  pub was : table (requests_of s) r.id ≡ Some (answered is_released r)
  pub now : table new ≡ put (table (requests_of s)) r.id None
  pub distinct : IsDistinct nat_eq (keys_of new)
  pub count : length new + 1 ≡ length (requests_of s)
  pub keeps : (P : ℕ → Type 0) → AllByRecursion P (keys_of (requests_of s)) → AllByRecursion P (keys_of new)

module _ (s : State) (is_released : Bool) (r : Request) (rest : Buffer Request) (core : IsSettled s) (is : s.replies.items ≡ r ∷ rest.items)
    (marked : IsMarked is_released s.released) (failed : is_released ≡ false → s.frames.saw_failed ≡ true) where
  abbrev pub without_first : State
  without_first = record s { replies = rest; released = s.released - 1; unanswered = s.unanswered - 1 }

  taken : IsTaken s is_released r (requests_of without_first)
  taken =
      let before = map waiting_request (waiting_of s) ++ framed_requests s.frames in
      let behind = replied_requests s.frames.saw_failed (s.released - 1) rest.items in
      let x = answered is_released r in
      let es : requests_of s ≡ before ++ (r.id, x) ∷ behind =
      ap (λ rs. map waiting_request (waiting_of s) ++ (framed_requests s.frames ++ replied_requests s.frames.saw_failed s.released rs)) is
      ∙ ap (λ rs. map waiting_request (waiting_of s) ++ (framed_requests s.frames ++ rs)) (first_replied s.frames.saw_failed is_released s.released r rest.items marked failed)
      ∙ sym (append_assoc (map waiting_request (waiting_of s)) (framed_requests s.frames) ((r.id, x) ∷ behind)) in
      let fewer : requests_of without_first ≡ before ++ behind = sym (append_assoc (map waiting_request (waiting_of s)) (framed_requests s.frames) behind) in
      let h = subst (λ xs. IsDistinct nat_eq (keys_of xs)) es core.sound.requests.distinct in
      record {
        was = ap (λ xs. table xs r.id) es ∙ own before r.id x behind (apart before r.id x behind h);
        now = ap (λ xs. table xs) fewer ∙ gone before r.id x behind h ∙ ap (λ xs. put (table xs) r.id None) (sym es);
        distinct = subst (λ xs. IsDistinct nat_eq (keys_of xs)) (sym fewer) (distinct_without before r.id x behind h);
        count = let from = ap length es ∙ length-append before ((r.id, x) ∷ behind) in let to = ap length fewer ∙ length-append before behind in omega (arith, from, to);
        keeps = λ P all. subst (λ xs. AllByRecursion P (keys_of xs)) (sym fewer) (all_parts P before r.id x behind (subst (λ xs. AllByRecursion P (keys_of xs)) es all)).1;
      }

  pub reply_brings : BringsBack (table (requests_of s) r.id) (reply_for is_released r.op)
  reply_brings = subst (λ (x : Option shards.Request). BringsBack x (reply_for is_released r.op)) (sym taken.was) (brings is_released r.op (Released (reply_of (reply_for is_released r.op))))

  pub reply_step : Step (core_of s) (Take_reply r.id (reply_of (reply_for is_released r.op))) (core_of without_first)
  reply_step = ((refl, refl), (op_of r.op, taken.was, ap (λ requests. record (state_of s) { request = requests }) taken.now))

  pub reply_first : TakesFirst (core_of s) r.id (reply_for is_released r.op) (core_of without_first)
  reply_first =
      let as_reply = λ (b : Bool). reply_for b r.op in (
        r,
        refl,
        elim (first_order is_released s.released r rest.items marked) [
          | inl e ↦ inl (ap (take s.released) is ∙ e.0, e.1 ∙ ap (drop s.released) (sym is), ap as_reply e.2)
          | inr e ↦ inr (ap (take s.released) is ∙ e.0, e.1 ∙ ap (take s.released) (sym is), failed e.3, ap (drop s.released) is ∙ e.2, ap as_reply e.3)
        ],
      )

  -- each reply is one block
  sizes : AllByRecursion (HasOneBlock s.frames.geometry) (r ∷ rest.items)
  sizes = subst (AllByRecursion (HasOneBlock s.frames.geometry)) is core.sound.requests.sized

  pub reply_core : rest.capacity ≡ s.replies.capacity → IsSettled without_first
  reply_core capacity =
      let sound = core.sound in
      record {
        sound = record {
          frames = sound.frames;
          requests = record {
            distinct = taken.distinct;
            numbered = taken.keeps (λ id. id < s.accepted) sound.requests.numbered;
            counted = let one = taken.count in omega (arith, one, sound.requests.counted);
            few = omega (arith, sound.requests.few);
            waiting = sound.requests.waiting;
            sized = sizes.1;
            marked = let one = ap length is in omega (arith, one, sound.requests.marked);
          };
          room = record {
            waiting = sound.room.waiting;
            causes = sound.room.causes;
            replies = capacity ∙ sound.room.replies;
            calls = sound.room.calls;
            few_calls = sound.room.few_calls;
            rooms = sound.room.rooms;
            space = sound.room.space;
          };
          tokens = sound.tokens;
          accepted = sound.accepted;
          counted = sound.counted;
          next_rows = sound.next_rows;
        };
        reading = core.reading;
        rested = core.rested;
      }
