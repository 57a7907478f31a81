-- What waits has its turns: one after the other starts, and what was passed over can't start behind it.
use Rattle.std.proofs.Common.{◌≡◌, ◌≢◌, ℕ, ◌+◌, ◌*◌, ◌<◌, ◌≤◌, Bool, true, false, List, [], ◌∷◌, ◌++◌, length, map, refl, sym, ap, subst, ◌∙◌, Some, None, IfSome, inl, inr, arith, append_assoc, append-nil}
use Rattle.std.specs.Prelude.{nat_eq, ◌==◌, if◌then◌else◌}
use Rattle.std.specs.List.{AllByRecursion, IsDistinct}
use Rattle.std.specs.Map.{keys_of}
use Rattle.std.proofs.lemmas.Bool.{cases_Bool, ne_eqb}
use Rattle.r6_layout.specs.Shape.{Shape}
use Rattle.r6_world.specs.Layouts.{Layout}
use Rattle.r6_world.specs.Geometries.{layout_of}
use Rattle.r6_world.specs.ShardStates as shards
use Rattle.r6_world.specs.ShardStates.{Shard, IsLive}
use Rattle.r6_world.specs.Steps.{Through, Scans}
use Rattle.r6_core.specs.declared.queued.Queued.{Queued}
use Rattle.r6_frames.specs.declared.frames.Frames.{Frames}
use Rattle.r6_frames.specs.Directs.{read_requests}
use Rattle.r6_frames.specs.Owed.{owed, most_owed}
use Rattle.r6_frames.specs.Views.{AreLive, shard_with}
use Rattle.r6_waiters.specs.Line.{Entries, Line, all_moved, capacity_of, causes_of, entries_of, gathered, oldest_moved, oldest_of, with_entries, without_oldest}
use Rattle.r6_core.specs.declared.scan.Room.{Room}
use Rattle.r6_core.specs.declared.scan.Room.TheVariants as room
use Rattle.r6_core.specs.declared.state.State.{State}
use Rattle.r6_core.specs.Shards.{framed_requests, layout_in, replied_requests, requests_in, rest_of, state_of, table, waiting_of, waiting_request}
use Rattle.r6_core.specs.Batches.{block_written, but, entries_left, is_wanted}
use Rattle.r6_core.specs.Order.{Starts, InTurn, IsWaiting, MustWait}
use Rattle.r6_core.specs.Turns.{wanted_with}
use Rattle.r6_core.specs.Inside.{CanStart, IsCore, IsFirstToStart, IsLike, IsSettled, IsSound, LeavesLine, OnlyStarts, StartsWith, TakesRoom, WaitingHaveTurns, Waits, WaitsFor, anything, row_for, IsQueuedOf}
use Rattle.r6_core.specs.Limits.{most_tokens}
use Rattle.r6_core.specs.Together.{AreKnownFirst}
use Rattle.r6_core.proofs.AtRest.{must_wait}
use Rattle.r6_core.proofs.Batched.{AreLeft, IsNextLeft, all_are_left, left_then, line_left, next_left, none_left, starts_behind, turns_left}
use Rattle.r6_core.proofs.InTurns.{HasJoined, InTurnBefore, turn_of, turns_both, turns_joined, turns_of_all, turns_stopped, turns_waited}
use Rattle.r6_core.proofs.Joined.{all_left, entry_goes, entry_stays}
use Rattle.r6_core.proofs.Lined.{all_first, all_for, all_then, all_values, none_of, split_moved, split_oldest, split_without, values, values_all_moved, values_both, values_gathered, values_moved, values_split}
use Rattle.r6_core.proofs.Passed.{all-middle, all_last}
use Rattle.r6_core.proofs.Throughs.{through_both, through_in, through_none}
use Rattle.r6_core.proofs.Together.{each_waits}
use Rattle.r6_core.proofs.Waking.{CannotStart, all_cannot, all_wait_still, cannot_begin, frees_kept, full_begun, full_same, holders_begun, holders_same}
use Rattle.r6_frames.proofs.Held.{all_append}

-- the others with a reply, and those of frames
abbrev the_others : State → List (ℕ × shards.Request)
the_others s = framed_requests s.frames ++ replied_requests s.frames.saw_failed s.released s.replies.items

-- ---- turns

-- those that wait in the code do in the shard
pub waiting_wait : (s : State) → IsSound s → AllByRecursion (IsWaiting (state_of s)) (waiting_of s)
waiting_wait s sound = each_waits (waiting_of s) (the_others s) sound.requests.distinct

-- and must if they can't start in the frames
pub all_must : (s : State) (rs : List Queued) → IsSettled s → AllByRecursion (CannotStart s.frames) rs → AllByRecursion (MustWait (layout_in s) (state_of s)) rs
all_must s rs settled cannot = all_then (CannotStart s.frames) (MustWait (layout_in s) (state_of s)) rs (λ r one. must_wait s settled r one) cannot

-- none starts
pub all_wait : (s : State) → IsSettled s → AllByRecursion (CannotStart s.frames) (waiting_of s) → WaitingHaveTurns s s
all_wait s settled cannot =
    let wait = waiting_wait s settled.sound in (
      wait,
      turns_of_all (layout_in s) s.frames.shard (state_of s) (waiting_of s) (state_of s) (waiting_of s)
          (turns_waited (layout_in s) s.frames.shard [] (state_of s) (waiting_of s) wait (all_must s (waiting_of s) settled cannot)),
    )

-- in a shard that has stopped none starts
pub all_stopped : (l : Layout) (n : ℕ) (s : Shard) (rs : List Queued) → AllByRecursion (IsWaiting s) rs → (IsLive l s → ⊥) → InTurn l n s rs s rs
all_stopped l n s rs wait stopped = turns_of_all l n s rs s rs (turns_stopped l n [] s rs wait stopped)

-- over a shape and a shard that are known to be others
pub turns_in : (g g' : Shape) (n n' : ℕ) (old new : Shard) (requests waiting : List Queued) → g' ≡ g → n' ≡ n
    → InTurn (layout_of g') n' old requests new waiting → InTurn (layout_of g) n old requests new waiting
turns_in g g' n n' old new requests waiting same_shape same_shard turns =
    subst (λ m. InTurn (layout_of g) m old requests new waiting) same_shard (subst (λ x. InTurn (layout_of x) n' old requests new waiting) same_shape turns)

before_in : (g g' : Shape) (n n' : ℕ) (behind : List Queued) (old new : Shard) (requests waiting : List Queued) → g' ≡ g → n' ≡ n
    → InTurnBefore (layout_of g') n' behind old requests new waiting → InTurnBefore (layout_of g) n behind old requests new waiting
before_in g g' n n' behind old new requests waiting same_shape same_shard turns =
    subst (λ m. InTurnBefore (layout_of g) m behind old requests new waiting) same_shard (subst (λ x. InTurnBefore (layout_of x) n' behind old requests new waiting) same_shape turns)

-- ---- who waits for something else waits still

-- the state with another line of the same requests
abbrev pub with_line : State → Line Queued → State
with_line s line = record s { waiting = line }

pub record IsSameLine (s : State) (line : Line Queued) : Type 0 where
  pub requests : requests_in line ≡ waiting_of s
  pub capacity : capacity_of line ≡ capacity_of s.waiting
  pub causes : causes_of line ≡ causes_of s.waiting

pub same_state : (s : State) (line : Line Queued) → requests_in line ≡ waiting_of s → state_of (with_line s line) ≡ state_of s
same_state s line same =
    ap (λ (rs : List Queued). shard_with (record (rest_of s) { request = table (map waiting_request rs ++ the_others s) }) s.frames) same

pub same_settled : (s : State) (line : Line Queued) → IsSameLine s line → IsSettled s → IsSettled (with_line s line)
same_settled s line is settled =
    let sound = settled.sound in
    let back : waiting_of s ≡ requests_in line = sym is.requests in
    record {
      sound = record {
        frames = sound.frames;
        requests = record {
          distinct = subst (λ (rs : List Queued). IsDistinct nat_eq (keys_of (map waiting_request rs ++ the_others s))) back sound.requests.distinct;
          numbered = subst (λ (rs : List Queued). AllByRecursion (λ id. id < s.accepted) (keys_of (map waiting_request rs ++ the_others s))) back sound.requests.numbered;
          counted = subst (λ (rs : List Queued). length (map waiting_request rs ++ the_others s) ≡ s.unanswered) back sound.requests.counted;
          few = sound.requests.few;
          waiting = subst (AllByRecursion (IsQueuedOf s.frames)) back sound.requests.waiting;
          sized = sound.requests.sized;
          marked = sound.requests.marked;
        };
        room = record {
          waiting = is.capacity ∙ sound.room.waiting;
          causes = is.causes ∙ sound.room.causes;
          replies = sound.room.replies;
          calls = sound.room.calls;
          few_calls = sound.room.few_calls;
          rooms = sound.room.rooms;
          space = sound.room.space;
        };
        tokens = subst (λ (rs : List Queued). s.frames.commands.next + owed s.frames + most_owed s.frames.geometry.slots * (length rs + length (read_requests s.frames)) ≤ most_tokens) back sound.tokens;
        accepted = sound.accepted;
        counted = sound.counted;
        next_rows = sound.next_rows;
      };
      reading = settled.reading;
      rested = λ live frame. settled.rested live frame;
    }

pub moved_oldest : (s : State) (from to : ℕ) → IsSameLine s (with_entries s.waiting (oldest_moved from to (entries_of s.waiting)))
moved_oldest s from to = record { requests = values_moved from to (entries_of s.waiting); capacity = refl; causes = refl }

pub moved_all : (s : State) (from to : ℕ) → IsSameLine s (with_entries s.waiting (all_moved from to (entries_of s.waiting)))
moved_all s from to = record { requests = values_all_moved from to (entries_of s.waiting); capacity = refl; causes = refl }

pub all_gathered : (s : State) (cause : ℕ) → IsSameLine s (with_entries s.waiting (gathered cause (entries_of s.waiting)))
all_gathered s cause = record { requests = values_gathered cause (entries_of s.waiting); capacity = refl; causes = refl }

-- ---- what starting does

-- from one state on these have had their turns, with those behind them still to come, and those that wait still are
-- the first that wait
pub record HaveHad (old : State) (had behind : List Queued) (new : State) (waiting : List Queued) : Type 0 where
  pub wait : AllByRecursion (IsWaiting (state_of old)) (waiting_of old)
  pub settled : IsSettled new
  pub leads : Through (layout_in old) old.frames.shard Scans (state_of old) (state_of new)
  pub only : OnlyStarts old new
  pub turns : InTurnBefore (layout_in old) old.frames.shard behind (state_of old) had (state_of new) waiting

pub none_had : (s : State) → IsSettled s → (behind : List Queued) → HaveHad s [] behind s []
none_had s settled behind =
    record {
      wait = waiting_wait s settled.sound;
      settled = settled;
      leads = through_none (layout_in s) s.frames.shard Scans (state_of s) (state_of s) refl;
      only = ((refl, refl), (refl, refl), ((refl, refl), refl));
      turns = (refl, refl);
    }

-- the line may be another
pub had_line : (old : State) (had behind : List Queued) (new : State) (waiting : List Queued) (line : Line Queued) → HaveHad old had behind new waiting → IsSameLine new line
    → HaveHad old had behind (with_line new line) waiting
had_line old had behind new waiting line is same =
    let back = sym (same_state new line same.requests) in
    let only = is.only in
    record {
      wait = is.wait;
      settled = same_settled new line same is.settled;
      leads = subst (λ (x : Shard). Through (layout_in old) old.frames.shard Scans (state_of old) x) back is.leads;
      only = only;
      turns = subst (λ (x : Shard). InTurnBefore (layout_in old) old.frames.shard behind (state_of old) had x waiting) back is.turns;
    }

-- nobody of these starts: those that are left wait behind them
pub had_left : (old : State) (had behind : List Queued) (new : State) (waiting : List Queued) (rs left : List Queued) → HaveHad old had (rs ++ behind) new waiting
    → AreLeft (layout_in new) (state_of new) rs left → AllByRecursion (IsWaiting (state_of new)) left → AllByRecursion (CannotStart new.frames) left
    → HaveHad old (had ++ rs) behind new (waiting ++ left)
had_left old had behind new waiting rs left is are wait cannot =
    let same = is.only.0 in
    let l = layout_in new in
    let n = new.frames.shard in
    let last = turns_left l n behind (state_of new) rs left are wait (all_must new left is.settled cannot) in
    record {
      wait = is.wait;
      settled = is.settled;
      leads = is.leads;
      only = is.only;
      turns = turns_both (layout_in old) old.frames.shard behind (state_of old) had (state_of new) waiting rs (state_of new) left is.turns
          (before_in old.frames.geometry new.frames.geometry old.frames.shard n behind (state_of new) (state_of new) rs left same.0 same.1 last);
    }

-- others wait behind them
pub had_waited : (old : State) (had behind : List Queued) (new : State) (waiting : List Queued) (more : List Queued) → HaveHad old had (more ++ behind) new waiting
    → AllByRecursion (IsWaiting (state_of new)) more → AllByRecursion (CannotStart new.frames) more → HaveHad old (had ++ more) behind new (waiting ++ more)
had_waited old had behind new waiting more is wait cannot =
    had_left old had behind new waiting more more is (all_are_left (layout_in new) (state_of new) more) wait cannot

-- for the others rows are held already
pub had_joined : (old : State) (had behind : List Queued) (new : State) (waiting : List Queued) (gone : List Queued) → HaveHad old had (gone ++ behind) new waiting
    → AllByRecursion (HasJoined (layout_in new) (state_of new)) gone → HaveHad old (had ++ gone) behind new waiting
had_joined old had behind new waiting gone is joined =
    let same = is.only.0 in
    let last = turns_joined (layout_in new) new.frames.shard behind (state_of new) gone joined in
    record {
      wait = is.wait;
      settled = is.settled;
      leads = is.leads;
      only = is.only;
      turns = subst (λ rs. InTurnBefore (layout_in old) old.frames.shard behind (state_of old) (had ++ gone) (state_of new) rs) (append-nil waiting)
          (turns_both (layout_in old) old.frames.shard behind (state_of old) had (state_of new) waiting gone (state_of new) [] is.turns
          (before_in old.frames.geometry new.frames.geometry old.frames.shard new.frames.shard behind (state_of new) (state_of new) gone [] same.0 same.1 last));
    }

-- the next starts
pub had_started : (old : State) (had behind : List Queued) (s new : State) (waiting : List Queued) (request : Queued) → HaveHad old had (request ∷ behind) s waiting
    → IsSettled new → Through (layout_in s) s.frames.shard Scans (state_of s) (state_of new) → OnlyStarts s new → IsWaiting (state_of s) request
    → Starts (layout_in s) s.frames.shard (state_of s) request behind (state_of new)
    → HaveHad old (had ++ request ∷ []) behind new waiting
had_started old had behind s new waiting request is settled leads only waits starts =
    let l = layout_in old in
    let n = old.frames.shard in
    let same = is.only.0 in
    let turn = turn_of (layout_in s) s.frames.shard behind (state_of s) request (state_of new) waits starts in
    let here = before_in old.frames.geometry s.frames.geometry n s.frames.shard behind (state_of s) (state_of new) (request ∷ []) [] same.0 same.1 turn in
    let turns = turns_both l n behind (state_of old) had (state_of s) waiting (request ∷ []) (state_of new) [] is.turns here in
    record {
      wait = is.wait;
      settled = settled;
      leads = through_both l n Scans (state_of old) (state_of s) (state_of new) is.leads
          (through_in old.frames.geometry s.frames.geometry n s.frames.shard Scans (state_of s) (state_of new) same.0 same.1 leads);
      only = (
        (only.0.0 ∙ same.0, only.0.1 ∙ same.1),
        (only.1.0 ∙ is.only.1.0, only.1.1 ∙ is.only.1.1),
        ((only.2.0.0 ∙ is.only.2.0.0, only.2.0.1 ∙ is.only.2.0.1), only.2.1 ∙ is.only.2.1),
      );
      turns = subst (λ rs. InTurnBefore l n behind (state_of old) (had ++ request ∷ []) (state_of new) rs) (append-nil waiting) turns;
    }

-- all have had their turns
pub all_had : (old new : State) (had waiting : List Queued) → HaveHad old had [] new waiting → waiting_of old ≡ had → waiting_of new ≡ waiting → WaitingHaveTurns old new
all_had old new had waiting is before after = (
  is.wait,
  subst (λ rs. InTurn (layout_in old) old.frames.shard (state_of old) rs (state_of new) (waiting_of new)) (sym before)
      (subst (λ rs. InTurn (layout_in old) old.frames.shard (state_of old) had (state_of new) rs) (sym after)
      (turns_of_all (layout_in old) old.frames.shard (state_of old) had (state_of new) waiting is.turns)),
)

-- none starts
pub none_starts_now : (s : State) (line : Line Queued) → IsSettled s → IsSameLine s line → AllByRecursion (Waits s.frames) (entries_of line)
    → HaveHad s (waiting_of s) [] (with_line s line) (waiting_of s)
none_starts_now s line settled same waits =
    let cannot = subst (AllByRecursion (CannotStart s.frames)) same.requests (all_cannot s.frames (entries_of line) (λ live. waits)) in
    had_line s (waiting_of s) [] s (waiting_of s) line
    (had_waited s [] [] s [] (waiting_of s) (none_had s settled (waiting_of s ++ [])) (waiting_wait s settled.sound) cannot) same

-- what waited for a thing waits for it still
pub room_taken : (with : Room) (old : Frames) (request : Queued) (new : Frames) → IsLike old new → CanStart old request with → TakesRoom with old request new
    → (es : Entries Queued) → AllByRecursion (Waits old) es → AllByRecursion (Waits new) es
room_taken (room.Direct number) old request new like can takes es waits =
    all_wait_still old new like (λ k free. (takes.1 k free).1) (holders_same old new takes.0) (full_same old new takes.0) es waits
room_taken (room.Frame frame) old request new like can takes es waits =
    all_wait_still old new like (frees_kept old new takes.1) (holders_begun old new frame can.1.1 takes.0)
    (full_begun old new frame (row_for new request.op) takes.0 takes.2) es waits

-- ---- the oldest of a cause starts

module _ (s : State) (cause : ℕ) (with : Room) (new : State) (first : IsFirstToStart s cause with) (left : LeavesLine s cause new)
    (starts : IfSome (oldest_of cause (entries_of s.waiting)) (λ request. StartsWith with cause s request new)) where
  -- the blocks whose writes start with it
  abbrev pub with_it : ℕ → Bool
  with_it = wanted_with (layout_in s) first.request.op

  oldest_is : oldest_of cause (entries_of s.waiting) ≡ Some first.request
  oldest_is = ap (oldest_of cause) first.entries ∙ split_oldest cause first.before first.request first.behind first.oldest

  pub started_with : StartsWith with cause s first.request new
  started_with = subst (λ o. IfSome o (λ request. StartsWith with cause s request new)) oldest_is starts

  others_are : without_oldest cause (entries_of s.waiting) ≡ first.before ++ first.behind
  others_are = ap (without_oldest cause) first.entries ∙ split_without cause first.before first.request first.behind first.oldest

  starts_among : Starts (layout_in s) s.frames.shard (state_of s) first.request (values first.before ++ values first.behind) (state_of new)
  starts_among =
      subst (λ rs. Starts (layout_in s) s.frames.shard (state_of s) first.request rs (state_of new)) (ap values others_are ∙ values_both first.before first.behind) started_with.0

  pub all_requests : waiting_of s ≡ values first.before ++ first.request ∷ values first.behind
  all_requests = ap values first.entries ∙ values_split first.before cause first.request first.behind

  -- it is the oldest that can start
  module _ (settled : IsSettled s) (cannot : AllByRecursion (λ entry. CannotStart s.frames entry.1) first.before) where
    must : AllByRecursion (MustWait (layout_in s) (state_of s)) (values first.before)
    must = all_must s (values first.before) settled (all_values (CannotStart s.frames) first.before cannot)

    pub started_left : entries_of new.waiting ≡ first.before ++ entries_left with_it first.behind
    started_left =
        ap entries_of (subst (λ o. IfSome o (λ request. new.waiting
        ≡ with_entries s.waiting (entries_left (wanted_with (layout_in s) request.op) (without_oldest cause (entries_of s.waiting))))) oldest_is left)
        ∙ ap (entries_left with_it) others_are
        ∙ line_left (layout_in s) s.frames.shard (state_of s) first.request (state_of new) first.before first.behind must starts_among

    waits : IsWaiting (state_of s) first.request × AllByRecursion (IsWaiting (state_of s)) (values first.before ++ values first.behind)
    waits = all-middle (IsWaiting (state_of s)) (values first.before) first.request (values first.behind) (subst (AllByRecursion (IsWaiting (state_of s))) all_requests (waiting_wait s settled.sound))

    pub started_waits : IsWaiting (state_of s) first.request
    started_waits = waits.0

    -- of those that are to have their turns behind it these waited still
    module _ (newer : List Queued) (are : AreLeft (layout_in s) (state_of s) newer (values first.behind)) where
      pub started_behind : Starts (layout_in s) s.frames.shard (state_of s) first.request newer (state_of new)
      started_behind = starts_behind (layout_in s) s.frames.shard (state_of s) first.request (state_of new) first.before first.behind must starts_among newer are

      pub left_behind_it : (new.frames.geometry ≡ s.frames.geometry) → AreLeft (layout_in new) (state_of new) newer (values (entries_left with_it first.behind))
      left_behind_it same =
          subst (λ (g : Shape). AreLeft (layout_of g) (state_of new) newer (values (entries_left with_it first.behind))) (sym same)
          (left_then (layout_in s) s.frames.shard (state_of s) first.request (state_of new) first.before first.behind must starts_among newer are waits.1)

    -- and then none can
    pub one_started : (old : State) → HaveHad old [] (waiting_of s) s [] → IsSettled new → Through (layout_in s) s.frames.shard Scans (state_of s) (state_of new) → OnlyStarts s new
        → (line : Line Queued) → IsSameLine new line → AllByRecursion (Waits new.frames) (entries_of line)
        → HaveHad old (waiting_of s) [] (with_line new line) (waiting_of new)
    one_started old base new_settled leads only line same waits_still =
        let older = values first.before in
        let newer = values first.behind in
        let last = values (entries_left with_it first.behind) in
        let all_left : waiting_of new ≡ older ++ last = ap values started_left ∙ values_both first.before (entries_left with_it first.behind) in
        let before = had_waited old [] (first.request ∷ newer) s [] older (subst (λ rs. HaveHad old [] rs s []) all_requests base)
        (all_first (IsWaiting (state_of s)) older newer waits.1) (all_values (CannotStart s.frames) first.before cannot) in
        let are = all_are_left (layout_in s) (state_of s) newer in
        let start = had_started old older newer s new older first.request before new_settled leads only started_waits (started_behind newer are) in
        let none = subst (AllByRecursion (CannotStart new.frames)) (same.requests ∙ all_left) (all_cannot new.frames (entries_of line) (λ live. waits_still)) in
        let wait = subst (AllByRecursion (IsWaiting (state_of new))) all_left (waiting_wait new new_settled.sound) in
        let behind_it = had_left old (older ++ first.request ∷ []) [] new older newer last
        (subst (λ rs. HaveHad old (older ++ first.request ∷ []) rs new older) (sym (append-nil newer)) start) (left_behind_it newer are only.0.0)
        (all_last (IsWaiting (state_of new)) older last wait) (all_last (CannotStart new.frames) older last none) in
        had_line old (waiting_of s) [] new (waiting_of new) line
        (subst (λ rs. HaveHad old rs [] new (waiting_of new)) (append_assoc older (first.request ∷ []) newer ∙ sym all_requests)
        (subst (λ rs. HaveHad old ((older ++ first.request ∷ []) ++ newer) [] new rs) (sym all_left) behind_it)) same

-- ---- one after the other is looked at

-- those that have had their turn and wait still wait for what they are said to; for what the others wait isn't known,
-- and for some of them rows are held already
pub record IsScanned (old new : State) : Type 0 where
  pub live : AreLive new.frames
  pub had : List Queued
  pub behind : List Queued
  pub tested : Entries Queued
  pub untested : Entries Queued
  pub split : waiting_of old ≡ had ++ behind
  pub left : AreLeft (layout_in new) (state_of new) behind (values untested)
  pub entries : entries_of new.waiting ≡ tested ++ untested
  pub waits : AllByRecursion (Waits new.frames) tested
  pub unknown : AllByRecursion (λ entry. entry.0 ≡ anything) untested
  pub turns : HaveHad old had behind new (values tested)

pub known_scanned : (s : State) → IsSettled s → AreLive s.frames → AreKnownFirst s → IsScanned s s
known_scanned s settled live is =
    let waits = is.waits live in
    let older = values is.tested in
    let newer = values is.untested in
    let split : waiting_of s ≡ older ++ newer = ap values is.entries ∙ values_both is.tested is.untested in
    record {
      live = live;
      had = older;
      behind = newer;
      tested = is.tested;
      untested = is.untested;
      split = split;
      left = all_are_left (layout_in s) (state_of s) newer;
      entries = is.entries;
      waits = waits;
      unknown = is.unknown;
      turns = had_waited s [] newer s [] older (none_had s settled (older ++ newer))
          (all_first (IsWaiting (state_of s)) older newer (subst (AllByRecursion (IsWaiting (state_of s))) split (waiting_wait s settled.sound)))
          (all_cannot s.frames is.tested is.waits);
    }

-- once all are gathered it is known of none
abbrev pub gathered_in : State → Line Queued
gathered_in s = with_entries s.waiting (gathered anything (entries_of s.waiting))

pub none_known : (s : State) → AreKnownFirst (with_line s (gathered_in s))
none_known s =
    record { tested = []; untested = gathered anything (entries_of s.waiting); entries = refl; waits = λ live. tt; unknown = all_for anything (entries_of s.waiting) }

-- another line of the same requests has had the same turns
pub turns_from : (s : State) (line : Line Queued) (new : State) → IsSameLine s line → WaitingHaveTurns (with_line s line) new → WaitingHaveTurns s new
turns_from s line new same turns =
    let state = same_state s line same.requests in
    subst (λ (x : Shard × List Queued). AllByRecursion (IsWaiting x.0) x.1 × InTurn (layout_in s) s.frames.shard x.0 x.1 (state_of new) (waiting_of new))
    (λ i. (state i, same.requests i)) turns

-- what waits for something known
pub known : (fs : Frames) (es : Entries Queued) → AllByRecursion (Waits fs) es → AllByRecursion (λ entry. entry.0 ≢ anything) es
known fs es waits = all_then (Waits fs) (λ entry. entry.0 ≢ anything) es (λ e w is. elim w [
  | inl buffer ↦ absurd (let a = buffer.0 in omega (arith, a, is))
  | inr held ↦ elim held.1 [ inl holder ↦ (let below = holder.0 in omega (arith, below, is)) | inr none ↦ (let a = none.0 in omega (arith, a, is)) ]
]) waits

-- how many wait for one of these causes
abbrev pub one_for : Bool → ℕ
one_for true = 1
one_for false = 0

abbrev pub count_for : (ℕ → Bool) → List (ℕ × Queued) → ℕ
count_for test [] = 0
count_for test (entry ∷ entries) = one_for (test entry.0) + count_for test entries

pub count_both : (test : ℕ → Bool) (before behind : Entries Queued) → count_for test (before ++ behind) ≡ count_for test before + count_for test behind
count_both test [] behind = omega arith
count_both test (entry ∷ before) behind = let rest = count_both test before behind in omega (arith, rest)

-- who waited for one of them does no more
pub fewer_left : (test : ℕ → Bool) (cause to : ℕ) (r : Queued) (before behind : Entries Queued) → test cause ≡ true → test to ≡ false
    → count_for test (before ++ (to, r) ∷ behind) < count_for test (before ++ (cause, r) ∷ behind)
fewer_left test cause to r before behind one other =
    let now = count_both test before ((to, r) ∷ behind) in
    let was = count_both test before ((cause, r) ∷ behind) in
    let none = ap one_for other in
    let some = ap one_for one in
    omega (arith, now, was, none, some)

pub fewer_started : (test : ℕ → Bool) (cause : ℕ) (r : Queued) (before behind left : Entries Queued) → test cause ≡ true → count_for test left ≤ count_for test behind
    → count_for test (before ++ left) < count_for test (before ++ (cause, r) ∷ behind)
fewer_started test cause r before behind left one fewer =
    let now = count_both test before left in
    let was = count_both test before ((cause, r) ∷ behind) in
    let some = ap one_for one in
    omega (arith, now, was, some, fewer)

pub count_left : (test : ℕ → Bool) (wanted : ℕ → Bool) (es : Entries Queued) → count_for test (entries_left wanted es) ≤ count_for test es
count_left test wanted [] = omega arith
count_left test wanted (entry ∷ es) = elim (cases_Bool (is_wanted wanted (block_written entry.1.op))) [
  | inl is ↦
      let fewer = count_left test (but wanted (block_written entry.1.op)) es in
      let now = ap (count_for test) (entry_goes wanted entry es is) in omega (arith, fewer, now)
  | inr not ↦
      let fewer = count_left test wanted es in
      let now = ap (count_for test) (entry_stays wanted entry es not) in omega (arith, fewer, now)
]

-- the first of those that are left
pub record IsNext (r : Queued) (untested : Entries Queued) : Type 0 where
  pub rest : Entries Queued
  pub is : untested ≡ (anything, r) ∷ rest
  pub unknown : AllByRecursion (λ entry. entry.0 ≡ anything) rest

pub next_of : (tested untested : Entries Queued) (r : Queued) → AllByRecursion (λ entry. entry.0 ≢ anything) tested
    → AllByRecursion (λ entry. entry.0 ≡ anything) untested → oldest_of anything (tested ++ untested) ≡ Some r → IsNext r untested
next_of tested [] r not all is =
    absurd (let none : None ≡ Some r = sym (none_there tested not) ∙ ap (oldest_of anything) (sym (append-nil tested)) ∙ is in cc none)
  where
    none_there : (es : Entries Queued) → AllByRecursion (λ entry. entry.0 ≢ anything) es → oldest_of anything es ≡ None
    none_there [] all = refl
    none_there ((c, y) ∷ es) all = ap (λ (b : Bool). if b then Some y else oldest_of anything es) (ne_eqb c anything all.0) ∙ none_there es all.1
next_of tested ((c, y) ∷ rest) r not all is =
    let there = split_oldest anything tested y rest not in
    let found : Some y ≡ Some r = sym there ∙ ap (λ (n : ℕ). oldest_of anything (tested ++ (n, y) ∷ rest)) (sym all.0) ∙ is in
    let same : y ≡ r = cc in
    record { rest = rest; is = λ i. (all.0 i, same i) ∷ rest; unknown = all.1 }

module _ (old s : State) (is : IsScanned old s) (r : Queued) (oldest : oldest_of anything (entries_of s.waiting) ≡ Some r) where
  pub known_now : AllByRecursion (λ entry. entry.0 ≢ anything) is.tested
  known_now = known s.frames is.tested is.waits

  pub next : IsNext r is.untested
  next = next_of is.tested is.untested r known_now is.unknown (ap (oldest_of anything) (sym is.entries) ∙ oldest)

  pub next_entries : entries_of s.waiting ≡ is.tested ++ (anything, r) ∷ next.rest
  next_entries = is.entries ∙ ap (λ (es : Entries Queued). is.tested ++ es) next.is

  after : IsNextLeft (layout_in s) (state_of s) is.behind r (values next.rest)
  after = next_left (layout_in s) (state_of s) is.behind r (values next.rest) (subst (λ (es : Entries Queued). AreLeft (layout_in s) (state_of s) is.behind (values es)) next.is is.left)

  abbrev older : List Queued
  older = is.had ++ after.gone

  -- for those before it rows are held already
  passed_over : HaveHad old older (r ∷ after.rest) s (values is.tested)
  passed_over = had_joined old is.had (r ∷ after.rest) s (values is.tested) after.gone (subst (λ rs. HaveHad old is.had rs s (values is.tested)) after.split is.turns) after.joined

  next_split : waiting_of old ≡ (older ++ r ∷ []) ++ after.rest
  next_split =
      is.split ∙ ap (λ (rs : List Queued). is.had ++ rs) after.split
      ∙ sym (append_assoc is.had after.gone (r ∷ after.rest)) ∙ sym (append_assoc older (r ∷ []) after.rest)

  next_is_waiting : IsWaiting (state_of s) r
  next_is_waiting =
      (all-middle (IsWaiting (state_of s)) (values is.tested) r (values next.rest)
      (subst (AllByRecursion (IsWaiting (state_of s))) (ap values next_entries ∙ values_split is.tested anything r next.rest) (waiting_wait s is.turns.settled.sound))).0

  -- it starts with this
  pub next_first : (with : Room) → CanStart s.frames r with → IsFirstToStart s anything with
  next_first with can = record { before = is.tested; request = r; behind = next.rest; entries = next_entries; oldest = known_now; can = can }

  none_tested : AllByRecursion (λ entry. CannotStart s.frames entry.1) is.tested
  none_tested = all_then (Waits s.frames) (λ entry. CannotStart s.frames entry.1) is.tested (λ e waits alive could. cannot_begin s.frames e.0 e.1 waits alive could) is.waits

  pub next_started : (with : Room) (can : CanStart s.frames r with) (new : State) → IsSettled new → Through (layout_in s) s.frames.shard Scans (state_of s) (state_of new)
      → AreLive new.frames → LeavesLine s anything new → IfSome (oldest_of anything (entries_of s.waiting)) (λ request. StartsWith with anything s request new) → OnlyStarts s new
      → IsScanned old new
  unfolding next_first
  next_started with can new settled leads live left starts only =
      let first = next_first with can in
      let started = started_with s anything with new first left starts in
      let was = is.turns.settled in
      record {
        live = live;
        had = older ++ r ∷ [];
        behind = after.rest;
        tested = is.tested;
        untested = entries_left (with_it s anything with new first left starts) next.rest;
        split = next_split;
        left = left_behind_it s anything with new first left starts was none_tested after.rest after.left only.0.0;
        entries = started_left s anything with new first left starts was none_tested;
        waits = room_taken with s.frames r new.frames started.1 can started.2 is.tested is.waits;
        unknown = all_left (λ entry. entry.0 ≡ anything) (with_it s anything with new first left starts) next.rest next.unknown;
        turns = had_started old older after.rest s new (values is.tested) r passed_over settled leads only next_is_waiting
            (started_behind s anything with new first left starts was none_tested after.rest after.left);
      }

  pub next_started_fewer : (with : Room) (can : CanStart s.frames r with) (new : State) → LeavesLine s anything new
      → IfSome (oldest_of anything (entries_of s.waiting)) (λ request. StartsWith with anything s request new)
      → count_for (λ cause. cause == anything) (entries_of new.waiting) < count_for (λ cause. cause == anything) (entries_of s.waiting)
  unfolding next_first
  next_started_fewer with can new left starts =
      let first = next_first with can in
      let wanted = with_it s anything with new first left starts in
      let test : ℕ → Bool = λ cause. cause == anything in
      subst (λ es. count_for test es < count_for test (entries_of s.waiting)) (sym (started_left s anything with new first left starts is.turns.settled none_tested))
      (subst (λ es. count_for test (is.tested ++ entries_left wanted next.rest) < count_for test es) (sym next_entries)
      (fewer_started test anything r is.tested next.rest (entries_left wanted next.rest) refl (count_left test wanted next.rest)))

  -- it waits for this
  module _ (cause : ℕ) (waits : WaitsFor s.frames cause r) where
    abbrev pub moved : Line Queued
    moved = with_entries s.waiting (oldest_moved anything cause (entries_of s.waiting))

    moved_entries : entries_of moved ≡ is.tested ++ (cause, r) ∷ next.rest
    moved_entries = ap (oldest_moved anything cause) next_entries ∙ split_moved anything cause is.tested r next.rest known_now

    pub next_waits : IsScanned old (with_line s moved)
    next_waits =
        let same = moved_oldest s anything cause in
        let cannot : AllByRecursion (CannotStart s.frames) (r ∷ []) = ((λ alive could. cannot_begin s.frames cause r waits alive could), tt) in
        let turns = had_line old (older ++ r ∷ []) after.rest s (values is.tested ++ r ∷ []) moved
        (had_waited old older after.rest s (values is.tested) (r ∷ []) passed_over (next_is_waiting, tt) cannot) same in
        record {
          live = is.live;
          had = older ++ r ∷ [];
          behind = after.rest;
          tested = is.tested ++ (cause, r) ∷ [];
          untested = next.rest;
          split = next_split;
          left = subst (λ (x : Shard). AreLeft (layout_in s) x after.rest (values next.rest)) (sym (same_state s moved same.requests)) after.left;
          entries = moved_entries ∙ sym (append_assoc is.tested ((cause, r) ∷ []) next.rest);
          waits = all_append (Waits s.frames) is.tested ((cause, r) ∷ []) is.waits (waits, tt);
          unknown = next.unknown;
          turns = subst (λ rs. HaveHad old (older ++ r ∷ []) after.rest (with_line s moved) rs) (sym (values_both is.tested ((cause, r) ∷ []))) turns;
        }

    pub next_waits_fewer : count_for (λ c. c == anything) (entries_of moved) < count_for (λ c. c == anything) (entries_of s.waiting)
    next_waits_fewer =
        let known_cause = known s.frames ((cause, r) ∷ []) (waits, tt) in
        subst (λ es. count_for (λ c. c == anything) es < count_for (λ c. c == anything) (entries_of s.waiting)) (sym moved_entries)
        (subst (λ es. count_for (λ c. c == anything) (is.tested ++ (cause, r) ∷ next.rest) < count_for (λ c. c == anything) es) (sym next_entries)
        (fewer_left (λ c. c == anything) anything cause r is.tested next.rest refl (ne_eqb cause anything known_cause.0)))

-- none is left
module _ (old new : State) (is : IsScanned old new) (none : oldest_of anything (entries_of new.waiting) ≡ None) where
  nobody : is.untested ≡ []
  nobody = elim is.untested as (λ es. entries_of new.waiting ≡ is.tested ++ es → AllByRecursion (λ entry. entry.0 ≡ anything) es → es ≡ []) [
    | [] ↦ λ e all. refl
    | entry ∷ es ↦ λ e all.
        absurd ((all-middle (λ entry. entry.0 ≢ anything) is.tested entry es (subst (AllByRecursion (λ entry. entry.0 ≢ anything)) e (none_of anything (entries_of new.waiting) none))).0 all.0)
  ] is.entries is.unknown

  all_tested : entries_of new.waiting ≡ is.tested
  all_tested = is.entries ∙ ap (λ (es : Entries Queued). is.tested ++ es) nobody ∙ append-nil is.tested

  pub scanned_core : IsCore new
  scanned_core = record { settled = is.turns.settled; waits = λ live. subst (AllByRecursion (Waits new.frames)) (sym all_tested) is.waits }

  -- for all others rows are held
  all_through : HaveHad old (is.had ++ is.behind) [] new (values is.tested)
  all_through =
      had_joined old is.had [] new (values is.tested) is.behind (subst (λ rs. HaveHad old is.had rs new (values is.tested)) (sym (append-nil is.behind)) is.turns)
      (none_left (layout_in new) (state_of new) is.behind (subst (λ (es : Entries Queued). AreLeft (layout_in new) (state_of new) is.behind (values es)) nobody is.left))

  pub scanned_turns : WaitingHaveTurns old new
  scanned_turns = all_had old new (is.had ++ is.behind) (values is.tested) all_through is.split (ap values all_tested)

-- in a shard that has stopped none can start
pub none_starts : (fs : Frames) (rs : List Queued) → (AreLive fs → ⊥) → AllByRecursion (CannotStart fs) rs
none_starts fs [] stopped = tt
none_starts fs (r ∷ rs) stopped = ((λ live could. absurd (stopped live)), none_starts fs rs stopped)
