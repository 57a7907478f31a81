-- The command of a direct read is answered: its request is finished.
use Rattle.std.proofs.Common.{◌≡◌, ℕ, ◌+◌, ◌*◌, ◌<◌, ◌≤◌, Bool, false, List, [], ◌∷◌, ◌++◌, length, map, refl, sym, ap, subst, ◌∙◌, Option, arith, append_assoc, append-nil, length-append}
use Rattle.std.specs.List.{AllByRecursion}
use Rattle.std.proofs.Math.Nat.{mul-le-mul}
use Rattle.r6_layout.specs.Shape.{Shape}
use Rattle.circular_buffer.specs.Buffer.{Buffer}
use Rattle.r6_world.specs.PlainArray as world
use Rattle.r6_world.specs.ShardStates as shards
use Rattle.r6_world.specs.ShardStates.{Finished, Reading}
use Rattle.r6_world.specs.Changes.{Give_direct, after}
use Rattle.r6_world.specs.Steps.{Good, GoesOn, Taken}
use Rattle.r6_world.specs.declared.values.Request.{Request}
use Rattle.r6_frames.specs.declared.frames.Frames.{Frames}
use Rattle.r6_frames.specs.declared.frames.Job.{Job}
use Rattle.r6_frames.specs.Slots.{states_of}
use Rattle.r6_frames.specs.Directs.{read_entry, read_requests}
use Rattle.r6_frames.specs.Reads.{AnswersRead, FreesDirect}
use Rattle.r6_world.specs.Values.{buffer_of}
use Rattle.r6_frames.specs.Views.{is_scrub, command_of, held_requests, hold_at, requests_from, shard_with, AreLive}
use Rattle.r6_frames.specs.Calls.{HasOneBlock, KeepsHolds, KeepsSlots}
use Rattle.r6_frames.specs.Owed.{owed, owed_in, most_owed}
use Rattle.r6_frames.specs.Sound as held
use Rattle.r6_core.specs.declared.state.State.{State}
use Rattle.r6_core.specs.Shards.{finished_request, layout_in, replied_requests, requests_of, rest_of, state_of, waiting_request, waiting_of}
use Rattle.r6_core.specs.Order.{MayFinish}
use Rattle.r6_core.specs.Inside.{HasBuffer, IsCore, IsReadOn, IsSettled, IsSound, Seen, TakesThrough, count_rows, is_turn}
use Rattle.r6_core.specs.Limits.{count_unheld}
use Rattle.r6_core.proofs.PassedOn.{passed_same}
use Rattle.r6_core.proofs.Rooms.{rooms_same}
use Rattle.r6_core.proofs.Answering.{live_still, rested_kept}
use Rattle.r6_core.proofs.CountedRows.{counted_still}
use Rattle.r6_core.proofs.Kept.{own_rows_kept, requests_kept, sizes_kept}
use Rattle.r6_core.proofs.Passed.{Passed, passed, all-middle}
use Rattle.r6_core.proofs.Replied.{length_replied, more_replied}
use Rattle.r6_core.proofs.Settling.{behind_finished, one_row_few}
use Rattle.r6_core.proofs.SlotsKept.{calls_same}
use Rattle.r6_core.proofs.Throughs.{goes_on_only, through_none}
use Rattle.r6_frames.proofs.Held.{all_append}

module _ (s : State) (token : ℕ) (block : List ℕ) (request : Request) (fs : Frames) (replies : Buffer Request) (core : IsSettled s) (frames : held.IsSound fs) (live : AreLive fs)
    (answers : AnswersRead s.frames token block request fs) (holds : KeepsHolds s.frames fs) (slots : KeepsSlots s.frames fs) (next : fs.commands.next ≡ s.frames.commands.next)
    (size : length block ≡ s.frames.geometry.block) (items : replies.items ≡ s.replies.items ++ request ∷ []) (capacity : replies.capacity ≡ s.replies.capacity) where
  abbrev pub given : State
  given = record s { frames = fs; replies = replies }

  abbrev entry : ℕ × shards.Request
  entry = read_entry answers.read (Reading token)

  abbrev done : ℕ × shards.Request
  done = read_entry answers.read (Finished (world.Reply.Data block))

  unfailed : s.frames.saw_failed ≡ false
  unfailed = sym slots.1 ∙ live.1

  finished_is : finished_request false request ≡ done
  finished_is = ap (finished_request false) answers.is

  requests_given : Passed (requests_of s) (requests_of given) entry.0 entry.1 done.1
  requests_given =
      let w = map waiting_request (waiting_of s) in
      let h = held_requests s.frames in
      let p = replied_requests false s.released s.replies.items in
      let a = answers.requests.before in
      let b = answers.requests.behind in
      passed (w ++ (h ++ a)) (b ++ p) ((w ++ (h ++ (a ++ b))) ++ p) [] entry.0 entry.1 done.1 _ _
      ((λ i. w ++ ((h ++ answers.requests.with i) ++ replied_requests (unfailed i) s.released s.replies.items)) ∙ (simp append_assoc))
      ((λ i. w ++ ((requests_from 0 (holds i) ++ answers.requests.without i) ++ replied_requests ((slots.1 ∙ unfailed) i) s.released (items i)))
      ∙ ap (λ es. w ++ ((h ++ (a ++ b)) ++ es)) (more_replied false s.released s.replies.items (request ∷ []) core.sound.requests.marked)
      ∙ (λ i. w ++ ((h ++ (a ++ b)) ++ (p ++ finished_is i ∷ [])))
      ∙ (simp append_assoc))
      (sym (append-nil ((w ++ (h ++ (a ++ b))) ++ p) ∙ (simp append_assoc)))
      core.sound.requests.distinct

  pub given_takes : TakesThrough s token (Good block) Taken given
  given_takes =
      let shard = answers.shard (rest_of s) requests_given.was in
      let change = Give_direct token (command_of s.frames.slots s.frames.next_taken token shard.0) answers.read.served.id answers.read.served.block block in
      let is : state_of given ≡ after (layout_in s) (state_of s) change =
      ap (λ (request : ℕ → Option shards.Request). shard_with (record (rest_of s) { request = request }) fs) requests_given.now ∙ shard.4 in (
        change,
        shard.2,
        shard.3,
        goes_on_only (layout_in s) s.frames.shard (after (layout_in s) (state_of s) change) (state_of given)
            (through_none (layout_in s) s.frames.shard GoesOn (after (layout_in s) (state_of s) change) (state_of given) is),
      )

  fewer_reads : length (read_requests fs) + 1 ≡ length (read_requests s.frames)
  fewer_reads =
      let few = ap length answers.requests.without ∙ length-append answers.requests.before answers.requests.behind in
      let many = ap length answers.requests.with ∙ length-append answers.requests.before (entry ∷ answers.requests.behind) in
      omega (arith, few, many)

  one_block : HasOneBlock s.frames.geometry request
  one_block = ap (λ (r : Request). length (buffer_of r.op)) answers.is ∙ size

  lives : AreLive s.frames
  lives = live_still s.frames fs answers.same.0 (ap states_of slots.0, slots.1) live

  given_tokens : fs.commands.next + owed fs + most_owed fs.geometry.slots * count_unheld given ≤ s.frames.commands.next + owed s.frames + most_owed s.frames.geometry.slots * count_unheld s
  given_tokens =
      let same : owed fs ≡ owed s.frames = ap (λ held. owed_in held) holds in
      let fewer = fewer_reads in
      let few : count_unheld given ≤ count_unheld s = omega (arith, fewer) in
      let wide = ap (λ (g : Shape). most_owed g.slots * count_unheld given) answers.same.0 in
      let most = mul-le-mul (le_refl (most_owed s.frames.geometry.slots)) few in
      omega (arith, same, next, wide, most)
    where
      le_refl : (n : ℕ) → n ≤ n
      le_refl n = omega arith

  pub given_settled : IsSettled given
  given_settled =
      let sound = core.sound in
      let one = requests_given in
      let geometry = answers.same.0 in
      let shard = answers.same.1 in
      record {
        sound = record {
          frames = frames;
          requests = record {
            distinct = one.distinct;
            numbered = one.keeps (λ id. id < s.accepted) sound.requests.numbered;
            counted = one.count ∙ sound.requests.counted;
            few = sound.requests.few;
            waiting = requests_kept s.frames fs (waiting_of s) geometry shard sound.requests.waiting;
            sized = sizes_kept s.frames.geometry fs.geometry replies.items geometry
                (subst (AllByRecursion (HasOneBlock s.frames.geometry)) (sym items) (all_append (HasOneBlock s.frames.geometry) s.replies.items (request ∷ []) sound.requests.sized (one_block, tt)));
            marked = let more = ap length items ∙ length-append s.replies.items (request ∷ []) in omega (arith, more, sound.requests.marked);
          };
          room = record {
            waiting = sound.room.waiting;
            causes = sound.room.causes;
            replies = capacity ∙ sound.room.replies;
            calls = sound.room.calls;
            few_calls = let same = calls_same s.frames fs (ap states_of slots.0) geometry in omega (arith, same, sound.room.few_calls);
            rooms = rooms_same s.rooms.items s.frames fs holds sound.room.rooms;
            space = sound.room.space;
          };
          tokens = omega (arith, given_tokens, sound.tokens);
          accepted = sound.accepted;
          counted =
              let rows = λ (test : Job → Bool). ap (λ held. count_rows test held) holds in
              counted_still s.counts s.frames fs sound.counted (let n = rows is_turn in omega (arith, n)) (let n = rows is_scrub in omega (arith, n)) (omega (arith, next));
          next_rows = own_rows_kept s.frames fs s.check_row s.repair_row geometry shard sound.next_rows;
        };
        reading =
            subst (AllByRecursion IsReadOn) (sym answers.requests.without)
            (all-middle IsReadOn answers.requests.before entry answers.requests.behind (subst (AllByRecursion IsReadOn) answers.requests.with core.reading)).1;
        rested = λ _ f. rested_kept s.frames fs f (ap (λ held. hold_at held f) holds) (core.rested lives f);
      }

  pub given_order : Seen MayFinish s given
  given_order = let both = behind_finished s given (request ∷ []) core.sound refl items in (request ∷ [], (tt, tt), one_row_few (layout_in s) (request ∷ []) (omega arith), both.0, both.1)

  pub given_freed : IsCore s → (number : ℕ) → FreesDirect s.frames number fs → HasBuffer given
  given_freed whole number frees = record {
    before = s.frames;
    like = record { geometry = answers.same.0; live = λ _. lives; slots = ap states_of slots.0; passed = passed_same s.frames fs answers.same.0 holds; tokens = omega (arith, next) };
    holds = holds;
    number = number;
    frees = frees;
    waits = whole.waits lives;
  }

-- there is room for its reply
pub room_to_give : (s : State) (token : ℕ) (block : List ℕ) (request : Request) (fs : Frames) → IsSound s → AnswersRead s.frames token block request fs
    → length s.replies.items < s.replies.capacity
room_to_give s token block request fs sound answers =
    let w = map waiting_request (waiting_of s) in
    let h = held_requests s.frames in
    let d = read_requests s.frames in
    let p = replied_requests s.frames.saw_failed s.released s.replies.items in
    let all = length-append w ((h ++ d) ++ p) in
    let framed = length-append (h ++ d) p in
    let parts = length-append h d in
    let many = length_replied s.frames.saw_failed s.released s.replies.items in
    let reads = ap length answers.requests.with ∙ length-append answers.requests.before (read_entry answers.read (Reading token) ∷ answers.requests.behind) in
    omega (arith, all, framed, parts, many, reads, sound.requests.counted, sound.requests.few, sound.room.replies)
