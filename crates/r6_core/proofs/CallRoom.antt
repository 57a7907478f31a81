-- There is room for the calls that a shard has to make.
use Rattle.std.proofs.Common.{◌≡◌, ◌==◌, ℕ, zero, suc, ◌+◌, ◌*◌, ◌<◌, ◌≤◌, Bool, true, false, length, refl, ap, inl, inr, arith, Some}
use Rattle.std.specs.Prelude.{if◌then◌else◌, Option, None}
use Rattle.std.specs.Option.{option_eq}
use Rattle.r6_core.specs.declared.call.Call.{Call}
use Rattle.std.proofs.lemmas.Bool.{cases_eq}
use Rattle.r6_world.specs.Tables.{count_below, put}
use Rattle.r6_world.specs.ShardStates.{SlotState, Synced, Missing, Building, Doubled, Paired, IsBuiltOn, devices_of, has_device}
use Rattle.r6_world.specs.Changes.{brought_in, with_row, without}
use Rattle.r6_world.proofs.Tables.{count-same, put-same, put-other}
use Rattle.r6_frames.specs.Slots.{states_of}
use Rattle.r6_core.specs.declared.state.State.{State}
use Rattle.r6_frames.specs.declared.frames.Frames.{Frames}
use Rattle.circular_buffer.specs.Buffer.{Buffer}
use Rattle.r6_core.specs.Inside.{IsCore, IsSound}
use Rattle.r6_core.specs.Limits.{most_calls, count_untold, is_missing, is_settled, is_not_doubled}

pub count_below-le : (test : ℕ → Bool) (n : ℕ) → count_below test n ≤ n
count_below-le test zero = omega arith
count_below-le test (suc n) = by_test (test n) (count_below-le test n)
  where
    by_test : (b : Bool) → count_below test n ≤ n → (if b then 1 else 0) + count_below test n ≤ suc n
    by_test true h = omega arith
    by_test false h = omega arith

-- one slot has another state, and as many pass with it as without
abbrev bit : Bool → ℕ
bit b = if b then 1 else 0

count_below-put : (test : SlotState → Bool) (slots : ℕ → SlotState) (k : ℕ) (state : SlotState) (n : ℕ) → k < n
    → count_below (λ d. test (put slots k state d)) n + bit (test (slots k)) ≡ count_below (λ d. test (slots d)) n + bit (test state)
count_below-put test slots k state zero below = absurd (omega arith)
count_below-put test slots k state (suc n) below = elim (cases_eq n k) [
  | inl e ↦
      let rest = count-same (λ d. test (put slots k state d)) (λ d. test (slots d)) n (λ d lt. ap test (put-other slots k state d (λ same. absurd (omega arith)))) in
      let here : bit (test (put slots k state n)) ≡ bit (test state) = ap (λ x. bit (test x)) (put-same slots k state n e) in
      let was : bit (test (slots n)) ≡ bit (test (slots k)) = ap (λ d. bit (test (slots d))) e in
      omega (arith, rest, here, was)
  | inr ne ↦
      let rest = count_below-put test slots k state n (omega arith) in
      let here : bit (test (put slots k state n)) ≡ bit (test (slots n)) = ap (λ x. bit (test x)) (put-other slots k state n ne) in
      omega (arith, rest, here)
]

-- how many calls there may be of a slot
abbrev pub calls_of : SlotState → ℕ
calls_of (Synced generation) = 2
calls_of Missing = 3
calls_of (Building generation built) = 1
calls_of (Doubled old new built) = 0
calls_of (Paired old new) = 1

by_tests : (state : SlotState) → bit (is_missing state) + bit (is_settled state) + bit (is_not_doubled state) ≡ calls_of state
by_tests (Synced generation) = refl
by_tests Missing = refl
by_tests (Building generation built) = refl
by_tests (Doubled old new built) = refl
by_tests (Paired old new) = refl

abbrev pub most_of : (ℕ → SlotState) → ℕ → ℕ
most_of slots n = count_below (λ d. is_missing (slots d)) n + count_below (λ d. is_settled (slots d)) n + count_below (λ d. is_not_doubled (slots d)) n

-- with another state of a slot there may be so many more
pub most_put : (slots : ℕ → SlotState) (k : ℕ) (state : SlotState) (n more : ℕ) → k < n → calls_of (slots k) + more ≤ calls_of state → most_of slots n + more ≤ most_of (put slots k state) n
most_put slots k state n more below rises =
    let missing = count_below-put is_missing slots k state n below in
    let settled = count_below-put is_settled slots k state n below in
    let single = count_below-put is_not_doubled slots k state n below in
    let was = by_tests (slots k) in
    let is = by_tests state in
    omega (arith, missing, settled, single, was, is, rises)

pub highest : (state : SlotState) → calls_of state ≤ calls_of Missing
highest (Synced generation) = omega arith
highest Missing = omega arith
highest (Building generation built) = omega arith
highest (Doubled old new built) = omega arith
highest (Paired old new) = omega arith

-- a device that goes leaves room for its loss
pub without_more : (state : SlotState) (generation : ℕ) → has_device state generation ≡ true → calls_of state + 1 ≤ calls_of (without state generation)
without_more (Synced current) generation has = omega arith
without_more Missing generation has = absurd (cc)
without_more (Building current built) generation has = omega arith
without_more (Doubled old new built) generation has = by_first (old == generation)
  where
    by_first : (b : Bool) → 1 ≤ calls_of (if b then Building new built else Synced old)
    by_first true = omega arith
    by_first false = omega arith
without_more (Paired old new) generation has = by_first (old == generation)
  where
    by_first : (b : Bool) → 2 ≤ calls_of (if b then Synced new else Synced old)
    by_first true = omega arith
    by_first false = omega arith

-- and a slot that goes for those of all its devices
pub missing_more : (state : SlotState) → calls_of state + length (devices_of state) ≤ calls_of Missing
missing_more (Synced generation) = omega arith
missing_more Missing = omega arith
missing_more (Building generation built) = omega arith
missing_more (Doubled old new built) = omega arith
missing_more (Paired old new) = omega arith

-- a device that comes in leaves room for its report
pub brought_more : (state : SlotState) (generation : ℕ) (built : ℕ → Bool) → IsBuiltOn state generation built → calls_of state + 1 ≤ calls_of (brought_in state)
brought_more (Synced current) generation built on = absurd on
brought_more Missing generation built on = absurd on
brought_more (Building current rows) generation built on = omega arith
brought_more (Doubled old new rows) generation built on = omega arith
brought_more (Paired old new) generation built on = absurd on

-- a row more is built
pub row_more : (state : SlotState) (row : ℕ) → calls_of state + 0 ≤ calls_of (with_row state row)
row_more (Synced current) row = omega arith
row_more Missing row = omega arith
row_more (Building current rows) row = omega arith
row_more (Doubled old new rows) row = omega arith
row_more (Paired old new) row = omega arith

pub most_le : (slots : ℕ → SlotState) (n : ℕ) → most_of slots n ≤ 3 * n
most_le slots n =
    let missing = count_below-le (λ d. is_missing (slots d)) n in
    let settled = count_below-le (λ d. is_settled (slots d)) n in
    let single = count_below-le (λ d. is_not_doubled (slots d)) n in
    omega (arith, missing, settled, single)

pub few_slots : (fs : Frames) → most_calls fs ≤ 3 * fs.geometry.slots
few_slots fs = most_le (states_of fs.slots) fs.geometry.slots

pub calls_fit : (s : State) → IsSound s → length s.calls.items + count_untold s.untold ≤ s.calls.capacity
calls_fit s sound =
    let fit = few_slots s.frames in
    omega (arith, sound.room.few_calls, sound.room.calls, fit, sound.frames.shape.slots_allowed.1)

-- a call that was taken is counted
pub one_untold : (same : Call → Call → Bool) (untold : Option Call) (call : Call) → option_eq same untold (Some call) ≡ true → count_untold untold ≡ 1
one_untold same None call is = absurd (cc)
one_untold same (Some other) call is = refl

-- a core with other calls to be made, for which there is room
pub core_with_calls : (s : State) (calls : Buffer Call) (untold : Option Call) → IsCore s → calls.capacity ≡ 96
    → length calls.items + count_untold untold ≤ most_calls s.frames → IsCore (record s { calls = calls; untold = untold })
core_with_calls s calls untold core capacity few =
    let sound = core.settled.sound in
    let r = sound.requests in
    let room = sound.room in
    record {
      settled = record {
        sound = record {
          frames = sound.frames;
          requests = record { distinct = r.distinct; numbered = r.numbered; counted = r.counted; few = r.few; waiting = r.waiting; sized = r.sized; marked = r.marked };
          room = record { rooms = room.rooms; space = room.space; waiting = room.waiting; causes = room.causes; replies = room.replies; calls = capacity; few_calls = few };
          tokens = sound.tokens;
          accepted = sound.accepted;
          counted = sound.counted;
          next_rows = sound.next_rows;
        };
        reading = core.settled.reading;
        rested = core.settled.rested;
      };
      waits = core.waits;
    }
