-- Direct reads that have stopped wait again, one after the other.
use Rattle.std.proofs.Common.{◌≡◌, ◌≢◌, ℕ, zero, suc, ◌+◌, ◌<◌, ◌≤◌, Bool, true, false, cond, List, [], ◌∷◌, ◌++◌, length, refl, sym, ap, subst, ◌∙◌, Option, Some, None, arith, append_assoc, append-nil}
use mathlib.Core.Path.{fun_ext}
use Rattle.std.specs.Prelude.{nat_eq}
use Rattle.std.specs.List.{AllByRecursion}
use Rattle.std.proofs.lemmas.Bool.{eqb-true}
use Rattle.r6_world.specs.Tables.{put}
use Rattle.r6_world.specs.ShardStates as shards
use Rattle.r6_world.specs.ShardStates.{Reading, Waiting}
use Rattle.r6_world.specs.declared.values.Request.{Request}
use Rattle.r6_frames.specs.declared.directs.Direct.{Direct}
use Rattle.r6_frames.specs.declared.directs.DirectRead.{DirectRead}
use Rattle.r6_frames.specs.declared.slots.Slot.{Slot}
use Rattle.r6_frames.specs.declared.frames.Frames.{Frames}
use Rattle.r6_frames.specs.Directs.{direct_at, is_stopped, read_by, read_entry, read_requests, reads_from, stage_of}
use Rattle.r6_frames.specs.Reads.{FewerReaders, HandsBack, IsStoppedAt, IsWithEntry, NoneStopped}
use Rattle.r6_world.specs.Values.{op_of}
use Rattle.r6_frames.specs.Views.{shard_with}
use Rattle.r6_frames.specs.Calls.{KeepsHolds, KeepsSlots}
use Rattle.r6_frames.specs.Sound as held
use Rattle.r6_core.specs.declared.state.State.{State}
use Rattle.r6_core.specs.declared.queued.Queued.{Queued}
use Rattle.r6_core.specs.Queued.{unerred}
use Rattle.r6_core.specs.Order.{WereRead}
use Rattle.r6_core.specs.Shards.{requests_of, rest_of, state_of, table, waiting_request, waiting_of, requests_in}
use Rattle.r6_core.specs.Inside as core
use Rattle.r6_core.specs.Inside.{AreReadOn, IsReadOn, IsSound, WereStopped}
use Rattle.r6_core.proofs.BackInLine.{IsBackInLine, fits_in_line, lined_sound, one_fewer, requests_lined}
use Rattle.r6_core.proofs.ReadOn.{read_there}
use Rattle.r6_waiters.specs.Line.{capacity_of, Line}
use Rattle.r6_core.proofs.Lined.{SameRoom}
use Rattle.r6_frames.proofs.Held.{all_append}

-- ---- none is left

still_reading : (stopped : Bool) (token : ℕ) → stopped ≡ false → stage_of stopped token ≢ Waiting
still_reading true token is = absurd (cc)
still_reading false token is = λ e. (cc)

all_on : (slots : List Slot) (directs : List Direct) → ((number : ℕ) (r : DirectRead) → (direct_at directs number).read ≡ Some r → is_stopped slots r ≡ true → ⊥)
    → AllByRecursion IsReadOn (reads_from slots directs)
all_on slots [] none = tt
all_on slots (d ∷ directs) none =
    all_append IsReadOn (read_by slots d.read) (reads_from slots directs) (by_read d.read refl) (all_on slots directs (λ number r is stopped. none (suc number) r is stopped))
  where
    by_read : (o : Option DirectRead) → d.read ≡ o → AllByRecursion IsReadOn (read_by slots o)
    by_read None is = tt
    by_read (Some r) is = (
      elim (is_stopped slots r) as (λ b. is_stopped slots r ≡ b → stage_of (is_stopped slots r) r.token ≢ Waiting) [
        | true ↦ λ e. absurd (none zero r is e)
        | false ↦ λ e. still_reading (is_stopped slots r) r.token e
      ] refl,
      tt,
    )

pub none_left : (fs : Frames) → NoneStopped fs → AreReadOn fs
none_left fs none = all_on fs.slots fs.directs (λ number r is stopped. none number r (is, stopped))

-- ---- one is handed back

-- from this token on
abbrev pub IsFrom : Frames → ℕ → Type 0
IsFrom fs from = (number : ℕ) (r : DirectRead) → IsStoppedAt fs number r → from ≤ r.token

pub record IsHandingBack (s now : State) : Type 0 where
  pub sound : IsSound now
  pub state : state_of now ≡ state_of s
  pub again : List Queued
  pub from : ℕ
  pub waiting : waiting_of now ≡ waiting_of s ++ again
  pub capacity : SameRoom s.waiting now.waiting
  pub were : WereStopped s.frames 0 again
  -- those that are left come behind
  pub later : (other : List Queued) → WereStopped s.frames from other → WereStopped s.frames 0 (again ++ other)
  pub left : IsFrom now.frames from
  pub readers : FewerReaders s.frames now.frames
  pub holds : KeepsHolds s.frames now.frames
  pub slots : KeepsSlots s.frames now.frames
  pub commands : now.frames.commands ≡ s.frames.commands
  pub geometry : (now.frames.geometry ≡ s.frames.geometry) × (now.frames.shard ≡ s.frames.shard)
  pub rest : now ≡ record s { waiting = now.waiting; frames = now.frames }

pub handing_none : (s : State) → IsSound s → IsHandingBack s s
handing_none s sound = record {
  sound = sound;
  state = refl;
  again = [];
  from = 0;
  waiting = sym (append-nil (waiting_of s));
  capacity = (refl, refl);
  were = tt;
  later = λ other were. were;
  left = λ number r is. omega arith;
  readers = λ number r is. is;
  holds = refl;
  slots = (refl, refl);
  commands = refl;
  geometry = (refl, refl);
  rest = refl;
}

-- nothing changes where an entry is put that is there
put_same : {A : Type 0} (f : ℕ → A) (k : ℕ) (v : A) → f k ≡ v → put f k v ≡ f
put_same f k v is = fun_ext (λ q. by_test q (nat_eq q k) refl)
  where
    by_test : (q : ℕ) (b : Bool) → nat_eq q k ≡ b → put f k v q ≡ f q
    by_test q true e = ap (λ (b : Bool). cond b v (f q)) e ∙ sym is ∙ ap f (sym (eqb-true q k e))
    by_test q false e = ap (λ (b : Bool). cond b v (f q)) e

module _ (s : State) (request : Request) (fs : Frames) (waiting : Line Queued) (sound : IsSound s) (frames : held.IsSound fs) (back : HandsBack s.frames request fs)
    (holds : KeepsHolds s.frames fs) (slots : KeepsSlots s.frames fs) (commands : fs.commands ≡ s.frames.commands)
    (items : requests_in waiting ≡ waiting_of s ++ unerred request ∷ []) (capacity : SameRoom s.waiting waiting) where
  abbrev pub now : State
  now = record s { waiting = waiting; frames = fs }

  entry_is : read_entry back.read Waiting ≡ waiting_request (unerred request)
  entry_is = ap (λ r. waiting_request (unerred r)) (sym back.is)

  in_line : IsBackInLine s (unerred request) (waiting_request (unerred request)).1 fs waiting
  in_line = record {
    sound = sound;
    frames = frames;
    same = back.same;
    reads = subst (λ (e : ℕ × shards.Request). IsWithEntry (read_requests fs) e (read_requests s.frames)) entry_is back.requests;
    own = record { request = back.own; read = λ e. absurd (cc e) };
    holds = holds;
    slots = slots;
    next = ap (λ c. c.next) commands;
    items = items;
    room = capacity;
  }

  pub back_state : state_of now ≡ state_of s
  back_state =
      let one = requests_lined s (unerred request) (waiting_request (unerred request)).1 fs waiting in_line in
      back.shard (rest_of now)
      ∙ ap (λ (request : ℕ → Option shards.Request). shard_with (record (rest_of s) { request = request }) s.frames)
      (one.now ∙ put_same (table (requests_of s)) request.id _ one.was)

  pub fewer_reads : length (read_requests fs) + 1 ≡ length (read_requests s.frames)
  fewer_reads = one_fewer s (unerred request) (waiting_request (unerred request)).1 fs waiting in_line

  pub back_sound : IsSound now
  back_sound = lined_sound s (unerred request) (waiting_request (unerred request)).1 fs waiting in_line

pub back_fits : (s : State) (request : Request) (fs : Frames) → IsSound s → HandsBack s.frames request fs → length (waiting_of s) < capacity_of s.waiting
back_fits s request fs sound back = fits_in_line s fs (read_entry back.read Waiting) sound back.requests

-- ---- the loop

stopped_same : (old new : Frames) (r : DirectRead) → KeepsSlots old new → is_stopped new.slots r ≡ true → is_stopped old.slots r ≡ true
stopped_same old new r slots is = ap (λ (ss : List Slot). is_stopped ss r) (sym slots.0) ∙ is

pub handing_on : (s mid : State) (request : Request) (fs : Frames) (waiting : Line Queued) → IsHandingBack s mid → held.IsSound fs → HandsBack mid.frames request fs
    → KeepsHolds mid.frames fs → KeepsSlots mid.frames fs → fs.commands ≡ mid.frames.commands → FewerReaders mid.frames fs
    → requests_in waiting ≡ waiting_of mid ++ unerred request ∷ [] → SameRoom mid.waiting waiting
    → IsHandingBack s (record mid { waiting = waiting; frames = fs })
handing_on s mid request fs waiting is frames back holds slots commands readers items capacity =
    let r = back.read in
    let number = back.number in
    let had = is.readers number r back.lowest.0.0 in
    let lowest = is.left number r back.lowest.0 in
    let one : (other : List Queued) → WereStopped s.frames r.token other → WereStopped s.frames is.from (unerred request ∷ other) = λ other were.
    (number, r, had, lowest, ap unerred back.is, were) in
    record {
      sound = back_sound mid request fs waiting is.sound frames back holds slots commands items capacity;
      state = back_state mid request fs waiting is.sound frames back holds slots commands items capacity ∙ is.state;
      again = is.again ++ unerred request ∷ [];
      from = r.token;
      waiting = items ∙ ap (λ rs. rs ++ unerred request ∷ []) is.waiting ∙ append_assoc (waiting_of s) is.again (unerred request ∷ []);
      capacity = (capacity.0 ∙ is.capacity.0, capacity.1 ∙ is.capacity.1);
      were = is.later (unerred request ∷ []) (one [] tt);
      later = λ other were. subst (WereStopped s.frames 0) (sym (append_assoc is.again (unerred request ∷ []) other)) (is.later (unerred request ∷ other) (one other were));
      left = λ k q stopped. back.lowest.1 k q (readers k q stopped.0, stopped_same mid.frames fs q slots stopped.1);
      readers = λ k q has. is.readers k q (readers k q has);
      holds = holds ∙ is.holds;
      slots = (slots.0 ∙ is.slots.0, slots.1 ∙ is.slots.1);
      commands = commands ∙ is.commands;
      geometry = (back.same.0 ∙ is.geometry.0, back.same.1 ∙ is.geometry.1);
      rest = ap (λ (x : State). record x { waiting = waiting; frames = fs }) is.rest;
    }

pub handed_back : (s now : State) → IsHandingBack s now → NoneStopped now.frames → core.HandsBack s now
handed_back s now is none = record {
  sound = is.sound;
  reading = none_left now.frames none;
  state = is.state;
  again = is.again;
  were = is.were;
  waiting = is.waiting;
  holds = is.holds;
  slots = is.slots;
  commands = is.commands;
  geometry = is.geometry;
  rest = is.rest;
}

-- ---- they were read directly before the loss

pub were_read : (s : State) (fs : Frames) (from : ℕ) (again : List Queued) → IsSound s → AreReadOn s.frames
    → ((number : ℕ) (r : DirectRead) → (direct_at fs.directs number).read ≡ Some r → (direct_at s.frames.directs number).read ≡ Some r)
    → WereStopped fs from again → WereRead (state_of s) from again
were_read s fs from [] sound on readers were = tt
were_read s fs from (request ∷ later) sound on readers were =
    let r = were.1 in
    let there = read_there s were.0 r on sound.requests.distinct (readers were.0 r were.2) in (
      r.token,
      were.3,
      ap (λ (q : Queued). q.erred) were.4,
      subst (λ (q : Queued). table (requests_of s) q.id ≡ Some (record { op = op_of q.op; stage = Reading r.token })) (sym were.4) there,
      were_read s fs r.token later sound on readers were.5,
    )
