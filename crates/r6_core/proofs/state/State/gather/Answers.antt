use Rattle.std.proofs.Common.{◌≡◌, None, refl, ◌+◌, ◌++◌, ◌∷◌, [], ◌≤◌, length, sym, ap, subst, ◌∙◌, arith}
use Rattle.circular_buffer.specs.Buffer.{buffer}
use Rattle.r6_core.specs.declared.state.State.{State}
use Rattle.r6_frames.specs.declared.frames.Frames.{Frames}
use Rattle.r6_frames.specs.Calls.{requests_of as requests_ended}
use Rattle.r6_frames.specs.Views.{held_requests}
use Rattle.r6_core.proofs.Gathering.{IsGathering, all_held, gathering_line, gathering_none, gathering_waiting, gathering_held, gathering_skips, gathered, place_given, replies_room, some_waits}
use Rattle.r6_core.proofs.state.State.gather.Goals as goal
use Rattle.r6_core.proofs.state.State.gather.Goals.{in-Some-give_up, in_default-give_up}
use Rattle.r6_core.specs.Shards.{waiting_of, requests_in}
use Rattle.std.specs.List.{AllByRecursion}
use Rattle.r6_waiters.specs.Line.{Line, capacity_of, causes_of, entries_of, oldest_of, with_entries, without_oldest, gathered as gathered_for}
use Rattle.r6_core.specs.declared.queued.Queued.{Queued}
use Rattle.r6_core.specs.Queued.{request_in}
use Rattle.r6_waiters.proofs.Lines.{without-none}
use Rattle.r6_core.specs.Inside.{anything}
use Rattle.r6_core.proofs.Lined.{IsFor, all_for, first_of_all, none_of_all, rest_of_all, values, values_gathered}

pub loop-queued-init : goal.loop-queued-init
loop-queued-init c =
    let s = c.args.self.now in
    let all = entries_of s.waiting in
    let is : IsGathering s (record s { waiting = with_entries s.waiting (gathered_for anything all) }) 0 =
    gathering_line s s 0 (with_entries s.waiting (gathered_for anything all)) (gathering_none s c.requires.sound c.requires.stopped) (values_gathered anything all) (refl, refl) in
    subst (λ (line : Line Queued). (IsGathering s (record s { waiting = line }) 0) × AllByRecursion (IsFor anything) (entries_of line)) (sym c.gather.ensures) (is, all_for anything all)

pub loop-queued-preserved : goal.loop-queued-preserved
loop-queued-preserved c =
    let mid = c.loop-queued.self in
    let r = c.in-Some.queued in
    let popped = c.pop_oldest.ensures.rest in
    let inv = c.loop-queued.invariant in
    let es = entries_of mid.waiting in
    let first = first_of_all anything es r inv.1 (sym c.pop_oldest.ensures.value ∙ c.in-Some.is) ∙ ap (λ line. r ∷ requests_in line) (sym popped) in
    let done = c.finished.ensures.same in
    let replies = buffer (mid.replies.items ++ request_in r ∷ []) mid.replies.capacity in
    subst (λ (x : State). (IsGathering c.args.self.now x 0) × AllByRecursion (IsFor anything) (entries_of x.waiting)) (sym done) (
      gathering_waiting c.args.self.now mid 0 r inv.0 replies refl c.pop_oldest.new.self first (ap capacity_of popped, ap causes_of popped) refl,
      subst (λ (line : Line Queued). AllByRecursion (IsFor anything) (entries_of line)) (sym popped) (rest_of_all anything es inv.1),
    )

pub loop-queued-smaller : goal.loop-queued-smaller
loop-queued-smaller c =
    let es = entries_of c.loop-queued.self.waiting in
    let first = first_of_all anything es c.in-Some.queued c.loop-queued.invariant.1 (sym c.pop_oldest.ensures.value ∙ c.in-Some.is)
    ∙ ap (λ line. c.in-Some.queued ∷ requests_in line) (sym c.pop_oldest.ensures.rest) in
    let long = ap length first in
    let same = ap (λ (x : State). length (waiting_of x)) c.finished.ensures.same in
    omega (arith, long, same)

-- none waits any more
pub loop-frame-init : goal.loop-frame-init
loop-frame-init c =
    let s = c.args.self.now in
    let mid = c.loop-queued.self in
    let inv = c.loop-queued.invariant in
    let es = entries_of mid.waiting in
    let none : oldest_of anything es ≡ None = sym c.pop_oldest.ensures.value ∙ c.in_default.is in
    let line : c.pop_oldest.new.self ≡ mid.waiting = c.pop_oldest.ensures.rest ∙ ap (λ left. with_entries mid.waiting left) (without-none anything es none) in
    record {
      gathering = subst (λ (left : Line Queued). IsGathering s (record mid { waiting = left }) 0) (sym line) inv.0;
      none_waiting = ap (λ left. requests_in left) line ∙ none_of_all anything es inv.1 none;
    }

pub finished-requires : goal.finished-requires
finished-requires c =
    let mid = c.loop-queued.self in
    let r = c.in-Some.queued in
    let es = entries_of mid.waiting in
    let first = first_of_all anything es r c.loop-queued.invariant.1 (sym c.pop_oldest.ensures.value ∙ c.in-Some.is) in
    let room = replies_room c.args.self.now mid 0 c.requires.sound c.loop-queued.invariant.0 in
    let some = some_waits mid r (values (without_oldest anything es)) first in
    omega (arith, room, some)

-- ---- a hold is given up

pub reply_to-requires-clause-room : goal.reply_to-requires-clause-room
reply_to-requires-clause-room c =
    let mid = c.loop-frame.self in
    let count = c.loop-frame.frame in
    let room = replies_room c.args.self.now mid count c.requires.sound c.loop-frame.invariant.gathering in
    let most = all_held mid (held_requests c.give_up.new.self) count (requests_ended c.in-Some-give_up.ended) c.in-Some-give_up.ensures.gives.leaves.0 in
    omega (arith, room, most)

pub reply_to-requires-clause-place : goal.reply_to-requires-clause-place
reply_to-requires-clause-place c =
    let left = c.give_up.ensures in
    place_given c.args.self.now c.loop-frame.self c.loop-frame.frame c.in-Some-give_up.ended c.give_up.new.self c.requires.sound c.loop-frame.invariant.gathering c.in-Some-give_up.ensures.gives
    left.sound left.others left.none

pub loop-frame-preserved : goal.loop-frame-preserved
loop-frame-preserved c =
    let s = c.args.self.now in
    let mid = c.loop-frame.self in
    let count = c.loop-frame.frame in
    let inv = c.loop-frame.invariant in
    let fs = c.give_up.new.self in
    let left = c.give_up.ensures in
    elim c.match-give_up.branch [
      | in-Some-give_up w ↦
          let gives = w.in-Some-give_up.ensures.gives in
          let replied = w.reply_to.ensures in
          let is = gathering_held s mid count w.in-Some-give_up.ended fs w.reply_to.new.self.rooms inv.gathering gives left.sound left.stopped left.others left.none left.owed.0 replied.rooms in
          let same = w.self-is ∙ replied.same in
          record {
            gathering = subst (λ (x : State). IsGathering s x (count + 1)) (sym same) is;
            none_waiting = ap (λ (x : State). waiting_of x) same ∙ inv.none_waiting;
          }
      | in_default-give_up w ↦
          let none = w.in_default-give_up.ensures.gives in
          let is : IsGathering s (record mid { frames = fs }) (count + 1) =
          subst (λ (x : Frames). IsGathering s (record mid { frames = x }) (count + 1)) (sym none.1) (gathering_skips s mid count inv.gathering none.0) in
          record {
            gathering = subst (λ (x : State). IsGathering s x (count + 1)) (sym w.self-is) is;
            none_waiting = ap (λ (x : State). waiting_of x) w.self-is ∙ inv.none_waiting;
          }
    ]

pub returns : goal.returns
returns c =
    let inv = c.loop-frame.invariant in
    let past : length c.loop-frame.self.frames.uses ≤ c.loop-frame.frame = omega (arith, inv.gathering.frames.frames.count, c.loop-frame-test.false) in
    record { gathers = gathered c.args.self.now c.loop-frame.self c.loop-frame.frame inv.gathering past inv.none_waiting }
