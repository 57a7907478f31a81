use Rattle.std.proofs.Common.{◌<◌, ◌==◌, sym, subst}
use Rattle.r6_waiters.specs.Line.{Line, entries_of}
use Rattle.r6_core.specs.declared.queued.Queued.{Queued}
use Rattle.r6_core.specs.Inside.{IsRoomFor, anything}
use Rattle.r6_core.proofs.Scanned.{IsScanned, count_for, next_first, next_started, next_started_fewer, next_waits, next_waits_fewer, known_scanned, scanned_core, scanned_turns, with_line}
use Rattle.r6_core.proofs.state.State.start_unknown.Goals as goal

pub loop-room-init : goal.loop-room-init
loop-room-init c = known_scanned c.args.self.now c.requires.settled c.requires.live c.requires.known

pub start-requires-clause-first : goal.start-requires-clause-first
start-requires-clause-first c =
    let s = c.loop-room.self in
    let there = c.in-Some.ensures in
    next_first c.args.self.now s c.loop-room.invariant there.0 there.1 c.in-Ok.room (subst (IsRoomFor s.frames there.0) c.in-Ok.is there.2)

pub loop-room-smaller-in-Ok : goal.loop-room-smaller-in-Ok
loop-room-smaller-in-Ok c =
    let s = c.loop-room.self in
    let there = c.in-Some.ensures in
    let start = c.start.ensures in
    next_started_fewer c.args.self.now s c.loop-room.invariant there.0 there.1 c.in-Ok.room (subst (IsRoomFor s.frames there.0) c.in-Ok.is there.2)
    c.start.new.self start.left start.starts

pub loop-room-preserved-in-Ok : goal.loop-room-preserved-in-Ok
loop-room-preserved-in-Ok c =
    let s = c.loop-room.self in
    let there = c.in-Some.ensures in
    let start = c.start.ensures in
    next_started c.args.self.now s c.loop-room.invariant there.0 there.1 c.in-Ok.room (subst (IsRoomFor s.frames there.0) c.in-Ok.is there.2)
    c.start.new.self start.settled start.leads start.live start.left start.starts start.only

pub move_oldest-requires-clause-to : goal.move_oldest-requires-clause-to
move_oldest-requires-clause-to c =
    let s = c.loop-room.self in
    let there = c.in-Some.ensures in
    let waits = subst (IsRoomFor s.frames there.0) c.in-Err.is there.2 in
    subst (λ n. c.in-Err.cause < n) (sym c.loop-room.invariant.turns.settled.sound.room.causes) waits.0

pub loop-room-smaller : goal.loop-room-smaller
loop-room-smaller c =
    let s = c.loop-room.self in
    let there = c.in-Some.ensures in
    let waits = subst (IsRoomFor s.frames there.0) c.in-Err.is there.2 in
    subst (λ (line : Line Queued). count_for (λ cause. cause == anything) (entries_of line) < count_for (λ cause. cause == anything) (entries_of s.waiting)) (sym c.move_oldest.ensures.moved)
    (next_waits_fewer c.args.self.now s c.loop-room.invariant there.0 there.1 c.in-Err.cause (waits.1 c.loop-room.invariant.live))

pub loop-room-preserved : goal.loop-room-preserved
loop-room-preserved c =
    let s = c.loop-room.self in
    let there = c.in-Some.ensures in
    let waits = subst (IsRoomFor s.frames there.0) c.in-Err.is there.2 in
    subst (λ (line : Line Queued). IsScanned c.args.self.now (with_line s line)) (sym c.move_oldest.ensures.moved)
    (next_waits c.args.self.now s c.loop-room.invariant there.0 there.1 c.in-Err.cause (waits.1 c.loop-room.invariant.live))

pub returns-clause-core : goal.returns-clause-core
returns-clause-core c = scanned_core c.args.self.now c.loop-room.self c.loop-room.invariant c.in_default.ensures

pub returns-clause-turns : goal.returns-clause-turns
returns-clause-turns c = scanned_turns c.args.self.now c.loop-room.self c.loop-room.invariant c.in_default.ensures
