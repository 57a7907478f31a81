use Rattle.std.proofs.Common.{◌<◌, ◌∙◌, IfSome, MatchOption, inl, inr, sym, subst}
use Rattle.r6_world.specs.Steps.{Through, Scans}
use Rattle.r6_core.specs.declared.queued.Queued.{Queued}
use Rattle.r6_frames.specs.Calls.{IsHolder, NotHeldBy}
use Rattle.r6_waiters.specs.Line.{Line, entries_of, oldest_of}
use Rattle.r6_core.specs.Shards.{layout_in, state_of}
use Rattle.r6_core.specs.Inside.{IsCore, WaitingHaveTurns, row_for}
use Rattle.r6_core.proofs.LetGo.{IsSorting, full_core, full_had, full_turns, holder_below, is_below, is_sorted_by, last_core, last_had, last_turns, sorted_core, sorted_had, sorted_turns, sorting_fewer, sorting_first, sorting_first_to_start, sorting_on, sorting_settled}
use Rattle.r6_core.proofs.Scanned.{count_for, with_line}
use Rattle.r6_core.proofs.state.State.start_behind.Goals as goal
use Rattle.r6_core.proofs.state.State.start_behind.Goals.{then-cause-frame, else-cause-frame}

-- ---- no frame is free

pub returns-in_default-clause-core : goal.returns-in_default-clause-core
returns-in_default-clause-core c =
    subst (λ (line : Line Queued). IsCore (with_line c.args.self.now line)) (sym c.move_all.ensures) (full_core c.args.frame c.args.self.now c.requires.settled c.requires.let_go c.in_default.ensures)

pub returns-in_default-clause-leads : goal.returns-in_default-clause-leads
returns-in_default-clause-leads c =
    let s = c.args.self.now in
    subst (λ (line : Line Queued). Through (layout_in s) s.frames.shard Scans (state_of s) (state_of (with_line s line))) (sym c.move_all.ensures) (full_had c.args.frame c.args.self.now c.requires.settled c.requires.let_go c.in_default.ensures).leads

pub returns-in_default-clause-turns : goal.returns-in_default-clause-turns
returns-in_default-clause-turns c =
    subst (λ (line : Line Queued). WaitingHaveTurns c.args.self.now (with_line c.args.self.now line)) (sym c.move_all.ensures) (full_turns c.args.frame c.args.self.now c.requires.settled c.requires.let_go c.in_default.ensures)

-- ---- the oldest is looked at

pub loop-cause-init : goal.loop-cause-init
loop-cause-init c =
    sorting_first c.args.frame c.args.self.now c.requires.let_go

pub holder_for-requires-clause-settled : goal.holder_for-requires-clause-settled
holder_for-requires-clause-settled c =
    sorting_settled c.args.frame c.args.self.now c.loop-cause.self c.requires.settled c.requires.live c.loop-cause.invariant

pub holder_for-requires-clause-cause : goal.holder_for-requires-clause-cause
holder_for-requires-clause-cause c =
    is_below c.args.frame c.args.self.now c.loop-cause.self c.requires.settled c.requires.live c.loop-cause.invariant c.in-Some-older.cause c.in-Some.free c.in-Some.ensures (sym c.older.ensures ∙ c.in-Some-older.is)

pub move_oldest-requires-clause-from : goal.move_oldest-requires-clause-from
move_oldest-requires-clause-from c =
    let below = is_below c.args.frame c.args.self.now c.loop-cause.self c.requires.settled c.requires.live c.loop-cause.invariant c.in-Some-older.cause c.in-Some.free c.in-Some.ensures (sym c.older.ensures ∙ c.in-Some-older.is) in
    subst (λ n. c.in-Some-older.cause < n) (sym (sorting_settled c.args.frame c.args.self.now c.loop-cause.self c.requires.settled c.requires.live c.loop-cause.invariant).sound.room.causes) below

pub move_oldest-requires-clause-to : goal.move_oldest-requires-clause-to
move_oldest-requires-clause-to c =
    let below = holder_below c.args.frame c.args.self.now c.loop-cause.self c.requires.settled c.requires.live c.loop-cause.invariant c.in-Some-older.cause c.in-Some.free c.in-Some.ensures (sym c.older.ensures ∙ c.in-Some-older.is)
    c.in-Some-holder_for.holder (subst (λ o. IfSome (oldest_of c.in-Some-older.cause (entries_of c.loop-cause.self.waiting)) (λ q. MatchOption o (NotHeldBy c.loop-cause.self.frames (row_for c.loop-cause.self.frames q.op)) (IsHolder c.loop-cause.self.frames (row_for c.loop-cause.self.frames q.op)))) c.in-Some-holder_for.is c.holder_for.ensures) in
    subst (λ n. c.in-Some-holder_for.holder < n) (sym (sorting_settled c.args.frame c.args.self.now c.loop-cause.self c.requires.settled c.requires.live c.loop-cause.invariant).sound.room.causes) below

pub loop-cause-smaller : goal.loop-cause-smaller
loop-cause-smaller c =
    subst (λ (line : Line Queued). count_for (is_sorted_by c.args.frame) (entries_of line) < count_for (is_sorted_by c.args.frame) (entries_of c.loop-cause.self.waiting)) (sym c.move_oldest.ensures.moved)
    (sorting_fewer c.args.frame c.args.self.now c.loop-cause.self c.requires.settled c.requires.live c.loop-cause.invariant c.in-Some-older.cause c.in-Some.free c.in-Some.ensures (sym c.older.ensures ∙ c.in-Some-older.is)
    c.in-Some-holder_for.holder (subst (λ o. IfSome (oldest_of c.in-Some-older.cause (entries_of c.loop-cause.self.waiting)) (λ q. MatchOption o (NotHeldBy c.loop-cause.self.frames (row_for c.loop-cause.self.frames q.op)) (IsHolder c.loop-cause.self.frames (row_for c.loop-cause.self.frames q.op)))) c.in-Some-holder_for.is c.holder_for.ensures))

pub loop-cause-preserved : goal.loop-cause-preserved
loop-cause-preserved c =
    subst (λ (line : Line Queued). IsSorting c.args.frame c.args.self.now (with_line c.loop-cause.self line)) (sym c.move_oldest.ensures.moved)
    (sorting_on c.args.frame c.args.self.now c.loop-cause.self c.requires.settled c.requires.live c.loop-cause.invariant c.in-Some-older.cause c.in-Some.free c.in-Some.ensures (sym c.older.ensures ∙ c.in-Some-older.is)
    c.in-Some-holder_for.holder (subst (λ o. IfSome (oldest_of c.in-Some-older.cause (entries_of c.loop-cause.self.waiting)) (λ q. MatchOption o (NotHeldBy c.loop-cause.self.frames (row_for c.loop-cause.self.frames q.op)) (IsHolder c.loop-cause.self.frames (row_for c.loop-cause.self.frames q.op)))) c.in-Some-holder_for.is c.holder_for.ensures))

-- ---- it starts

pub start-requires-clause-settled : goal.start-requires-clause-settled
start-requires-clause-settled c =
    sorting_settled c.args.frame c.args.self.now c.loop-cause.self c.requires.settled c.requires.live c.loop-cause.invariant

pub start-requires-clause-cause : goal.start-requires-clause-cause
start-requires-clause-cause c =
    is_below c.args.frame c.args.self.now c.loop-cause.self c.requires.settled c.requires.live c.loop-cause.invariant c.in-Some-older.cause c.in-Some.free c.in-Some.ensures (sym c.older.ensures ∙ c.in-Some-older.is)

pub start-requires-clause-first : goal.start-requires-clause-first
start-requires-clause-first c =
    sorting_first_to_start c.args.frame c.args.self.now c.loop-cause.self c.requires.settled c.requires.live c.loop-cause.invariant c.in-Some-older.cause c.in-Some.free c.in-Some.ensures (sym c.older.ensures ∙ c.in-Some-older.is)
    (subst (λ o. IfSome (oldest_of c.in-Some-older.cause (entries_of c.loop-cause.self.waiting)) (λ q. MatchOption o (NotHeldBy c.loop-cause.self.frames (row_for c.loop-cause.self.frames q.op)) (IsHolder c.loop-cause.self.frames (row_for c.loop-cause.self.frames q.op)))) c.in-None.is c.holder_for.ensures)

pub returns-in-None-clause-core : goal.returns-in-None-clause-core
returns-in-None-clause-core c =
    subst (λ (line : Line Queued). IsCore (with_line c.start.new.self line)) (sym c.move_all-in-None.ensures)
    (last_core c.args.frame c.args.self.now c.loop-cause.self c.requires.settled c.requires.live c.loop-cause.invariant c.in-Some-older.cause c.in-Some.free c.in-Some.ensures (sym c.older.ensures ∙ c.in-Some-older.is) (subst (λ o. IfSome (oldest_of c.in-Some-older.cause (entries_of c.loop-cause.self.waiting)) (λ q. MatchOption o (NotHeldBy c.loop-cause.self.frames (row_for c.loop-cause.self.frames q.op)) (IsHolder c.loop-cause.self.frames (row_for c.loop-cause.self.frames q.op)))) c.in-None.is c.holder_for.ensures) c.start.new.self c.start.ensures.settled c.start.ensures.leads c.start.ensures.left c.start.ensures.starts c.start.ensures.only c.if-cause-frame.next (elim c.if-cause-frame.branch [ then-cause-frame w ↦ inl (w.if-cause-frame.true, w.next-is) | else-cause-frame w ↦ inr (w.if-cause-frame.false, w.next-is) ]))

pub returns-in-None-clause-leads : goal.returns-in-None-clause-leads
returns-in-None-clause-leads c =
    let s = c.args.self.now in
    subst (λ (line : Line Queued). Through (layout_in s) s.frames.shard Scans (state_of s) (state_of (with_line c.start.new.self line))) (sym c.move_all-in-None.ensures)
    (last_had c.args.frame c.args.self.now c.loop-cause.self c.requires.settled c.requires.live c.loop-cause.invariant c.in-Some-older.cause c.in-Some.free c.in-Some.ensures (sym c.older.ensures ∙ c.in-Some-older.is) (subst (λ o. IfSome (oldest_of c.in-Some-older.cause (entries_of c.loop-cause.self.waiting)) (λ q. MatchOption o (NotHeldBy c.loop-cause.self.frames (row_for c.loop-cause.self.frames q.op)) (IsHolder c.loop-cause.self.frames (row_for c.loop-cause.self.frames q.op)))) c.in-None.is c.holder_for.ensures) c.start.new.self c.start.ensures.settled c.start.ensures.leads c.start.ensures.left c.start.ensures.starts c.start.ensures.only c.if-cause-frame.next (elim c.if-cause-frame.branch [ then-cause-frame w ↦ inl (w.if-cause-frame.true, w.next-is) | else-cause-frame w ↦ inr (w.if-cause-frame.false, w.next-is) ])).leads

pub returns-in-None-clause-turns : goal.returns-in-None-clause-turns
returns-in-None-clause-turns c =
    subst (λ (line : Line Queued). WaitingHaveTurns c.args.self.now (with_line c.start.new.self line)) (sym c.move_all-in-None.ensures)
    (last_turns c.args.frame c.args.self.now c.loop-cause.self c.requires.settled c.requires.live c.loop-cause.invariant c.in-Some-older.cause c.in-Some.free c.in-Some.ensures (sym c.older.ensures ∙ c.in-Some-older.is) (subst (λ o. IfSome (oldest_of c.in-Some-older.cause (entries_of c.loop-cause.self.waiting)) (λ q. MatchOption o (NotHeldBy c.loop-cause.self.frames (row_for c.loop-cause.self.frames q.op)) (IsHolder c.loop-cause.self.frames (row_for c.loop-cause.self.frames q.op)))) c.in-None.is c.holder_for.ensures) c.start.new.self c.start.ensures.settled c.start.ensures.leads c.start.ensures.left c.start.ensures.starts c.start.ensures.only c.if-cause-frame.next (elim c.if-cause-frame.branch [ then-cause-frame w ↦ inl (w.if-cause-frame.true, w.next-is) | else-cause-frame w ↦ inr (w.if-cause-frame.false, w.next-is) ]))

pub returns-in-None-clause-only : goal.returns-in-None-clause-only
returns-in-None-clause-only c =
    (last_had c.args.frame c.args.self.now c.loop-cause.self c.requires.settled c.requires.live c.loop-cause.invariant c.in-Some-older.cause c.in-Some.free c.in-Some.ensures (sym c.older.ensures ∙ c.in-Some-older.is) (subst (λ o. IfSome (oldest_of c.in-Some-older.cause (entries_of c.loop-cause.self.waiting)) (λ q. MatchOption o (NotHeldBy c.loop-cause.self.frames (row_for c.loop-cause.self.frames q.op)) (IsHolder c.loop-cause.self.frames (row_for c.loop-cause.self.frames q.op)))) c.in-None.is c.holder_for.ensures) c.start.new.self c.start.ensures.settled c.start.ensures.leads c.start.ensures.left c.start.ensures.starts c.start.ensures.only c.if-cause-frame.next (elim c.if-cause-frame.branch [ then-cause-frame w ↦ inl (w.if-cause-frame.true, w.next-is) | else-cause-frame w ↦ inr (w.if-cause-frame.false, w.next-is) ])).only

-- ---- none is left

pub returns-clause-core : goal.returns-clause-core
returns-clause-core c =
    sorted_core c.args.frame c.args.self.now c.loop-cause.self c.requires.settled c.requires.live c.loop-cause.invariant (sym c.older.ensures ∙ c.in_default-older.is)

pub returns-clause-leads : goal.returns-clause-leads
returns-clause-leads c =
    (sorted_had c.args.frame c.args.self.now c.loop-cause.self c.requires.settled c.requires.live c.loop-cause.invariant (sym c.older.ensures ∙ c.in_default-older.is)).leads

pub returns-clause-turns : goal.returns-clause-turns
returns-clause-turns c =
    sorted_turns c.args.frame c.args.self.now c.loop-cause.self c.requires.settled c.requires.live c.loop-cause.invariant (sym c.older.ensures ∙ c.in_default-older.is)

pub returns-clause-only : goal.returns-clause-only
returns-clause-only c =
    (sorted_had c.args.frame c.args.self.now c.loop-cause.self c.requires.settled c.requires.live c.loop-cause.invariant (sym c.older.ensures ∙ c.in_default-older.is)).only
