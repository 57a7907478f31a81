use Rattle.std.proofs.Common.{inl, inr, sym, arith}
use Rattle.std.proofs.lemmas.Bool.{cases_eq}
use Rattle.r6_waiters.proofs.Marks.{mark-within}
use Rattle.r6_waiters.proofs.Rooms.{unmarked}
use Rattle.r6_waiters.proofs.waiters.cause_of.Goals as goal

pub returns-then-holds : goal.returns-then-holds
returns-then-holds c = (mark-within c.args.sets.now _ c.args.position (sym c.if-holds.ensures), sym c.if-holds.ensures)

pub returns-then-holds-2 : goal.returns-then-holds-2
returns-then-holds-2 c = (mark-within c.args.sets.now _ c.args.position (sym c.if-holds-2.ensures), sym c.if-holds-2.ensures)

pub loop-cause-init : goal.loop-cause-init
loop-cause-init c cause below = absurd (omega (arith, below))

pub returns-then-holds-3 : goal.returns-then-holds-3
returns-then-holds-3 c = (mark-within c.args.sets.now c.loop-cause.cause c.args.position (sym c.if-holds-3.ensures), sym c.if-holds-3.ensures)

pub loop-cause-preserved : goal.loop-cause-preserved
loop-cause-preserved c cause below =
    elim (cases_eq cause c.loop-cause.cause) [ inl same ↦ rw same (sym c.if-holds-3.ensures) | inr other ↦ c.loop-cause.invariant cause (omega (arith, below, other)) ]

pub returns : goal.returns
returns c = unmarked c.args.sets.now c.loop-cause.cause c.args.position c.loop-cause-test.false c.loop-cause.invariant
