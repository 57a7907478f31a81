use Rattle.std.proofs.Common.{refl}
use Rattle.r6_core.proofs.AtRest.{rests_in}
use Rattle.r6_core.proofs.state.State.rebuild.Goals as goal

pub returns-clause-started : goal.returns-clause-started
returns-clause-started c =
    let next = c.in_ok-next.next in
    let begin = c.begin_rebuild.ensures in (
      refl,
      (
        next.target.slot,
        next.target.generation,
        next.row,
        c.in_ok-next.ensures.next,
        (begin.same, record {}, next.frame, begin.allowed, begin.leads, rests_in c.args.self.now c.begin_rebuild.new.self begin.same begin.core),
      ),
    )

pub returns-in_err-next-clause-core : goal.returns-in_err-next-clause-core
returns-in_err-next-clause-core c = c.requires.core

pub returns-in_err-next-clause-unanswered : goal.returns-in_err-next-clause-unanswered
returns-in_err-next-clause-unanswered c = refl

pub returns-in_err-next-clause-kept : goal.returns-in_err-next-clause-kept
returns-in_err-next-clause-kept c = (((refl, refl), refl), refl)

pub begin_rebuild-requires-clause-core : goal.begin_rebuild-requires-clause-core
begin_rebuild-requires-clause-core c = c.requires.core

pub begin_rebuild-requires-clause-slot : goal.begin_rebuild-requires-clause-slot
begin_rebuild-requires-clause-slot c = c.in_ok-next.ensures.next.may.there

pub begin_rebuild-requires-clause-row : goal.begin_rebuild-requires-clause-row
begin_rebuild-requires-clause-row c = c.in_ok-next.ensures.next.may.own

pub begin_rebuild-requires-clause-next : goal.begin_rebuild-requires-clause-next
begin_rebuild-requires-clause-next c = c.in_ok-next.ensures.on

pub begin_rebuild-requires-clause-can : goal.begin_rebuild-requires-clause-can
begin_rebuild-requires-clause-can c = c.in_ok-next.ensures.frame

pub begin_rebuild-requires-clause-tokens : goal.begin_rebuild-requires-clause-tokens
begin_rebuild-requires-clause-tokens c = c.in_ok-next.ensures.tokens

pub returns-clause-core : goal.returns-clause-core
returns-clause-core c = c.begin_rebuild.ensures.core

pub returns-clause-right : goal.returns-clause-right
returns-clause-right c = c.in_ok-next.ensures.right

pub returns-clause-refused : goal.returns-clause-refused
returns-clause-refused c = tt

pub returns-clause-kept : goal.returns-clause-kept
returns-clause-kept c = c.begin_rebuild.ensures.kept

pub returns-clause-unanswered : goal.returns-clause-unanswered
returns-clause-unanswered c = c.begin_rebuild.ensures.unanswered

pub frame_for_rebuild-requires-clause-core : goal.frame_for_rebuild-requires-clause-core
frame_for_rebuild-requires-clause-core c = c.requires.core

pub frame_for_rebuild-requires-clause-window : goal.frame_for_rebuild-requires-clause-window
frame_for_rebuild-requires-clause-window c = c.requires.window
