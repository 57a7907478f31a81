use Rattle.r6_core.proofs.Turning.{passed_over, started}
use Rattle.std.proofs.Common.{◌≤◌, ℕ, Option, MatchOption, inl, inr, refl, subst, arith}
use Rattle.r6_world.specs.ShardStates.{limit}
use Rattle.r6_core.specs.Inside.{IsPassedOver, IsTakenUp}
use Rattle.r6_core.proofs.state.State.turn.Goals as goal

pub returns-in-Some-clause-step : goal.returns-in-Some-clause-step
returns-in-Some-clause-step c =
    let begin = c.begin_turn.ensures in
    started c.args.self.now c.begin_turn.new.self c.args.scrub c.in-Some.frame begin.same begin.core begin.allowed begin.leads

pub returns-in-None-clause-step : goal.returns-in-None-clause-step
returns-in-None-clause-step c =
    let skip = c.skip_turn.ensures in
    passed_over c.args.self.now c.skip_turn.new.self c.args.scrub skip.same skip.core skip.allowed skip.skips

pub returns-in_err-frame-clause-core : goal.returns-in_err-frame-clause-core
returns-in_err-frame-clause-core c = c.requires

pub returns-in_err-frame-clause-unanswered : goal.returns-in_err-frame-clause-unanswered
returns-in_err-frame-clause-unanswered c = refl

pub returns-in_err-frame-clause-kept : goal.returns-in_err-frame-clause-kept
returns-in_err-frame-clause-kept c = (((refl, refl), refl), refl)

pub begin_turn-requires-clause-core : goal.begin_turn-requires-clause-core
begin_turn-requires-clause-core c = c.requires

pub skip_turn-requires-clause-core : goal.skip_turn-requires-clause-core
skip_turn-requires-clause-core c = c.requires

pub returns-in-Some-clause-core : goal.returns-in-Some-clause-core
returns-in-Some-clause-core c = c.begin_turn.ensures.core

pub returns-in-Some-clause-refused : goal.returns-in-Some-clause-refused
returns-in-Some-clause-refused c = tt

pub returns-in-Some-clause-kept : goal.returns-in-Some-clause-kept
returns-in-Some-clause-kept c = c.begin_turn.ensures.kept

pub returns-in-Some-clause-unanswered : goal.returns-in-Some-clause-unanswered
returns-in-Some-clause-unanswered c = c.begin_turn.ensures.unanswered

pub returns-in-None-clause-core : goal.returns-in-None-clause-core
returns-in-None-clause-core c = c.skip_turn.ensures.core

pub returns-in-None-clause-refused : goal.returns-in-None-clause-refused
returns-in-None-clause-refused c = tt

pub returns-in-None-clause-kept : goal.returns-in-None-clause-kept
returns-in-None-clause-kept c = c.skip_turn.ensures.kept

pub returns-in-None-clause-unanswered : goal.returns-in-None-clause-unanswered
returns-in-None-clause-unanswered c = c.skip_turn.ensures.unanswered

pub frame_for_turn-requires : goal.frame_for_turn-requires
frame_for_turn-requires c = c.requires

pub begin_turn-requires-clause-taken_up : goal.begin_turn-requires-clause-taken_up
begin_turn-requires-clause-taken_up c =
    subst (λ (o : Option ℕ). MatchOption o (IsPassedOver c.args.self.now c.args.scrub) (IsTakenUp c.args.self.now c.args.scrub)) c.in-Some.is
    c.in_ok-frame.ensures.frame

pub skip_turn-requires-clause-passed_over : goal.skip_turn-requires-clause-passed_over
skip_turn-requires-clause-passed_over c =
    subst (λ (o : Option ℕ). MatchOption o (IsPassedOver c.args.self.now c.args.scrub) (IsTakenUp c.args.self.now c.args.scrub)) c.in-None.is
    c.in_ok-frame.ensures.frame

pub begin_turn-requires-clause-tokens : goal.begin_turn-requires-clause-tokens
begin_turn-requires-clause-tokens c =
    let no : limit ≤ c.args.self.now.frames.commands.next → ⊥ = λ over. c.in_ok-frame.ensures.right.1.0 (inl over) in omega arith

pub begin_turn-requires-clause-skipped : goal.begin_turn-requires-clause-skipped
begin_turn-requires-clause-skipped c =
    let no : limit ≤ c.args.self.now.counts.skipped → ⊥ = λ over. c.in_ok-frame.ensures.right.1.0 (inr over) in omega arith

pub skip_turn-requires-clause-skipped : goal.skip_turn-requires-clause-skipped
skip_turn-requires-clause-skipped c =
    let no : limit ≤ c.args.self.now.counts.skipped → ⊥ = λ over. c.in_ok-frame.ensures.right.1.0 (inr over) in omega arith

pub returns-in-Some-clause-right : goal.returns-in-Some-clause-right
returns-in-Some-clause-right c = c.in_ok-frame.ensures.right

pub returns-in-None-clause-right : goal.returns-in-None-clause-right
returns-in-None-clause-right c = c.in_ok-frame.ensures.right
