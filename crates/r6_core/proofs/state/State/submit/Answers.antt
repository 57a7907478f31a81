use Rattle.std.proofs.Common.{ℕ, List, length, refl, subst}
use Rattle.r6_kernels.specs.Blocks.{IsBlock}
use Rattle.r6_core.proofs.AtRest.{rests_in}
use Rattle.r6_core.proofs.state.State.submit.Goals as goal

pub returns-clause-step : goal.returns-clause-step
returns-clause-step c =
    let accept = c.accept.ensures in
    (accept.same, (accept.id, accept.allowed, accept.leads, rests_in c.args.self.now c.accept.new.self accept.same accept.core))

pub returns-in-Err-clause-core : goal.returns-in-Err-clause-core
returns-in-Err-clause-core c = c.requires

pub returns-in-Err-clause-step : goal.returns-in-Err-clause-step
returns-in-Err-clause-step c = tt

pub returns-in-Err-clause-right : goal.returns-in-Err-clause-right
returns-in-Err-clause-right c = tt

pub returns-in-Err-clause-order : goal.returns-in-Err-clause-order
returns-in-Err-clause-order c = tt

pub returns-in-Err-clause-unanswered : goal.returns-in-Err-clause-unanswered
returns-in-Err-clause-unanswered c = tt

pub returns-in-Err-clause-turns : goal.returns-in-Err-clause-turns
returns-in-Err-clause-turns c = tt

pub accept-requires-clause-core : goal.accept-requires-clause-core
accept-requires-clause-core c = c.requires

pub returns-clause-core : goal.returns-clause-core
returns-clause-core c = c.accept.ensures.core

pub returns-clause-order : goal.returns-clause-order
returns-clause-order c = c.accept.ensures.order

pub returns-clause-unanswered : goal.returns-clause-unanswered
returns-clause-unanswered c = c.accept.ensures.unanswered

pub returns-clause-refused : goal.returns-clause-refused
returns-clause-refused c = tt

pub accept-requires-clause-right : goal.accept-requires-clause-right
accept-requires-clause-right c = c.in-Ok.ensures.right

pub accept-requires-clause-place : goal.accept-requires-clause-place
accept-requires-clause-place c = c.in-Ok.ensures.place

pub accept-requires-clause-sized : goal.accept-requires-clause-sized
accept-requires-clause-sized c = subst (λ (b : List ℕ). IsBlock (length b) b) c.buffer.ensures c.assure_bytes.ensures

pub returns-clause-right : goal.returns-clause-right
returns-clause-right c = c.in-Ok.ensures.right

pub returns-clause-turns : goal.returns-clause-turns
returns-clause-turns c = c.accept.ensures.turns

pub returns-in-Err-clause-refused : goal.returns-in-Err-clause-refused
returns-in-Err-clause-refused c = (refl, refl, c.in-Err.ensures.refused)
