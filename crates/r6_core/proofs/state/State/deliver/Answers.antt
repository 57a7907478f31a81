use Rattle.r6_world.specs.Values.{completion_of, receipt_of}
use Rattle.r6_core.proofs.AtRest.{at_rest}
use Rattle.r6_core.proofs.Completing.{delivered, finishes_on, turns_behind}
use Rattle.r6_core.proofs.state.State.deliver.Goals as goal

pub returns-clause-step : goal.returns-clause-step
returns-clause-step c =
    let take = c.take-receipt.ensures in
    let scan = c.start_waiting.ensures in
    delivered c.args.self.now c.take-receipt.new.self c.start_waiting.new.self c.args.token (completion_of c.args.completion) (receipt_of c.take-receipt.result.0) take.takes take.keeps.0
    scan.leads scan.only.0 (at_rest c.start_waiting.new.self scan.core)

pub returns-clause-order : goal.returns-clause-order
returns-clause-order c = finishes_on c.args.completion c.args.self.now c.take-receipt.new.self c.start_waiting.new.self c.take-receipt.ensures.order c.start_waiting.ensures.only.2.0

pub returns-clause-turns : goal.returns-clause-turns
returns-clause-turns c =
    let take = c.take-receipt.ensures in
    turns_behind c.args.completion c.args.self.now c.take-receipt.new.self c.start_waiting.new.self c.args.token c.take-receipt.result.0 take.takes take.keeps.0 take.others take.again
    c.start_waiting.ensures.turns
