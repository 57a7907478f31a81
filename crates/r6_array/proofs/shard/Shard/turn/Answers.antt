use Rattle.r6_array.proofs.Calls.{if_ok}
use Rattle.r6_array.proofs.HandleCalls.{still, turns}
use Rattle.r6_array.proofs.shard.Shard.turn.Goals as goal

pub invariant_of-self : goal.invariant_of-self
invariant_of-self c =
    let was = c.self.inside in
    still was.geometry was.number was.member c.turn.new.self c.self.invariant c.turn.ensures.shard

pub returns-clause-turned : goal.returns-clause-turned
returns-clause-turned c =
    let was = c.self.inside in
    rw (← c.self.view_is) (if_ok c.turn.result _ _
    (λ turn x. turns was.geometry was.number was.member c.turn.new.self was.at_work c.args.task turn c.self.invariant x) c.turn.ensures.turned)
