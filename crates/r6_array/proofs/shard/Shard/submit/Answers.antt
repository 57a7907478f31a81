use Rattle.r6_array.proofs.Calls.{if_ok}
use Rattle.r6_array.proofs.HandleCalls.{still, takes_in}
use Rattle.r6_array.proofs.shard.Shard.submit.Goals as goal

pub invariant_of-self : goal.invariant_of-self
invariant_of-self c =
    let was = c.self.inside in
    still was.geometry was.number was.member c.submit.new.self c.self.invariant c.submit.ensures.shard

pub returns-clause-accepted : goal.returns-clause-accepted
returns-clause-accepted c =
    let was = c.self.inside in
    rw (← c.self.view_is) (if_ok c.submit.result _ _
    (λ x taken. takes_in was.geometry was.number was.member c.submit.new.self was.at_work c.args.op c.args.name c.self.invariant taken)
    c.submit.ensures.accepted)
