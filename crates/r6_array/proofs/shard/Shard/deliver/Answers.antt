use Rattle.std.proofs.Common.{◌≡◌, ◌∙◌, ap, sym, arith}
use Rattle.r6_array.specs.Handles.{HandleView, number_of}
use Rattle.r6_array.proofs.HandleCalls.{still, takes_back, refuses_delivery}
use Rattle.r6_array.proofs.shard.Shard.deliver.Goals as goal

pub invariant_of-self : goal.invariant_of-self
invariant_of-self c =
    let was = c.self.inside in
    still was.geometry was.number was.member c.deliver.new.self c.self.invariant c.deliver.ensures.shard

pub returns-in-Ok-clause-received : goal.returns-in-Ok-clause-received
returns-in-Ok-clause-received c =
    let was = c.self.inside in
    let own : c.args.ticket.shard ≡ was.member.core.shard =
    (let mine : c.args.ticket.shard ≡ c.number.result = omega arith in mine ∙ c.number.ensures ∙ sym (ap (λ (h : HandleView). number_of h) c.self.view_is)) in
    rw (← c.self.view_is) (takes_back was.geometry was.number was.member c.deliver.new.self was.at_work c.come_home.new.self c.args.ticket c.args.completion c.in-Ok.receipt c.self.invariant own
    c.in-Ok.ensures.received c.come_home.ensures)

pub returns-in-Err-clause-refused : goal.returns-in-Err-clause-refused
returns-in-Err-clause-refused c =
    let was = c.self.inside in
    let own : c.args.ticket.shard ≡ was.member.core.shard =
    (let mine : c.args.ticket.shard ≡ c.number.result = omega arith in mine ∙ c.number.ensures ∙ sym (ap (λ (h : HandleView). number_of h) c.self.view_is)) in
    let r = c.in-Err.ensures.refused in
    rw (← c.self.view_is) (refuses_delivery was.geometry was.number was.member c.deliver.new.self was.at_work c.args.ticket c.args.completion c.in-Err.refused.back c.in-Err.refused.refusal c.self.invariant own
    r.0 r.1)
