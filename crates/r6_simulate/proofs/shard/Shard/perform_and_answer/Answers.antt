use Rattle.std.proofs.Common.{inl, inr, rules, subst}
use Rattle.r6_simulate.specs.AtShards.{Performs}
use Rattle.r6_simulate.proofs.Passing.{if_ok}
use Rattle.r6_simulate.proofs.shard.Shard.perform_and_answer.Goals as goal

pub returns-in-Performed-clause-outcome : goal.returns-in-Performed-clause-outcome
returns-in-Performed-clause-outcome c =
    if_ok c.answer_good.result _ _
    (λ outcome good. inl (
      c.perform.new.self,
      subst (λ performed. Performs c.args.token c.args.self.now c.args.devices.now performed c.perform.new.self c.perform.new.devices) c.in-Performed.is c.perform.ensures,
      good,
    ))
    c.answer_good.ensures.outcome

pub returns-in_default-clause-outcome : goal.returns-in_default-clause-outcome
returns-in_default-clause-outcome c = inr (search rules, c.perform.ensures)
