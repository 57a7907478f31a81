use Rattle.std.proofs.Common.{inr, sym, ◌∙◌}
use Rattle.r6_simulate.proofs.shard.Shard.answer_good.Goals as goal

pub returns-clause-outcome : goal.returns-clause-outcome
returns-clause-outcome c =
    inr (
      sym c.is_unperformed.ensures ∙ c.if-is_unperformed.false,
      record {
        fault = c.in_ok-fault.fault;
        middle = _;
        taken = c.in_ok-fault.ensures.back;
        delivered = c.deliver.ensures;
      },
    )
