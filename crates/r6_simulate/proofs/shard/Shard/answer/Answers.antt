use Rattle.std.proofs.Common.{sym, subst}
use Rattle.r6_simulate.specs.AtShards.{AnswersWith}
use Rattle.r6_simulate.proofs.shard.Shard.answer.Goals as goal

pub returns-in_ok-fault-in-Error-clause-outcome : goal.returns-in_ok-fault-in-Error-clause-outcome
returns-in_ok-fault-in-Error-clause-outcome c =
    subst (λ completion. AnswersWith c.args.blocks.now c.args.token completion c.args.self.now c.deliver.result c.deliver.new.self) (sym c.in-Error.is) (record {
      fault = c.in_ok-fault-in-Error.fault;
      middle = _;
      taken = c.in_ok-fault-in-Error.ensures.back;
      delivered = c.deliver.ensures;
    })

pub returns-in_ok-fault-in-Gone-clause-outcome : goal.returns-in_ok-fault-in-Gone-clause-outcome
returns-in_ok-fault-in-Gone-clause-outcome c =
    subst (λ completion. AnswersWith c.args.blocks.now c.args.token completion c.args.self.now c.deliver-in-Gone.result c.deliver-in-Gone.new.self) (sym c.in-Gone.is) (record {
      fault = c.in_ok-fault-in-Gone.fault;
      middle = _;
      taken = c.in_ok-fault-in-Gone.ensures.back;
      delivered = c.deliver-in-Gone.ensures;
    })
