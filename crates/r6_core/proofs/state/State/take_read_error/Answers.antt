use Rattle.std.proofs.Common.{inl}
use Rattle.r6_core.proofs.Losing.{lost_by_read}
use Rattle.r6_core.proofs.state.State.take_read_error.Goals as goal

pub returns-else-is_first_read : goal.returns-else-is_first_read
returns-else-is_first_read c =
    let lost = c.lose.ensures in
    record {
      core = lost.core;
      takes = lost_by_read c.args.self.now c.args.token c.lose.new.self (λ first. absurd (cc (c.is_first_read.ensures.1 first, c.if-is_first_read.false))) lost.takes;
      keeps = lost.keeps;
      again = inl lost.again;
      order = lost.order;
    }
