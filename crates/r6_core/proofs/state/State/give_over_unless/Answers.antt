use Rattle.std.proofs.Common.{sym, ◌∙◌}
use Rattle.r6_core.proofs.state.State.give_over_unless.Goals as goal

pub returns-then-not-failed : goal.returns-then-not-failed
returns-then-not-failed c =
    let gives = c.give_over.ensures in
    record {
      sound = gives.sound;
      leads = gives.leads;
      readable = λ unfailed. gives.readable;
      nothing = λ failed. let both = sym failed ∙ c.if-not-failed.true in absurd (cc);
      same = gives.same;
      readers = gives.readers;
      rest = gives.rest;
    }
