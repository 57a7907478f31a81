use Rattle.std.proofs.Common.{◌∙◌, length, sym}
use Rattle.r6_array_c.proofs.Lengths.{still, submits}
use Rattle.r6_array_c.proofs.host.Host.submit.Goals as goal

pub invariant_of-self-in-Ok : goal.invariant_of-self-in-Ok
invariant_of-self-in-Ok c =
    let was = c.args.self.now in record {
      fits = λ n s has.
          still was.array c.submit.new.self (length was.blocks.stage) was.fits (submits _ _ _ _ c.in-Ok.ensures.accepted) n s has
          ∙ sym c.in-Some.ensures.lengths.stage;
    }
