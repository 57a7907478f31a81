use Rattle.std.proofs.Common.{length}
use Rattle.r6_array_c.proofs.Lengths.{in_each, all_same, agrees_to}
use Rattle.r6_array_c.proofs.host.Host.agree.Goals as goal

pub invariant_of-self-2 : goal.invariant_of-self-2
invariant_of-self-2 c =
    let was = c.args.self.now in record {
      fits = in_each _ _ c.agree.result was.array c.agree.new.self (length was.blocks.stage) c.agree.ensures.agreed c.agree.ensures.refused
          (λ told x. agrees_to _ _ _ _ x) (λ refusal x. all_same _ _ x.same) was.fits;
    }
