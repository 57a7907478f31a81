use Rattle.std.proofs.Common.{length}
use Rattle.r6_array_c.proofs.Lengths.{in_each, all_same, comes}
use Rattle.r6_array_c.proofs.host.Host.lose.Goals as goal

pub invariant_of-self : goal.invariant_of-self
invariant_of-self c =
    let was = c.args.self.now in record {
      fits = in_each _ _ c.lose.result was.array c.lose.new.self (length was.blocks.stage) c.lose.ensures.lost c.lose.ensures.refused
          (λ told x. comes _ _ _ _ x) (λ refusal x. all_same _ _ x.same) was.fits;
    }
