use Rattle.std.proofs.Common.{length}
use Rattle.r6_array_c.proofs.Lengths.{in_each, all_same, delivers}
use Rattle.r6_array_c.proofs.host.Host.deliver.Goals as goal

pub invariant_of-self : goal.invariant_of-self
invariant_of-self c =
    let was = c.args.self.now in record {
      fits = in_each _ _ c.deliver.result was.array c.deliver.new.self (length was.blocks.stage) c.deliver.ensures.received c.deliver.ensures.refused
          (λ told x. delivers _ _ _ _ _ x) (λ refusal x. all_same _ _ x.same) was.fits;
    }
