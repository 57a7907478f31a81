use Rattle.std.proofs.Common.{length}
use Rattle.r6_array_c.proofs.Lengths.{in_each, all_same, turns_in}
use Rattle.r6_array_c.proofs.asked.turn.Goals as goal

pub invariant_of-host : goal.invariant_of-host
invariant_of-host c =
    let was = c.args.host.now in record {
      fits = in_each _ _ c.turn.result was.array c.turn.new.self (length was.blocks.stage) c.turn.ensures.turned c.turn.ensures.refused
          (λ turn x. turns_in _ _ _ _ _ x) (λ refusal x. all_same _ _ x.same) was.fits;
    }
