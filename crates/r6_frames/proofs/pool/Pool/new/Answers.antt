use Rattle.std.proofs.Common.{sym, subst, List}
use Rattle.r6_frames.specs.declared.directs.Direct.{Direct}
use Rattle.r6_frames.specs.Pool.{IsPool}
use Rattle.r6_frames.proofs.Pooled.{unused_pool}
use Rattle.r6_frames.proofs.pool.Pool.new.Goals as goal

pub invariant_of-result : goal.invariant_of-result
invariant_of-result c =
    subst (λ (buffers : List Direct). IsPool 18446744073709551615 buffers) (sym c.in_ok-unused_buffers.ensures) (unused_pool c.args.block)
