use Rattle.r6_kernels.proofs.Written.{written-both}
use Rattle.r6_kernels.proofs.span.Span.store.Goals as goal

pub returns : goal.returns
returns c f self = written-both c.args.at f c.args.bytes.now c.store.new.bytes c.store-2.new.bytes (c.store.ensures f self.near) (c.store-2.ensures f self.far)
