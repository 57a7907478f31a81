use Rattle.r6_kernels.proofs.recovery.write_from_p_span.Goals as goal

pub returns : goal.returns
returns c = c.store.ensures _ c.p_lack_over-lack.ensures
