use Rattle.r6_kernels.proofs.buffer.Buffer.filled.Goals as goal

pub returns : goal.returns
returns c = c.in_ok-bytes.ensures.items_if_clones_equal (λ byte same. same)
