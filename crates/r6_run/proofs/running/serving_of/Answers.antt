use Rattle.std.proofs.Common.{ap, None}
use Rattle.r6_run.proofs.Masks.{mask_same}
use Rattle.r6_run.proofs.running.serving_of.Goals as goal

pub returns-clause-is : goal.returns-clause-is
returns-clause-is c =
    let shape = c.args.config.now.geometry in
    let mask = mask_same c.mask_of.result c.slots.result shape.slots c.as_slice.result.now c.args.config.now.lost.items
    c.mask_of.ensures.mask c.slots.ensures.value c.as_slice.ensures.value in
    ap (λ (n : _). record { geometry = shape; window = c.args.config.now.window; workers = c.args.config.now.workers; lost = n; stop = None }) mask
