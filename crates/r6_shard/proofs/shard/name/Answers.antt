use Rattle.std.proofs.Common.{◌∙◌, true, ap, sym}
use Rattle.r6_shard.specs.Kept.{named_by}
use Rattle.r6_shard.proofs.shard.name.Goals as goal

pub returns-in-Taken : goal.returns-in-Taken
returns-in-Taken c =
    let named = c.args.named.now in
    sym
    (ap (λ failed. named_by failed c.args.receipt c.args.slot named) c.if-failed.true
    ∙ ap (λ receipt. named_by true receipt c.args.slot named) c.in-Taken.is)
