use Rattle.std.proofs.Common.{◌≡◌, length}
use Rattle.std.proofs.lemmas.List.Elements.{All-push}
use Rattle.r6_parts_tests.proofs.blocks.blocks_of.Goals as goal

pub loop-first-preserved : goal.loop-first-preserved
loop-first-preserved c = rw c.in_ok-push.ensures.items
    (All-push (λ block. length block ≡ c.args.len) c.loop-first.blocks.items _ c.loop-first.invariant c.in_ok-grown.ensures)
