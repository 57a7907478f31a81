use Rattle.std.proofs.Common.{◌≡◌, ◌∙◌, [], sym, subst, arith}
use Rattle.std.specs.List.{All}
use Rattle.std.proofs.lemmas.List.Elements.{All-cons, All-nil}
use Rattle.r6_stripe.specs.Batches.{IsEntryFor, NewBlocks}
use Rattle.r6_parts_tests.proofs.bench.batch_of.Goals as goal

pub loop-index-init : goal.loop-index-init
loop-index-init c = subst (λ (v : NewBlocks). All (IsEntryFor c.args.count 16) v.blocks) (sym c.in_ok-batch.ensures) (All-nil (IsEntryFor c.args.count 16))

pub loop-index-preserved : goal.loop-index-preserved
loop-index-preserved c =
    subst (λ (v : NewBlocks). All (IsEntryFor c.args.count 16) v.blocks) (sym c.put.ensures.added)
    (All-cons (IsEntryFor c.args.count 16) _ c.loop-index.batch.blocks (omega (arith, c.if-index-count.false), c.in_ok-block.ensures) c.loop-index.invariant)

pub returns : goal.returns
returns c = (λ none. let e = sym c.if-is_empty.false ∙ c.is_empty.ensures.1 none in cc, c.loop-index.invariant)
