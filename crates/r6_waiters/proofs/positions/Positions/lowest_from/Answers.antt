use Rattle.std.proofs.Common.{◌∙◌, ◌<◌, length, rules}
use Rattle.std.proofs.lemmas.Grind.{get_or_default_zero}
use Rattle.r6_waiters.proofs.Words.{lowest_from-found}
use Rattle.r6_waiters.proofs.positions.Positions.lowest_from.Goals as goal

pub returns-then-part-ne0 : goal.returns-then-part-ne0
returns-then-part-ne0 c =
    let words = c.self.inside.words.items in
    let within : c.loop-index.index < length words = search rules in
    let is = c.index.ensures ∙ get_or_default_zero words c.loop-index.index c.index.result.now within in
    rw (← c.self.view_is) (lowest_from-found words c.loop-index.index c.args.from c.index.result.now c.part_from-part.result is c.part_from-part.ensures c.if-part-ne0.true (search rules) c.loop-index.invariant)
