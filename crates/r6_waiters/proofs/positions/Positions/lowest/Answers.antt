use Rattle.std.proofs.Common.{◌∙◌, refl, rules}
use Rattle.r6_waiters.proofs.Words.{lowest-found}
use Rattle.r6_waiters.proofs.positions.Positions.lowest.Goals as goal

pub returns-then-word-ne0 : goal.returns-then-word-ne0
returns-then-word-ne0 c =
    let words = c.deref-word-items.result.now in
    let lent = c.deref-word-items.ensures.value ∙ c.self.view_is in
    rw (← lent) (lowest-found words c.loop-index.index _ refl c.if-word-ne0.true (search rules) c.loop-index.invariant)
