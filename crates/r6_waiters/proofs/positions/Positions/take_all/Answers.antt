use Rattle.std.proofs.Common.{◌≡◌, ◌≤◌, ◌∙◌, length, sym, ap, rules}
use Rattle.r6_waiters.proofs.Words.{has-taken}
use Rattle.r6_waiters.proofs.positions.Positions.take_all.Goals as goal

pub returns-clause-has : goal.returns-clause-has
returns-clause-has c i =
    let words = c.self.inside.words.items in
    let more = c.other.inside.words.items in
    let over : length words ≤ c.loop-index.index = search rules in
    let same : length more ≡ length words = ap length c.other.view_is ∙ c.requires ∙ sym (ap length c.self.view_is) in
    rw (← c.self.view_is, ← c.other.view_is)
    (has-taken words more c.loop-index.self-inside.words.items c.loop-index.index over same c.loop-index.invariant.as_long c.loop-index.invariant.taken i)
