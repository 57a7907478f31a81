use Rattle.std.proofs.Common.{◌∙◌, ◌<◌, ◌*◌, ◌/◌, ℕ, List, true, length, sym, ap, subst, arith}
use Rattle.std.specs.Prelude.{◌==◌, if◌then◌else◌}
use Rattle.std.proofs.lemmas.Grind.{get_or_default_zero}
use Rattle.r6_waiters.specs.Positions.{has}
use Rattle.r6_waiters.proofs.Words.{has-inserted}
use Rattle.r6_waiters.proofs.positions.Positions.insert.Goals as goal

pub returns-clause-has : goal.returns-clause-has
returns-clause-has c i =
    let words = c.self.inside.words.items in
    let position = c.args.position in
    let within : position < 64 * length words = subst (λ (v : List ℕ). position < 64 * length v) (sym c.self.view_is) c.requires in
    let old = c.index_mut.ensures.value ∙ get_or_default_zero words (position / 64) c.index_mut.result.now (omega (arith, within)) in
    has-inserted words position c.index_mut.result.now i old within
    ∙ ap (λ (v : List ℕ). if i == position then true else has v i) c.self.view_is
