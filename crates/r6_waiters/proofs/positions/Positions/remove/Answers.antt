use Rattle.std.proofs.Common.{◌≡◌, ◌∙◌, ◌/◌, ℕ, List, true, false, sym, ap, subst, arith}
use Rattle.std.specs.Prelude.{◌==◌, if◌then◌else◌}
use Rattle.std.proofs.lemmas.Grind.{get_or_default_zero}
use Rattle.r6_waiters.specs.Positions.{has}
use Rattle.r6_waiters.proofs.Words.{has-removed, has-within, sum-removed}
use Rattle.r6_waiters.proofs.positions.Positions.remove.Goals as goal

pub returns-clause-has : goal.returns-clause-has
returns-clause-has c i =
    let words = c.self.inside.words.items in
    let position = c.args.position in
    let there : has words position ≡ true = subst (λ (v : List ℕ). has v position ≡ true) (sym c.self.view_is) c.requires in
    let within = has-within words position there in
    let old = c.index_mut.ensures.value ∙ get_or_default_zero words (position / 64) c.index_mut.result.now (omega (arith, within)) in
    has-removed words position c.index_mut.result.now i old within
    ∙ ap (λ (v : List ℕ). if i == position then false else has v i) c.self.view_is

pub returns-clause-fewer : goal.returns-clause-fewer
returns-clause-fewer c =
    let words = c.self.inside.words.items in
    let position = c.args.position in
    let there : has words position ≡ true = subst (λ (v : List ℕ). has v position ≡ true) (sym c.self.view_is) c.requires in
    let within = has-within words position there in
    let old = c.index_mut.ensures.value ∙ get_or_default_zero words (position / 64) c.index_mut.result.now (omega (arith, within)) in
    rw (← c.self.view_is) (sum-removed words position c.index_mut.result.now old there)
