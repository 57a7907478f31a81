use Rattle.std.proofs.Common.{◌≡◌, ℕ, true, sym, ◌∙◌, ap, Option, None, Some}
use Rattle.std.specs.Option.{option_eq}
use Rattle.std.proofs.lemmas.Bool.{eqb-true}
use Rattle.std.proofs.Math.Dec.{eqb}
use Rattle.r6_engine.specs.Ending.{current_of}
use Rattle.r6_engine.proofs.EachShard.{some_same}
use Rattle.r6_engine.proofs.InSync.{kept-of}
use Rattle.r6_engine.proofs.ending.is_kept.Goals as goal

is_that : (o : Option ℕ) (generation : ℕ) → option_eq eqb o (Some generation) ≡ true → o ≡ Some generation
is_that None generation e = absurd cc
is_that (Some other) generation e = ap (λ (n : ℕ). Some n) (eqb-true other generation e)

pub returns : goal.returns
returns c = λ same generation status.
    let own = some_same c.in-Some.generation generation
    (sym c.in-Some.is ∙ c.current_of.ensures ∙ ap current_of c.slot.ensures.value ∙ status) in
    let found = is_that c.in_sync.result c.in-Some.generation (sym c.eq.ensures ∙ same) in
    kept-of c.args.core.now c.args.slot generation (sym (found ∙ ap (λ (n : ℕ). Some n) own) ∙ c.in_sync.ensures)
