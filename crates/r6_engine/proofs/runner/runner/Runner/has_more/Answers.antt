use Rattle.std.proofs.Common.{◌≡◌, List, [], ◌∷◌, length, deque_len, ap, arith, refl, sym, ◌∙◌}
use Rattle.std.specs.Prelude.{not}
use Rattle.std.proofs.lemmas.Bool.{eqb-true, false≢true}
use Rattle.r6_engine.proofs.RunnerLemmas.Awaiting.{none_of}
use Rattle.r6_engine.proofs.runner.runner.Runner.has_more.Goals as goal

none_in : {A : Type 0} (items : List A) → length items ≡ 0 → items ≡ []
none_in [] long = refl
none_in (item ∷ items) long = absurd (omega (arith, long))

pub returns-then-not-is_empty : goal.returns-then-not-is_empty
returns-then-not-is_empty g c = λ none. absurd (false≢true (sym none ∙ ap not c.if-not-is_empty.true))

pub returns-else-not-is_empty : goal.returns-else-not-is_empty
returns-else-not-is_empty g c = λ none.
    let due = c.args.self.now.due in
    let empty : deque_len due ≡ 0 = eqb-true (deque_len due) 0 (sym c.is_empty.ensures ∙ c.if-not-is_empty.false) in
    let long : length due.items ≡ 0 = sym due.ok.0 ∙ empty in (
      none_in due.items long,
      none_of c.args.self.now.scrub (sym c.is_some.ensures ∙ none),
    )
