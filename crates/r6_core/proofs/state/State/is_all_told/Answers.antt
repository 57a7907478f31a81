use Rattle.std.proofs.Common.{◌≡◌, ◌∙◌, Bool, true, false, not, Option, Some, None, is_some, length, refl, sym, ap}
use Rattle.std.proofs.lemmas.Bool.{eqb-true, false≢true}
use Rattle.std.proofs.lemmas.List.{nil_from_length}
use Rattle.r6_core.proofs.state.State.is_all_told.Goals as goal

none_of : {X : Type 0} (o : Option X) → is_some o ≡ false → o ≡ None
none_of None e = refl
none_of (Some x) e = absurd (false≢true (sym e))

not_not : (b : Bool) → not (not b) ≡ b
not_not true = refl
not_not false = refl

pub returns-then-is_empty-clause-yes : goal.returns-then-is_empty-clause-yes
returns-then-is_empty-clause-yes c = λ none.
    let s = c.args.self.now in (
      nil_from_length s.calls.items (eqb-true (length s.calls.items) 0 (sym c.is_empty.ensures ∙ c.if-is_empty.true)),
      none_of s.untold (sym c.has_untold.ensures ∙ sym (not_not c.has_untold.result) ∙ ap not none),
    )

pub returns-then-is_empty-clause-no : goal.returns-then-is_empty-clause-no
returns-then-is_empty-clause-no c = λ some told.
    false≢true (sym (ap is_some told.1) ∙ sym c.has_untold.ensures ∙ sym (not_not c.has_untold.result) ∙ ap not some)
