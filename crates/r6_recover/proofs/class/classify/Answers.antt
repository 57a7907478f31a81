use Rattle.std.proofs.Common.{ℕ, List, ◌∙◌, subst}
use Rattle.r6_recover.specs.Classes.{HasClass}
use Rattle.r6_recover.proofs.UniqueClassLaws.{NamesWrongBlock-class}
use Rattle.r6_recover.proofs.class.classify.Goals as goal

pub returns-clause-named : goal.returns-clause-named
returns-clause-named c =
    NamesWrongBlock-class c.args.row.now c.class_with.result
    (subst (λ (row : List (List ℕ)). HasClass row c.class_with.result) (c.as_slice.ensures.value ∙ c.row.view_is) c.class_with.ensures.class)
