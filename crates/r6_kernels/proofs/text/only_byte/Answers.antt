use Rattle.std.proofs.Common.{◌≡◌, ◌==◌, ℕ, Bool, true, List, ◌∷◌, Some, None, ap, sym, ◌∙◌}
use Rattle.std.specs.Prelude.{if◌then◌else◌}
use Rattle.std.specs.List.{list_all}
use Rattle.r6_kernels.specs.Texts.{only_byte}
use Rattle.r6_kernels.proofs.text.only_byte.Goals as goal

all_equal : (first : ℕ) (rest block : List ℕ) → block ≡ first ∷ rest → true ≡ list_all (λ other. other == first) rest
    → Some first ≡ only_byte block
all_equal first rest block is all = ap (λ (b : Bool). if b then Some first else None) all ∙ sym (ap only_byte is)

pub returns-then-are_all : goal.returns-then-are_all
returns-then-are_all c =
    all_equal c.in_ok-first.first.now c.in_ok-first.rest.now c.args.block.now c.in_ok-first.ensures.cases.0
    c.if-are_all.ensures
