use Rattle.std.proofs.Common.{◌≡◌, ◌∙◌, ℕ, List, Option, Some, None}
use Rattle.r6_stripe.specs.Holds.{Cell, cell_at}
use Rattle.r6_stripe.specs.PassedOn.{PassesOn}
use Rattle.r6_stripe.specs.Seconds.{is_passed}

-- cells that are passed on alike
pub passes_same : (cells others : List Cell) (o : Option ℕ)
    → ((i : ℕ) → is_passed (cell_at others i).doubling ≡ is_passed (cell_at cells i).doubling) → PassesOn cells o → PassesOn others o
passes_same cells others None same none = λ i. same i ∙ none i
passes_same cells others (Some position) same one = same position ∙ one
