-- Which position of a row a hold has passed on (this project's own).
use Rattle.std.specs.Prelude.{◌≡◌, ℕ, true, false, List, Option, Some, None}
use Rattle.r6_stripe.specs.Holds.{Cell, cell_at}
use Rattle.r6_stripe.specs.Seconds.{is_passed}

-- this position is passed on, or none is
abbrev pub PassesOn : List Cell → Option ℕ → Type 0
PassesOn cells None = (i : ℕ) → is_passed (cell_at cells i).doubling ≡ false
PassesOn cells (Some position) = is_passed (cell_at cells position).doubling ≡ true
