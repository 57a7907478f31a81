-- What the fields of a row's hold stand for, whichever second device it has, and what is true of them.
use Rattle.std.specs.Prelude.{◌≡◌, Option, Some, None, ⊤}
use Rattle.r6_stripe.specs.Replacements.{IsReplacing, with_replacement}
use Rattle.r6_stripe.specs.RowViews.{IsRowSound, row_of_state}
use Rattle.r6_stripe.specs.Steps.{Held}
use Rattle.r6_stripe.specs.declared.replacement.Replacement.{Replacement}
use Rattle.r6_stripe.specs.declared.row.RowState.{RowState}
use Rattle.r6_stripe.specs.declared.whole.WholeState.{WholeState}

abbrev pub whole_of_state : WholeState → Held
whole_of_state whole = with_replacement whole.replacement (row_of_state whole.row)

-- the row has no second device in sync then
abbrev pub IsSoundReplacing : RowState → Option Replacement → Type 0
IsSoundReplacing row None = ⊤
IsSoundReplacing row (Some r) = (row.second ≡ None) × IsReplacing (row_of_state row) r

pub record IsWholeSound (whole : WholeState) : Type 0 where
  pub row : IsRowSound whole.row
  pub replacement : IsSoundReplacing whole.row whole.replacement
